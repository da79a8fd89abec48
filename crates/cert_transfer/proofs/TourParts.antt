-- One task more of a tour that is being cut.
use Rattle.std.proofs.Common.{◌≡◌, ℕ, ◌+◌, ◌<◌, ◌≤◌, true, List, [], ◌∷◌, ◌++◌, length, drop, sym, ap, ◌∙◌, arith, nat_le}
use Rattle.std.specs.Prelude.{if◌then◌else◌, slice_range}
use Rattle.std.proofs.lemmas.Bool.Decides.{nat_tests}
use Rattle.std.proofs.lemmas.List.{drop_more}
use Rattle.std.proofs.lemmas.List.Sums.{sum_by-append}
use Rattle.carp_base.specs.declared.edge.Task.{Task}
use Rattle.carp_base.specs.Problem.{Problem, edge_at}
use Rattle.task_tours.specs.Tours.{tour_load}
use Rattle.cert_transfer.specs.Cutting.{cut_from, cut_tour}
use Rattle.cert_transfer.specs.TourParts.{IsPartSoFar, no_task, task_at}
use Rattle.cert_transfer.proofs.Ranges.{range_more}

fits_test : (m n : ℕ) → m ≤ n → nat_le m n ≡ true
fits_test m n fits = grind (arith, nat_tests)

module _ (p : Problem) (tasks : List Task) (start : ℕ) where
  abbrev demand : Task → ℕ
  demand t = (edge_at p t.edge).demand

  load_push : (tour : List Task) (t : Task) → tour_load p (tour ++ t ∷ []) ≡ tour_load p tour + demand t
  load_push tour t = omega (arith, sum_by-append demand tour (t ∷ []))

  module _ (end load : ℕ) (so_far : IsPartSoFar p tasks start end load) where
    -- the next task fits as well
    taken : end < length tasks → nat_le (load + demand (task_at tasks end)) p.capacity ≡ true →
        cut_tour p (drop start tasks) ≡ cut_from p (slice_range tasks start end ++ task_at tasks end ∷ []) (drop (end + 1) tasks)
    taken below is =
        let same = sym (ap (λ n. nat_le (n + demand (task_at tasks end)) p.capacity) so_far.load_is) ∙ is in
        so_far.cut ∙ ap (cut_from p (slice_range tasks start end)) (drop_more tasks end no_task below)
        ∙ ap (λ c. if c then cut_from p (slice_range tasks start end ++ task_at tasks end ∷ []) (drop (end + 1) tasks) else slice_range tasks start end ∷ cut_from p (task_at tasks end ∷ []) (drop (end + 1) tasks)) same

    pub longer_part : (load' : ℕ) → end < length tasks → load' ≡ load + demand (task_at tasks end) → load' ≤ p.capacity → IsPartSoFar p tasks start (end + 1) load'
    longer_part load' below is fits = record {
      later = omega (arith, so_far.later);
      within = omega (arith, below);
      load_is = omega (arith, is, so_far.load_is, ap (tour_load p) (range_more tasks start end no_task so_far.later below), load_push (slice_range tasks start end) (task_at tasks end));
      fits = fits;
      cut = taken below (fits_test _ _ (omega (arith, is, fits))) ∙ sym (ap (λ tour. cut_from p tour (drop (end + 1) tasks)) (range_more tasks start end no_task so_far.later below));
    }
