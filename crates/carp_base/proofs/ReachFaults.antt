-- Required edges that no path leads to.
use Rattle.std.proofs.Common.{◌≡◌, ℕ, ◌+◌, ◌-◌, ◌<◌, ◌≤◌, Bool, true, false, not, List, length, get_or, take, Some, None, position, refl, arith, sym, ◌∙◌, ap}
use Rattle.std.proofs.lemmas.List.{get_or_default}
use Rattle.std.proofs.lemmas.Bool.{false≢true}
use Rattle.carp_base.specs.declared.edge.Edge.{Edge}
use Rattle.carp_base.specs.declared.fault.InstanceFault.TheVariants.{Unreachable}
use Rattle.carp_base.specs.Problem.{Problem, edge_at, no_edge}
use Rattle.carp_base.specs.Faults.{IsFirstFault}
use Rattle.carp_base.specs.Checks.{IsClear}
use Rattle.carp_base.specs.Search.{AreReached, MarksReached, is_cut_off}
use Rattle.carp_base.proofs.Ranks.{only_reach, clear_below}
use Rattle.carp_base.proofs.EdgeFaults.{EdgeFault, list_clear, list_first, position-None}
use Rattle.carp_base.proofs.DraftFaults.{long, required_edges}
use Rattle.carp_base.proofs.Ends.{small_ends}
use Rattle.carp_base.proofs.Numbers.{edge_after, edge_before}

not_from : (b : Bool) → (b ≡ true → ⊥) → not b ≡ true
not_from true never = absurd (never refl)
not_from false never = refl

marked_from : (b : Bool) → not b ≡ false → b ≡ true
marked_from true is = refl
marked_from false is = absurd (false≢true (sym is))

module _ (p : Problem) (xs : List Edge) (is : xs ≡ take p.required p.edges) (within : p.required ≤ length p.edges) where
  -- the first ends of the required edges are within the marks
  pub ends_marked : (marks : List Bool) → IsClear p 11 → length marks ≡ p.vertices + 1 → (k : ℕ) (x : Edge) → k < length xs → (get_or xs k x).u < length marks
  ends_marked marks clear many k x below =
      let few : k < p.required = omega (arith, long p xs is within, below) in
      let small = small_ends p (k + 1) (clear_below p 11 4 (omega arith) clear) (record { from_one = omega arith; in_range = omega arith }) in
      let same : get_or xs k x ≡ edge_at p (k + 1) = get_or_default xs k x no_edge below ∙ required_edges p xs is within k below ∙ sym (edge_after p k) in
      omega (arith, ap (λ y. y.u) same, small.0)

  module _ (marks : List Bool) (reached : MarksReached p marks) where
    cut_off : EdgeFault p Unreachable 11 (length xs) (λ e. is_cut_off marks (edge_at p e))
    cut_off = record {
      only = only_reach;
      ranked = λ _. refl;
      named = λ _. refl;
      shown = λ e fault.
          rw (long p xs is within)
          (fault.0.from_one, fault.0.in_range, not_from (get_or marks (edge_at p e).u false) (λ marked. fault.1 (reached.reached (edge_at p e).u marked)));
      holds = λ e from_one below here. (
        record { from_one = from_one; in_range = rw (← long p xs is within) below },
        λ path. false≢true (ap not (sym (reached.all (edge_at p e).u path)) ∙ here),
      );
    }

    pub cut_off_clear : IsClear p 11 → None ≡ position (is_cut_off marks) xs → IsClear p 12
    cut_off_clear clear none = list_clear p Unreachable 11 (is_cut_off marks) xs (required_edges p xs is within) cut_off clear none

    pub cut_off_first : (i : ℕ) → IsClear p 11 → Some i ≡ position (is_cut_off marks) xs → IsFirstFault p (Unreachable (i + 1))
    cut_off_first i clear found = list_first p Unreachable 11 (is_cut_off marks) xs (required_edges p xs is within) cut_off i clear found

    pub all_reached : None ≡ position (is_cut_off marks) xs → AreReached p
    all_reached none e required =
        let below : e - 1 < length xs = omega (arith, long p xs is within, required.from_one, required.in_range) in
        let open_way = position-None (is_cut_off marks) xs (e - 1) no_edge none below in
        let same = required_edges p xs is within (e - 1) below ∙ sym (edge_before p e required.from_one) in
        reached.reached (edge_at p e).u (marked_from (get_or marks (edge_at p e).u false) (ap (is_cut_off marks) (sym same) ∙ open_way))
