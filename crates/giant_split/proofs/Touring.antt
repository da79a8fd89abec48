-- What the tables of numbers say of tours.
use Rattle.std.proofs.Common.{◌≡◌, ℕ, zero, suc, ◌+◌, ◌-◌, ◌<◌, ◌≤◌, List, [], ◌∷◌, length, take, drop, refl, sym, ap, ◌∙◌, subst, arith}
use Rattle.std.specs.Prelude.{slice_index}
use Rattle.std.specs.List.{AllByRecursion}
use Rattle.std.proofs.Math.Seq.{drop-cons, take-add}
use Rattle.std.proofs.lemmas.List.{drop-drop, drop_at, length-append, length-drop, take_at}
use Rattle.std.proofs.lemmas.List.Sums.{sum_by-append}
use Rattle.carp_base.specs.declared.edge.Task.{Task}
use Rattle.carp_base.specs.Problem.{Problem, edge_at}
use Rattle.deadhead_paths.specs.Prices.{costs_of, price_of}
use Rattle.deadhead_paths.specs.Tours.{LeastDeadhead}
use Rattle.task_tours.specs.Laws.{ToursDeadheadIsUnique}
use Rattle.task_tours.specs.Tours.{ToursDeadhead, all_tasks, tour_load}
use Rattle.giant_split.specs.declared.legs.Leg.{Leg}
use Rattle.giant_split.specs.Legs.{AreFineLegs, AreLegs, end_at, leg_at, no_task, task_at}
use Rattle.giant_split.specs.Cuts.{AreCutFrom, IsCutOrder, IsTourAt}

pub fine_legs : (p : Problem) (order : List Task) (legs : List Leg) → AreLegs p order legs → AreFineLegs p.capacity legs
fine_legs p order legs are = record {
  few = omega (arith, are.one_each, are.few);
  little = are.little;
  each = λ k below. (are.each k (omega (arith, are.one_each))).fine;
}

module _ (p : Problem) (order : List Task) (legs : List Leg) (are : AreLegs p order legs) where
  abbrev q : ℕ → ℕ
  q = price_of (costs_of p)

  -- from the end of a task over the next ones and home
  home_over : (d i e : ℕ) → e ≡ i + d → e < length order →
      (n : ℕ) × LeastDeadhead p q (end_at p order i) (take d (drop (suc i) order)) p.depot n × (n + (leg_at legs i).way ≡ (leg_at legs e).way + (leg_at legs e).home)
  home_over zero i e is below =
      let same : e ≡ i = omega arith in
      ((leg_at legs i).home, (are.each i (omega arith)).home, omega (arith, ap (λ k. (leg_at legs k).way) same, ap (λ k. (leg_at legs k).home) same))
  home_over (suc d) i e is below =
      let next = are.each (suc i) (omega arith) in
      let rest = home_over d (suc i) e (omega arith) below in
      let joined : drop (suc i) order ≡ task_at order (suc i) ∷ drop (suc (suc i)) order = drop-cons order (suc i) no_task (omega arith) in (
        next.link + rest.0,
        subst (λ ts. LeastDeadhead p q (end_at p order i) (take (suc d) ts) p.depot (next.link + rest.0)) (sym joined) (next.link, rest.0, next.linked, rest.1, refl),
        omega (arith, rest.2, next.way_is),
      )

  -- the tour from one task to another
  tour_priced : (d i e : ℕ) → e ≡ i + d → e < length order →
      (n : ℕ) × LeastDeadhead p q p.depot (take (suc d) (drop i order)) p.depot n × (n + (leg_at legs i).way ≡ (leg_at legs i).out + (leg_at legs e).way + (leg_at legs e).home)
  tour_priced d i e is below =
      let first = are.each i (omega arith) in
      let rest = home_over d i e is below in
      let joined : drop i order ≡ task_at order i ∷ drop (suc i) order = drop-cons order i no_task (omega arith) in (
        (leg_at legs i).out + rest.0,
        subst (λ ts. LeastDeadhead p q p.depot (take (suc d) ts) p.depot ((leg_at legs i).out + rest.0)) (sym joined) ((leg_at legs i).out, rest.0, first.out, rest.1, refl),
        omega (arith, rest.2),
      )

  tour_loaded : (d i e : ℕ) → e ≡ i + d → e < length order → (leg_at legs i).before + tour_load p (take (suc d) (drop i order)) ≡ (leg_at legs e).after
  tour_loaded d i e is below =
      let up_to : e + 1 ≡ i + suc d = omega arith in
      omega (
        arith,
        (are.each i (omega arith)).before_is,
        (are.each e below).after_is,
        ap (λ k. tour_load p (take k order)) up_to,
        ap (tour_load p) (take-add i (suc d) order),
        sum_by-append (λ (t : Task). (edge_at p t.edge).demand) (take i order) (take (suc d) (drop i order)),
      )

  module _ (costs lasts : List ℕ) (cut : AreCutFrom p.capacity legs costs lasts 0) where
    pub tour_at : (from : ℕ) → from < length order → IsTourAt p order costs lasts from
    tour_at from below =
        let c = cut.each from (omega arith) (omega (arith, are.one_each)) in
        let last = slice_index lasts from in
        let within : last < length order = omega (arith, c.last.within, are.one_each) in
        let is : last ≡ from + (last - from) = omega (arith, c.last.later) in
        let priced = tour_priced (last - from) from last is within in
        let loaded : (leg_at legs from).before + tour_load p (take (suc (last - from)) (drop from order)) ≡ (leg_at legs last).after = tour_loaded (last - from) from last is within in
        let count : suc (last - from) ≡ last + 1 - from = omega (arith, c.last.later) in
        record {
          later = c.last.later;
          within = within;
          load = omega (arith, loaded, ap (λ k. tour_load p (take k (drop from order))) count, c.last.fits);
          deadhead = priced.0;
          least = subst (λ k. LeastDeadhead p q p.depot (take k (drop from order)) p.depot priced.0) count priced.1;
          cost = omega (arith, priced.2, c.cost);
        }

    module _ (unique : ToursDeadheadIsUnique) where
      none_cheaper : (others : List (List Task)) (k n : ℕ) → k ≤ length order → all_tasks others ≡ drop k order → AllByRecursion (λ tour. tour_load p tour ≤ p.capacity) others → ToursDeadhead p q others n →
          slice_index costs k ≤ n
      none_cheaper [] k n within joined loads least =
          let end : k ≡ length legs = omega (arith, ap (length {A = Task}) joined, length-drop k order, are.one_each) in
          omega (arith, ap (slice_index costs) end, cut.at_end)
      none_cheaper ([] ∷ others) k n within joined loads least = omega (arith, none_cheaper others k least.1 within joined loads.1 least.3, least.4)
      none_cheaper ((t ∷ ts) ∷ others) k n within joined loads least =
          let d = length ts in
          let tour : List Task = t ∷ ts in
          let front : take (suc d) (drop k order) ≡ tour = ap (take (suc d)) (sym joined) ∙ take_at tour (all_tasks others) (suc d) refl in
          let back : all_tasks others ≡ drop (k + suc d) order = sym (drop_at tour (all_tasks others) (suc d) refl) ∙ ap (drop (suc d)) joined ∙ drop-drop (suc d) k order in
          let room : k + suc d ≤ length order = omega (arith, ap (length {A = Task}) joined, length-append tour (all_tasks others), length-drop k order) in
          let below : k + d < length order = omega (arith, room) in
          let c = cut.each k (omega arith) (omega (arith, are.one_each, below)) in
          let priced = tour_priced d k (k + d) refl below in
          let own : LeastDeadhead p q p.depot tour p.depot priced.0 = subst (λ ts. LeastDeadhead p q p.depot ts p.depot priced.0) front priced.1 in
          let same : priced.0 + 0 ≡ least.0 + 0 = unique p q (tour ∷ []) (priced.0 + 0) (least.0 + 0) (priced.0, 0, own, refl, refl) (least.0, 0, least.2, refl, refl) in
          let next : k + d + 1 ≡ k + suc d = omega arith in
          omega (
            arith,
            c.cost,
            c.last.best (k + d) (omega arith) (omega (arith, below, are.one_each)) (omega (arith, tour_loaded d k (k + d) refl below, ap (tour_load p) front, loads.0)),
            ap (slice_index costs) next,
            priced.2,
            same,
            none_cheaper others (k + suc d) least.1 room back loads.1 least.3,
            least.4,
          )

      pub cut_order : IsCutOrder p order costs lasts
      cut_order = record {
        lasts_long = omega (arith, cut.lasts_long, are.one_each);
        at_end = ap (slice_index costs) (sym are.one_each) ∙ cut.at_end;
        each = tour_at;
        least = λ tours n joined loads least. none_cheaper tours 0 n (omega arith) joined loads least;
      }
