-- Where no join of tours saves, no plan with two of them joined costs less.
use Rattle.std.proofs.Common.{◌≡◌, ℕ, suc, ◌+◌, ◌-◌, ◌≤◌, inl, inr, List, [], ◌∷◌, ◌++◌, length, refl, sym, ap, subst, ◌∙◌, arith}
use Rattle.std.specs.List.{filter, AllByRecursion}
use Rattle.std.proofs.lemmas.Bool.{cases_lt}
use Rattle.std.proofs.lemmas.List.{get_or-append-add}
use Rattle.std.proofs.Math.Seq.{get_or-append_seam}
use Rattle.std.proofs.Common.{length-append}
use Rattle.carp_base.specs.declared.edge.Task.{Task}
use Rattle.carp_base.specs.Problem.{Problem, IsValid, edge_at}
use Rattle.plan_model.specs.declared.step.Step.{Step}
use Rattle.plan_model.specs.Plans.{IsLawful}
use Rattle.deadhead_paths.specs.Prices.{price_of, costs_of}
use Rattle.task_tours.specs.Laws.{JoinedPlanCosts, LawfulPlansHaveLawfulTours, ToursCostAtLeast, ToursDeadheadIsThere, ToursDeadheadIsUnique}
use Rattle.task_tours.specs.Tours.{AreLawfulTours, PlanGoesByLeastPaths, ToursDeadhead, plan_tours, tour_load}
use Rattle.augment_merge.specs.declared.joins.Join.{Join}
use Rattle.augment_merge.specs.Joins.{IsTourJoin, NoJoinSaves, joined_tour}
use Rattle.augment_merge.specs.Merging.{IsSaving, IsSavingJoin, has_tasks, nth_tour}
use Rattle.augment_merge.proofs.Turning.{sum_joined}

-- where a tour that is not left out stands
record StandsAt (tours before : List (List Task)) (x : List Task) (rest : List (List Task)) : Type 0 where
  front : List (List Task)
  back : List (List Task)
  are : tours ≡ front ++ x ∷ back
  rest_are : filter has_tasks back ≡ rest

stands_at : (tours before : List (List Task)) (x : List Task) (rest : List (List Task)) → filter has_tasks tours ≡ before ++ x ∷ rest → StandsAt tours before x rest
stands_at [] [] x rest is = cc
stands_at [] (b ∷ before) x rest is = cc
stands_at ([] ∷ tours) before x rest is =
    let later = stands_at tours before x rest is in
    record { front = [] ∷ later.front; back = later.back; are = ap (λ ts. [] ∷ ts) later.are; rest_are = later.rest_are }
stands_at ((t ∷ ts) ∷ tours) [] x rest is =
    let here : (t ∷ ts) ∷ filter has_tasks tours ≡ x ∷ rest = is in
    let one : (t ∷ ts) ≡ x = cc in
    let two : filter has_tasks tours ≡ rest = cc in
    record { front = []; back = tours; are = ap (λ y. y ∷ tours) one; rest_are = two }
stands_at ((t ∷ ts) ∷ tours) (b ∷ before) x rest is =
    let here : (t ∷ ts) ∷ filter has_tasks tours ≡ b ∷ (before ++ x ∷ rest) = is in
    let two : filter has_tasks tours ≡ before ++ x ∷ rest = cc in
    let later = stands_at tours before x rest two in
    record { front = (t ∷ ts) ∷ later.front; back = later.back; are = ap (λ us. (t ∷ ts) ∷ us) later.are; rest_are = later.rest_are }

all_parts : {X : Type 0} (P : X → Type 0) (xs ys : List X) → AllByRecursion P (xs ++ ys) → AllByRecursion P xs × AllByRecursion P ys
all_parts P [] ys all = (tt, all)
all_parts P (x ∷ xs) ys all = let rest = all_parts P xs ys all.1 in ((all.0, rest.0), rest.1)

deadheads_parts : (p : Problem) (q : ℕ → ℕ) (xs ys : List (List Task)) (n : ℕ) → ToursDeadhead p q (xs ++ ys) n → (a b : ℕ) × ToursDeadhead p q xs a × ToursDeadhead p q ys b × (n ≡ a + b)
deadheads_parts p q [] ys n least = (0, n, refl, least, omega arith)
deadheads_parts p q (x ∷ xs) ys n least =
    let rest = deadheads_parts p q xs ys least.1 least.3 in
    (least.0 + rest.0, rest.1, (least.0, rest.0, least.2, rest.2, refl), rest.3, let sum = least.4 in let more = rest.4 in omega arith)

module _ (p : Problem) (unique : ToursDeadheadIsUnique) (merged : List (List Task)) (none : (j : Join) → IsSavingJoin p merged j → ⊥) where
  -- no tours that are joined from these have a lesser deadhead
  no_less : (other : List (List Task)) → IsTourJoin (filter has_tasks merged) other → AllByRecursion (λ tour. tour_load p tour ≤ p.capacity) other →
      (m n : ℕ) → ToursDeadhead p (price_of (costs_of p)) (filter has_tasks merged) m → ToursDeadhead p (price_of (costs_of p)) other n → m ≤ n
  no_less other join loads m n least least' =
      let q = price_of (costs_of p) in
      let joined = joined_tour join.turn_first join.turn_second join.first join.second in
      let one = stands_at merged join.before join.first (join.between ++ join.second ∷ join.after) join.apart in
      let two = stands_at one.back join.between join.second join.after one.rest_are in
      let parts = deadheads_parts p q join.before (join.first ∷ (join.between ++ join.second ∷ join.after)) m (subst (λ ts. ToursDeadhead p q ts m) join.apart least) in
      let inner = deadheads_parts p q join.between (join.second ∷ join.after) parts.3.1 parts.3.3 in
      let parts' = deadheads_parts p q join.before (joined ∷ (join.between ++ join.after)) n (subst (λ ts. ToursDeadhead p q ts n) join.together least') in
      let inner' = deadheads_parts p q join.between join.after parts'.3.1 parts'.3.3 in
      let before = unique p q join.before parts.0 parts'.0 parts.2 parts'.2 in
      let between = unique p q join.between inner.0 inner'.0 inner.2 inner'.2 in
      let after = unique p q join.after inner.3.1 inner'.1 inner.3.3 inner'.3 in
      elim (cases_lt parts'.3.0 (parts.3.0 + inner.3.0)) [
        | inl less ↦
            let i = length one.front in
            let place = suc (length two.front) in
            let all : merged ≡ one.front ++ join.first ∷ (two.front ++ join.second ∷ two.back) = one.are ∙ ap (λ ts. one.front ++ join.first ∷ ts) two.are in
            let first_is : nth_tour merged i ≡ join.first = ap (λ ts. nth_tour ts i) all ∙ get_or-append_seam one.front join.first (two.front ++ join.second ∷ two.back) [] in
            let second_is : nth_tour merged (i + place) ≡ join.second =
            ap (λ ts. nth_tour ts (i + place)) all ∙ get_or-append-add one.front (join.first ∷ (two.front ++ join.second ∷ two.back)) place [] ∙ get_or-append_seam two.front join.second two.back [] in
            let long : length merged ≡ length one.front + suc (length (two.front ++ join.second ∷ two.back)) = ap length all ∙ length-append one.front (join.first ∷ (two.front ++ join.second ∷ two.back)) in
            let long' = length-append two.front (join.second ∷ two.back) in
            let saving = parts.3.0 + inner.3.0 - parts'.3.0 in
            let j : Join = record { first = i; second = i + place; turn_first = join.turn_first; turn_second = join.turn_second; saving = saving } in
            let fits : tour_load p joined ≤ p.capacity = (all_parts (λ tour. tour_load p tour ≤ p.capacity) join.before (joined ∷ (join.between ++ join.after)) (subst (AllByRecursion (λ tour. tour_load p tour ≤ p.capacity)) join.together loads)).1.0 in
            let load = sum_joined (λ e. (edge_at p e).demand) join.turn_first join.turn_second join.first join.second in
            let saves : IsSaving p join.first join.second joined saving = record {
              deadhead_of_first = parts.3.0;
              deadhead_of_second = inner.3.0;
              deadhead_of_joined = parts'.3.0;
              first_least = parts.3.2;
              second_least = inner.3.2;
              joined_least = parts'.3.2;
              saved = omega arith;
            } in
            absurd (none j (record {
              order = omega arith;
              in_range = omega arith;
              fits = omega (arith, ap (tour_load p) first_is, ap (tour_load p) second_is);
              saves = rw (first_is, second_is) saves;
              some = omega arith;
            }))
        | inr more ↦ omega (arith, parts.4, parts.3.4, inner.4, inner.3.4, parts'.4, parts'.3.4, inner'.4)
      ]

  pub no_join_saves : IsValid p → ToursDeadheadIsThere → LawfulPlansHaveLawfulTours → JoinedPlanCosts → ToursCostAtLeast →
      (plan : List (List Step)) → plan_tours plan ≡ filter has_tasks merged → IsLawful p plan → PlanGoesByLeastPaths p plan → AreLawfulTours p (filter has_tasks merged) → NoJoinSaves p plan
  no_join_saves valid there tours_of cost least plan tours lawful paths lawful_tours = λ other lawful' join.
      let q = price_of (costs_of p) in
      let of_other = tours_of p other lawful' in
      let m = there p valid q (filter has_tasks merged) lawful_tours.served.required in
      let n = there p valid q (plan_tours other) of_other.served.required in
      let less = no_less (plan_tours other) (subst (λ ts. IsTourJoin ts (plan_tours other)) tours join) of_other.loads m.0 n.0 m.1 n.1 in
      omega (arith, cost p valid plan m.0 lawful paths (subst (λ ts. ToursDeadhead p q ts m.0) (sym tours) m.1), least p valid other n.0 lawful' n.1)
