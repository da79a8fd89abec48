-- Paths between matched pairs, joined by parity, make every vertex even, and cost no less than their counts.
use Rattle.std.proofs.Common.{◌≡◌, ℕ, ◌+◌, ◌*◌, ◌%◌, ◌≤◌, ◌==◌, Bool, true, false, not, cond, eqb, List, [], ◌∷◌, ◌++◌, length, refl, sym, ap, ◌∙◌, arith}
use Rattle.std.specs.Prelude.{if◌then◌else◌}
use Rattle.std.specs.List.{sum_by, count_by, AllByRecursion}
use Rattle.std.proofs.lemmas.List.Sums.{sum_by-cons, sum_by-append}
use Rattle.std.proofs.Math.Nat.{mul-le-mul_right}
use Rattle.carp_base.specs.declared.edge.Edge.{Edge}
use Rattle.carp_base.specs.Problem.{Problem, IsVertex, IsEdgeNumber, edge_at, tail_of, head_of}
use Rattle.plan_model.specs.declared.step.Step.{Step}
use Rattle.plan_model.specs.Plans.{Leads, crosses}
use Rattle.plan_model.specs.Sums.{sum_to}
use Rattle.edge_components.specs.Parts.{parts_of, parts_over}
use Rattle.matching_duals.specs.Joins.{MakesEven, join_cost}
use Rattle.matching_duals.specs.OddSets.{degree}
use Rattle.matching_duals.specs.Paths.{Pair, all_steps, ends_met, steps_cost, AreParities}
use Rattle.matching_duals.proofs.Sums.{sum_to-zero, sum_to-add, sum_to-same, sum_to-single, sum_to-le, sum_to-parity}
use Rattle.matching_duals.proofs.Parity.{part}

one_step : (b : Bool) (n g : ℕ) → cond b g 0 + n * g ≡ (cond b 1 0 + n) * g
one_step true n g = omega arith
one_step false n g = omega arith

pub steps_sum : (p : Problem) (g : ℕ → ℕ) (steps : List Step) → AllByRecursion (λ s. IsEdgeNumber p s.edge) steps →
    sum_by (λ s. g s.edge) steps ≡ sum_to (length p.edges) (λ e. count_by (λ s. s.edge == e) steps * g e)
steps_sum p g [] on = sym (sum_to-same (length p.edges) (λ e. 0 * g e) (λ _. 0) (λ e _ _. omega arith) ∙ sum_to-zero (length p.edges))
steps_sum p g (s ∷ steps) on =
    omega (
      arith,
      sum_by-cons (λ x. g x.edge) s steps,
      steps_sum p g steps on.1,
      sum_to-single (length p.edges) s.edge g on.0.from_one on.0.in_range,
      sum_to-add (length p.edges) (λ e. cond (eqb s.edge e) (g e) 0) (λ e. count_by (λ s. s.edge == e) steps * g e),
      sum_to-same (length p.edges) (λ e. cond (eqb s.edge e) (g e) 0 + count_by (λ s. s.edge == e) steps * g e) (λ e. count_by (λ s. s.edge == e) (s ∷ steps) * g e)
          (λ e _ _. one_step (eqb s.edge e) (count_by (λ s. s.edge == e) steps) (g e)
          ∙ ap (λ n. n * g e) (sym (sum_by-cons (λ x. cond (x.edge == e) 1 0) s steps))),
    )

-- steps from a to b cross a set an odd number of times exactly where one of the two lies in it
abbrev crossings : Problem → (ℕ → Bool) → List Step → ℕ
crossings p set steps = sum_by (λ s. part (crosses set (edge_at p s.edge)) 1) steps

edge_even : (b c : Bool) → (part (if b then not c else c) 1 + part b 1 + part c 1) % 2 ≡ 0
edge_even true true = refl
edge_even true false = refl
edge_even false true = refl
edge_even false false = refl

step_even : (set : ℕ → Bool) (x : Edge) (forward : Bool) → (part (crosses set x) 1 + part (set (tail_of x forward)) 1 + part (set (head_of x forward)) 1) % 2 ≡ 0
step_even set x true = edge_even (set x.u) (set x.v)
step_even set x false = omega (arith, edge_even (set x.u) (set x.v))

twice_even : (b : Bool) → (0 + part b 1 + part b 1) % 2 ≡ 0
twice_even true = refl
twice_even false = refl

path_even : (p : Problem) (set : ℕ → Bool) (a b : ℕ) (steps : List Step) → Leads p a steps b → (crossings p set steps + part (set a) 1 + part (set b) 1) % 2 ≡ 0
path_even p set a b [] leads = rw (← leads) (twice_even (set a))
path_even p set a b (s ∷ steps) leads =
    let own = step_even set (edge_at p s.edge) s.forward in
    let here = rw leads.1 at own in
    omega (
      arith,
      here,
      path_even p set (head_of (edge_at p s.edge) s.forward) b steps leads.2,
      sum_by-cons (λ s. part (crosses set (edge_at p s.edge)) 1) s steps,
    )

on_edges : (p : Problem) (a b : ℕ) (steps : List Step) → Leads p a steps b → AllByRecursion (λ s. IsEdgeNumber p s.edge) steps
on_edges p a b [] leads = tt
on_edges p a b (s ∷ steps) leads = (leads.0, on_edges p (head_of (edge_at p s.edge) s.forward) b steps leads.2)

all_append : {X : Type 0} (P : X → Type 0) (xs ys : List X) → AllByRecursion P xs → AllByRecursion P ys → AllByRecursion P (xs ++ ys)
all_append P [] ys first second = second
all_append P (x ∷ xs) ys first second = (first.0, all_append P xs ys first.1 second)

all_on_edges : (p : Problem) (pairs : List Pair) → AllByRecursion (λ j. Leads p j.from j.steps j.to) pairs → AllByRecursion (λ s. IsEdgeNumber p s.edge) (all_steps pairs)
all_on_edges p [] lead = tt
all_on_edges p (j ∷ pairs) lead = all_append (λ s. IsEdgeNumber p s.edge) j.steps (all_steps pairs) (on_edges p j.from j.to j.steps lead.0) (all_on_edges p pairs lead.1)

-- all paths together meet a vertex as often as pairs end there, up to an even number
pairs_even : (p : Problem) (v : ℕ) (pairs : List Pair) → AllByRecursion (λ j. Leads p j.from j.steps j.to) pairs →
    (crossings p (λ w. w == v) (all_steps pairs) + ends_met pairs v) % 2 ≡ 0
pairs_even p v [] lead = refl
pairs_even p v (j ∷ pairs) lead =
    omega (
      arith,
      path_even p (λ w. w == v) j.from j.to j.steps lead.0,
      pairs_even p v pairs lead.1,
      sum_by-append (λ s. part (crosses (λ w. w == v) (edge_at p s.edge)) 1) j.steps (all_steps pairs),
    )

halved : (b : Bool) (m n : ℕ) → n ≡ m % 2 → part b n % 2 ≡ (m * part b 1) % 2
halved true m n is = omega (arith, is)
halved false m n is = let e : m * 0 ≡ 0 = omega arith in rw e refl

module _ (p : Problem) (pairs : List Pair) (counts : List ℕ) (lead : AllByRecursion (λ j. Leads p j.from j.steps j.to) pairs)
    (parities : AreParities p (all_steps pairs) counts) where
  over_parity : (v : ℕ) → parts_over p counts (λ w. w == v) % 2 ≡ crossings p (λ w. w == v) (all_steps pairs) % 2
  over_parity v =
      omega (
        arith,
        steps_sum p (λ e. part (crosses (λ w. w == v) (edge_at p e)) 1) (all_steps pairs) (all_on_edges p pairs lead),
        sum_to-parity (length p.edges) (λ e. part (crosses (λ w. w == v) (edge_at p e)) (parts_of counts e))
            (λ e. count_by (λ s. s.edge == e) (all_steps pairs) * part (crosses (λ w. w == v) (edge_at p e)) 1)
            (λ e one below. halved (crosses (λ w. w == v) (edge_at p e)) (count_by (λ s. s.edge == e) (all_steps pairs)) (parts_of counts e)
            (parities.each e (record { from_one = one; in_range = below }))),
      )

  -- where pairs end an odd number of times at just the odd vertices, all are even
  pub makes_even : ((v : ℕ) → IsVertex p v → ends_met pairs v % 2 ≡ degree p v % 2) → MakesEven p counts
  makes_even odd = record {
    one_each = parities.one_each;
    even = λ v vertex. omega (arith, over_parity v, pairs_even p v pairs lead, odd v vertex);
  }

  pub cost_below : join_cost p counts ≤ steps_cost p (all_steps pairs)
  cost_below =
      omega (
        arith,
        steps_sum p (λ e. (edge_at p e).cost) (all_steps pairs) (all_on_edges p pairs lead),
        sum_to-le (length p.edges) (λ e. parts_of counts e * (edge_at p e).cost) (λ e. count_by (λ s. s.edge == e) (all_steps pairs) * (edge_at p e).cost)
            (λ e one below. let small : parts_of counts e ≤ count_by (λ s. s.edge == e) (all_steps pairs) =
            omega (arith, parities.each e (record { from_one = one; in_range = below })) in mul-le-mul_right (edge_at p e).cost small),
      )
