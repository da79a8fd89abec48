-- The deadheads of a lawful plan make every vertex even, so it costs at least its services and the least join.
use Rattle.std.proofs.Common.{◌≡◌, ℕ, zero, suc, ◌+◌, ◌*◌, ◌%◌, ◌≤◌, ◌==◌, Bool, true, false, not, ◌&&◌, cond, List, [], ◌∷◌, ◌++◌, length, refl, sym, ap, ◌∙◌, arith, inl, inr}
use Rattle.std.specs.Prelude.{if◌then◌else◌}
use Rattle.std.specs.List.{AllByRecursion, count_by, sum_by}
use Rattle.std.proofs.lemmas.Bool.{cases_eq, cases_lt, eq-eqb, ne_eqb}
use Rattle.std.proofs.lemmas.List.{get_or_append_left, get_or_push, length_push}
use Rattle.std.proofs.lemmas.List.Sums.{sum_by-cons}
use Rattle.carp_base.specs.declared.edge.Edge.{Edge}
use Rattle.carp_base.specs.Problem.{Problem, IsValid, IsEdgeNumber, edge_at, head_of, required_cost, required_edges}
use Rattle.plan_model.specs.declared.step.Step.{Step}
use Rattle.plan_model.specs.Plans.{IsLawful, IsLawfulWalk, Leads, crosses, deadheads_on, deadheads_over, step_cost, steps_of}
use Rattle.plan_model.specs.Laws.{DeadheadsByEdge, IsLowerBound, ServedOnceByEdge}
use Rattle.plan_model.specs.Sums.{sum_to}
use Rattle.cut_pool.specs.Shores.{required_crossings}
use Rattle.cut_pool.specs.Laws.{NeedIsMet}
use Rattle.edge_components.specs.Parts.{parts_of, parts_over}
use Rattle.matching_duals.specs.Joins.{IsLeastJoin, MakesEven}
use Rattle.matching_duals.specs.Laws.{deadhead_counts}
use Rattle.matching_duals.proofs.Parity.{part}
use Rattle.matching_duals.proofs.Sums.{sum_to-add, sum_to-same, sum_to-single, sum_to-zero}

length-counts : (plan : List (List Step)) (n : ℕ) → length (deadhead_counts plan n) ≡ n
length-counts plan zero = refl
length-counts plan (suc n) = omega (arith, length-counts plan n, length_push (deadhead_counts plan n) (deadheads_on (suc n) plan))

counts_at : (plan : List (List Step)) (n e : ℕ) → 1 ≤ e → e ≤ n → parts_of (deadhead_counts plan n) e ≡ deadheads_on e plan
counts_at plan n zero one below = absurd (omega (arith, one))
counts_at plan zero (suc k) one below = absurd (omega (arith, below))
counts_at plan (suc n) (suc k) one below = elim (cases_lt k n) [
  | inl before ↦
      get_or_append_left (deadhead_counts plan n) (deadheads_on (suc n) plan ∷ []) 0 k (omega (arith, before, length-counts plan n))
      ∙ counts_at plan n (suc k) one (omega (arith, before))
  | inr last ↦
      let same : n ≡ k = omega (arith, last, below) in
      get_or_push (deadhead_counts plan n) (deadheads_on (suc n) plan) 0 k (length-counts plan n ∙ same) ∙ ap (λ i. deadheads_on (suc i) plan) same
]

-- the border of a set is that of the other vertices
count_same : (f g : Edge → Bool) (edges : List Edge) → ((x : Edge) → f x ≡ g x) → count_by f edges ≡ count_by g edges
count_same f g [] same = refl
count_same f g (x ∷ edges) same =
    omega (
      arith,
      count_same f g edges same,
      sum_by-cons (λ y. cond (f y) 1 0) x edges,
      sum_by-cons (λ y. cond (g y) 1 0) x edges,
      ap (λ b. part b 1) (same x),
    )

other_side : (inside : ℕ → Bool) (x : Edge) → crosses (λ w. not (inside w)) x ≡ crosses inside x
other_side inside x = bits (inside x.u) (inside x.v)
  where
    bits : (b c : Bool) → (if not b then not (not c) else not c) ≡ (if b then not c else c)
    bits true true = refl
    bits true false = refl
    bits false true = refl
    bits false false = refl

module _ (met : NeedIsMet) (by_edge : DeadheadsByEdge) (p : Problem) (plan : List (List Step)) (valid : IsValid p) (lawful : IsLawful p plan) where
  abbrev counts : List ℕ
  counts = deadhead_counts plan (length p.edges)

  over_is : (inside : ℕ → Bool) → parts_over p counts inside ≡ deadheads_over p inside plan
  over_is inside =
      sum_to-same (length p.edges) (λ e. if crosses inside (edge_at p e) then parts_of counts e else 0) (λ e. if crosses inside (edge_at p e) then deadheads_on e plan else 0)
      (λ e one below. ap (λ n. if crosses inside (edge_at p e) then n else 0) (counts_at plan (length p.edges) e one below))
      ∙ sym (by_edge p inside plan)

  over_other : (inside : ℕ → Bool) → parts_over p counts (λ w. not (inside w)) ≡ parts_over p counts inside
  over_other inside =
      sum_to-same (length p.edges) (λ e. if crosses (λ w. not (inside w)) (edge_at p e) then parts_of counts e else 0)
      (λ e. if crosses inside (edge_at p e) then parts_of counts e else 0)
      (λ e _ _. ap (λ b. if b then parts_of counts e else 0) (other_side inside (edge_at p e)))

  even_without : (inside : ℕ → Bool) → inside p.depot ≡ false → (required_crossings p inside + parts_over p counts inside) % 2 ≡ 0
  even_without inside out = omega (arith, (met p inside plan valid lawful out).parity, over_is inside)

  pub plan_makes_even : MakesEven p counts
  plan_makes_even = record {
    one_each = length-counts plan (length p.edges);
    even = λ v vertex. elim (cases_eq p.depot v) [
      | inl same ↦
          let inside : ℕ → Bool = λ w. w == v in
          omega (
            arith,
            even_without (λ w. not (inside w)) (ap (λ b. not b) (eq-eqb p.depot v same)),
            over_other inside,
            count_same (crosses (λ w. not (inside w))) (crosses inside) (required_edges p) (other_side inside),
          )
      | inr other ↦ even_without (λ w. w == v) (ne_eqb p.depot v other)
    ];
  }

split_cost : (p : Problem) (steps : List Step) →
    sum_by (step_cost p) steps ≡ sum_by (λ s. if s.served then (edge_at p s.edge).service else 0) steps + sum_by (λ s. if s.served then 0 else (edge_at p s.edge).cost) steps
split_cost p [] = refl
split_cost p (s ∷ steps) =
    omega (
      arith,
      split_cost p steps,
      sum_by-cons (step_cost p) s steps,
      sum_by-cons (λ t. if t.served then (edge_at p t.edge).service else 0) s steps,
      sum_by-cons (λ t. if t.served then 0 else (edge_at p t.edge).cost) s steps,
      one s.served (edge_at p s.edge).service (edge_at p s.edge).cost,
    )
  where
    one : (b : Bool) (m n : ℕ) → (if b then m else n) ≡ (if b then m else 0) + (if b then 0 else n)
    one true m n = omega arith
    one false m n = omega arith

-- what the deadheads cost, by the numbers of the edges
deadheads_sum : (p : Problem) (g : ℕ → ℕ) (steps : List Step) → AllByRecursion (λ s. IsEdgeNumber p s.edge) steps →
    sum_by (λ s. if s.served then 0 else g s.edge) steps ≡ sum_to (length p.edges) (λ e. count_by (λ s. not s.served && (s.edge == e)) steps * g e)
deadheads_sum p g [] on = sym (sum_to-same (length p.edges) (λ e. 0 * g e) (λ _. 0) (λ e _ _. omega arith) ∙ sum_to-zero (length p.edges))
deadheads_sum p g (s ∷ steps) on =
    omega (
      arith,
      sum_by-cons (λ x. if x.served then 0 else g x.edge) s steps,
      deadheads_sum p g steps on.1,
      own s.served,
      sum_to-add (length p.edges) (λ e. cond (not s.served && (s.edge == e)) (g e) 0) (λ e. count_by (λ x. not x.served && (x.edge == e)) steps * g e),
      sum_to-same (length p.edges) (λ e. cond (not s.served && (s.edge == e)) (g e) 0 + count_by (λ x. not x.served && (x.edge == e)) steps * g e)
          (λ e. count_by (λ x. not x.served && (x.edge == e)) (s ∷ steps) * g e)
          (λ e _ _. one_step (not s.served && (s.edge == e)) (count_by (λ x. not x.served && (x.edge == e)) steps) (g e)
          ∙ ap (λ n. n * g e) (sym (sum_by-cons (λ x. cond (not x.served && (x.edge == e)) 1 0) s steps))),
    )
  where
    own : (b : Bool) → (if b then 0 else g s.edge) ≡ sum_to (length p.edges) (λ e. cond (not b && (s.edge == e)) (g e) 0)
    own true = sym (sum_to-zero (length p.edges))
    own false = sym (sum_to-single (length p.edges) s.edge g on.0.from_one on.0.in_range)

    one_step : (b : Bool) (n k : ℕ) → cond b k 0 + n * k ≡ (cond b 1 0 + n) * k
    one_step true n k = omega arith
    one_step false n k = omega arith

all_append : (P : Step → Type 0) (xs ys : List Step) → AllByRecursion P xs → AllByRecursion P ys → AllByRecursion P (xs ++ ys)
all_append P [] ys first second = second
all_append P (x ∷ xs) ys first second = (first.0, all_append P xs ys first.1 second)

walk_on_edges : (p : Problem) (a b : ℕ) (steps : List Step) → Leads p a steps b → AllByRecursion (λ s. IsEdgeNumber p s.edge) steps
walk_on_edges p a b [] leads = tt
walk_on_edges p a b (s ∷ steps) leads = (leads.0, walk_on_edges p (head_of (edge_at p s.edge) s.forward) b steps leads.2)

plan_on_edges : (p : Problem) (plan : List (List Step)) → AllByRecursion (IsLawfulWalk p) plan → AllByRecursion (λ s. IsEdgeNumber p s.edge) (steps_of plan)
plan_on_edges p [] lawful = tt
plan_on_edges p (walk ∷ plan) lawful =
    all_append (λ s. IsEdgeNumber p s.edge) walk (steps_of plan) (walk_on_edges p p.depot p.depot walk lawful.0.leads) (plan_on_edges p plan lawful.1)

pub join_is_bound : NeedIsMet → DeadheadsByEdge → ServedOnceByEdge → (p : Problem) (value : ℕ) → IsValid p → IsLeastJoin p value → IsLowerBound p (required_cost p + value)
join_is_bound met by_edge once p value valid join plan lawful =
    omega (
      arith,
      split_cost p (steps_of plan),
      once p plan (λ x. x.service) valid lawful,
      deadheads_sum p (λ e. (edge_at p e).cost) (steps_of plan) (plan_on_edges p plan lawful.walks),
      sum_to-same (length p.edges) (λ e. parts_of (deadhead_counts plan (length p.edges)) e * (edge_at p e).cost) (λ e. deadheads_on e plan * (edge_at p e).cost)
          (λ e one below. ap (λ n. n * (edge_at p e).cost) (counts_at plan (length p.edges) e one below)),
      join.least (deadhead_counts plan (length p.edges)) (plan_makes_even met by_edge p plan valid lawful),
    )
