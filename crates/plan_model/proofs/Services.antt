-- What is served in a lawful plan, summed over its steps, is the sum over the required edges.
use Rattle.std.proofs.Common.{◌≡◌, ℕ, ◌+◌, ◌*◌, ◌≤◌, ◌==◌, Bool, true, false, ◌&&◌, cond, List, [], ◌∷◌, ◌++◌, refl, sym, ap, ◌∙◌, arith}
use Rattle.std.specs.Prelude.{if◌then◌else◌, IsTrue}
use Rattle.std.specs.List.{sum_by, count_by, AllByRecursion}
use Rattle.std.proofs.lemmas.List.Sums.{sum_by-cons, sum_by-le-sum_by}
use Rattle.carp_base.specs.Problem.{Problem, IsValid, IsRequired, edge_at, required_edges, required_cost}
use Rattle.plan_model.specs.Plans.{IsLawful, IsLawfulWalk, steps_of, step_cost, plan_cost}
use Rattle.plan_model.specs.declared.step.Step.{Step}
use Rattle.plan_model.specs.Sums.{sum_to}
use Rattle.plan_model.proofs.Sums.{sum_to-single, sum_to-add, sum_to-same, sum_to-edge_at, sum_to-zero}
use Rattle.carp_base.specs.declared.edge.Edge.{Edge}

-- each served step is on a required edge
abbrev pub ServesRequired : Problem → List Step → Type 0
ServesRequired p steps = AllByRecursion (λ s. IsTrue s.served → IsRequired p s.edge) steps

AllByRecursion-append : {X : Type 0} (P : X → Type 0) (xs ys : List X) → AllByRecursion P xs → AllByRecursion P ys → AllByRecursion P (xs ++ ys)
AllByRecursion-append P [] ys all more = more
AllByRecursion-append P (x ∷ xs) ys all more = (all.0, AllByRecursion-append P xs ys all.1 more)

pub serves_required : (p : Problem) (plan : List (List Step)) → AllByRecursion (IsLawfulWalk p) plan → ServesRequired p (steps_of plan)
serves_required p [] all = tt
serves_required p (walk ∷ walks) all = AllByRecursion-append _ walk (steps_of walks) all.0.serves_required (serves_required p walks all.1)

-- one step gives the term of its own edge, where it is served
pub term : (m : ℕ) (g : ℕ → ℕ) (b : Bool) (e : ℕ) → (IsTrue b → (1 ≤ e) × (e ≤ m)) →
    cond b (g e) 0 ≡ sum_to m (λ i. cond (b && (e == i)) (g i) 0)
term m g true e serves = let h : (1 ≤ e) × (e ≤ m) = serves refl in sym (sum_to-single m e g h.0 h.1)
term m g false e serves = sym (sum_to-zero m)

count_step : (b : Bool) (n g : ℕ) → cond b g 0 + n * g ≡ (cond b 1 0 + n) * g
count_step true n g = omega arith
count_step false n g = omega arith

-- over all steps: each edge's term, as often as it is served
pub served_sum : (p : Problem) (g : ℕ → ℕ) (steps : List Step) → ServesRequired p steps →
    sum_by (λ s. if s.served then g s.edge else 0) steps ≡ sum_to p.required (λ e. count_by (λ s. s.served && (s.edge == e)) steps * g e)
served_sum p g [] all = sym (sum_to-same p.required (λ e. 0 * g e) (λ _. 0) (λ e _ _. omega arith) ∙ sum_to-zero p.required)
served_sum p g (s ∷ steps) all =
    let test : ℕ → Step → Bool = λ e x. x.served && (x.edge == e) in
    let own = term p.required g s.served s.edge (λ h. let r = all.0 h in (r.from_one, r.in_range)) in
    omega (
      arith,
      sum_by-cons (λ x. if x.served then g x.edge else 0) s steps,
      own,
      served_sum p g steps all.1,
      sum_to-add p.required (λ e. cond (test e s) (g e) 0) (λ e. count_by (test e) steps * g e),
      sum_to-same p.required (λ e. cond (test e s) (g e) 0 + count_by (test e) steps * g e) (λ e. count_by (test e) (s ∷ steps) * g e)
          (λ e _ _. count_step (test e s) (count_by (test e) steps) (g e) ∙ ap (λ n. n * g e) (sym (sum_by-cons (λ x. cond (test e x) 1 0) s steps))),
    )

pub served_once : (p : Problem) (plan : List (List Step)) (g : ℕ → ℕ) → IsLawful p plan →
    sum_by (λ s. if s.served then g s.edge else 0) (steps_of plan) ≡ sum_to p.required g
served_once p plan g lawful =
    served_sum p g (steps_of plan) (serves_required p plan lawful.walks)
    ∙ sum_to-same p.required _ _ (λ e one below. rw (lawful.once e (record { from_one = one; in_range = below })) (omega arith))

-- the same for what is read off the edge
pub served_once_at : (p : Problem) (plan : List (List Step)) (f : Edge → ℕ) → IsValid p → IsLawful p plan →
    sum_by (λ s. if s.served then f (edge_at p s.edge) else 0) (steps_of plan) ≡ sum_by f (required_edges p)
served_once_at p plan f valid lawful =
    served_once p plan (λ e. f (edge_at p e)) lawful ∙ sum_to-edge_at p f p.required valid.required_in

service_part : (b : Bool) (service cost : ℕ) → (if b then service else 0) ≤ (if b then service else cost)
service_part true service cost = omega arith
service_part false service cost = omega arith

pub required_cost_law : (p : Problem) (plan : List (List Step)) → IsValid p → IsLawful p plan → required_cost p ≤ plan_cost p plan
required_cost_law p plan valid lawful =
    omega (
      arith,
      served_once_at p plan (λ x. x.service) valid lawful,
      sum_by-le-sum_by (λ s. if s.served then (edge_at p s.edge).service else 0) (step_cost p) (steps_of plan)
          (λ s. service_part s.served (edge_at p s.edge).service (edge_at p s.edge).cost),
    )
