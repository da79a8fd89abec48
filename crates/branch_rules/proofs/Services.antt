-- The edges that a walk serves.
use Rattle.std.proofs.Common.{◌≡◌, ℕ, ◌+◌, ◌==◌, Bool, true, false, ◌&&◌, cond, List, [], ◌∷◌, map, refl, sym, ap, ◌∙◌, arith}
use Rattle.std.specs.Prelude.{IsTrue, filter}
use Rattle.std.specs.List.{AllByRecursion, count_by}
use Rattle.std.proofs.lemmas.List.Sums.{sum_by-cons}
use Rattle.carp_base.specs.Problem.{Problem, IsRequired}
use Rattle.plan_model.specs.declared.step.Step.{Step}
use Rattle.decision_chains.specs.Neighbours.{served_edges, times}

one_service : (b : Bool) (x e n : ℕ) (rest : List ℕ) → n ≡ times e rest →
    cond (b && (x == e)) 1 0 + n ≡ times e (cond b (x ∷ rest) rest)
one_service true x e n rest same = omega (arith, same, sum_by-cons (λ y. cond (y == e) 1 0) x rest)
one_service false x e n rest same = omega (arith, same)

pub map-cond : {X Y : Type 0} (f : X → Y) (b : Bool) (x : X) (xs : List X) → map f (cond b (x ∷ xs) xs) ≡ cond b (f x ∷ map f xs) (map f xs)
map-cond f true x xs = refl
map-cond f false x xs = refl

pub services_are : (e : ℕ) (walk : List Step) → count_by (λ s. s.served && (s.edge == e)) walk ≡ times e (served_edges walk)
services_are e [] = refl
services_are e (s ∷ walk) =
    sum_by-cons (λ x. cond (x.served && (x.edge == e)) 1 0) s walk
    ∙ one_service s.served s.edge e _ (served_edges walk) (services_are e walk)
    ∙ ap (times e) (sym (map-cond (λ x. x.edge) s.served s (filter (λ x. x.served) walk)))

pub all_required : (p : Problem) (walk : List Step) → AllByRecursion (λ s. IsTrue s.served → IsRequired p s.edge) walk → AllByRecursion (IsRequired p) (served_edges walk)
all_required p [] all = tt
all_required p (s ∷ walk) all = one s.served refl (all_required p walk all.1)
  where
    one : (b : Bool) → s.served ≡ b → AllByRecursion (IsRequired p) (served_edges walk) →
        AllByRecursion (IsRequired p) (map (λ x. x.edge) (cond b (s ∷ filter (λ x. x.served) walk) (filter (λ x. x.served) walk)))
    one true is rest = (all.0 is, rest)
    one false is rest = rest
