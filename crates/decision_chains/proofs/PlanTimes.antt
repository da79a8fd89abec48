-- How often an edge stands in a list, and maps of lists that may begin with one more.
use Rattle.std.proofs.Common.{◌≡◌, ℕ, ◌+◌, ◌==◌, Bool, true, false, map, cond, List, ◌∷◌, ◌++◌, refl, ap, arith}
use Rattle.std.proofs.lemmas.List.Sums.{sum_by-cons, sum_by-append}
use Rattle.std.proofs.lemmas.Bool.{eq-eqb}
use Rattle.decision_chains.specs.Neighbours.{times}

pub times-cons : (e x : ℕ) (xs : List ℕ) → times e (x ∷ xs) ≡ cond (x == e) 1 0 + times e xs
times-cons e x xs = sum_by-cons (λ y. cond (y == e) 1 0) x xs

pub times-append : (e : ℕ) (xs ys : List ℕ) → times e (xs ++ ys) ≡ times e xs + times e ys
times-append e xs ys = sum_by-append (λ y. cond (y == e) 1 0) xs ys

pub times-same : (e : ℕ) (xs : List ℕ) → times e (e ∷ xs) ≡ 1 + times e xs
times-same e xs = omega (arith, times-cons e e xs, ap {B = ℕ} (λ b. cond b 1 0) (eq-eqb e e refl))

pub map-cond : {X Y : Type 0} (f : X → Y) (b : Bool) (x : X) (xs : List X) → map f (cond b (x ∷ xs) xs) ≡ cond b (f x ∷ map f xs) (map f xs)
map-cond f true x xs = refl
map-cond f false x xs = refl
