-- What holds of each element of a list, and a range with one element more.
use Rattle.std.proofs.Common.{◌≡◌, ℕ, ◌+◌, ◌-◌, ◌<◌, List, [], ◌∷◌, ◌++◌, length, take, drop, get_or, ap, ◌∙◌, arith}
use Rattle.std.specs.Prelude.{slice_range}
use Rattle.std.specs.List.{AllByRecursion}
use Rattle.std.proofs.lemmas.List.{get_or-drop, length-drop, take_more}

pub all_left : {X : Type 0} (P : X → Type 0) (xs ys : List X) → AllByRecursion P (xs ++ ys) → AllByRecursion P xs
all_left P [] ys all = tt
all_left P (x ∷ xs) ys all = (all.0, all_left P xs ys all.1)

pub all_right : {X : Type 0} (P : X → Type 0) (xs ys : List X) → AllByRecursion P (xs ++ ys) → AllByRecursion P ys
all_right P [] ys all = all
all_right P (x ∷ xs) ys all = all_right P xs ys all.1

pub all_joined : {X : Type 0} (P : X → Type 0) (xs ys : List X) → AllByRecursion P xs → AllByRecursion P ys → AllByRecursion P (xs ++ ys)
all_joined P [] ys all more = more
all_joined P (x ∷ xs) ys all more = (all.0, all_joined P xs ys all.1 more)

-- a range with one element more
pub range_more : {X : Type 0} (xs : List X) (i j : ℕ) (d : X) → i < j → j < length xs → slice_range xs i (j + 1) ≡ slice_range xs i j ++ get_or xs j d ∷ []
range_more xs i j d later below =
    let more : j + 1 - i ≡ (j - i) + 1 = omega (arith, later) in
    let place : i + (j - i) ≡ j = omega (arith, later) in
    ap (λ n. take n (drop i xs)) more ∙ take_more (drop i xs) (j - i) d (omega (arith, length-drop i xs, later, below))
    ∙ ap (λ x. slice_range xs i j ++ x ∷ []) (get_or-drop i xs (j - i) d ∙ ap (λ n. get_or xs n d) place)
