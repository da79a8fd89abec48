-- One more price in a list that a loop writes.
use Rattle.std.proofs.Common.{◌≡◌, ℕ, ◌+◌, ◌<◌, List, [], ◌∷◌, ◌++◌, length, take, get_or, map, ap, sym, subst, ◌∙◌, arith, ℤ, pos, ◌≤ℤ◌, nat_abs}
use Rattle.std.specs.List.{All}
use Rattle.std.proofs.lemmas.Int.{ints}
use Rattle.std.proofs.lemmas.List.{map-append, take_more}
use Rattle.std.proofs.lemmas.List.Elements.{All-push}

pub made_more : {X : Type 0} (f : X → ℤ) (xs : List X) (i : ℕ) (d : X) (before after : List ℕ) (price : ℕ) → i < length xs → after ≡ before ++ price ∷ [] →
    before ≡ map (λ x. nat_abs (f x)) (take i xs) → pos price ≡ f (get_or xs i d) → after ≡ map (λ x. nat_abs (f x)) (take (i + 1) xs)
made_more f xs i d before after price short pushed made is =
    pushed ∙ ap (λ l. l ++ price ∷ []) made ∙ ap (λ z. map (λ x. nat_abs (f x)) (take i xs) ++ nat_abs z ∷ []) is
    ∙ sym (map-append (λ x. nat_abs (f x)) (take i xs) (get_or xs i d ∷ [])) ∙ ap (map (λ x. nat_abs (f x))) (sym (take_more xs i d short))

pub all_more : (P : ℕ → Type 0) (before after : List ℕ) (x : ℕ) → after ≡ before ++ x ∷ [] → All P before → P x → All P after
all_more P before after x pushed all here = subst (All P) (sym pushed) (All-push P before x all here)

pub none_below : (price : ℕ) (z : ℤ) → pos price ≡ z → pos 0 ≤ℤ z
none_below price z is = omega (arith, ints, is)
