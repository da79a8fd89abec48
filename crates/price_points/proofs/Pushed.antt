-- One more number within the limits at the end of a list.
use Rattle.std.proofs.Common.{◌≡◌, ℕ, ℤ, ◌+◌, List, [], ◌∷◌, ◌++◌, length, sym, subst, ap, ◌∙◌}
use Rattle.std.specs.List.{All}
use Rattle.std.proofs.lemmas.List.{length_push}
use Rattle.std.proofs.lemmas.List.Elements.{All-push}
use Rattle.route_pricing.specs.Pricing.{IsServicePrice}

pub within_push : (after xs : List ℤ) (x : ℤ) → after ≡ xs ++ x ∷ [] → All IsServicePrice xs → IsServicePrice x → All IsServicePrice after
within_push after xs x is all one = subst (All IsServicePrice) (sym is) (All-push IsServicePrice xs x all one)

pub longer_push : (after xs : List ℤ) (x : ℤ) (k : ℕ) → after ≡ xs ++ x ∷ [] → length xs ≡ k → length after ≡ k + 1
longer_push after xs x k is long = ap (λ ys. length ys) is ∙ length_push xs x ∙ ap (λ n. n + 1) long
