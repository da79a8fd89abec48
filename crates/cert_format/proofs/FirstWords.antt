-- The kinds that may stand next, one after another.
use Rattle.std.proofs.Common.{◌≡◌, ℕ, zero, suc, ◌+◌, ◌<◌, ◌≤◌, List, [], ◌∷◌, length, get_or, take, refl, inl, inr, subst, add-one, arith}
use Rattle.std.proofs.lemmas.List.{take_all}
use Rattle.cert_format.specs.declared.kind.Kind.{Kind}
use Rattle.cert_format.specs.declared.kind.Kind.TheVariants.{Version}
use Rattle.cert_format.specs.Kinds.{IsOneOf, IsNoneOf, keyword}

pub one_at : (kinds : List Kind) (i : ℕ) → i < length kinds → IsOneOf kinds (get_or kinds i Version)
one_at [] i below = absurd (omega (arith, below))
one_at (k ∷ kinds) zero below = inl refl
one_at (k ∷ kinds) (suc i) below = inr (one_at kinds i (omega (arith, below)))

none_suc : (kinds : List Kind) (i : ℕ) (text : List ℕ) → i < length kinds → IsNoneOf (take i kinds) text → (text ≡ keyword (get_or kinds i Version) → ⊥) → IsNoneOf (take (suc i) kinds) text
none_suc [] i text below none other = absurd (omega (arith, below))
none_suc (k ∷ kinds) zero text below none other = (other, tt)
none_suc (k ∷ kinds) (suc i) text below none other = (none.0, none_suc kinds i text (omega (arith, below)) none.1 other)

pub none_more : (kinds : List Kind) (i : ℕ) (text : List ℕ) → i < length kinds → IsNoneOf (take i kinds) text → (text ≡ keyword (get_or kinds i Version) → ⊥) → IsNoneOf (take (i + 1) kinds) text
none_more kinds i text below none other = rw add-one (none_suc kinds i text below none other)

pub none_all : (kinds : List Kind) (i : ℕ) (text : List ℕ) → length kinds ≤ i → IsNoneOf (take i kinds) text → IsNoneOf kinds text
none_all kinds i text all none = subst (λ (ks : List Kind). IsNoneOf ks text) (take_all i kinds all) none
