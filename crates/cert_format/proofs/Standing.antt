-- What stands next, by the kind of line that may.
use Rattle.std.proofs.Common.{◌≡◌, sym, ap, inl, inr}
use Rattle.cert_lines.specs.declared.next.Next.{Next}
use Rattle.cert_lines.specs.declared.next.Next.TheVariants as stands
use Rattle.cert_format.specs.declared.kind.Kind.{Kind}
use Rattle.cert_format.specs.Kinds.{expected, IsOneOf, next_for}

pub next_is : (next : Next) (kind : Kind) → IsOneOf (expected next) kind → next ≡ next_for kind next
next_is stands.Version kind one = elim one [ inl e ↦ ap (λ (k : Kind). next_for k stands.Version) (sym e) | inr none ↦ absurd none ]
next_is stands.Counts kind one = elim one [ inl e ↦ ap (λ (k : Kind). next_for k stands.Counts) (sym e) | inr none ↦ absurd none ]
next_is stands.Cost kind one = elim one [ inl e ↦ ap (λ (k : Kind). next_for k stands.Cost) (sym e) | inr none ↦ absurd none ]
next_is stands.Bound kind one = elim one [ inl e ↦ ap (λ (k : Kind). next_for k stands.Bound) (sym e) | inr none ↦ absurd none ]
next_is stands.Tours kind one = elim one [ inl e ↦ ap (λ (k : Kind). next_for k stands.Tours) (sym e) | inr none ↦ absurd none ]
next_is (stands.Tour left) kind one = elim one [ inl e ↦ ap (λ (k : Kind). next_for k (stands.Tour left)) (sym e) | inr none ↦ absurd none ]
next_is stands.Shores kind one = elim one [ inl e ↦ ap (λ (k : Kind). next_for k stands.Shores) (sym e) | inr none ↦ absurd none ]
next_is (stands.Shore left) kind one = elim one [ inl e ↦ ap (λ (k : Kind). next_for k (stands.Shore left)) (sym e) | inr none ↦ absurd none ]
next_is stands.Sets kind one = elim one [ inl e ↦ ap (λ (k : Kind). next_for k stands.Sets) (sym e) | inr none ↦ absurd none ]
next_is (stands.Prices left) kind one = elim one [ inl e ↦ ap (λ (k : Kind). next_for k (stands.Prices left)) (sym e) | inr none ↦ absurd none ]
next_is (stands.Weights left) kind one = elim one [ inl e ↦ ap (λ (k : Kind). next_for k (stands.Weights left)) (sym e) | inr none ↦ absurd none ]
next_is (stands.Bonds left) kind one = elim one [ inl e ↦ ap (λ (k : Kind). next_for k (stands.Bonds left)) (sym e) | inr none ↦ absurd none ]
next_is stands.Nodes kind one = elim one [ inl e ↦ ap (λ (k : Kind). next_for k stands.Nodes) (sym e) | inr none ↦ absurd none ]
next_is stands.End kind one = elim one [ inl e ↦ ap (λ (k : Kind). next_for k stands.End) (sym e) | inr none ↦ absurd none ]
next_is (stands.Node left subtrees) kind one = elim one [
  | inl e ↦ ap (λ (k : Kind). next_for k (stands.Node left subtrees)) (sym e)
  | inr b ↦ elim b [ inl e ↦ ap (λ (k : Kind). next_for k (stands.Node left subtrees)) (sym e) | inr d ↦ elim d [ inl e ↦ ap (λ (k : Kind). next_for k (stands.Node left subtrees)) (sym e) | inr f ↦ elim f [ inl e ↦ ap (λ (k : Kind). next_for k (stands.Node left subtrees)) (sym e) | inr g ↦ elim g [ inl e ↦ ap (λ (k : Kind). next_for k (stands.Node left subtrees)) (sym e) | inr none ↦ absurd none ] ] ] ]
]
next_is stands.Nothing kind one = absurd one
