-- One group more behind those that are placed.
use Rattle.std.proofs.Common.{◌≡◌, ◌≢◌, ℕ, ◌<◌, ◌≤◌, Bool, true, false, List, [], ◌∷◌, ◌++◌, length, get_or, nat_eq, not, refl, sym, ap, ◌∙◌, arith, inl, inr}
use Rattle.std.specs.List.{list_any}
use Rattle.std.specs.Cmp.Lexicographic.{pointwise, other_text}
use Rattle.std.proofs.lemmas.Bool.{cases_Bool, false≢true}
use Rattle.std.proofs.lemmas.List.{length_push}
use Rattle.std.proofs.lemmas.List.Elements.{All-push}
use Rattle.std.proofs.lemmas.List.Folds.{list_any_at}
use Rattle.std.proofs.lemmas.List.Quantifiers.{all_pairs_push}
use Rattle.carp_base.specs.Problem.{Problem}
use Rattle.branch_rules.specs.Bonds.{IsGroup}
use Rattle.group_search.specs.Flows.{FlowTable}
use Rattle.group_search.specs.Violation.{IsViolated, violation}
use Rattle.group_search.specs.Tables.{AreViolatedBy}

pointwise_refl : (xs : List ℕ) → pointwise nat_eq xs xs ≡ true
pointwise_refl xs = elim (cases_Bool (pointwise nat_eq xs xs)) [
  | inl same ↦ same
  | inr other ↦ absurd (other_text xs xs (sym other) refl)
]

-- a group that is not found is none of them
is_new : (groups : List (List ℕ)) (group : List ℕ) → list_any (λ y. pointwise nat_eq y group) groups ≡ false → (k : ℕ) (d : List ℕ) → k < length groups → get_or groups k d ≢ group
is_new groups group none k d within same =
    let here = ap (λ y. pointwise nat_eq y group) same ∙ pointwise_refl group in
    false≢true (sym none ∙ list_any_at (λ y. pointwise nat_eq y group) groups k d within here)

pub none_from : (there : Bool) → not there ≡ true → there ≡ false
none_from true new = absurd (false≢true new)
none_from false new = refl

-- a new group that is violated by no more than the others
pub placed : (p : Problem) (flow : FlowTable) (least most last value : ℕ) (groups : List (List ℕ)) (group : List ℕ) →
    AreViolatedBy p flow least most last groups → IsGroup p group → value ≡ violation p flow group → least < value → value ≤ last → length groups < most →
    list_any (λ y. pointwise nat_eq y group) groups ≡ false → AreViolatedBy p flow least most value (groups ++ group ∷ [])
placed p flow least most last value groups group before is value_is large small room none = record {
  are = record {
    few = omega (arith, room, length_push groups group);
    each = All-push (IsViolated p flow least) groups group before.are.each (record { edges = is; above = omega (arith, value_is, large) });
    different = all_pairs_push (λ a b. a ≢ b) groups group before.are.different (is_new groups group none);
    falling = all_pairs_push (λ a b. violation p flow b ≤ violation p flow a) groups group before.are.falling
        (λ k d within. omega (arith, value_is, small, before.above k d within));
  };
  above = All-push (λ g. value ≤ violation p flow g) groups group (λ k d within. omega (arith, small, before.above k d within)) (omega (arith, value_is));
}
