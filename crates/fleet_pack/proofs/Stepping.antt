-- A search as a whole: one more step.
use Rattle.std.proofs.Common.{◌≡◌, ℕ, ◌≤◌, List, [], ◌∷◌, ◌++◌, length, reverse, if◌then◌else◌, nat_le, refl, sym, ap, ◌∙◌, subst, arith, inl, inr}
use Rattle.std.specs.List.{All}
use Rattle.std.proofs.lemmas.List.{reverse-append}
use Rattle.std.proofs.lemmas.List.Elements.{All-nil, All-cons}
use Rattle.std.proofs.lemmas.List.Sums.{sum_by-cons}
use Rattle.std.proofs.lemmas.Bool.{cases_lt, le-leb, lt-leb}
use Rattle.carp_base.specs.Problem.{Problem, IsValid}
use Rattle.packing_trees.specs.declared.node.PackChoice.{PackChoice}
use Rattle.packing_trees.specs.declared.node.PackNode.{PackNode}
use Rattle.packing_trees.specs.declared.node.PackNode.TheVariants as nodes
use Rattle.packing_trees.specs.Bundles.{IsPair, IsChoice, IsClosedPair}
use Rattle.packing_trees.specs.declared.node.PackChoice.TheVariants as choices
use Rattle.fleet_pack.specs.declared.share.Share.{Share}
use Rattle.fleet_pack.specs.States.{aparts_of, closed_count, IsBack, IsDone, IsLeaf, IsOuter, IsShare, IsState}
use Rattle.fleet_pack.proofs.State.{aparts_apart, aparts_together, begins, closes, splits}
use Rattle.fleet_pack.proofs.Bundling.{choice_more, leaf_apart, light_alone, light_together}

-- Leaves that are counted.

abbrev bit_of : ℕ → Share → ℕ
bit_of count x = if nat_le count x.value then 1 else 0

one_share : (count : ℕ) (x : Share) → bit_of count x ≤ 1
one_share count x = elim (cases_lt x.value count) [
  | inl low ↦ rw (lt-leb count x.value low) (omega arith)
  | inr high ↦ rw (le-leb count x.value high) (omega arith)
]

pub few_closed : (count : ℕ) (shares : List Share) → closed_count count shares ≤ length shares
few_closed count [] = omega arith
few_closed count (x ∷ shares) = omega (arith, few_closed count shares, one_share count x, sum_by-cons (bit_of count) x shares)

pub all_closed : (count : ℕ) (shares : List Share) → closed_count count shares ≡ length shares → All (λ x. count ≤ x.value) shares
all_closed count [] is = All-nil (λ (x : Share). count ≤ x.value)
all_closed count (x ∷ shares) is =
    let cut = sum_by-cons (bit_of count) x shares in
    elim (cases_lt x.value count) [
      | inl low ↦
          let none : bit_of count x ≡ 0 = rw (lt-leb count x.value low) refl in
          absurd (omega (arith, is, cut, none, few_closed count shares))
      | inr high ↦
          All-cons (λ (y : Share). count ≤ y.value) x shares high (all_closed count shares (omega (arith, is, cut, one_share count x, few_closed count shares)))
    ]

-- A path that goes back.

pub past_apart : (path rest : List PackChoice) (a b : ℕ) → path ≡ rest ++ choices.Apart a b ∷ [] → aparts_of rest ≡ aparts_of path
past_apart path rest a b is = sym (aparts_apart rest a b) ∙ ap aparts_of (sym is)

same_parts : (before : List PackChoice) (first x : List PackChoice) (rest xs : List (List PackChoice)) → aparts_of before ≡ x ∷ xs → aparts_of before ≡ first ∷ rest → (x ≡ first) × (xs ≡ rest)
same_parts before first x rest xs one two = (cc, cc)

pub back_at : (before path rest : List PackChoice) (a b : ℕ) → aparts_of path ≡ aparts_of before → path ≡ rest ++ choices.Together a b ∷ [] → IsBack before (rest ++ choices.Apart a b ∷ [])
back_at before path rest a b same is = record {
  leads = λ first others waits.
      let has : aparts_of before ≡ (rest ++ choices.Apart a b ∷ []) ∷ aparts_of rest = sym same ∙ ap aparts_of is ∙ aparts_together rest a b in
      let parts = same_parts before first (rest ++ choices.Apart a b ∷ []) others (aparts_of rest) has waits in
      (parts.0, aparts_apart rest a b ∙ parts.1);
}

pub back_none : (before path : List PackChoice) → aparts_of path ≡ aparts_of before → path ≡ [] → IsBack before path
back_none before path same none = record {
  leads = λ first rest waits. absurd (let has : [] ≡ first ∷ rest = ap aparts_of (sym none) ∙ same ∙ waits in cc);
}

-- Stacks.

pub top_of : (before after : List Share) (x : Share) → before ≡ after ++ x ∷ [] → reverse before ≡ x ∷ reverse after
top_of before after x is = ap reverse is ∙ reverse-append after (x ∷ [])

pub shares_then : (before after : List Share) (x : Share) → after ≡ before ++ x ∷ [] → reverse after ≡ x ∷ reverse before
shares_then before after x is = top_of after before x is

-- Steps.

pub begun : (p : Problem) (count : ℕ) (taken : List PackNode) (path : List PackChoice) (none shares : List Share) (share : Share) → IsValid p →
    taken ≡ [] → path ≡ [] → none ≡ [] → shares ≡ none ++ share ∷ [] → IsShare p [] share → IsState p count taken path (reverse shares)
begun p count taken path none shares share valid no_node no_choice no_share is found =
    let leaf : IsLeaf p [] share = record { choices = All-nil (IsChoice p); light = light_alone p valid; share = found } in
    let stack : reverse shares ≡ share ∷ [] = shares_then none shares share is ∙ ap (λ xs. share ∷ reverse xs) no_share in
    subst (λ xs. IsState p count xs path (reverse shares)) (sym no_node) (subst (λ xs. IsState p count [] xs (reverse shares)) (sym no_choice)
    (subst (IsState p count [] []) (sym stack) (begins p count share leaf)))

pub closed_state : (p : Problem) (count : ℕ) (taken more : List PackNode) (path after : List PackChoice) (share : Share) (shares : List Share) (node : PackNode) → more ≡ taken ++ node ∷ [] →
    IsState p count taken path (share ∷ shares) → IsOuter node → IsDone p count path node → IsBack path after → IsState p count more after shares
closed_state p count taken more path after share shares node is state outer done back =
    subst (λ xs. IsState p count xs after shares) (sym is) (closes p count taken path after share shares node state outer done back)

pub split_state : (p : Problem) (count : ℕ) (taken more : List PackNode) (path after : List PackChoice) (share together : Share) (before between shares : List Share) (a b : ℕ) →
    IsState p count taken path (share ∷ reverse before) → IsPair p a b → ¬ (IsClosedPair p path a b) →
    more ≡ taken ++ nodes.Pair a b ∷ [] → after ≡ path ++ choices.Together a b ∷ [] → IsShare p after together →
    between ≡ before ++ share ∷ [] → shares ≡ between ++ together ∷ [] → IsState p count more after (reverse shares)
split_state p count taken more path after share together before between shares a b state pair stays more_is after_is found between_is shares_are =
    let leaf = state.leaves.0 in
    let one : IsLeaf p (path ++ choices.Together a b ∷ []) together = record {
      choices = choice_more p path (choices.Together a b) leaf.choices pair;
      light = light_together p path a b leaf.light stays;
      share = subst (λ xs. IsShare p xs together) after_is found;
    } in
    let stack : reverse shares ≡ together ∷ (share ∷ reverse before) = shares_then between shares together shares_are ∙ ap (λ xs. together ∷ xs) (shares_then before between share between_is) in
    subst (λ xs. IsState p count xs after (reverse shares)) (sym more_is) (subst (λ xs. IsState p count (taken ++ nodes.Pair a b ∷ []) xs (reverse shares)) (sym after_is)
    (subst (IsState p count (taken ++ nodes.Pair a b ∷ []) (path ++ choices.Together a b ∷ [])) (sym stack)
    (splits p count taken path share together (reverse before) a b state (pair, stays) one (leaf_apart p path share a b leaf pair))))
