-- What may stand in place of the leaf that a step takes.
use Rattle.std.proofs.Common.{◌≡◌, ℕ, zero, suc, ◌+◌, ◌*◌, ◌≤◌, List, [], ◌∷◌, ◌++◌, length, refl, sym, subst, ap, ◌∙◌, arith, add-one, length-append, pos, ◌-ℤ◌, ◌*ℤ◌, ◌≤ℤ◌, ◌<ℤ◌, inl, inr}
use Rattle.std.specs.List.{All}
use Rattle.std.proofs.lemmas.List.{append-nil, get_or_push}
use Rattle.std.proofs.lemmas.List.Elements.{All-get_or, All-push}
use Rattle.carp_base.specs.Problem.{Problem}
use Rattle.plan_model.specs.declared.step.Step.{Step}
use Rattle.plan_model.specs.Plans.{IsLawful, plan_cost}
use Rattle.decision_chains.specs.Pairs.{ArePairsIn, HasPairWithin}
use Rattle.decision_chains.specs.declared.decision.Decision.{Decision}
use Rattle.decision_chains.specs.declared.decision.Decision.TheVariants.{Yes, No, Low, High}
use Rattle.branch_rules.specs.Decisions.{rules_of, IsFixed, IsVoid}
use Rattle.branch_rules.specs.Laws.{FitsBranch}
use Rattle.branch_rules.specs.Limits.{AreShoresIn, HasShoreOf, IsShoreOf}
use Rattle.branch_rules.specs.Prices.{Prices, value_of}
use Rattle.branch_rules.specs.Trees.{PricesShow, Support, fixed, no_prices, price, set_at, void}
use Rattle.branch_rules.specs.declared.node.Node.{Node}
use Rattle.branch_rules.specs.declared.node.Node.TheVariants as nodes
use Rattle.decision_chains.specs.FixedValue.{HasFixedValue}
use Rattle.dual_master.specs.Raising.{IsNoLower}
use Rattle.grown_trees.specs.Growth.{AreSound, Fraction, IsSoundNode, NodeReaches}
use Rattle.grown_trees.specs.Laws.{IsKept, IsOpenDecision}
use Rattle.grown_trees.specs.Stands.{NodeFits, stands, with_sets}
use Rattle.branch_tree.specs.Known.{Known}
use Rattle.branch_tree.specs.Leaves.{IsAtLeaf, IsSplitBy, IsSplitNode, MayBegin, MayStand, NamesSet, split_nodes}
use Rattle.branch_tree.specs.Searches.{HasGroupsInRange, IsHeld, IsHeldSet, State, set_in, support_in}
use Rattle.branch_tree.specs.Splits.{split_tree}
use Rattle.grown_trees.specs.Values.{IsMostShown, IsShown}
use Rattle.branch_tree.specs.declared.children.Children.{Children}
use Rattle.branch_tree.proofs.Numbers.{at_most_more, covers_base, reaches_more, reaches_through, shown_less, shown_through}
use Rattle.branch_tree.proofs.Taking.{no_entry, old, small_cost, sound}

set_in_same : (c : Support) (number : ℕ) → set_at c number ≡ set_in c.sets number
set_in_same c zero = refl
set_in_same c (suc k) = refl

held_set : (p : Problem) (pool : List (List ℕ)) (sets : List Prices) (number : ℕ) → All (IsHeldSet p pool) sets → 1 ≤ number → number ≤ length sets → IsHeldSet p pool (set_in sets number)
held_set p pool sets zero all from_one to_last = absurd (omega (arith, from_one))
held_set p pool sets (suc k) all from_one to_last = All-get_or (IsHeldSet p pool) sets k no_prices (omega (arith, to_last)) all

module _ (known : Known) (p : Problem) (s : State) (held : IsHeld p s) where
  abbrev base : Fraction
  base = s.base

  -- what is above all bounds is no less than the base
  enough_above : (most : ℕ) → s.cost ≤ most → base.value ≤ℤ pos (base.unit * most)
  enough_above most within = at_most_more s.base.unit s.base.value (plan_cost p s.plan) most (omega (arith, within, held.cost_is)) (held.beneath s.plan held.allowed.lawful)

  -- the base shows 0
  base_some : IsShown s.base.unit s.base.value 0
  base_some = shown_less s.base.unit s.least s.base.value held.some_unit held.shown

  -- a price set under some decisions
  module _ (more : List Prices) (branch : List Decision) (pairs : ArePairsIn p branch) (shores : AreShoresIn p s.pool branch) where
    abbrev support : Support
    support = with_sets (support_in p s) more

    price_sound : (number most : ℕ) (set : Prices) → set_at support number ≡ set → 1 ≤ number → number ≤ length support.sets → 1 ≤ set.unit → FitsBranch p s.pool branch set →
        (pos set.unit *ℤ base.value) ≤ℤ (pos base.unit *ℤ value_of (rules_of p s.pool branch) set) → IsMostShown set.unit (value_of (rules_of p s.pool branch) set) most →
        IsSoundNode support base (record { branch = branch; node = nodes.Price number }) (record { node = nodes.Price number; shows = most })
    price_sound number most set same from_one to_last some fits reaches shown = record {
      same = refl;
      pairs = pairs;
      shores = shores;
      inside = tt;
      fine = tt;
      spelled = (from_one, to_last);
      lean = tt;
      fits = (from_one, to_last, subst (λ (x : Prices). FitsBranch p s.pool branch x) (sym same) fits);
      reaches = subst (λ (x : Prices). (pos x.unit *ℤ base.value) ≤ℤ (pos base.unit *ℤ value_of (rules_of p s.pool branch) x)) (sym same) reaches;
      shows = λ bound small. (
        λ shows. (shown.shown bound small).0 (subst (λ (x : Prices). (pos x.unit *ℤ (pos bound -ℤ pos 1)) <ℤ value_of (rules_of p s.pool branch) x) same shows.2.above),
        λ within. (
          from_one,
          to_last,
          subst (λ (x : Prices). PricesShow support branch x bound) (sym same) (record { fits = fits.fits; above = (shown.shown bound small).1 within }),
        ),
      );
      enough = elim shown.covers [
        | inl covered ↦ covers_base base.unit set.unit base.value (value_of (rules_of p s.pool branch) set) most some reaches covered
        | inr above ↦ enough_above most (omega (arith, above, small_cost known p s held))
      ];
    }

  module _ (place : ℕ) (branch : List Decision) (at : IsAtLeaf s place branch) where
    pub leaf_pairs : ArePairsIn p branch
    leaf_pairs = (sound known p s held place branch at).pairs

    pub leaf_shores : AreShoresIn p s.pool branch
    leaf_shores = (sound known p s held place branch at).shores

    -- a void branch
    pub void_sound : IsVoid p s.pool branch → AreSound (support_in p s) base (stands branch void) (record { node = nodes.Void; shows = 18446744073709551615 } ∷ [])
    void_sound is = (
      record {
        same = refl;
        pairs = leaf_pairs;
        shores = leaf_shores;
        inside = tt;
        fine = tt;
        spelled = tt;
        lean = tt;
        fits = tt;
        reaches = tt;
        shows = λ bound small. (λ _. omega (arith, small), λ _. is);
        enough = enough_above 18446744073709551615 (omega (arith, small_cost known p s held));
      },
      tt,
    )

    -- a fixed one, whose plan is lawful
    pub fixed_sound : (plan : List (List Step)) (value : ℕ) → IsFixed p s.pool branch → IsLawful p plan → value ≡ plan_cost p plan → HasFixedValue p branch (plan_cost p plan) →
        AreSound (support_in p s) base (stands branch fixed) (record { node = nodes.Fixed; shows = value } ∷ [])
    fixed_sound plan value is lawful value_is has =
        let has_value : HasFixedValue p branch value = subst (HasFixedValue p branch) (sym value_is) has in (
          record {
            same = refl;
            pairs = leaf_pairs;
            shores = leaf_shores;
            inside = tt;
            fine = tt;
            spelled = tt;
            lean = tt;
            fits = tt;
            reaches = tt;
            shows = λ bound small. (
              λ shows. omega (arith, shows.enough, known.fixed_once p branch shows.value value shows.fixed has_value),
              λ within. record { settled = is; value = value; fixed = has_value; enough = within },
            );
            enough = at_most_more s.base.unit s.base.value (plan_cost p plan) value (omega (arith, value_is)) (held.beneath plan lawful);
          },
          tt,
        )

    -- an inner node
    inner_sound : (more : List Prices) (node : Node) → IsSplitNode p s.pool branch node →
        IsSoundNode (with_sets (support_in p s) more) base (record { branch = branch; node = node }) (record { node = node; shows = 18446744073709551615 })
    inner_sound more (nodes.Pair a b) is = record {
      same = refl;
      pairs = leaf_pairs;
      shores = leaf_shores;
      inside = is.inside;
      fine = is.fine;
      spelled = is.spelled;
      lean = is.lean;
      fits = tt;
      reaches = tt;
      shows = λ bound small. (λ _. omega (arith, small), λ _. tt);
      enough = enough_above 18446744073709551615 (omega (arith, small_cost known p s held));
    }
    inner_sound more (nodes.Cut shore k) is = record {
      same = refl;
      pairs = leaf_pairs;
      shores = leaf_shores;
      inside = is.inside;
      fine = is.fine;
      spelled = is.spelled;
      lean = is.lean;
      fits = tt;
      reaches = tt;
      shows = λ bound small. (λ _. omega (arith, small), λ _. tt);
      enough = enough_above 18446744073709551615 (omega (arith, small_cost known p s held));
    }
    inner_sound more (nodes.Price set) is = absurd is.inner
    inner_sound more nodes.Void is = absurd is.inner
    inner_sound more nodes.Fixed is = absurd is.inner

    -- a price leaf under one more decision
    module _ (more : List Prices) (number : ℕ) (set : Prices) (same : set_at (with_sets (support_in p s) more) number ≡ set) (from_one : 1 ≤ number) (to_last : number ≤ length (s.sets ++ more))
        (some : 1 ≤ set.unit) (fits : FitsBranch p s.pool branch set) (reaches : (pos set.unit *ℤ base.value) ≤ℤ (pos base.unit *ℤ value_of (rules_of p s.pool branch) set)) where
      child_sound : (d : Decision) (most : ℕ) → HasPairWithin p.required d → HasShoreOf p s.pool d → IsOpenDecision p branch d →
          IsMostShown set.unit (value_of (rules_of p s.pool (branch ++ d ∷ [])) set) most →
          IsSoundNode (with_sets (support_in p s) more) base (record { branch = branch ++ d ∷ []; node = nodes.Price number }) (record { node = nodes.Price number; shows = most })
      child_sound d most pair shore undecided shown =
          let kept : IsKept p s.pool branch d set = known.kept p s.pool branch d set undecided fits in
          price_sound more (branch ++ d ∷ []) (All-push (HasPairWithin p.required) branch d leaf_pairs pair) (All-push (HasShoreOf p s.pool) branch d leaf_shores shore) number most set same
          from_one to_last some kept.fits
          (reaches_more base.unit set.unit base.value (value_of (rules_of p s.pool branch) set) (value_of (rules_of p s.pool (branch ++ d ∷ [])) set) reaches kept.no_lower) shown

      -- an inner node with two such leaves
      pub split_sound : (node : Node) (c : Children) → IsSplitBy p s.pool branch set node c →
          AreSound (with_sets (support_in p s) more) base (stands branch (split_tree node number)) (split_nodes node number c)
      split_sound (nodes.Pair a b) c is = (
        inner_sound more (nodes.Pair a b) is.node_in,
        (
          child_sound (Yes a b) c.first is.node_in.inside tt is.node_in.lean is.shown.first,
          (child_sound (No a b) c.second is.node_in.inside tt is.node_in.lean is.shown.second, tt),
        ),
      )
      split_sound (nodes.Cut shore k) c is = (
        inner_sound more (nodes.Cut shore k) is.node_in,
        (
          child_sound (Low shore k) c.first tt is.node_in.inside tt is.shown.first,
          (child_sound (High shore k) c.second tt is.node_in.inside tt is.shown.second, tt),
        ),
      )
      split_sound (nodes.Price other) c is = absurd is.node_in.inner
      split_sound nodes.Void c is = absurd is.node_in.inner
      split_sound nodes.Fixed c is = absurd is.node_in.inner

    -- the set that the leaf names
    module _ (number : ℕ) (names : NamesSet p s place branch number) where
      abbrev named : Prices
      named = set_in s.sets number

      node_is : (old known p s held place branch at).node ≡ nodes.Price number
      node_is = names.named no_entry

      leaf_fits : (1 ≤ number) × (number ≤ length s.sets) × FitsBranch p s.pool branch (set_at (support_in p s) number)
      leaf_fits = subst (NodeFits (support_in p s) branch) node_is (sound known p s held place branch at).fits

      leaf_reaches : (pos (set_at (support_in p s) number).unit *ℤ base.value) ≤ℤ (pos base.unit *ℤ value_of (rules_of p s.pool branch) (set_at (support_in p s) number))
      leaf_reaches = subst (NodeReaches (support_in p s) base branch) node_is (sound known p s held place branch at).reaches

      pub from_one : 1 ≤ number
      from_one = leaf_fits.0

      pub to_last : number ≤ length s.sets
      to_last = leaf_fits.1

      pub named_fits : FitsBranch p s.pool branch named
      named_fits = subst (λ (set : Prices). FitsBranch p s.pool branch set) (set_in_same (support_in p s) number) leaf_fits.2

      named_reaches : (pos named.unit *ℤ base.value) ≤ℤ (pos base.unit *ℤ value_of (rules_of p s.pool branch) named)
      named_reaches = subst (λ (set : Prices). (pos set.unit *ℤ base.value) ≤ℤ (pos base.unit *ℤ value_of (rules_of p s.pool branch) set)) (set_in_same (support_in p s) number) leaf_reaches

      named_held : IsHeldSet p s.pool named
      named_held = held_set p s.pool s.sets number held.sets from_one to_last

      pub named_shores : All (λ w. IsShoreOf p s.pool w.shore) named.weights
      named_shores = named_held.shores

      pub named_groups : HasGroupsInRange named
      named_groups = named_held.groups

      -- so it may be raised
      pub may_begin : MayBegin p s.pool branch s.sets number
      may_begin = record { from_one = from_one; to_last = to_last; pairs = leaf_pairs; fits = named_fits; shores = named_shores; groups = named_groups }

      -- both children have the set of the leaf
      pub old_split_sound : 1 ≤ named.unit → (node : Node) (c : Children) → IsSplitBy p s.pool branch named node c →
          AreSound (with_sets (support_in p s) []) base (stands branch (split_tree node number)) (split_nodes node number c)
      old_split_sound some =
          let plain : set_at (with_sets (support_in p s) []) number ≡ named =
          set_in_same (with_sets (support_in p s) []) number ∙ ap (λ (sets : List Prices). set_in sets number) (append-nil s.sets) in
          split_sound [] number named plain from_one (omega (arith, to_last, length-append s.sets [])) some named_fits named_reaches

      pub named_some : 1 ≤ named.unit → IsShown named.unit (value_of (rules_of p s.pool branch) named) 0
      named_some some = shown_through s.base.unit named.unit s.base.value (value_of (rules_of p s.pool branch) named) held.some_unit some base_some named_reaches

      no_lower_reaches : (set : Prices) → IsNoLower p branch s.pool named s.pool set → 1 ≤ named.unit → (pos set.unit *ℤ base.value) ≤ℤ (pos base.unit *ℤ value_of (rules_of p s.pool branch) set)
      no_lower_reaches set no_lower some =
          reaches_through base.unit named.unit set.unit base.value (value_of (rules_of p s.pool branch) named) (value_of (rules_of p s.pool branch) set) some named_reaches no_lower

      -- a set that is no lower shows 0
      pub raised_value_some : (set : Prices) → IsNoLower p branch s.pool named s.pool set → 1 ≤ named.unit → 1 ≤ set.unit → IsShown set.unit (value_of (rules_of p s.pool branch) set) 0
      raised_value_some set no_lower some set_some =
          shown_through s.base.unit set.unit s.base.value (value_of (rules_of p s.pool branch) set) held.some_unit set_some base_some (no_lower_reaches set no_lower some)

      -- a set that may stand there
      module _ (set : Prices) (may : MayStand p s branch number set) where
        may_reach : (pos set.unit *ℤ base.value) ≤ℤ (pos base.unit *ℤ value_of (rules_of p s.pool branch) set)
        may_reach = no_lower_reaches set may.no_lower may.from_unit

        pub may_some : 1 ≤ set.unit → IsShown set.unit (value_of (rules_of p s.pool branch) set) 0
        may_some = raised_value_some set may.no_lower may.from_unit

        pub new_at : set_at (with_sets (support_in p s) (set ∷ [])) (length s.sets + 1) ≡ set
        new_at = rw add-one (get_or_push s.sets set no_prices (length s.sets) refl)

        one_more : length s.sets + 1 ≤ length (s.sets ++ set ∷ [])
        one_more = omega (arith, length-append s.sets (set ∷ []))

        -- it closes the leaf
        pub new_leaf_sound : (most : ℕ) → IsMostShown set.unit (value_of (rules_of p s.pool branch) set) most →
            AreSound (with_sets (support_in p s) (set ∷ [])) base (stands branch (price (length s.sets + 1))) (record { node = nodes.Price (length s.sets + 1); shows = most } ∷ [])
        new_leaf_sound most shown =
            (price_sound (set ∷ []) branch leaf_pairs leaf_shores (length s.sets + 1) most set new_at (omega arith) one_more may.some_unit may.fits may_reach shown, tt)

        -- or both children have it
        pub new_split_sound : (node : Node) (c : Children) → IsSplitBy p s.pool branch set node c →
            AreSound (with_sets (support_in p s) (set ∷ [])) base (stands branch (split_tree node (length s.sets + 1))) (split_nodes node (length s.sets + 1) c)
        new_split_sound = split_sound (set ∷ []) (length s.sets + 1) set new_at (omega arith) one_more may.some_unit may.fits may_reach
