-- A search that began anew stays light.
use Rattle.std.proofs.Common.{◌≡◌, ℕ, zero, suc, ◌+◌, ◌<◌, ◌≤◌, Bool, List, [], ◌∷◌, ◌++◌, take, drop, length, map, sym, subst, arith, inl, inr}
use Rattle.std.specs.Prelude.{sum_by}
use Rattle.std.specs.List.{All}
use Rattle.std.proofs.lemmas.Bool.{cases_eq, cases_lt}
use Rattle.std.proofs.lemmas.List.{get_or-map, get_or_past, length-map}
use Rattle.std.proofs.lemmas.List.Elements.{All-append, All-cons, All-drop, All-nil, All-push, All-take}
use Rattle.carp_base.specs.Problem.{Problem}
use Rattle.plan_model.specs.declared.step.Step.{Step}
use Rattle.decision_chains.specs.declared.decision.Decision.{Decision}
use Rattle.branch_rules.specs.Bonds.{GroupWeight}
use Rattle.branch_rules.specs.Prices.{Prices}
use Rattle.branch_rules.specs.Trees.{no_prices}
use Rattle.branch_rules.specs.declared.node.Node.{Node}
use Rattle.branch_rules.specs.declared.node.Node.TheVariants as nodes
use Rattle.dual_master.specs.Raising.{HasShortGroups}
use Rattle.grown_trees.specs.Places.{IsLeaf}
use Rattle.grown_trees.specs.declared.growing.GrowingNode.{GrowingNode}
use Rattle.branch_tree.specs.declared.search.Turn.{Turn}
use Rattle.branch_tree.specs.declared.search.Turn.TheVariants.{Done, Closed, Split}
use Rattle.branch_tree.specs.Counts.{IsLight}
use Rattle.branch_tree.specs.Searches.{IsBegun, State, set_in}
use Rattle.branch_tree.specs.Steps.{HasNewSet, IsAsBefore, IsClosedBy, IsOffered, IsShortCut, IsStep, IsTaken}

-- price sets

none_short : (set : Prices) → set.groups ≡ [] → HasShortGroups set
none_short set none = subst (λ (groups : List GroupWeight). sum_by (λ (w : GroupWeight). length w.edges + 6) groups ≤ 5000) (sym none) (omega arith)

short_at : (sets : List Prices) (number : ℕ) → All HasShortGroups sets → HasShortGroups (set_in sets number)
short_at sets zero all = omega arith
short_at sets (suc k) all = elim (cases_lt k (length sets)) [
  | inl less ↦ all k no_prices less
  | inr past ↦ subst HasShortGroups (sym (get_or_past sets k no_prices past)) (omega arith)
]

same_groups : (before after : List Prices) → after ≡ before → All HasShortGroups before → All HasShortGroups after
same_groups before after same all = subst (All HasShortGroups) (sym same) all

one_more : (p : Problem) (before after : State) (branch : List Decision) (old : GrowingNode) → HasNewSet p before after branch old → All HasShortGroups before.sets → All HasShortGroups after.sets
one_more p before after branch old new all =
    same_groups (before.sets ++ new.set ∷ []) after.sets new.added (All-push HasShortGroups before.sets new.set all (new.short_groups (short_at before.sets new.number all)))

by_closing : (p : Problem) (before after : State) (branch : List Decision) (old leaf : GrowingNode) (node : Node) → IsClosedBy p before after branch old leaf node →
    All HasShortGroups before.sets → All HasShortGroups after.sets
by_closing p before after branch old leaf (nodes.Pair a b) by all = absurd by
by_closing p before after branch old leaf (nodes.Cut shore k) by all = absurd by
by_closing p before after branch old leaf (nodes.Price set) by all = one_more p before after branch old by.3 all
by_closing p before after branch old leaf nodes.Void by all = same_groups before.sets after.sets by.1 all
by_closing p before after branch old leaf nodes.Fixed by all = same_groups before.sets after.sets by.1 all

-- nodes

abbrev IsShort : GrowingNode → Type 0
IsShort entry = IsShortCut entry.node

each_short : (entries : List GrowingNode) → All IsShortCut (map (λ (entry : GrowingNode). entry.node) entries) → All IsShort entries
each_short entries all = λ k d less.
    let long : k < length (map (λ (entry : GrowingNode). entry.node) entries) = omega (arith, less, length-map entries (λ (entry : GrowingNode). entry.node)) in
    subst IsShortCut (get_or-map (λ (entry : GrowingNode). entry.node) entries k d d.node less) (all k d.node long)

same_short : (before after : List GrowingNode) → after ≡ before → All IsShort before → All IsShort after
same_short before after same all = subst (All IsShort) (sym same) all

leaf_short : (node : Node) → IsLeaf node → IsShortCut node
leaf_short (nodes.Pair a b) is = tt
leaf_short (nodes.Cut shore k) is = absurd is
leaf_short (nodes.Price set) is = tt
leaf_short nodes.Void is = tt
leaf_short nodes.Fixed is = tt

price_short : (node : Node) (set : ℕ) → node ≡ nodes.Price set → IsShortCut node
price_short node set is = subst IsShortCut (sym is) tt

taken_short : (before after : State) (branch : List Decision) (old : GrowingNode) (news : List GrowingNode) → IsTaken before after branch old news → All IsShort before.nodes → All IsShort news →
    All IsShort after.nodes
taken_short before after branch old news is all short =
    let rest = drop (is.place + 1) before.nodes in
    same_short (take is.place before.nodes ++ (news ++ rest)) after.nodes is.nodes
    (All-append IsShort (take is.place before.nodes) (news ++ rest) (All-take IsShort is.place before.nodes all)
    (All-append IsShort news rest short (All-drop IsShort (is.place + 1) before.nodes all)))

-- searches

pub at_begin : (p : Problem) (plan : List (List Step)) (s : State) → IsBegun p plan s → IsLight s
at_begin p plan s is = record {
  short_groups = same_groups (is.set ∷ []) s.sets is.one_set (All-cons HasShortGroups is.set [] (none_short is.set is.no_groups) (All-nil HasShortGroups));
  short = each_short s.nodes (subst (All IsShortCut) (sym is.leaf) (All-cons IsShortCut (nodes.Price 1) [] tt (All-nil IsShortCut)));
}

pub where_failed : (before after : State) → IsAsBefore before after → IsLight before → IsLight after
where_failed before after is light =
    record { short_groups = same_groups before.sets after.sets is.sets light.short_groups; short = same_short before.nodes after.nodes is.nodes light.short }

pub at_offer : (p : Problem) (before after : State) (taken : Bool) → IsOffered p before after taken → IsLight before → IsLight after
at_offer p before after taken is light =
    record { short_groups = same_groups before.sets after.sets is.sets light.short_groups; short = same_short before.nodes after.nodes is.nodes light.short }

pub at_step : (p : Problem) (before after : State) (turn : Turn) → length before.sets ≤ 256 → IsStep p before after turn → IsLight before → IsLight after
at_step p before after Done most is light = where_failed before after is.does.1 light
at_step p before after Closed most is light =
    let d = is.does in
    record {
      short_groups = by_closing p before after d.branch d.old d.leaf d.leaf.node d.by light.short_groups;
      short = taken_short before after d.branch d.old (d.leaf ∷ []) d.taken light.short (All-cons IsShort d.leaf [] (leaf_short d.leaf.node d.is_leaf) (All-nil IsShort));
    }
at_step p before after Split most is light =
    let d = is.does in
    record {
      short_groups = elim (cases_eq (length before.sets) 256) [
        | inl full ↦ same_groups before.sets after.sets (d.old_set full).0 light.short_groups
        | inr other ↦
            let below : length before.sets < 256 = omega (arith, most, other) in
            one_more p before after d.branch d.old (d.new_set below).1 light.short_groups
      ];
      short =
          taken_short before after d.branch d.old (d.inner ∷ d.first ∷ d.second ∷ []) d.taken light.short
          (All-cons IsShort d.inner (d.first ∷ d.second ∷ []) d.short
          (All-cons IsShort d.first (d.second ∷ []) (price_short d.first.node d.set d.first_set)
          (All-cons IsShort d.second [] (price_short d.second.node d.set d.second_set) (All-nil IsShort))));
    }
