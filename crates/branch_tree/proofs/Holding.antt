-- A search that began anew holds at most one price set more than it has turns.
use Rattle.std.proofs.Common.{◌≡◌, ◌⊎◌, ℕ, ◌+◌, ◌<◌, ◌≤◌, Bool, List, [], ◌∷◌, length, length-append, ap, arith, inl, inr}
use Rattle.std.proofs.lemmas.Bool.{cases_eq}
use Rattle.carp_base.specs.Problem.{Problem}
use Rattle.plan_model.specs.declared.step.Step.{Step}
use Rattle.decision_chains.specs.declared.decision.Decision.{Decision}
use Rattle.branch_rules.specs.Prices.{Prices}
use Rattle.branch_rules.specs.declared.node.Node.{Node}
use Rattle.branch_rules.specs.declared.node.Node.TheVariants as nodes
use Rattle.grown_trees.specs.Growth.{IsLeastOpen}
use Rattle.grown_trees.specs.declared.growing.GrowingNode.{GrowingNode}
use Rattle.branch_tree.specs.declared.search.Turn.{Turn}
use Rattle.branch_tree.specs.declared.search.Turn.TheVariants.{Done, Closed, Split}
use Rattle.branch_tree.specs.Counts.{HoldsFewSets}
use Rattle.branch_tree.specs.Searches.{IsBegun, State}
use Rattle.branch_tree.specs.Steps.{AreClosed, HasNewSet, IsAsBefore, IsClosedBy, IsOffered, IsStep}
use Rattle.branch_tree.proofs.Taking.{no_entry}

as_many : (xs ys : List Prices) → xs ≡ ys → length xs ≡ length ys
as_many xs ys same = ap (λ (sets : List Prices). length sets) same

one_more : (p : Problem) (before after : State) (branch : List Decision) (old : GrowingNode) → HasNewSet p before after branch old → length after.sets ≤ length before.sets + 1
one_more p before after branch old new = omega (arith, ap (λ (sets : List Prices). length sets) new.added, length-append before.sets (new.set ∷ []))

by_closing : (p : Problem) (before after : State) (branch : List Decision) (old leaf : GrowingNode) (node : Node) → IsClosedBy p before after branch old leaf node →
    length after.sets ≤ length before.sets + 1
by_closing p before after branch old leaf (nodes.Pair a b) by = absurd by
by_closing p before after branch old leaf (nodes.Cut shore k) by = absurd by
by_closing p before after branch old leaf (nodes.Price set) by = one_more p before after branch old by.3
by_closing p before after branch old leaf nodes.Void by = omega (arith, as_many after.sets before.sets by.1)
by_closing p before after branch old leaf nodes.Fixed by = omega (arith, as_many after.sets before.sets by.1)

-- where a leaf was open, there are more turns
risen : (before after : State) (place : ℕ) → IsLeastOpen before.cost before.nodes place → AreClosed before ⊎ (before.done < after.done) → before.done < after.done
risen before after place least (inl closed) = absurd (omega (arith, closed place no_entry least.inside, least.not_shown no_entry))
risen before after place least (inr more) = more

pub at_begin : (p : Problem) (plan : List (List Step)) (s : State) → IsBegun p plan s → HoldsFewSets s
at_begin p plan s is = let one : length s.sets ≡ 1 = as_many s.sets (is.set ∷ []) is.one_set in omega (arith, one)

pub where_failed : (before after : State) → IsAsBefore before after → HoldsFewSets before → HoldsFewSets after
where_failed before after is few = omega (arith, as_many after.sets before.sets is.sets, is.done, few)

pub at_offer : (p : Problem) (before after : State) (taken : Bool) → IsOffered p before after taken → HoldsFewSets before → HoldsFewSets after
at_offer p before after taken is few = omega (arith, as_many after.sets before.sets is.sets, is.no_fewer, few)

pub at_step : (p : Problem) (before after : State) (turn : Turn) → length before.sets ≤ 256 → IsStep p before after turn → HoldsFewSets before → HoldsFewSets after
at_step p before after Done most is few = where_failed before after is.does.1 few
at_step p before after Closed most is few =
    let d = is.does in
    omega (arith, by_closing p before after d.branch d.old d.leaf d.leaf.node d.by, risen before after d.taken.place d.taken.least is.more_done, few)
at_step p before after Split most is few =
    let d = is.does in
    let more : before.done < after.done = risen before after d.taken.place d.taken.least is.more_done in
    elim (cases_eq (length before.sets) 256) [
      | inl full ↦ omega (arith, as_many after.sets before.sets (d.old_set full).0, more, few)
      | inr other ↦
          let below : length before.sets < 256 = omega (arith, most, other) in
          omega (arith, one_more p before after d.branch d.old (d.new_set below).1, more, few)
    ]
