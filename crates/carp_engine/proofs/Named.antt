-- A search may go on from a tree over the price sets that it names.
use Rattle.std.proofs.Common.{◌≡◌, ℕ, ◌≤◌, ◌<◌, List, length, map, arith, subst, sym, All, get_or}
use Rattle.std.proofs.lemmas.List.{get_or-map, length-map}
use Rattle.carp_base.specs.Problem.{Problem}
use Rattle.plan_model.specs.Laws.{IsLowerBound}
use Rattle.decision_chains.specs.PlanLaws.{FixedValueIsUnique}
use Rattle.branch_rules.specs.Limits.{IsPriceSet}
use Rattle.branch_rules.specs.Prices.{Prices}
use Rattle.branch_rules.specs.declared.node.Node.{Node}
use Rattle.branch_rules.specs.declared.node.Node.TheVariants as nodes
use Rattle.grown_trees.specs.Growth.{IsSpelledNode, turns_in}
use Rattle.grown_trees.specs.declared.growing.GrowingNode.{GrowingNode}
use Rattle.branch_tree.specs.Resumes.{MayResume, ResumedTreesHaveTurns, support_on}
use Rattle.branch_tree.specs.Searches.{IsHeldSet}
use Rattle.cert_lines.specs.Certificates.{Certificate}
use Rattle.cert_lines.specs.Laws.{SpellableIsFine}
use Rattle.cert_lines.specs.Spelling.{IsSpellable}
use Rattle.cert_format.specs.Good.{IsGood, support_of}
use Rattle.tree_transfer.specs.Named.{AreNamedSets}
use Rattle.tree_transfer.specs.NamedLaws.{NamedSetsSuffice, StandsIn}
use Rattle.tree_transfer.specs.Shown.{AreNotedNodes}
use Rattle.carp_engine.specs.Improved.{HaveTurns}
use Rattle.carp_engine.proofs.Olds.{had, may_resume}

-- nodes beside what they show are spelled as they are alone
pub spelled_entries : (sets : ℕ) (entries : List GrowingNode) (all : List Node) → map (λ (e : GrowingNode). e.node) entries ≡ all → All (IsSpelledNode sets) all →
    All (λ (e : GrowingNode). IsSpelledNode sets e.node) entries
spelled_entries sets entries all is spelled = λ k d less.
    let there : k < length (map (λ (e : GrowingNode). e.node) entries) = omega (arith, less, length-map entries (λ (e : GrowingNode). e.node)) in
    let read = get_or-map (λ (e : GrowingNode). e.node) entries k d nodes.Void less in
    subst (IsSpelledNode sets) read (subst (All (IsSpelledNode sets)) (sym is) spelled k nodes.Void there)

module _ (law : NamedSetsSuffice) (p : Problem) (pool : List (List ℕ)) (old new : List Prices) (least : ℕ) (before after : List GrowingNode) (may : MayResume p pool old least before)
    (named : AreNamedSets old new before after) where
  stands_in : StandsIn (support_on p pool old) new before after may.tree
  stands_in = law (support_on p pool old) new before after may.tree may.spelled may.noted named

  same_turns : (cost : ℕ) → turns_in cost after ≡ turns_in cost before
  same_turns = stands_in.turns

  -- what holds of all old sets holds of the new ones
  all_new : (P : Prices → Type 0) → All P old → All P new
  all_new P all = λ k d less. let there = stands_in.old_sets k d less in subst P there.2 (all there.0 (get_or new k d) there.1)

  may_resume_named : length new ≤ length old → MayResume p pool new least after
  may_resume_named fewer = record {
    tree = stands_in.other;
    noted = stands_in.noted;
    inside = stands_in.inside may.inside;
    spelled = stands_in.spelled;
    lean = stands_in.lean 4 may.lean;
    shows = stands_in.shows least may.shows;
    below = may.below;
    fine = all_new IsPriceSet may.fine;
    held = all_new (IsHeldSet p pool) may.held;
    few_sets = omega (arith, fewer, may.few_sets);
    belong = may.belong;
    few_nodes = omega (arith, stands_in.as_long, may.few_nodes);
  }

-- The tree of a good certificate that can be spelled, taken up: its nodes are noted, and the sets that they name are the new ones.
pub record IsTakenUp (p : Problem) (old : Certificate) (new : List Prices) (before after : List GrowingNode) : Type 0 where
  pub noted : AreNotedNodes (support_of p old) old.nodes before
  pub named : AreNamedSets old.sets new before after

pub taken_up : (p : Problem) (old : Certificate) {sets new : List Prices} {before lent after : List GrowingNode} → sets ≡ old.sets →
    AreNotedNodes (record { problem = p; pool = old.shores; sets = sets }) old.nodes before → lent ≡ before → AreNamedSets old.sets new lent after → IsTakenUp p old new before after
taken_up p old {new = new} {before = before} {after = after} sets_are noted lent_is named = record {
  noted = subst (λ (sets : List Prices). AreNotedNodes (record { problem = p; pool = old.shores; sets = sets }) old.nodes before) sets_are noted;
  named = subst (λ (entries : List GrowingNode). AreNamedSets old.sets new entries after) lent_is named;
}

module _ (fine : SpellableIsFine) (once : FixedValueIsUnique) (law : NamedSetsSuffice) (p : Problem) (old : Certificate) (spelled : IsSpellable old) (good : IsGood p old) (bounds : IsLowerBound p old.bound)
    {new : List Prices} {before after : List GrowingNode} (taken : IsTakenUp p old new before after) where
  may_before : MayResume p old.shores old.sets old.bound before
  may_before = may_resume fine once p old spelled good bounds before taken.noted

  pub may_go_on : length new ≤ length old.sets → MayResume p old.shores new old.bound after
  may_go_on = may_resume_named law p old.shores old.sets new old.bound before after may_before taken.named

  -- the old tree's turns for the old cost are the nodes that show it, also afterwards
  pub had_before : ResumedTreesHaveTurns → HaveTurns (support_of p old) old.nodes old.cost (turns_in old.cost after)
  had_before turns =
      subst (HaveTurns (support_of p old) old.nodes old.cost) (sym (same_turns law p old.shores old.sets new old.bound before after may_before taken.named old.cost))
      (had fine once p old spelled good turns bounds before taken.noted)
