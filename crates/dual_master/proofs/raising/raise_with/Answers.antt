use Rattle.std.proofs.Common.{Option, subst, sym, IfSome, inl, inr}
use Rattle.std.proofs.lemmas.Result.{IfOk-weaker}
use Rattle.branch_rules.specs.Prices.{Prices}
use Rattle.dual_master.specs.Raising.{IsBetter}
use Rattle.dual_master.proofs.Raised.{both_ok, short_of, itself, no_lower_before, no_lower_then, of_instance}
use Rattle.dual_master.proofs.raising.raise_with.Goals as goal

pub returns-in-None-clause-no_lower : goal.returns-in-None-clause-no_lower
returns-in-None-clause-no_lower g c =
    let p = c.args.leaf.now.inst.now in
    let branch = c.args.leaf.now.branch.now in
    both_ok c.tighten-in-None.result _ _ _
    (λ set no_lower worth.
    no_lower_then p branch c.args.pool.now c.best_offer.new.pool c.args.start.now c.args.start.now set
    (itself c.growth_keeps_sets.ensures p branch c.args.pool.now c.best_offer.new.pool c.best_offer.ensures.grown c.args.start.now c.requires.shores) no_lower.unit worth)
    c.tighten-in-None.ensures.no_lower c.tighten-in-None.ensures.value

pub returns-in-Some-clause-no_lower : goal.returns-in-Some-clause-no_lower
returns-in-Some-clause-no_lower g c =
    let p = c.args.leaf.now.inst.now in
    let branch = c.args.leaf.now.branch.now in
    let after = c.best_offer.new.pool in
    let better = subst (λ (found : Option Prices). IfSome found (IsBetter p branch after c.args.start.now)) c.in-Some.is c.in_ok-best.ensures.standing.better in
    both_ok c.tighten.result _ _ _
    (λ set no_lower worth.
    no_lower_before c.growth_keeps_sets.ensures p branch c.args.pool.now after c.best_offer.ensures.grown c.args.start.now c.requires.shores set
    (no_lower_then p branch after after c.args.start.now c.in-Some.set set better.no_lower no_lower.unit worth)) c.tighten.ensures.no_lower c.tighten.ensures.value

pub returns-in-None-clause-groups : goal.returns-in-None-clause-groups
returns-in-None-clause-groups g c = IfOk-weaker c.tighten-in-None.result _ _ (λ set no_lower. inl (sym no_lower.groups)) c.tighten-in-None.ensures.no_lower

pub returns-in-Some-clause-groups : goal.returns-in-Some-clause-groups
returns-in-Some-clause-groups g c =
    let p = c.args.leaf.now.inst.now in
    let better = subst (λ (found : Option Prices). IfSome found (IsBetter p c.args.leaf.now.branch.now c.best_offer.new.pool c.args.start.now)) c.in-Some.is c.in_ok-best.ensures.standing.better in
    IfOk-weaker c.tighten.result _ _ (λ set no_lower. inr (of_instance p c.in-Some.set set (inl (sym no_lower.groups)) better.groups)) c.tighten.ensures.no_lower

pub returns-in-None-clause-short_groups : goal.returns-in-None-clause-short_groups
returns-in-None-clause-short_groups g c = λ short.
    IfOk-weaker c.tighten-in-None.result _ _ (λ set no_lower. short_of c.args.start.now set no_lower.groups short) c.tighten-in-None.ensures.no_lower

pub returns-in-Some-clause-short_groups : goal.returns-in-Some-clause-short_groups
returns-in-Some-clause-short_groups g c = λ _.
    let p = c.args.leaf.now.inst.now in
    let better = subst (λ (found : Option Prices). IfSome found (IsBetter p c.args.leaf.now.branch.now c.best_offer.new.pool c.args.start.now)) c.in-Some.is c.in_ok-best.ensures.standing.better in
    IfOk-weaker c.tighten.result _ _ (λ set no_lower. short_of c.in-Some.set set no_lower.groups better.short_groups) c.tighten.ensures.no_lower
