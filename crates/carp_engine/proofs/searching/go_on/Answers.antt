use Rattle.std.proofs.Common.{◌≡◌, ◌≤◌, ◌⊎◌, ◌∙◌, arith, ℕ, subst, sym}
use Rattle.std.specs.Prelude.{OnOk}
use Rattle.std.proofs.lemmas.Result.{IfOk-weaker}
use Rattle.plan_model.specs.Plans.{plan_cost}
use Rattle.branch_tree.specs.Searches.{state_of}
use Rattle.branch_tree.specs.Steps.{AreClosed}
use Rattle.carp_engine.proofs.searching.go_on.Goals as goal

pub sum_up-requires-clause-ended : goal.sum_up-requires-clause-ended
sum_up-requires-clause-ended g c =
    let s = c.take_turns-taken.new.search in
    subst (λ (n : ℕ). OnOk c.take_turns-taken.result (AreClosed (state_of s) ⊎ (n ≤ s.done))) (c.budget-turns.ensures ∙ sym c.take_turns-taken.ensures.turns) c.take_turns-taken.ensures.ended

pub returns-clause-searched : goal.returns-clause-searched
returns-clause-searched g c =
    let p = c.args.inst.now in
    let s = c.take_turns-taken.new.search in
    let turned = c.take_turns-taken.ensures in
    let cheap : plan_cost p s.best ≤ plan_cost p c.args.search.best = omega (arith, turned.search.held.cost_is, c.requires.held.cost_is, turned.no_dearer) in
    IfOk-weaker c.sum_up.result _ _
    (λ solved is. record {
      found = is.found;
      is_found = is.is_found;
      certified = is.certified;
      no_dearer = omega (arith, cheap, is.no_dearer);
      short = λ short. is.short (turned.short short);
      no_lower = omega (arith, is.no_lower, turned.least);
      ended = subst (λ (n : ℕ). (is.found.bound ≡ plan_cost p is.found.plan) ⊎ (n ≤ solved.turns)) turned.turns is.ended;
    }) c.sum_up.ensures.searched

pub returns-clause-terse : goal.returns-clause-terse
returns-clause-terse g c = λ light. c.sum_up.ensures.terse (c.take_turns-taken.ensures.light light)
