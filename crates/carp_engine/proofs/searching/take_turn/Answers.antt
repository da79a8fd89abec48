use Rattle.std.proofs.Common.{◌∙◌, rules, subst, sym}
use Rattle.branch_tree.specs.Counts.{IsLight}
use Rattle.branch_tree.specs.Searches.{state_of}
use Rattle.carp_engine.proofs.Terse.{after_turn}
use Rattle.carp_engine.proofs.Turned.{no_dearer, turned}
use Rattle.carp_engine.proofs.searching.take_turn.Goals as goal

pub returns-in_ok-take_plan-in-Closed : goal.returns-in_ok-take_plan-in-Closed
returns-in_ok-take_plan-in-Closed g c =
    let p = c.args.inst.now in
    let before = state_of c.args.search.now in
    let middle = state_of c.step_with.new.self in
    let after = state_of c.take_plan.new.self in
    let taken = c.in_ok-take_plan-in-Closed.field-0 in
    let offered = c.in_ok-take_plan-in-Closed.ensures.offered in
    record {
      search = c.take_plan.ensures.search;
      turns = c.take_plan.ensures.turns ∙ c.step_with.ensures.turns;
      no_dearer = no_dearer p before middle after taken offered c.in_ok-turn.turn c.in-Closed.is c.in_ok-turn.ensures.step;
      short = λ short. c.take_plan.ensures.short (c.step_with.ensures.short short);
      least = c.take_plan.ensures.least ∙ c.step_with.ensures.least;
      light = after_turn c.searches_stay_light.ensures p before middle after c.in_ok-turn.turn taken c.requires.search.held.few_sets c.in_ok-turn.ensures.step offered;
      turn = turned p before middle after taken offered c.in_ok-turn.turn c.in-Closed.is c.in_ok-turn.ensures.step;
    }

pub returns-in_err-take_plan-in-Closed : goal.returns-in_err-take_plan-in-Closed
returns-in_err-take_plan-in-Closed g c =
    let p = c.args.inst.now in
    let before = state_of c.args.search.now in
    let middle = state_of c.step_with.new.self in
    let same = c.in_err-take_plan-in-Closed.ensures.err in
    record {
      search = c.take_plan.ensures.search;
      turns = c.take_plan.ensures.turns ∙ c.step_with.ensures.turns;
      no_dearer = search rules;
      short = λ short. c.take_plan.ensures.short (c.step_with.ensures.short short);
      least = c.take_plan.ensures.least ∙ c.step_with.ensures.least;
      light = λ light. subst IsLight (sym same) (c.searches_stay_light.ensures.stepped p before middle c.in_ok-turn.turn c.requires.search.held.few_sets c.in_ok-turn.ensures.step light);
      turn = search rules;
    }
