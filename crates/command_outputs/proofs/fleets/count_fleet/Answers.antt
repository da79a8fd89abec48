use Rattle.std.proofs.Common.{rules}
use Rattle.command_outputs.proofs.Counted.{counted}
use Rattle.command_outputs.proofs.fleets.count_fleet.Goals as goal

pub returns : goal.returns
returns c =
    counted c.args.inst.now c.args.turns c.in_ok-found.found c.in_ok-plan.plan c.ending-status.result _ c.from.result c.from-2.result c.from.ensures c.from-2.ensures c.plans_are_packings.ensures c.validity.ensures c.in_ok-found.ensures c.in_ok-plan.ensures.lawful
    c.in_ok-plan.ensures.serves c.in_ok-plan.ensures.paths c.ending-status.ensures.proven c.ending-status.ensures.gap c.ending-status.ensures.is_proven c.ending-status.ensures.is_gap (search rules) c.in_ok-text.ensures
