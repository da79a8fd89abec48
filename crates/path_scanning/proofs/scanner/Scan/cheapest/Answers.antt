use Rattle.std.proofs.Common.{◌+◌, ◌∷◌, [], get_or, refl, arith}
use Rattle.path_scanning.specs.declared.rule.Rule.{Rule}
use Rattle.path_scanning.specs.declared.rule.Rule.TheVariants.{Far, Near, Cheap, Dear, Half}
use Rattle.path_scanning.proofs.Once.{cheapest_one, cheapest_next, cheapest_same, placed}
use Rattle.path_scanning.proofs.scanner.Scan.cheapest.Goals as goal
use Rattle.path_scanning.proofs.scanner.Scan.cheapest.Goals.{then-next-best, else-next-best}

pub loop-rule-init : goal.loop-rule-init
loop-rule-init c = record {
  lawful = c.in_ok-best.ensures.lawful;
  cheapest = cheapest_one c.least_prices_are_there.ensures.tasks c.walks_are_task_tours.ensures.cost c.args.inst.now c.validity.ensures Far c.in_ok-best.best.plan refl c.in_ok-best.ensures.scanned;
  cost = c.in_ok-best.ensures.cost;
}

pub loop-rule-preserved : goal.loop-rule-preserved
loop-rule-preserved c =
    let p = c.args.inst.now in
    let i = c.loop-rule.rule-index in
    let loop = c.loop-rule.invariant in
    let there = c.least_prices_are_there.ensures.tasks in
    let costs = c.walks_are_task_tours.ensures.cost in
    let next = c.in_ok-next.ensures in
    let rule : Rule = get_or (Near ∷ Cheap ∷ Dear ∷ Half ∷ []) i Far in
    let place = placed i c.loop-rule-test.true in
    elim c.if-next-best.branch [
      | then-next-best w ↦ rw w.best-is record {
        lawful = next.lawful;
        cheapest = cheapest_next there costs p c.validity.ensures (i + 1) rule c.loop-rule.best.plan c.in_ok-next.next.plan place loop.cheapest next.scanned (omega (arith, w.if-next-best.true, next.cost, loop.cost));
        cost = next.cost;
      }
      | else-next-best w ↦ rw w.best-is record {
        lawful = loop.lawful;
        cheapest = cheapest_same there costs p c.validity.ensures (i + 1) rule c.loop-rule.best.plan c.in_ok-next.next.plan place loop.cheapest next.scanned (omega (arith, w.if-next-best.false, next.cost, loop.cost));
        cost = loop.cost;
      }
    ]
