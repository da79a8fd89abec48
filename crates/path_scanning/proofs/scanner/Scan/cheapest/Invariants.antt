use Rattle.std.proofs.Common.{◌≡◌, ◌+◌}
use Rattle.plan_model.specs.Plans.{IsLawful, plan_cost}
use Rattle.path_scanning.specs.Cheapest.{IsCheapestOf}
use Rattle.path_scanning.proofs.scanner.Scan.cheapest.Given as goal

abbrev pub invariant-loop-rule : goal.invariant-loop-rule
invariant-loop-rule l = record {
  lawful : IsLawful l.inst l.best.plan;
  cheapest : IsCheapestOf l.inst (l.rule-index + 1) l.best.plan;
  cost : l.best.cost ≡ plan_cost l.inst l.best.plan;
}
