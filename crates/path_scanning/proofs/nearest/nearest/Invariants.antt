use Rattle.path_scanning.specs.Choosing.{FindsFirst}
use Rattle.path_scanning.proofs.nearest.nearest.Given as goal

abbrev pub invariant-loop-edge : goal.invariant-loop-edge
invariant-loop-edge l = FindsFirst l.inst l.tie (record { served = l.served; at = l.at; load = l.load }) l.edge l.best
