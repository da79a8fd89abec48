use Rattle.ruin_recreate.specs.Tables.{AreDemands}
use Rattle.ruin_recreate.proofs.tables.demands_of.Given as goal

abbrev pub invariant-loop-x : goal.invariant-loop-x
invariant-loop-x l = AreDemands l.inst l.x l.demands.items
