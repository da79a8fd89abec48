use Rattle.matching_duals.specs.Sets.{AreLaid, sets_below}
use Rattle.matching_duals.proofs.setting.lay_sets.Given as goal

abbrev pub invariant-loop-size : goal.invariant-loop-size
invariant-loop-size l = AreLaid l.inst l.ground.table.items (sets_below l.ground.odd.items l.matching l.size) l.laying.enclosing.items l.laying.shores.items
