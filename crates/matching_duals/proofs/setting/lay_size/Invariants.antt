use Rattle.matching_duals.specs.Sets.{AreLaid, sets_to}
use Rattle.matching_duals.proofs.setting.lay_size.Given as goal

abbrev pub invariant-loop-i : goal.invariant-loop-i
invariant-loop-i l = AreLaid l.inst l.ground.table.items (sets_to l.ground.odd.items l.matching l.size l.i) l.laying.enclosing.items l.laying.shores.items
