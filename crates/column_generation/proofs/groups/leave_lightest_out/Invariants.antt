use Rattle.column_generation.specs.Groups.{AreOffered}
use Rattle.column_generation.proofs.groups.leave_lightest_out.Given as goal

abbrev pub invariant-loop : goal.invariant-loop
invariant-loop l = AreOffered l.inst l.groups.items
