use Rattle.std.proofs.Common.{length}
use Rattle.shore_program.specs.Tableaus.{KeepsColumns, Shrinks}
use Rattle.shore_program.proofs.trimming.let_some_go.Given as goal

abbrev pub invariant-loop-gone : goal.invariant-loop-gone
invariant-loop-gone l = record {
  keeps : KeepsColumns (length l.fn.tableau.rows.items) l.cuts.items l.tableau;
  shrinks : Shrinks l._gone l.fn.cuts.items l.cuts.items;
}
