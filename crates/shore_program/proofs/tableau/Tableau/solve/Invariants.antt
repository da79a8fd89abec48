use Rattle.std.proofs.Common.{◌≡◌, length}
use Rattle.shore_program.specs.Tableaus.{IsTableau}
use Rattle.shore_program.proofs.tableau.Tableau.solve.Given as goal

abbrev pub invariant-loop : goal.invariant-loop
invariant-loop l = record {
  tableau : IsTableau (length l.fn.self.rows.items) l.self;
  columns : length l.self.columns.items ≡ length l.fn.self.columns.items;
}
