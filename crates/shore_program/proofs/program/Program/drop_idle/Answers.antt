use Rattle.std.proofs.Common.{ℕ, subst}
use Rattle.shore_program.specs.Tableaus.{KeepsColumns}
use Rattle.shore_program.proofs.Shrinking.{belong_after, program_trimmed}
use Rattle.shore_program.proofs.program.Program.drop_idle.Goals as goal

pub invariant_of-self : goal.invariant_of-self
invariant_of-self c = record {
  columns = subst (λ (edges : ℕ). KeepsColumns edges c.trim.new.cuts.items c.trim.new.tableau) c.self.invariant.columns.tableau.rows c.trim.ensures.keeps;
  belong = belong_after c.self.inside.inst c.self.inside.cuts.items c.trim.new.cuts.items c.trim.ensures.trimmed.held c.self.invariant.belong;
}

pub returns : goal.returns
returns c = rw (← c.self.view_is) (program_trimmed c.self.inside.inst c.self.inside.cuts.items c.trim.new.cuts.items c.trim.ensures.trimmed)
