use Rattle.std.proofs.Common.{List, length, subst, sym}
use Rattle.carp_base.specs.declared.edge.Edge.{Edge}
use Rattle.cut_pool.specs.Shores.{Belongs}
use Rattle.shore_program.specs.Programs.{ShoreProgram}
use Rattle.shore_program.specs.Tableaus.{KeepsColumns}
use Rattle.shore_program.proofs.program.Program.add.Goals as goal

pub invariant_of-self-2 : goal.invariant_of-self-2
invariant_of-self-2 c =
    let belongs = subst (λ (program : ShoreProgram). Belongs program.problem c.args.shore) (sym c.self.view_is) c.requires in
    record {
      columns = subst (λ (edges : List Edge). KeepsColumns (length edges) c.add_cut.new.cuts.items c.add_cut.new.tableau)
          c.edges-edges.ensures.value c.in_ok-add_cut.ensures.keeps;
      belong = c.in_ok-add_cut.ensures.belong c.self.inside.inst belongs c.self.invariant.belong;
    }
