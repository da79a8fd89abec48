use Rattle.std.proofs.Common.{ℕ, subst}
use Rattle.shore_program.specs.Tableaus.{KeepsColumns}
use Rattle.shore_program.proofs.Shrinking.{more_went, none_went}
use Rattle.shore_program.proofs.trimming.let_some_go.Goals as goal

pub loop-gone-init : goal.loop-gone-init
loop-gone-init c = record { keeps = c.requires; shrinks = none_went 0 c.args.cuts.now.items }

pub loop-gone-preserved : goal.loop-gone-preserved
loop-gone-preserved c = record {
  keeps = subst (λ (edges : ℕ). KeepsColumns edges c.let_worst_go.new.cuts.items c.let_worst_go.new.tableau)
      c.loop-gone.invariant.keeps.tableau.rows c.let_worst_go.ensures.keeps;
  shrinks = more_went c.loop-gone._gone c.args.cuts.now.items c.loop-gone.cuts.items c.let_worst_go.new.cuts.items
      c.loop-gone.invariant.shrinks c.let_worst_go.ensures.shrinks;
}
