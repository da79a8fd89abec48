use Rattle.std.proofs.Common.{arith, subst}
use Rattle.std.specs.List.{All}
use Rattle.carp_base.specs.Problem.{IsRequired}
use Rattle.std.proofs.lemmas.List.{take_all}
use Rattle.std.proofs.lemmas.List.Elements.{All-more}
use Rattle.column_generation.proofs.groups.are_required.Goals as goal

pub loop-e-preserved : goal.loop-e-preserved
loop-e-preserved c =
    All-more (IsRequired c.args.inst.now) c.args.edges.now c.loop-e.e-index 0 c.loop-e-test.true c.loop-e.invariant (record { from_one = omega arith; in_range = omega arith })

pub returns : goal.returns
returns c = λ yes_true. subst (All (IsRequired c.args.inst.now)) (take_all c.loop-e.e-index c.args.edges.now c.loop-e-test.false) c.loop-e.invariant
