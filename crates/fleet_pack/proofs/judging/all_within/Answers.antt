use Rattle.std.proofs.Common.{arith, subst}
use Rattle.std.specs.List.{All}
use Rattle.carp_base.specs.Packings.{IsGroup}
use Rattle.std.proofs.lemmas.List.{take_all}
use Rattle.std.proofs.lemmas.List.Elements.{All-more}
use Rattle.fleet_pack.proofs.judging.all_within.Goals as goal

pub loop-group-preserved : goal.loop-group-preserved
loop-group-preserved c =
    All-more (IsGroup c.args.count) c.args.groups.now c.loop-group.group-index 0 c.loop-group-test.true c.loop-group.invariant (record { from_one = omega arith; in_range = omega arith })

pub returns : goal.returns
returns c = λ yes_true. subst (All (IsGroup c.args.count)) (take_all c.loop-group.group-index c.args.groups.now c.loop-group-test.false) c.loop-group.invariant
