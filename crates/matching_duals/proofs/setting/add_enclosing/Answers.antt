use Rattle.std.proofs.Common.{◌+◌, get_or, arith, ◌∙◌}
use Rattle.std.proofs.lemmas.List.{length-set}
use Rattle.matching_duals.proofs.Laying.{enclosing_more}
use Rattle.matching_duals.proofs.setting.add_enclosing.Goals as goal

pub loop-i-preserved : goal.loop-i-preserved
loop-i-preserved c =
    let m = get_or c.args.members.now c.loop-i.i 0 in
    record {
      long = length-set c.loop-i.enclosing m (get_or c.loop-i.enclosing m 0 + c.args.more) ∙ c.loop-i.invariant.long;
      added = enclosing_more c.args.enclosing.now c.loop-i.enclosing c.args.members.now c.args.more c.loop-i.i c.requires.distinct c.loop-i-test.true
          (omega (arith, c.requires.members c.loop-i.i 0 c.loop-i-test.true, c.loop-i.invariant.long)) c.loop-i.invariant.added;
    }
