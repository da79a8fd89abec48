use Rattle.std.proofs.Common.{length}
use Rattle.std.specs.Prelude.{None}
use Rattle.augment_merge.specs.Outlines.{FindsBest, IsRowJoin}
use Rattle.augment_merge.proofs.Places.{each_push, long_push}
use Rattle.augment_merge.proofs.searching.best_rows.Goals as goal

pub loop-first-preserved : goal.loop-first-preserved
loop-first-preserved c =
    let outlines = c.args.outlines.now in
    let before = c.loop-first.rows.items in
    let after = c.push.new.self.items in
    let pushed = c.in_ok-push.ensures.items in
    record {
      long = long_push before after c.best_of_row.result c.loop-first.first pushed c.loop-first.invariant.long;
      each = each_push (λ k. FindsBest (IsRowJoin c.args.inst.now outlines k (length outlines))) before after c.best_of_row.result None c.loop-first.first pushed c.loop-first.invariant.long c.loop-first.invariant.each c.best_of_row.ensures;
    }
