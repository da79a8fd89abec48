use Rattle.std.proofs.Common.{arith}
use Rattle.augment_merge.proofs.Pairs.{pair_over}
use Rattle.augment_merge.proofs.searching.best_of_pair.Goals as goal

pub overflow_add-a : goal.overflow_add-a
overflow_add-a c =
    omega (arith, (c.requires.outlines c.args.first (omega (arith, c.requires.order, c.requires.in_range))).load_small, (c.requires.outlines c.args.second c.requires.in_range).load_small)

pub returns : goal.returns
returns c =
    pair_over c.args.inst.now c.args.outlines.now c.args.first c.args.second c.join_in_way.result c.join_in_way-2.result c.join_in_way-3.result c.join_in_way-4.result c.better-ahead.result c.better-turned.result
    c.better.result c.join_in_way.ensures c.join_in_way-2.ensures c.better-ahead.ensures c.join_in_way-3.ensures c.join_in_way-4.ensures c.better-turned.ensures c.better.ensures
