use Rattle.std.proofs.Common.{ap, arith, ◌∙◌}
use Rattle.packing_trees.specs.Tables.{value_of}
use Rattle.packing_trees.proofs.Weighing.{small_table, value_is}
use Rattle.packing_trees.proofs.bundling.share_value.Goals as goal

pub shares_of-requires : goal.shares_of-requires
shares_of-requires c = rw (c.deref.ensures.value, c.deref-2.ensures.value) (small_table c.args.inst.now c.requires.branch _ _ c.capacity-capacity.ensures.valid c.requires.are)

pub returns : goal.returns
returns c = λ branch are.
    let same = c.capacity-capacity.ensures.value in
    let all = rw (c.deref.ensures.value, c.deref-2.ensures.value, same) at c.shares_of.ensures.all in
    c.value.ensures ∙ ap (λ q. value_of q c.shares_of.result) same
    ∙ value_is c.args.inst.now branch c.args.bundles.now.labels.items c.args.bundles.now.weights.items _ c.args.s c.shares_of.result (omega (arith, are.label_each)) are all
