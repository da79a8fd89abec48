use Rattle.packing_trees.proofs.checking.check_pack.Goals as goal

pub returns-in-None-clause-bound : goal.returns-in-None-clause-bound
returns-in-None-clause-bound c = λ groups count packing.
    let good = rw (c.in-None.is, c.deref.ensures.value, c.deref-2.ensures.value) at c.in_ok-reason.ensures in
    c.trees_bound_packings.ensures.proofs c.args.inst.now c.args.p.now.tree.items c.args.p.now.bound groups count c.validity.ensures good.proof packing
