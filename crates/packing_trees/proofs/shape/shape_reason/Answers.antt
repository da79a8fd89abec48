use Rattle.packing_trees.proofs.Filling.{whole_from}
use Rattle.packing_trees.proofs.Ordering.{misfit_from}
use Rattle.packing_trees.proofs.shape.shape_reason.Goals as goal

pub returns-in-None : goal.returns-in-None
returns-in-None c = (whole_from c.args.nodes.now c.in_default.ensures, c.in-None.ensures)

pub returns-in-Some-first_unfit : goal.returns-in-Some-first_unfit
returns-in-Some-first_unfit c = λ groups count bound packing.
    misfit_from c.args.inst.now c.args.nodes.now groups count bound packing (whole_from c.args.nodes.now c.in_default.ensures) c.in-Some-first_unfit.node c.in-Some-first_unfit.ensures
