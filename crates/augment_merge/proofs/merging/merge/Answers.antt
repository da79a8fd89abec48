use Rattle.std.proofs.Common.{subst, sym}
use Rattle.augment_merge.specs.Outlines.{AreOutlines}
use Rattle.augment_merge.proofs.Progress.{fine_outlines}
use Rattle.augment_merge.proofs.merging.merge.Goals as goal

pub best_rows-requires-clause-outlines : goal.best_rows-requires-clause-outlines
best_rows-requires-clause-outlines c =
    subst (AreOutlines c.args.inst.now) (sym c.deref-2.ensures.value) (fine_outlines c.args.inst.now c.deref.result.now c.in_ok-outlines.outlines.items c.in_ok-outlines.ensures)
