use Rattle.std.proofs.Common.{List}
use Rattle.augment_merge.specs.declared.joins.Join.{Join}
use Rattle.augment_merge.specs.Merging.{JoinsLead}
use Rattle.augment_merge.specs.Outlines.{AreBestRows, AreDoable, AreOutlinesOf, used_outlines}
use Rattle.augment_merge.proofs.merging.join_all.Given as goal

abbrev pub invariant-loop-join : goal.invariant-loop-join
invariant-loop-join l = record {
  doable : AreDoable l.inst l.tours;
  outlined : AreOutlinesOf l.inst l.tours l.outlines;
  best : AreBestRows l.inst l.outlines l.rows;
  leads : (joins : List Join) × JoinsLead l.inst l.fn.tours joins l.tours;
}

abbrev pub decreases-loop-join : goal.decreases-loop-join
decreases-loop-join l = used_outlines l.outlines
