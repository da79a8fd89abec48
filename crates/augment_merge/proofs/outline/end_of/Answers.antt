use Rattle.std.proofs.Common.{sym, ◌∙◌}
use Rattle.augment_merge.proofs.Ending.{ends_at_last}
use Rattle.augment_merge.proofs.outline.end_of.Goals as goal

pub returns-in-Some-clause-ends : goal.returns-in-Some-clause-ends
returns-in-Some-clause-ends c = c.ends.ensures.head ∙ sym (ends_at_last c.args.inst.now c.args.inst.now.depot c.args.tasks.now c.in-Some.field-0.now c.in-Some.ensures.value)
