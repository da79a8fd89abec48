use Rattle.group_search.specs.Tables.{AreViolatedBy}
use Rattle.group_search.specs.Violation.{tolerance}
use Rattle.group_search.proofs.judging.answer.Given as goal

abbrev pub invariant-loop-set : goal.invariant-loop-set
invariant-loop-set l = AreViolatedBy l.inst l.flow (tolerance l.effort) l.most l.last l.groups.items
