use Rattle.shore_search.specs.Tables.{AreShortBy}
use Rattle.shore_search.proofs.judging.answer.Given as goal

abbrev pub invariant-loop-set : goal.invariant-loop-set
invariant-loop-set l = AreShortBy l.inst l.x l.most l.last l.shores.items
