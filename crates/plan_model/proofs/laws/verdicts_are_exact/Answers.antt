use Rattle.plan_model.proofs.Firsts.{one_verdict, lawful_verdict, lawful_where_nothing_fails, nothing_fails_where_lawful}
use Rattle.plan_model.proofs.laws.verdicts_are_exact.Goals as goal

pub returns-clause-unique : goal.returns-clause-unique
returns-clause-unique c = λ p plan v w. one_verdict p plan v w

pub returns-clause-lawful : goal.returns-clause-lawful
returns-clause-lawful c = λ p plan cost. ((λ verdict. verdict.applies), (λ lawful. lawful_verdict p plan cost lawful.0 lawful.1))

pub returns-clause-complete : goal.returns-clause-complete
returns-clause-complete c = λ p plan. (nothing_fails_where_lawful p plan, lawful_where_nothing_fails p plan)
