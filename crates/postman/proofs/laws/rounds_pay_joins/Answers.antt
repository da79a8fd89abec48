use Rattle.postman.proofs.Paying.{round_pays}
use Rattle.postman.proofs.laws.rounds_pay_joins.Goals as goal

pub returns : goal.returns
returns c = λ p value walk valid join round. round_pays p walk valid round value join
