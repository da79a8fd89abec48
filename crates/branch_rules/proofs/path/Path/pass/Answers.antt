use Rattle.std.proofs.lemmas.Result.{on_ok_weaker}
use Rattle.branch_rules.proofs.path.Path.pass.Goals as goal

pub returns-in-Price-clause-inside : goal.returns-in-Price-clause-inside
returns-in-Price-clause-inside c = on_ok_weaker c.go_on.result (λ kept s path node. kept s path) c.go_on.ensures.inside

pub returns-in-Void-clause-inside : goal.returns-in-Void-clause-inside
returns-in-Void-clause-inside c = on_ok_weaker c.go_on-in-Void.result (λ kept s path node. kept s path) c.go_on-in-Void.ensures.inside

pub returns-in-Fixed-clause-inside : goal.returns-in-Fixed-clause-inside
returns-in-Fixed-clause-inside c = on_ok_weaker c.go_on-in-Fixed.result (λ kept s path node. kept s path) c.go_on-in-Fixed.ensures.inside
