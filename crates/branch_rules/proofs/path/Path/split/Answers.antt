use Rattle.std.proofs.lemmas.Result.{on_ok_weaker}
use Rattle.branch_rules.proofs.Entering.{in_after, waits_first}
use Rattle.branch_rules.proofs.path.Path.split.Goals as goal

pub returns-clause-inside : goal.returns-clause-inside
returns-clause-inside c = on_ok_weaker c.enter.result (λ enters s path first second. in_after _ _ _ _ enters s path first second) c.enter.ensures

pub returns-clause-waits : goal.returns-clause-waits
returns-clause-waits c = on_ok_weaker c.enter.result (λ enters. waits_first _ _ _ _ enters c.requires.path.even c.requires.goes) c.enter.ensures
