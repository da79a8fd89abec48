use Rattle.branch_rules.specs.Paths.{IsPath}
use Rattle.certificate_tests.proofs.branch_rules_tests.whole.Given as goal

abbrev pub invariant-loop-part : goal.invariant-loop-part
invariant-loop-part l = IsPath l.path
