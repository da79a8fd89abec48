use Rattle.std.proofs.Common.{[]}
use Rattle.carp_cli.proofs.examples.facts_of_a_run_fail.Goals as goal

pub returns-clause-kept_none : goal.returns-clause-kept_none
returns-clause-kept_none c = λ same. let held = same [] in cc
