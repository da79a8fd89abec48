use Rattle.group_plans.proofs.SmallPackings.{all_in_one, two_groups, each_alone, no_groups}
use Rattle.group_plans.proofs.examples.what_packs.Goals as goal

pub returns-clause-all_in_one : goal.returns-clause-all_in_one
returns-clause-all_in_one c = all_in_one

pub returns-clause-two : goal.returns-clause-two
returns-clause-two c = two_groups

pub returns-clause-each_alone : goal.returns-clause-each_alone
returns-clause-each_alone c = each_alone

pub returns-clause-nothing : goal.returns-clause-nothing
returns-clause-nothing c = no_groups
