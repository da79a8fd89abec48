use Rattle.instance_edits.proofs.ExampleTexts.{unread, unknown, not_first, not_bad, not_unknown, not_unread}
use Rattle.instance_edits.proofs.examples.a_first_bad_line.Goals as goal

pub returns-clause-unread : goal.returns-clause-unread
returns-clause-unread c = unread

pub returns-clause-not_first : goal.returns-clause-not_first
returns-clause-not_first c = not_first

pub returns-clause-nothing : goal.returns-clause-nothing
returns-clause-nothing c = not_bad 2

pub returns-clause-unknown : goal.returns-clause-unknown
returns-clause-unknown c = unknown

pub returns-clause-known : goal.returns-clause-known
returns-clause-known c = not_unknown

pub returns-clause-fault : goal.returns-clause-fault
returns-clause-fault c = unknown

pub returns-clause-other_fault : goal.returns-clause-other_fault
returns-clause-other_fault c = not_unread

pub returns-clause-refusal : goal.returns-clause-refusal
returns-clause-refusal c = unread

pub returns-clause-no_refusal : goal.returns-clause-no_refusal
returns-clause-no_refusal c = not_bad 1
