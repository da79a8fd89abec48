-- What is written for an answer that has no report.
use Rattle.std.specs.Prelude.{ℕ, ◌++◌, List, [], codes, decimal}
use Rattle.plan_print.specs.RefusalLines.{instance_fault_line, certificate_fault_line, edit_fault_line, rejection_line}
use Rattle.command_inputs.specs.declared.status.Status.{Status}
use Rattle.command_inputs.specs.declared.status.Status.TheVariants.{Proven, Gap, Accepted, Done, Rejected, BadUsage, BadInstance, BadCertificate, ReadFault, WriteFault, Memory, TooLong, NotJoined, BadEdit}

unfoldable pub usage_text : List ℕ
usage_text = codes "usage: carp solve FILE CERT [--turns N] [--seed N]\n       carp check FILE CERT\n       carp sheet FILE CERT\n       carp make FILE [--seed N]\n       carp drill [--turns N] [--seed N]\n       carp upgrade FILE CERT NEWCERT\n       carp postman FILE\n       carp fleet FILE [--turns N]\n       carp edit FILE CERT EDITS NEWFILE NEWCERT\n       carp improve FILE CERT NEWCERT [--turns N] [--seed N]\n"

unfoldable pub limit_line : ℕ → List ℕ
limit_line limit = codes "too long: more than " ++ decimal limit ++ codes " bytes\n"

unfoldable pub apart_line : ℕ → List ℕ
apart_line edge = codes "not joined: edge " ++ decimal edge ++ codes "\n"

-- the text of an answer that has no report
abbrev pub refusal_text : Status → List ℕ
refusal_text BadUsage = usage_text
refusal_text (BadInstance fault) = instance_fault_line fault
refusal_text (BadCertificate fault) = certificate_fault_line fault
refusal_text (Rejected reason) = rejection_line reason
refusal_text ReadFault = codes "read fault\n"
refusal_text (TooLong limit) = limit_line limit
refusal_text (NotJoined edge) = apart_line edge
refusal_text (BadEdit fault) = edit_fault_line fault
refusal_text Memory = []
refusal_text WriteFault = []
refusal_text Accepted = []
refusal_text Done = []
refusal_text Proven = []
refusal_text Gap = []

-- the answers that have a report
abbrev pub HasReport : Status → Type 0
HasReport Proven = Unit {0}
HasReport Gap = Unit {0}
HasReport Accepted = Unit {0}
HasReport Done = Unit {0}
HasReport status = ⊥
