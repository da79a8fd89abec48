-- The code of each status.
use Rattle.std.specs.Prelude.{ℕ}
use Rattle.command_inputs.specs.declared.status.Status.{Status}
use Rattle.command_inputs.specs.declared.status.Status.TheVariants.{Proven, Gap, Accepted, Done, Rejected, BadUsage, BadInstance, BadCertificate, ReadFault, WriteFault, Memory, TooLong, NotJoined, BadEdit}

abbrev pub code_of : Status → ℕ
code_of Proven = 0
code_of Accepted = 0
code_of Done = 0
code_of Gap = 1
code_of (Rejected reason) = 2
code_of BadUsage = 3
code_of (BadInstance fault) = 4
code_of (BadCertificate fault) = 5
code_of ReadFault = 6
code_of WriteFault = 7
code_of Memory = 8
code_of (TooLong limit) = 9
code_of (NotJoined edge) = 10
code_of (BadEdit fault) = 11
