use Rattle.std.proofs.Common.{rules}
use Rattle.command_inputs.proofs.Certificates.{faulty}
use Rattle.command_inputs.proofs.reading.parse_good.Goals as goal

pub returns-in-Err-Refused : goal.returns-in-Err-Refused
returns-in-Err-Refused c =
    faulty c.texts_are_unique.ensures.apart c.texts_are_unique.ensures.fault c.args.bytes.now _ (c.read_cert.ensures.refused _ (search rules))
