use Rattle.std.proofs.Common.{rules}
use Rattle.dat_text.specs.Text.{IsFaultOf}
use Rattle.command_inputs.proofs.Certificates.{bad_instance}
use Rattle.command_inputs.proofs.reading.parse_instance.Goals as goal

pub returns-in-Err-Refused : goal.returns-in-Err-Refused
returns-in-Err-Refused c =
    let fault : IsFaultOf c.args.bytes.now c.in-Err-Refused.fault = c.read_dat.ensures.refused c.in-Err-Refused.fault (search rules) in
    bad_instance c.readings_are_unique.ensures.apart c.readings_are_unique.ensures.fault c.args.bytes.now c.in-Err-Refused.fault fault
