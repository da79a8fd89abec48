use Rattle.command_inputs.proofs.Certificates.{of_certificate}
use Rattle.command_inputs.proofs.FileReads.{read_stops, read_then}
use Rattle.command_inputs.proofs.reading.read_good.Goals as goal

pub returns-in-Ok-clause-read : goal.returns-in-Ok-clause-read
returns-in-Ok-clause-read g c = read_then (of_certificate c.args.inst.now) c.in-Ok.bytes c.deref.result.now c.parse_good.result c.deref.ensures.value c.in-Ok.ensures.read c.parse_good.ensures

pub returns-in-Err-clause-read : goal.returns-in-Err-clause-read
returns-in-Err-clause-read g c = read_stops c.in-Err.fail c.in-Err.ensures.read
