use Rattle.command_inputs.proofs.FileReads.{read_stops, read_then}
use Rattle.command_inputs.proofs.LaidRounds.{of_round}
use Rattle.command_inputs.proofs.rounds.read_round.Goals as goal

pub returns-in-Ok-clause-read : goal.returns-in-Ok-clause-read
returns-in-Ok-clause-read g c = read_then of_round c.in-Ok.bytes c.deref.result.now c.parse_round.result c.deref.ensures.value c.in-Ok.ensures.read c.parse_round.ensures

pub returns-in-Err-clause-read : goal.returns-in-Err-clause-read
returns-in-Err-clause-read g c = read_stops c.in-Err.fail c.in-Err.ensures.read
