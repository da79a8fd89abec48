use Rattle.command_inputs.proofs.ThreeTexts.{no_certificate}
use Rattle.command_inputs.proofs.texts.with_instance.Goals as goal

pub returns-in-Ok : goal.returns-in-Ok
returns-in-Ok c = λ file read. c.with_certificate.ensures file c.args.cert.items read c.in-Ok.ensures

pub returns-in-Err : goal.returns-in-Err
returns-in-Err c = λ file read. no_certificate file c.args.cert.items c.args.edits.now c.readings_are_unique.ensures.instance c.args.inst read c.in-Err.fail c.in-Err.ensures
