use Rattle.command_inputs.proofs.ThreeTexts.{no_instance}
use Rattle.command_inputs.proofs.texts.parse_texts.Goals as goal

pub returns-in-Ok : goal.returns-in-Ok
returns-in-Ok c = c.with_instance.ensures c.args.file.items c.in-Ok.ensures

pub returns-in-Err : goal.returns-in-Err
returns-in-Err c = no_instance c.args.file.items c.args.cert.items c.args.edits.now c.in-Err.fail c.in-Err.ensures
