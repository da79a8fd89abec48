use Rattle.command_inputs.proofs.ThreeTexts.{all_good, no_edits}
use Rattle.command_inputs.proofs.texts.with_certificate.Goals as goal

pub returns-in-Ok : goal.returns-in-Ok
returns-in-Ok c = λ file text read certified. all_good file text c.args.edits.now c.readings_are_unique.ensures.instance c.args.inst read c.args.cert certified c.in-Ok.changed c.in-Ok.ensures

pub returns-in-Err : goal.returns-in-Err
returns-in-Err c = λ file text read certified. no_edits file text c.args.edits.now c.readings_are_unique.ensures.instance c.args.inst read c.args.cert certified c.in-Err.fail c.in-Err.ensures
