use Rattle.command_inputs.proofs.Several.{parsed_of}
use Rattle.command_inputs.proofs.texts.take_instance.Goals as goal

pub returns : goal.returns
returns c = parsed_of c.deref.ensures.value c.parse_instance.ensures
