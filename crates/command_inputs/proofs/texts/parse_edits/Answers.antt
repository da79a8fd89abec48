use Rattle.std.proofs.Common.{rules}
use Rattle.instance_edits.specs.Texts.{IsEditsText}
use Rattle.command_inputs.proofs.Lines.{few_edits}
use Rattle.command_inputs.proofs.ThreeTexts.{named_line, unread}
use Rattle.command_inputs.proofs.texts.parse_edits.Goals as goal

pub change-requires-clause-few : goal.change-requires-clause-few
change-requires-clause-few c =
    let text : IsEditsText c.args.inst.now c.args.bytes.now c.in-Ok.edits.items = search rules in
    few_edits c.args.inst.now c.args.bytes.now c.in-Ok.edits.items _ text c.requires

pub returns-in-Err-Refused : goal.returns-in-Err-Refused
returns-in-Err-Refused c =
    unread c.edits_are_unique.ensures.apart c.edits_are_unique.ensures.fault c.args.inst.now c.args.bytes.now _ (named_line c.args.inst.now c.args.bytes.now c.read_edits.result _ c.read_edits.ensures.refused (search rules))
