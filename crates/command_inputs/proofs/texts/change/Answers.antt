use Rattle.std.proofs.Common.{◌≡◌, rules}
use Rattle.carp_base.specs.Problem.{IsValid}
use Rattle.instance_edits.specs.Edits.{edited}
use Rattle.command_inputs.proofs.ThreeTexts.{changed, named_fault, refused}
use Rattle.command_inputs.proofs.texts.change.Goals as goal

pub returns-in-Ok : goal.returns-in-Ok
returns-in-Ok c =
    let valid : IsValid (edited c.args.inst.now c.args.edits.items) = search rules in
    let after : c.in-Ok.after ≡ edited c.args.inst.now c.args.edits.items = search rules in
    changed c.edits_are_unique.ensures.edits c.edits_are_unique.ensures.apart c.valid_where_no_fault.ensures c.args.inst.now c.args._bytes.now
    (record { edits = c.args.edits; after = c.in-Ok.after }) (record { text = c.requires.text; valid = valid; after = after })

pub returns : goal.returns
returns c =
    refused c.edits_are_unique.ensures.edits c.edits_are_unique.ensures.apart c.valid_where_no_fault.ensures c.args.inst.now c.args._bytes.now c.args.edits.items _ c.requires.text (named_fault c.args.inst.now c.deref.result.now c.args.edits.items c.deref.ensures.value c.edited.result _ c.edited.ensures.refused (search rules))
