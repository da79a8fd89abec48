use Rattle.std.proofs.Common.{arith, inl, inr, refl}
use Rattle.command_line.specs.Commands.{edits_at}
use Rattle.command_inputs.specs.Edited.{AreBadTexts, AreGoodTexts, IsEditedBy}
use Rattle.command_inputs.proofs.Given.{founded_by}
use Rattle.command_inputs.proofs.Results.{of_ok}
use Rattle.command_inputs.proofs.Several.{first_stops, made_of, others_decide, parsed_of, tried_alone, tried_none}
use Rattle.command_inputs.proofs.ThreeTexts.{of_texts}
use Rattle.command_inputs.proofs.edit_reading.read_third.Goals as goal

pub returns-in-Ok-clause-made : goal.returns-in-Ok-clause-made
returns-in-Ok-clause-made g c = λ told.
    let parsed = parsed_of c.deref.ensures.value c.parse_texts.ensures in
    made_of (λ contents b x. IsEditedBy c.args.text.items c.args.cert.items b x) c.in-Ok.bytes c.parse_texts.result c.in-Ok.ensures.read told refl parsed.made

pub returns-in-Ok-clause-founded : goal.returns-in-Ok-clause-founded
returns-in-Ok-clause-founded g c =
    let parsed = parsed_of c.deref.ensures.value c.parse_texts.ensures in
    let now = g.H.Shelf.given c.read_file.new.shelf in
    founded_by {P = λ b x. IsEditedBy c.args.text.items c.args.cert.items b x} (edits_at c.args.edits.now) (g.H.Shelf.given c.args.shelf.now) now now c.in-Ok.bytes c.parse_texts.result (omega arith) c.in-Ok.ensures.read.founded
    (λ b x is. is) parsed.made

pub returns-in-Ok-clause-sound : goal.returns-in-Ok-clause-sound
returns-in-Ok-clause-sound g c = of_ok c.parse_texts.result c.parse_texts.ensures.made (λ x is. is.is)

pub returns-in-Ok-clause-tried : goal.returns-in-Ok-clause-tried
returns-in-Ok-clause-tried g c =
    let parsed = parsed_of c.deref.ensures.value c.parse_texts.ensures in
    tried_alone c.parse_texts.result
    (others_decide (AreBadTexts c.args.text.items c.args.cert.items) (AreGoodTexts c.args.text.items c.args.cert.items) c.in-Ok.bytes c.parse_texts.result
    c.in-Ok.ensures.read (tried_none (λ status bad. inr (of_texts c.args.text.items c.args.cert.items c.in-Ok.bytes.items status bad)) c.parse_texts.result parsed) c.in-Ok.ensures.looks (λ name. omega arith) c.in-Ok.ensures.given)

pub returns-in-Err-clause-tried : goal.returns-in-Err-clause-tried
returns-in-Err-clause-tried g c =
    tried_alone {H = ⊥} _ (first_stops (AreBadTexts c.args.text.items c.args.cert.items) (AreGoodTexts c.args.text.items c.args.cert.items) (λ status is. inl is) c.in-Err.fail c.in-Err.ensures.read)
