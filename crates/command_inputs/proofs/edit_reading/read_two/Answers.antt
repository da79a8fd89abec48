use Rattle.std.proofs.Common.{inl}
use Rattle.std.proofs.Math.Path.{fun_ext}
use Rattle.command_line.specs.Commands.{certificate_at}
use Rattle.command_inputs.specs.Files.{GivenIn, HeldIn}
use Rattle.command_inputs.specs.Stages.{AreOfThird, IsBadThird, IsGoodThird}
use Rattle.command_inputs.proofs.Given.{founded_by, third_since}
use Rattle.command_inputs.proofs.Order.{rose_later}
use Rattle.command_inputs.proofs.Several.{first_stops, made_of, others_decide, same_tried}
use Rattle.command_inputs.proofs.edit_reading.read_two.Goals as goal

pub returns-in-Ok-clause-made : goal.returns-in-Ok-clause-made
returns-in-Ok-clause-made g c = λ told.
    made_of (λ contents b x. AreOfThird c.args.text.items b c.args.edits.now (HeldIn contents) x) c.in-Ok.cert c.read_third.result c.in-Ok.ensures.read told (fun_ext (c.in-Ok.ensures.contents told)) (c.read_third.ensures.made told)

pub returns-in-Ok-clause-founded : goal.returns-in-Ok-clause-founded
returns-in-Ok-clause-founded g c =
    let before = g.H.Shelf.given c.args.shelf.now in
    let mid = g.H.Shelf.given c.read_file.new.shelf in
    let now = g.H.Shelf.given c.read_third.new.shelf in
    founded_by {P = λ b x. AreOfThird c.args.text.items b c.args.edits.now (GivenIn mid now) x} (certificate_at c.args.cert.now) before mid now c.in-Ok.cert c.read_third.result c.read_third.ensures.given c.in-Ok.ensures.read.founded
    (λ b x is. third_since c.args.text.items b c.args.edits.now x before mid now c.in-Ok.ensures.given is) c.read_third.ensures.founded

pub returns-in-Ok-clause-tried : goal.returns-in-Ok-clause-tried
returns-in-Ok-clause-tried g c =
    let contents = g.H.Shelf.contents c.args.shelf.now in
    let file = c.args.text.items in
    let cert = c.in-Ok.cert.items in
    let others = same_tried (λ contents status. IsBadThird file cert c.args.edits.now contents status) (λ contents. IsGoodThird file cert c.args.edits.now contents) c.read_third.result
    (λ told. fun_ext (c.in-Ok.ensures.contents told)) (λ told rose. rose_later _ _ _ (c.in-Ok.ensures.looks c.args.edits.now) rose) c.read_third.ensures.tried in
    others_decide (λ b. IsBadThird file b c.args.edits.now contents) (λ b. IsGoodThird file b c.args.edits.now contents) c.in-Ok.cert c.read_third.result
    c.in-Ok.ensures.read others c.in-Ok.ensures.looks c.read_third.ensures.looks c.in-Ok.ensures.given

pub returns-in-Err-clause-tried : goal.returns-in-Err-clause-tried
returns-in-Err-clause-tried g c =
    let contents = g.H.Shelf.contents c.args.shelf.now in
    let file = c.args.text.items in
    first_stops (λ b. IsBadThird file b c.args.edits.now contents) (λ b. IsGoodThird file b c.args.edits.now contents) (λ status is. inl is) c.in-Err.fail c.in-Err.ensures.read
