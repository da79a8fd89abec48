use Rattle.std.proofs.Common.{inl}
use Rattle.std.proofs.Math.Path.{fun_ext}
use Rattle.command_line.specs.Commands.{instance_at}
use Rattle.command_inputs.specs.Files.{GivenIn, HeldIn}
use Rattle.command_inputs.specs.Stages.{AreBadTwo, AreGoodTwo, AreOfTwo}
use Rattle.command_inputs.proofs.Given.{founded_by, two_since}
use Rattle.command_inputs.proofs.Order.{unread_later}
use Rattle.command_inputs.proofs.Several.{first_stops, made_of, others_decide, same_tried}
use Rattle.command_inputs.proofs.edit_reading.read_edited.Goals as goal

pub returns-in-Ok-clause-made : goal.returns-in-Ok-clause-made
returns-in-Ok-clause-made g c = λ told.
    made_of (λ contents a x. AreOfTwo a c.args.cert.now c.args.edits.now (HeldIn contents) x) c.in-Ok.text c.read_two.result c.in-Ok.ensures.read told (fun_ext (c.in-Ok.ensures.contents told)) (c.read_two.ensures.made told)

pub returns-in-Ok-clause-founded : goal.returns-in-Ok-clause-founded
returns-in-Ok-clause-founded g c =
    let before = g.H.Shelf.given c.args.shelf.now in
    let mid = g.H.Shelf.given c.read_file.new.shelf in
    let now = g.H.Shelf.given c.read_two.new.shelf in
    founded_by {P = λ a x. AreOfTwo a c.args.cert.now c.args.edits.now (GivenIn mid now) x} (instance_at c.args.file.now) before mid now c.in-Ok.text c.read_two.result c.read_two.ensures.given c.in-Ok.ensures.read.founded
    (λ a x is. two_since a c.args.cert.now c.args.edits.now x before mid now c.in-Ok.ensures.given is) c.read_two.ensures.founded

pub returns-in-Ok-clause-tried : goal.returns-in-Ok-clause-tried
returns-in-Ok-clause-tried g c =
    let contents = g.H.Shelf.contents c.args.shelf.now in
    let text = c.in-Ok.text.items in
    let others = same_tried (λ contents status. AreBadTwo text c.args.cert.now c.args.edits.now contents status) (λ contents. AreGoodTwo text c.args.cert.now c.args.edits.now contents) c.read_two.result
    (λ told. fun_ext (c.in-Ok.ensures.contents told))
    (λ told unread. unread_later c.args.cert.now c.args.edits.now _ _ (g.H.Shelf.failed_looks c.read_two.new.shelf) (fun_ext (c.in-Ok.ensures.contents told)) c.in-Ok.ensures.looks unread) c.read_two.ensures.tried in
    others_decide (λ a. AreBadTwo a c.args.cert.now c.args.edits.now contents) (λ a. AreGoodTwo a c.args.cert.now c.args.edits.now contents) c.in-Ok.text c.read_two.result
    c.in-Ok.ensures.read others c.in-Ok.ensures.looks c.read_two.ensures.looks c.in-Ok.ensures.given

pub returns-in-Err-clause-tried : goal.returns-in-Err-clause-tried
returns-in-Err-clause-tried g c =
    let contents = g.H.Shelf.contents c.args.shelf.now in
    first_stops (λ a. AreBadTwo a c.args.cert.now c.args.edits.now contents) (λ a. AreGoodTwo a c.args.cert.now c.args.edits.now contents) (λ status is. inl is) c.in-Err.fail c.in-Err.ensures.read
