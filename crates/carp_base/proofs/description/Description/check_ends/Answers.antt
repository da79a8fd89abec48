use Rattle.carp_base.proofs.Ends.{ends_clear, ends_first_required, ends_first_others}
use Rattle.carp_base.proofs.description.Description.check_ends.Goals as goal

pub returns-in-Some : goal.returns-in-Some
returns-in-Some c =
    let d = c.args.self.now in ends_first_required d.vertices d.depot d.capacity d.required.now d.others.now c.in-Some.i c.requires c.in-Some.ensures.value

pub returns-in-Some-first_outside : goal.returns-in-Some-first_outside
returns-in-Some-first_outside c =
    let d = c.args.self.now in
    let then = c.in-Some-first_outside in
    ends_first_others d.vertices d.depot d.capacity d.required.now d.others.now then.i c.requires c.in_default.ensures.value then.ensures.value

pub returns-in-None : goal.returns-in-None
returns-in-None c =
    let d = c.args.self.now in
    ends_clear d.vertices d.depot d.capacity d.required.now d.others.now c.requires c.in_default.ensures.value c.in-None.ensures.value
