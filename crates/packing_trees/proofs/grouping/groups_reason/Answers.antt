use Rattle.std.proofs.Common.{◌+◌, ap, ◌∙◌}
use Rattle.packing_trees.proofs.Loading.{groups_say}
use Rattle.packing_trees.proofs.grouping.groups_reason.Goals as goal

pub returns : goal.returns
returns c =
    let p = c.args.inst.now in
    let says = rw (c.deref.ensures.value, c.capacity.ensures.value) at c.loads_reason.ensures in
    groups_say p c.args.groups.now c.capacity.ensures.valid c.args.count c.places.result c.in_ok-loads.loads.items (c.if-groups-required.false ∙ c.required-required.ensures.value) c.in_default.ensures
    c.places.ensures.within (λ less. c.places.ensures.all less ∙ ap (λ n. n + 1) c.required-required.ensures.value) c.in_ok-loads.ensures.long c.in_ok-loads.ensures.each c.loads_reason.result says
