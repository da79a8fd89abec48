use Rattle.std.proofs.Common.{List, subst}
use Rattle.carp_base.specs.declared.edge.Edge.{Edge}
use Rattle.shore_program.specs.Tableaus.{IsLaid}
use Rattle.shore_program.proofs.Laying.{once_after, once_of_all, room_after, room_packs, weighted_after}
use Rattle.shore_program.proofs.packing.lay_all.Goals as goal

pub loop-place-preserved : goal.loop-place-preserved
loop-place-preserved c =
    let cut = c.index-cuts-place.result in
    let before = c.loop-place.shores.items in
    let after = c.lay.new.shores.items in
    let is = c.loop-place.invariant in
    let laid = subst (λ (edges : List Edge). IsLaid edges cut.shore c.loop-place.rooms c.lay.new.rooms before after)
    c.edges-edges.ensures.value c.in_ok-lay.ensures in
    record {
      room = room_after c.args.inst.now.edges cut.shore c.loop-place.rooms c.lay.new.rooms before after is.room laid;
      weighted = weighted_after c.args.inst.now c.args.cuts.now c.loop-place.place cut c.loop-place.rooms c.lay.new.rooms before after
          c.requires.belong c.loop-place-test.true c.index-cuts-place.is is.weighted laid;
      once = once_after c.args.inst.now.edges c.args.cuts.now c.loop-place.place cut c.loop-place.rooms c.lay.new.rooms before after
          c.loop-place-test.true c.index-cuts-place.is is.once laid;
    }

pub returns-clause-packs : goal.returns-clause-packs
returns-clause-packs c = room_packs c.args.inst.now c.loop-place.rooms c.loop-place.shores.items c.loop-place.invariant.room

pub returns-clause-once : goal.returns-clause-once
returns-clause-once c = once_of_all c.args.cuts.now c.loop-place.place c.loop-place.shores.items c.loop-place.invariant.once
