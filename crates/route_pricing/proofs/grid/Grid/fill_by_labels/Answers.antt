use Rattle.std.proofs.Common.{◌≡◌, ◌+◌, ◌∙◌, arith, ap, length, subst, sym}
use Rattle.std.proofs.lemmas.List.{with_items_is}
use Rattle.route_pricing.specs.Partial.{AreFilled}
use Rattle.route_pricing.specs.Legs.{AreLegs}
use Rattle.route_pricing.proofs.grid.Grid.fill_by_labels.Goals as goal

pub loop-load-init : goal.loop-load-init
loop-load-init c =
    let g = c.args.self.now in
    let old = c.requires.rooms in
    let written = with_items_is c.args.rooms.now.legs c.write_legs.new.legs (c.write_legs.auto.legs ∙ c.deref_mut.ensures.len) in
    record {
      filled = c.begin.ensures;
      rooms = record { layer_long = old.layer_long; marks_long = old.marks_long; legs_long = ap length written ∙ c.write_legs.ensures.long; row_long = old.row_long };
      legs = subst (AreLegs g) (sym written) c.write_legs.ensures.legs;
    }

pub returns-clause-filled : goal.returns-clause-filled
returns-clause-filled c =
    let g = c.args.self.now in
    let all : c.loop-load.load ≡ g.inst.capacity + 1 = omega (arith, c.capacity.ensures.value, c.loop-load.auto.load-end, c.loop-load-test.false) in
    subst (λ n. AreFilled g c.loop-load.cells n 0) all c.loop-load.invariant.filled
