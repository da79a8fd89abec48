use Rattle.std.proofs.Common.{arith, subst, sym}
use Rattle.route_pricing.specs.Labels.{labels_at, AreSoundAt, Passes}
use Rattle.route_pricing.proofs.Passing.{set_layer_is, set_keeps, set_all, set_here, joined_sound}
use Rattle.route_pricing.proofs.grid.Grid.pass.Goals as goal

pub returns-then-new-old-clause-on : goal.returns-then-new-old-clause-on
returns-then-new-old-clause-on c =
    let g = c.args.self.now in
    let at = c.args.to in
    let layer = c.args.layer.now in
    let new = c.joined-new.result in
    let joined = c.joined-new.ensures in
    record {
      layer = set_layer_is g layer at new c.requires.layer c.requires.to.in_range joined.two;
      sound = λ load sound. set_all g layer at new c.requires.layer c.requires.to.in_range (AreSoundAt g load) sound
          (joined_sound g c.requires.grid load c.args.from at c.args.length (labels_at layer c.args.from) (labels_at layer at) new joined c.requires.reached
          (sound at c.requires.to.in_range) (sound c.args.from c.requires.from.in_range));
      keeps = set_keeps g layer at new c.requires.layer c.requires.to.in_range joined.keeps;
    }

pub returns-then-new-old-clause-passes : goal.returns-then-new-old-clause-passes
returns-then-new-old-clause-passes c =
    let layer = c.args.layer.now in
    subst (Passes (labels_at layer c.args.from) c.args.length) (sym (set_here c.args.self.now layer c.args.to c.joined-new.result c.requires.layer c.requires.to.in_range)) c.joined-new.ensures.passes

pub returns-clause-passes : goal.returns-clause-passes
returns-clause-passes c =
    let same = c.joined-new.ensures.same (omega (arith, c.if-new-old.false)) (omega (arith, c.if-new-old-2.false)) in
    subst (Passes (labels_at c.args.layer.now c.args.from) c.args.length) same c.joined-new.ensures.passes
