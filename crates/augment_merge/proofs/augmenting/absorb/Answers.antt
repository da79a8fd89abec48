use Rattle.std.proofs.Common.{◌<◌, true, length, sym, ap, ◌∙◌, arith, ◌-◌}
use Rattle.std.proofs.lemmas.List.{length-set}
use Rattle.augment_merge.proofs.Absorption.{at_end, flags_more, flags_again, no_more, on_absorbed, on_passed, on_served, own_now, own_still, serving, unserved, same_says}
use Rattle.augment_merge.proofs.augmenting.absorb.Goals as goal
use Rattle.augment_merge.proofs.augmenting.absorb.Goals.{then-not-step+else-not-absorbs, else-not-step}

pub loop-i-preserved-then-not-absorbs : goal.loop-i-preserved-then-not-absorbs
loop-i-preserved-then-not-absorbs c =
    let loop = c.loop-i.invariant in
    record {
      load_in = loop.load_in;
      long = loop.long;
      own = loop.own;
      fewer = loop.fewer;
      says = loop.says;
      goes = λ taken flags.
          sym (on_passed c.args.inst.now taken c.loop-i.tour c.loop-i.load c.args.walk.now c.loop-i.i (omega (arith, c.loop-i-test.true, c.len-i-end.ensures.value)) c.step-step.result c.step-step.ensures
          (unserved c.step-step.result.served c.if-not-step.true) (sym (c.absorbs.ensures.exact _ (loop.says taken flags)) ∙ c.if-not-absorbs.true))
          ∙ loop.goes taken flags;
    }

pub loop-i-preserved : goal.loop-i-preserved
loop-i-preserved c =
    let p = c.args.inst.now in
    let walk = c.args.walk.now in
    let loop = c.loop-i.invariant in
    let i = c.loop-i.i in
    let s = c.step-step.result in
    let below : i < length walk = omega (arith, c.loop-i-test.true, c.len-i-end.ensures.value) in
    elim c.if-not-step.branch [
      | then-not-step+else-not-absorbs w ↦
          let required = w.absorbs.ensures.required w.if-not-absorbs.false in
          let fits = w.absorbs.ensures.fits w.if-not-absorbs.false in
          let flag : s.edge - 1 < length c.loop-i.served = omega (arith, required.from_one, required.in_range, loop.long) in
          rw (w.served-is, w.load-is, ap (λ x. x.demand) w.edge-load.ensures, c.in_ok-push.ensures) record {
            load_in = fits;
            long = length-set c.loop-i.served (s.edge - 1) true ∙ loop.long;
            own = own_still p c.loop-i.served (s.edge - 1) walk flag loop.own;
            fewer = let less = no_more c.loop-i.served (s.edge - 1) flag in let before = loop.fewer in omega arith;
            says = λ taken flags. same_says p _ taken c.loop-i.tour _ (flags_more p c.loop-i.served _ _ (loop.says taken flags) required);
            goes = λ taken flags.
                sym (on_absorbed p taken c.loop-i.tour c.loop-i.load walk i below s c.step-step.ensures (unserved s.served w.if-not-step.true) (sym (w.absorbs.ensures.exact _ (loop.says taken flags)) ∙ w.if-not-absorbs.false)) ∙ loop.goes taken flags;
          }
      | else-not-step w ↦
          let is = serving s.served w.if-not-step.false in
          rw (w.served-is, w.load-is, c.in_ok-push.ensures) record {
            load_in = loop.load_in;
            long = loop.long;
            own = loop.own;
            fewer = loop.fewer;
            says = λ taken flags. same_says p _ taken c.loop-i.tour _ (flags_again p c.loop-i.served _ _ (loop.says taken flags) (own_now p c.loop-i.served walk i s c.step-step.ensures below loop.own is));
            goes = λ taken flags. sym (on_served p taken c.loop-i.tour c.loop-i.load walk i below s c.step-step.ensures is) ∙ loop.goes taken flags;
          }
    ]

pub returns-clause-tour : goal.returns-clause-tour
returns-clause-tour c =
    let loop = c.loop-i.invariant in
    λ taken flags. record {
      tasks = at_end c.args.inst.now taken c.loop-i.tour c.loop-i.load c.args.load c.args.walk.now c.loop-i.i (omega (arith, c.loop-i-test.false, c.len-i-end.ensures.value)) (loop.goes taken flags);
      flags = loop.says taken flags;
    }
