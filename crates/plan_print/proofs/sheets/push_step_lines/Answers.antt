use Rattle.std.proofs.Common.{◌≡◌, ◌+◌, append_assoc, arith, refl, take}
use Rattle.std.proofs.lemmas.List.Sums.{sum_by_more}
use Rattle.plan_model.specs.Plans.{no_step, step_load, walk_load, step_at}
use Rattle.plan_print.proofs.StepLines.{step_lines-take}
use Rattle.plan_print.proofs.sheets.push_step_lines.Goals as goal

pub loop-i-preserved : goal.loop-i-preserved
loop-i-preserved c =
    let inst = c.args.inst.now in
    let walk = c.args.walk.now in
    let at = c.step-step.ensures in
    let demand = c.demand_of.ensures in
    let same = c.from-load.ensures in
    let load : c.loop-i.load + c.from-load.result ≡ walk_load inst (take c.loop-i.i walk) + step_load inst (step_at walk c.loop-i.i) = rw (same, demand, at, c.loop-i.invariant.load) refl in
    let more = sum_by_more (step_load inst) walk c.loop-i.i no_step (omega arith) in
    record {
      lines =
          rw (step_lines-take inst c.loop-i.i walk (omega arith), c.in_ok-push_step_line.ensures, load, at, c.loop-i.invariant.lines)
          (simp append_assoc);
      load = omega (arith, load, more);
      small = omega arith;
    }
