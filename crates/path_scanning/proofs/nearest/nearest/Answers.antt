use Rattle.std.proofs.Common.{◌+◌, ◌≤◌, sym, subst, ap, arith}
use Rattle.path_scanning.specs.Choosing.{FindsFirst}
use Rattle.path_scanning.specs.Scans.{ScanMoment}
use Rattle.path_scanning.proofs.Finding.{found_first, found_better, found_same, fits_now, unfit_served}
use Rattle.path_scanning.proofs.nearest.nearest.Goals as goal
use Rattle.path_scanning.proofs.nearest.nearest.Goals.{then-not-served-edge+then-load-edge+in-Some, then-not-served-edge+then-load-edge+in-None, else-not-served-edge, else-not-served-edge-via-then-not-served-edge+else-load-edge, else-not-served-edge-via-else-not-served-edge}

pub loop-edge-preserved : goal.loop-edge-preserved
loop-edge-preserved c =
    let p = c.args.inst.now in
    let m : ScanMoment = record { served = c.args.served.now; at = c.args.at; load = c.args.load } in
    let tie = c.tie-tie.result in
    let e = c.loop-edge.edge in
    let valid = c.capacity.ensures.valid in
    let from_one : 1 ≤ e = omega arith in
    let in_range : e ≤ p.required = omega (arith, c.required-edge-end.ensures.value) in
    let goes = FindsFirst p tie m (e + 1) in
    elim c.if-not-served-edge.branch [
      | then-not-served-edge+then-load-edge+in-Some w ↦
          let fits = fits_now p valid tie m e from_one in_range w.if-not-served-edge.true (omega (arith, w.if-load-edge.true, w.capacity-then-not-served-edge.ensures.value, ap (λ x. x.demand) w.edge.ensures)) in
          let so_far = subst (FindsFirst p tie m e) w.in-Some.is c.loop-edge.invariant in
          subst goes (sym w.best-is)
          (found_better p valid tie m e fits w.measure-forward.result w.measure-backward.result w.first_of-next.result w.measure-forward.ensures.task w.measure-backward.ensures.task
          w.measure-forward.ensures.measured w.measure-backward.ensures.measured w.first_of-next.ensures w.in-Some.found w.first_of.result so_far w.first_of.ensures)
      | then-not-served-edge+then-load-edge+in-None w ↦
          let fits = fits_now p valid tie m e from_one in_range w.if-not-served-edge.true (omega (arith, w.if-load-edge.true, w.capacity-then-not-served-edge.ensures.value, ap (λ x. x.demand) w.edge.ensures)) in
          let so_far = subst (FindsFirst p tie m e) w.in-None.is c.loop-edge.invariant in
          subst goes (sym w.best-is)
          (found_first p valid tie m e fits w.measure-forward.result w.measure-backward.result w.first_of-next.result w.measure-forward.ensures.task w.measure-backward.ensures.task
          w.measure-forward.ensures.measured w.measure-backward.ensures.measured w.first_of-next.ensures so_far)
      | else-not-served-edge w ↦ elim w.else-not-served-edge.branch [
        | else-not-served-edge-via-then-not-served-edge+else-load-edge w' ↦
            subst goes (sym w.best-is)
            (found_same p valid tie m e (λ fits. let room = fits.room in omega (arith, room, w'.if-load-edge.false, w'.capacity-then-not-served-edge.ensures.value, ap (λ x. x.demand) w'.edge.ensures)) c.loop-edge.best c.loop-edge.invariant)
        | else-not-served-edge-via-else-not-served-edge w' ↦
            subst goes (sym w.best-is) (found_same p valid tie m e (unfit_served p valid tie m e from_one w'.if-not-served-edge.false) c.loop-edge.best c.loop-edge.invariant)
      ]
    ]
