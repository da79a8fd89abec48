use Rattle.std.proofs.Common.{◌≡◌, List, Bool, length, subst, sym, arith}
use Rattle.edge_components.specs.Labels.{AreKept}
use Rattle.parity_cuts.specs.OddComponents.{is_odd_border}
use Rattle.parity_cuts.proofs.Odd.{whole}
use Rattle.parity_cuts.proofs.finding.odd_labels.Goals as goal

pub returns : goal.returns
returns c = λ x.
    let kept = c.mark_odd.ensures x in
    let long : c.in_ok-marks.marks.len ≡ length c.mark_odd.new.marks = omega (arith, c.in_ok-marks.ensures.len, kept.long, c.vertices.ensures.value) in
    subst (λ (marks : List Bool). AreKept c.args.inst.now x c.args.labels.now is_odd_border marks) (sym (whole c.in_ok-marks.marks.len c.mark_odd.new.marks c.in_ok-marks.marks.items long)) kept
