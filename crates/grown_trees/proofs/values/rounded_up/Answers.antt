use mir.Syntax.{w128}
use Rattle.std.proofs.Common.{ap, arith, ◌∙◌, ℤ, pos, ◌≤ℤ◌}
use Rattle.std.proofs.lemmas.Int.{ints, to_z-of_z}
use Rattle.std.specs.Int.RustNames.{unsigned_abs}
use Rattle.grown_trees.proofs.Rounding.{rounded_up}
use Rattle.grown_trees.proofs.values.rounded_up.Goals as goal

pub returns : goal.returns
returns c =
    let above : pos 0 ≤ℤ c.args.value = omega (arith, ints, c.if-value-le0.false, to_z-of_z w128 c.args.value c.ranges.value) in
    rounded_up c.args.value c.unsigned_abs.result c.from.result c.div_ceil-shown.result c.from-2.result c.min.result c.args.unit above c.requires.unit
    (c.unsigned_abs.ensures.value ∙ ap (λ (z : ℤ). unsigned_abs z) (to_z-of_z w128 c.args.value c.ranges.value)) c.from.ensures c.div_ceil-shown.ensures c.from-2.ensures c.min.ensures
