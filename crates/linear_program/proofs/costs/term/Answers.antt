use Rattle.std.proofs.Common.{◌≤◌, ◌^◌, ◌*ℤ◌, FitsSigned, w64, arith, rules}
use Rattle.std.specs.Int.{w128}
use Rattle.std.specs.Int.RustNames.{unsigned_abs}
use Rattle.std.proofs.lemmas.Int.{fits_signed_mul, to_z-of_z}
use Rattle.linear_program.proofs.Products.{product_high, product_low}
use Rattle.linear_program.proofs.costs.term.Goals as goal

pub returns-clause-high : goal.returns-clause-high
returns-clause-high c =
    let a = c.from.result in
    let b = c.from-2.result in
    let small : unsigned_abs a ≤ 2 ^ 61 = rw (c.from.ensures, to_z-of_z w64 c.args.value c.ranges.value) c.requires.value in
    let small' : unsigned_abs b ≤ 2 ^ 15 = rw (c.from-2.ensures, to_z-of_z w64 c.args.coefficient c.ranges.coefficient) c.requires.coefficient in
    let fits_a : FitsSigned w128 a = search rules in
    let fits_b : FitsSigned w128 b = search rules in
    let fits = fits_signed_mul w128 a b (2 ^ 61) (2 ^ 15) small small' (omega arith) in
    rw (to_z-of_z w128 a fits_a, to_z-of_z w128 b fits_b, to_z-of_z w128 (a *ℤ b) fits) (product_high a b (2 ^ 61) (2 ^ 15) small small')

pub returns-clause-low : goal.returns-clause-low
returns-clause-low c =
    let a = c.from.result in
    let b = c.from-2.result in
    let small : unsigned_abs a ≤ 2 ^ 61 = rw (c.from.ensures, to_z-of_z w64 c.args.value c.ranges.value) c.requires.value in
    let small' : unsigned_abs b ≤ 2 ^ 15 = rw (c.from-2.ensures, to_z-of_z w64 c.args.coefficient c.ranges.coefficient) c.requires.coefficient in
    let fits_a : FitsSigned w128 a = search rules in
    let fits_b : FitsSigned w128 b = search rules in
    let fits = fits_signed_mul w128 a b (2 ^ 61) (2 ^ 15) small small' (omega arith) in
    rw (to_z-of_z w128 a fits_a, to_z-of_z w128 b fits_b, to_z-of_z w128 (a *ℤ b) fits) (product_low a b (2 ^ 61) (2 ^ 15) small small')
