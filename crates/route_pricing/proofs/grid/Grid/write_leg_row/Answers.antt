use Rattle.std.proofs.Common.{◌≡◌, ◌+◌, ◌*◌, ◌<◌, ◌≤◌, ◌∙◌, slice_set, arith, ap, sym, subst}
use Rattle.std.proofs.lemmas.List.{length-set}
use Rattle.std.proofs.Math.Nat.{mul-le-mul_right}
use Rattle.route_pricing.specs.Partial.{column_task, width}
use Rattle.route_pricing.specs.Legs.{IsLegRow, IsShortLeg, KeepsRows}
use Rattle.route_pricing.proofs.Shortening.{leg_row_more, keeps_more}
use Rattle.route_pricing.proofs.grid.Grid.write_leg_row.Goals as goal

pub loop-before-preserved : goal.loop-before-preserved
loop-before-preserved c =
    let g = c.args.self.now in
    let loop = c.loop-before.invariant in
    let before = c.loop-before.before in
    let short = c.short_leg.result in
    let below : before < 2 * g.inst.required = omega (arith, c.loop-before-test.true, c.width-before-end.ensures) in
    let one = subst (λ d. IsShortLeg g (column_task before) (column_task d) short) c.successor-next.ensures.column c.short_leg.ensures in
    let place : c.args.column * width g ≡ c.args.column * c.width.result = ap (λ n. c.args.column * n) (sym c.width.ensures) in
    record {
      long = length-set _ _ _ ∙ loop.long;
      row = subst (λ n. IsLegRow g c.args.column (before + 1) (slice_set c.loop-before.legs (n + before) short)) place
          (leg_row_more g c.args.column before c.loop-before.legs short loop.long c.requires.column below loop.row one);
      others = subst (λ n. KeepsRows g c.args.column c.args.legs.now (slice_set c.loop-before.legs (n + before) short)) place
          (keeps_more g c.args.column before c.args.legs.now c.loop-before.legs short loop.others);
    }

pub returns-clause-row : goal.returns-clause-row
returns-clause-row c =
    let g = c.args.self.now in
    let all : c.loop-before.before ≡ 2 * g.inst.required = omega (arith, c.width-before-end.ensures, c.loop-before.auto.before-end, c.loop-before-test.false) in
    subst (λ n. IsLegRow g c.args.column n c.loop-before.legs) all c.loop-before.invariant.row

pub bounds-legs-row : goal.bounds-legs-row
bounds-legs-row c =
    let g = c.args.self.now in
    let last : c.args.column + 1 ≤ width g = omega (arith, c.requires.column) in
    omega (arith, c.loop-before.invariant.long, c.loop-before-test.true, c.width-before-end.ensures, ap (λ n. c.args.column * n) c.width.ensures, mul-le-mul_right (width g) last)
