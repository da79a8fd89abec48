use Rattle.std.proofs.Common.{◌≡◌, ◌≤◌, max, get_or, sym, subst, arith, inl, inr}
use Rattle.std.proofs.lemmas.Bool.{cases_lt}
use Rattle.matching_duals.specs.Levels.{Adds}
use Rattle.matching_duals.proofs.Running.{adds_none, adds_more, next_gap, all_passed}
use Rattle.matching_duals.proofs.runs.add_ends.Goals as goal

pub loop-end-init : goal.loop-end-init
loop-end-init c = record {
  below = λ k less. absurd (omega (arith, less));
  most = omega arith;
  added = adds_none c.args.inst.now c.args.depths.now 0 c.args.shores.now.items c.requires.joined;
}

pub add_levels_to-requires-clause-gap : goal.add_levels_to-requires-clause-gap
add_levels_to-requires-clause-gap c = λ less.
    next_gap c.args.inst.now c.args.depths.now c.args.ends.now c.args.weight c.loop-end.level c.loop-end.end-index c.requires.long c.requires.ends
    (omega (arith, c.loop-end-test.true)) c.loop-end.invariant.below

pub loop-end-preserved : goal.loop-end-preserved
loop-end-preserved c =
    let p = c.args.inst.now in
    let end = get_or c.args.ends.now c.loop-end.end-index 0 in
    let level = c.loop-end.level in
    let next : c.in_ok-level.level ≡ max level end = c.in_ok-level.ensures.next in
    let most : end ≤ c.args.weight = c.requires.ends.most c.loop-end.end-index (omega (arith, c.loop-end-test.true)) in
    record {
      below = λ k less. elim (cases_lt k c.loop-end.end-index) [
        | inl before ↦ omega (arith, next, c.loop-end.invariant.below k before)
        | inr last ↦
            let same : c.loop-end.end-index ≡ k = omega (arith, last, less) in
            let low : end ≤ c.in_ok-level.level = omega (arith, next) in
            subst (λ j. get_or c.args.ends.now j 0 ≤ c.in_ok-level.level) same low
      ];
      most = omega (arith, next, most, c.loop-end.invariant.most);
      added =
          subst (λ n. Adds p c.args.depths.now 0 n c.args.shores.now.items c.add_levels_to.new.shores.items) (sym next)
          (adds_more p c.args.depths.now 0 level (max level end) c.args.shores.now.items c.loop-end.shores.items c.add_levels_to.new.shores.items
          (omega arith) c.loop-end.invariant.added c.in_ok-level.ensures.added);
    }

pub returns : goal.returns
returns c =
    let passed = all_passed c.args.depths.now c.args.ends.now c.args.weight c.loop-end.level c.requires.ends
    (λ k below. c.loop-end.invariant.below k (omega (arith, below, c.loop-end-test.false))) in
    let same : c.loop-end.level ≡ c.args.weight = omega (arith, passed, c.loop-end.invariant.most) in
    subst (λ n. Adds c.args.inst.now c.args.depths.now 0 n c.args.shores.now.items c.loop-end.shores.items) same c.loop-end.invariant.added
