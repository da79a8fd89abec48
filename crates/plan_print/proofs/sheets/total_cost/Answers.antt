use Rattle.std.proofs.Common.{[], arith, sym, ◌∙◌, ap}
use Rattle.std.specs.List.{sum_by}
use Rattle.std.proofs.lemmas.List.{take_all}
use Rattle.std.proofs.lemmas.List.Sums.{sum_by_more}
use Rattle.plan_model.specs.Plans.{walk_cost, step_cost}
use Rattle.plan_print.proofs.Costs.{small_walk_at, sum_by_walks}
use Rattle.plan_print.proofs.TourLines.{lawful_on_edges}
use Rattle.plan_print.proofs.sheets.total_cost.Goals as goal

pub cost_of-sum-requires : goal.cost_of-sum-requires
cost_of-sum-requires c = rw c.walk.ensures.value (lawful_on_edges c.args.inst.now c.args.plan.now c.requires c.loop-i.i (omega arith))

pub overflow_add-sum : goal.overflow_add-sum
overflow_add-sum c =
    let small = small_walk_at c.args.inst.now c.args.plan.now c.loop-i.i c.walk.result.now c.validity.ensures c.requires (omega arith) c.walk.ensures.value c.walk.ensures.short in
    omega (arith, small)

pub loop-i-preserved : goal.loop-i-preserved
loop-i-preserved c =
    let small = small_walk_at c.args.inst.now c.args.plan.now c.loop-i.i c.walk.result.now c.validity.ensures c.requires (omega arith) c.walk.ensures.value c.walk.ensures.short in
    record {
      value = let more = sum_by_more (walk_cost c.args.inst.now) c.args.plan.now c.loop-i.i [] (omega arith) in
          let cost = ap (walk_cost c.args.inst.now) c.walk.ensures.value in
          omega (arith, more, cost);
      small = omega (arith, small);
    }

pub returns : goal.returns
returns c =
    let whole = ap (λ walks. sum_by (walk_cost c.args.inst.now) walks) (take_all c.loop-i.i c.args.plan.now (omega arith)) in
    c.loop-i.invariant.value ∙ whole ∙ sym (sum_by_walks (step_cost c.args.inst.now) c.args.plan.now)
