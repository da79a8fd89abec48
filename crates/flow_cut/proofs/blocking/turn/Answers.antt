use Rattle.std.proofs.Common.{slice_index, sum, arith}
use Rattle.flow_cut.proofs.Trying.{some_fewer, spent_now}
use Rattle.flow_cut.proofs.blocking.turn.Goals as goal

pub returns-then-v-ends-clause-brings : goal.returns-then-v-ends-clause-brings
returns-then-v-ends-clause-brings c = c.augment-full.ensures.brings

pub returns-then-v-ends-clause-rises : goal.returns-then-v-ends-clause-rises
returns-then-v-ends-clause-rises c = c.augment-full.ensures.rises

pub returns-then-v-ends-clause-layered : goal.returns-then-v-ends-clause-layered
returns-then-v-ends-clause-layered c = c.requires.layered

pub returns-then-v-ends-clause-untried : goal.returns-then-v-ends-clause-untried
returns-then-v-ends-clause-untried c = c.retreat.ensures.untried

pub returns-then-v-ends-clause-reached : goal.returns-then-v-ends-clause-reached
returns-then-v-ends-clause-reached c = c.retreat.ensures.reached

pub returns-then-v-ends-clause-less : goal.returns-then-v-ends-clause-less
returns-then-v-ends-clause-less c =
    let level = c.args.layers.now.level.items in
    some_fewer c.args.ends.nodes level c.retreat.result (sum c.retreat.new.untried) (sum c.args.untried.now) (sum c.args.untried.now) (slice_index level c.args.v)
    (omega arith) c.retreat.ensures.less

pub returns-then-v-ends-clause-spent : goal.returns-then-v-ends-clause-spent
returns-then-v-ends-clause-spent c = spent_now c.retreat.result _ _ c.augment-full.ensures.later c.retreat.ensures.spent

pub returns-else-v-ends-clause-brings : goal.returns-else-v-ends-clause-brings
returns-else-v-ends-clause-brings c = c.requires.brings

pub returns-else-v-ends-clause-rises : goal.returns-else-v-ends-clause-rises
returns-else-v-ends-clause-rises c = omega arith

pub returns-else-v-ends-clause-layered : goal.returns-else-v-ends-clause-layered
returns-else-v-ends-clause-layered c = c.step.ensures.layered

pub returns-else-v-ends-clause-untried : goal.returns-else-v-ends-clause-untried
returns-else-v-ends-clause-untried c = c.step.ensures.untried

pub returns-else-v-ends-clause-reached : goal.returns-else-v-ends-clause-reached
returns-else-v-ends-clause-reached c = c.step.ensures.reached

pub returns-else-v-ends-clause-less : goal.returns-else-v-ends-clause-less
returns-else-v-ends-clause-less c = c.step.ensures.less

pub returns-else-v-ends-clause-spent : goal.returns-else-v-ends-clause-spent
returns-else-v-ends-clause-spent c = c.step.ensures.spent
