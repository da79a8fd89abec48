use Rattle.std.proofs.Common.{◌≡◌, ◌≤◌, length, map, replicate, All}
use Rattle.plan_model.specs.Plans.{plan_cost}
use Rattle.task_tours.specs.Shorts.{IsShortPlan}
use Rattle.helper_rounds.specs.Asking.{fresh, standings}
use Rattle.helper_rounds.specs.Helpers.{IsFit}
use Rattle.helper_rounds.proofs.Turns.{AreRoundsSoFar}
use Rattle.helper_rounds.proofs.rounds.ask_all.Given as goal

abbrev pub invariant-loop-round : goal.invariant-loop-round
invariant-loop-round g l =
    let of = g.P.Proposer in record {
      short : IsShortPlan l.inst l.best;
      no_dearer : plan_cost l.inst l.best ≤ plan_cost l.inst l.fn.best;
      same : map (λ b. of.id b) l.helpers.items ≡ map (λ b. of.id b) l.fn.helpers.items;
      seeds : map (λ b. of.seed b) l.helpers.items ≡ map (λ b. of.seed b) l.initial.helpers.items;
      fit : All (λ b. IsFit l.round (plan_cost l.inst l.best) (of.asked b) (of.tally b)) l.helpers.items;
      asked : All (λ b. 1 ≤ of.asked b) l.helpers.items;
      rounds : AreRoundsSoFar l.inst (record { best = l.fn.best; helpers = replicate (length l.fn.helpers.items) fresh })
          (record { best = l.best; helpers = standings (λ b. of.asked b) (λ b. of.tally b) l.helpers.items }) l.better l.round;
    }
