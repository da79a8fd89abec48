use Rattle.std.proofs.Common.{◌≡◌, ℕ, ◌+◌, ◌<◌, ◌≤◌, map, length, slice_index_or}
use Rattle.plan_model.specs.Plans.{plan_cost}
use Rattle.task_tours.specs.Shorts.{IsShortPlan}
use Rattle.helper_rounds.specs.Asking.{TellsOfBetter, standings}
use Rattle.helper_rounds.specs.Helpers.{IsFit}
use Rattle.helper_rounds.proofs.Turns.{Follow}
use Rattle.helper_rounds.proofs.rounds.ask_round.Given as goal

abbrev pub invariant-loop-i : goal.invariant-loop-i
invariant-loop-i g l =
    let of = g.P.Proposer in record {
      short : IsShortPlan l.inst l.best;
      no_dearer : plan_cost l.inst l.best ≤ plan_cost l.inst l.fn.best;
      same : map (λ b. of.id b) l.helpers.items ≡ map (λ b. of.id b) l.fn.helpers.items;
      seeds : map (λ b. of.seed b) l.helpers.items ≡ map (λ b. of.seed b) l.fn.helpers.items;
      heard : (k : ℕ) (d : _) → k < l.i → let b = slice_index_or l.helpers.items k d in
          (IsFit (l.round + 1) (plan_cost l.inst l.best) (of.asked b) (of.tally b)) × (1 ≤ of.asked b);
      waiting : (k : ℕ) (d : _) → l.i ≤ k → k < length l.helpers.items → let b = slice_index_or l.helpers.items k d in
          IsFit l.round (plan_cost l.inst l.best) (of.asked b) (of.tally b);
      turns : Follow l.inst (record { best = l.fn.best; helpers = standings (λ b. of.asked b) (λ b. of.tally b) l.fn.helpers.items })
          (standings (λ b. of.asked b) (λ b. of.tally b) l.helpers.items) l.i l.best;
      better : TellsOfBetter l.inst l.better l.fn.best l.best;
    }
