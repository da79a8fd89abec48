use Rattle.std.proofs.Common.{rules, ◌<◌, ◌≤◌, ◌+◌, length, arith}
use Rattle.plan_model.specs.Plans.{plan_cost}
use Rattle.helper_rounds.specs.Helpers.{IsFit}
use Rattle.helper_rounds.proofs.Writing.{kept, more, fewer}
use Rattle.helper_rounds.proofs.Fit.{still_fit}
use Rattle.helper_rounds.proofs.Turns.{asked_more, none_left, tells_both}
use Rattle.helper_rounds.proofs.rounds.ask_round.Goals as goal

pub loop-i-preserved : goal.loop-i-preserved
loop-i-preserved g c =
    let p = c.args.inst.now in
    let within : c.loop-i.i < length c.loop-i.helpers.items = search rules in
    let cheaper : plan_cost p c.ask.new.best ≤ plan_cost p c.loop-i.best = c.ask.ensures.no_dearer in record {
      short = c.ask.ensures.short;
      no_dearer = omega (arith, cheaper, c.loop-i.invariant.no_dearer);
      same = kept _ _ _ _ _ _ c.index_mut.ensures.value c.ask.ensures.id c.loop-i.invariant.same;
      seeds = kept _ _ _ _ _ _ c.index_mut.ensures.value c.ask.ensures.seed c.loop-i.invariant.seeds;
      heard = more (λ b. let of = g.P.Proposer in
          IsFit (c.args.round + 1) (plan_cost p c.ask.new.best) (of.asked b) (of.tally b) × (1 ≤ of.asked b))
          _ _ _ within (c.in_ok-taken.ensures.fit, c.in_ok-taken.ensures.asked)
          (λ k d lt. (still_fit _ _ _ _ _ cheaper (c.loop-i.invariant.heard k d lt).0, (c.loop-i.invariant.heard k d lt).1));
      waiting = fewer (λ b. let of = g.P.Proposer in IsFit c.args.round (plan_cost p c.loop-i.best) (of.asked b) (of.tally b))
          (λ b. let of = g.P.Proposer in IsFit c.args.round (plan_cost p c.ask.new.best) (of.asked b) (of.tally b))
          _ _ _ (λ b h. still_fit _ _ _ _ _ cheaper h) c.loop-i.invariant.waiting;
      turns = asked_more (λ b. g.P.Proposer.asked b) (λ b. g.P.Proposer.tally b) p _ _ _ _ _ _ _ within c.index_mut.ensures.value c.loop-i.invariant.turns c.in_ok-taken.ensures.turn;
      better = tells_both p _ _ _ _ _ c.loop-i.invariant.better c.in_ok-taken.ensures.better;
    }

pub returns-clause-turns : goal.returns-clause-turns
returns-clause-turns g c = none_left (λ b. g.P.Proposer.asked b) (λ b. g.P.Proposer.tally b) c.args.inst.now _ _ _ _ (search rules) c.loop-i.invariant.turns

pub returns-in_err-taken-clause-same : goal.returns-in_err-taken-clause-same
returns-in_err-taken-clause-same g c = kept _ _ _ _ _ _ c.index_mut.ensures.value c.ask.ensures.id c.loop-i.invariant.same

pub returns-in_err-taken-clause-seeds : goal.returns-in_err-taken-clause-seeds
returns-in_err-taken-clause-seeds g c = kept _ _ _ _ _ _ c.index_mut.ensures.value c.ask.ensures.seed c.loop-i.invariant.seeds
