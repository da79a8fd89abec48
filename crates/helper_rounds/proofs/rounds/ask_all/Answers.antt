use Rattle.std.proofs.Common.{rules, ◌≡◌, ℕ, List, length, replicate, ap, ◌∙◌, subst, arith}
use Rattle.std.proofs.lemmas.List.{length-map}
use Rattle.helper_rounds.specs.Asking.{IsRound, Standing, fresh, standings}
use Rattle.helper_rounds.proofs.Turns.{all_fresh, all_rounds, first_round, next_round, stopped}
use Rattle.helper_rounds.proofs.rounds.ask_all.Goals as goal

pub loop-round-init : goal.loop-round-init
loop-round-init g c =
    let of = g.P.Proposer in
    let p = c.args.inst.now in
    let seeded = c.reseed_all.new.helpers.items in
    let long : length seeded ≡ length c.args.helpers.now.items =
    omega (arith, ap (length {A = ℕ}) c.reseed_all.ensures.same, length-map seeded (λ b. of.id b), length-map c.args.helpers.now.items (λ b. of.id b)) in
    let all : standings (λ b. of.asked b) (λ b. of.tally b) seeded ≡ replicate (length c.args.helpers.now.items) fresh =
    all_fresh (λ b. of.asked b) (λ b. of.tally b) seeded c.reseed_all.ensures.fresh ∙ ap (λ (n : ℕ). replicate n fresh) long in
    record {
      short = c.ask_round.ensures.short;
      no_dearer = c.ask_round.ensures.no_dearer;
      same = c.ask_round.ensures.same ∙ c.reseed_all.ensures.same;
      seeds = search rules;
      fit = c.in_ok-better.ensures.fit;
      asked = c.in_ok-better.ensures.asked;
      rounds = first_round p _ _ c.in_ok-better.better
          (subst (λ (hs : List Standing). IsRound p (record { best = c.args.best.now; helpers = hs })
          (record { best = c.ask_round.new.best; helpers = standings (λ b. of.asked b) (λ b. of.tally b) c.ask_round.new.helpers.items })) all c.in_ok-better.ensures.turns)
          c.in_ok-better.ensures.better;
    }

pub loop-round-preserved : goal.loop-round-preserved
loop-round-preserved g c =
    let so_far = c.loop-round.invariant in
    let asked = c.ask_round-in-loop-round.ensures in
    record {
      short = asked.short;
      no_dearer = omega (arith, asked.no_dearer, so_far.no_dearer);
      same = asked.same ∙ so_far.same;
      seeds = asked.seeds ∙ so_far.seeds;
      fit = c.in_ok-better-2.ensures.fit;
      asked = c.in_ok-better-2.ensures.asked;
      rounds = next_round c.args.inst.now _ _ _ c.loop-round.better c.in_ok-better-2.better c.loop-round.round c.if-not-better.false so_far.rounds
          c.in_ok-better-2.ensures.turns c.in_ok-better-2.ensures.better;
    }

pub returns-then-not-better-clause-rounds : goal.returns-then-not-better-clause-rounds
returns-then-not-better-clause-rounds g c =
    stopped c.args.inst.now _ _ c.loop-round.better c.loop-round.round c.if-not-better.true (omega (arith, c.loop-round-test.true)) c.loop-round.invariant.rounds

pub returns-clause-rounds : goal.returns-clause-rounds
returns-clause-rounds g c =
    all_rounds c.args.inst.now _ _ c.loop-round.better c.loop-round.round (omega (arith, c.loop-round-test.false, c.loop-round.auto.round)) c.loop-round.invariant.rounds
