use Rattle.std.proofs.Common.{rules, ◌≡◌, ◌<◌, ◌+◌, ◌%◌, ◌^◌, length, None}
use Rattle.helper_rounds.proofs.Writing.{kept, more, more_numbers}
use Rattle.helper_rounds.proofs.rounds.reseed_all.Goals as goal

pub loop-i-preserved : goal.loop-i-preserved
loop-i-preserved g c =
    let within : c.loop-i.i < length c.loop-i.helpers.items = search rules in record {
      same = kept _ _ _ _ _ _ c.index_mut.ensures.value c.reseed.ensures.id c.loop-i.invariant.same;
      seeds = more_numbers (λ k n. n ≡ (c.args.word + k) % 2 ^ 64) _ _ _ _ within (search rules) c.loop-i.invariant.seeds;
      fresh = more (λ b. let of = g.P.Proposer in (of.asked b ≡ 0) × (of.tally b ≡ record { fouls = 0; least = None; last = None }))
          _ _ _ within c.reseed.ensures.fresh c.loop-i.invariant.fresh;
    }
