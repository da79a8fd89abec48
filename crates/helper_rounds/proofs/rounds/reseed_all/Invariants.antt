use Rattle.std.proofs.Common.{◌≡◌, ℕ, ◌+◌, ◌%◌, ◌^◌, ◌<◌, map, slice_index_or, slice_index, None}
use Rattle.helper_rounds.proofs.rounds.reseed_all.Given as goal

abbrev pub invariant-loop-i : goal.invariant-loop-i
invariant-loop-i g l =
    let of = g.P.Proposer in record {
      same : map (λ b. of.id b) l.helpers.items ≡ map (λ b. of.id b) l.fn.helpers.items;
      seeds : (k : ℕ) → k < l.i → slice_index (map (λ b. of.seed b) l.helpers.items) k ≡ (l.word + k) % 2 ^ 64;
      fresh : (k : ℕ) (d : _) → k < l.i → let b = slice_index_or l.helpers.items k d in
          (of.asked b ≡ 0) × (of.tally b ≡ record { fouls = 0; least = None; last = None });
    }
