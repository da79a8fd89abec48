use Rattle.std.proofs.Common.{ℕ, ◌≤◌, ◌-◌, ◌++◌, List, length, take}
use Rattle.cert_checker.specs.Streams.{HasStreamed, HasStreamedSome}
use Rattle.cert_checker.proofs.stream.Stream.take_piece.Given as goal

abbrev pub invariant-loop-taken : goal.invariant-loop-taken
invariant-loop-taken l = record {
  within : l.taken ≤ length l.piece;
  some : HasStreamedSome l.inst l.self;
  streamed : (bytes : List ℕ) → HasStreamed l.inst l.fn.self bytes → HasStreamed l.inst l.self (bytes ++ take l.taken l.piece);
}

abbrev pub decreases-loop-taken : goal.decreases-loop-taken
decreases-loop-taken l = length l.piece - l.taken
