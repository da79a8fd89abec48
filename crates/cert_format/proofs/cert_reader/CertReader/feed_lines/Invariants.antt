use Rattle.std.proofs.Common.{◌≡◌, ℕ, List, ◌++◌, ◌≤◌, ◌-◌, length, take}
use Rattle.cert_lines.specs.declared.item.Item.TheVariants.{Quiet}
use Rattle.cert_lines.specs.Order.{LatestFirst}
use Rattle.cert_format.specs.declared.reader.Standing.TheVariants.{Going}
use Rattle.cert_format.specs.Held.{Advances, IsGoing}
use Rattle.cert_format.proofs.cert_reader.CertReader.feed_lines.Given as goal

abbrev pub invariant-loop-taken : goal.invariant-loop-taken
invariant-loop-taken l = record {
  within : l.taken ≤ length l.piece;
  going : l.self.standing ≡ Going;
  gives : (bytes : List ℕ) (said : LatestFirst) (rest : List ℕ) → IsGoing l.fn.self bytes said rest → Advances l.self (bytes ++ take l.taken l.piece) said Quiet;
}

abbrev pub decreases-loop-taken : goal.decreases-loop-taken
decreases-loop-taken l = length l.piece - l.taken
