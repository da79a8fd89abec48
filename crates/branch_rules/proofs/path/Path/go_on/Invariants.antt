use Rattle.std.proofs.Common.{◌≡◌, false, vec_len}
use Rattle.branch_rules.specs.Trees.{Support}
use Rattle.branch_rules.specs.Paths.{IsPath, IsPathIn, seconds_of}
use Rattle.branch_rules.proofs.path.Path.go_on.Given as goal

abbrev pub invariant-loop-self : goal.invariant-loop-self
invariant-loop-self l = record {
  path : IsPath l.self;
  goes : l.self.whole ≡ false;
  inside : (s : Support) → IsPathIn s l.initial.self → IsPathIn s l.self;
  waits : seconds_of l.self ≡ seconds_of l.initial.self;
}

abbrev pub decreases-loop-self : goal.decreases-loop-self
decreases-loop-self l = vec_len l.self.seconds
