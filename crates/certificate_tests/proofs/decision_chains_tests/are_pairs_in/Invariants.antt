use Rattle.std.proofs.Common.{ℕ, ◌<◌, get_or}
use Rattle.decision_chains.specs.Pairs.{HasPairWithin}
use Rattle.decision_chains.specs.declared.decision.Decision.{Decision}
use Rattle.certificate_tests.proofs.decision_chains_tests.are_pairs_in.Given as goal

abbrev pub invariant-loop-decision : goal.invariant-loop-decision
invariant-loop-decision l = (k : ℕ) (other : Decision) → k < l.decision-index → HasPairWithin l.fn.inst.required (get_or l.decisions k other)
