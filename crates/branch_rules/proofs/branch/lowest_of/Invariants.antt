use Rattle.std.proofs.Common.{◌≡◌, ◌≤◌, take}
use Rattle.std.specs.Prelude.{IfSome}
use Rattle.branch_rules.specs.Decisions.{lowest}
use Rattle.branch_rules.proofs.branch.lowest_of.Given as goal

abbrev pub invariant-loop-decision : goal.invariant-loop-decision
invariant-loop-decision l = record {
  value : l.least ≡ lowest l.shore (take l.decision-index l.decisions);
  small : IfSome l.least (λ k. k ≤ 1000000);
}
