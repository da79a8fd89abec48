use Rattle.std.proofs.Common.{◌≡◌, ◌≤◌, take}
use Rattle.branch_rules.specs.Decisions.{highest}
use Rattle.branch_rules.proofs.branch.highest_of.Given as goal

abbrev pub invariant-loop-decision : goal.invariant-loop-decision
invariant-loop-decision l = record {
  value : l.most ≡ highest l.shore (take l.decision-index l.decisions);
  small : l.most ≤ 1000001;
}
