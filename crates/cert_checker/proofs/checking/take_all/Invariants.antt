use Rattle.std.proofs.Common.{◌≤◌, take}
use Rattle.cert_checker.specs.Claims.{support_in}
use Rattle.cert_checker.specs.Walks.{HasWalked, IsChecker}
use Rattle.cert_checker.proofs.checking.take_all.Given as goal

abbrev pub invariant-loop-place : goal.invariant-loop-place
invariant-loop-place l = record {
  checker : IsChecker (support_in l.claim) l.checker;
  count : l.checker.taken ≤ l.place;
  walked : HasWalked (support_in l.claim) l.claim.bound l.checker (take l.place l.tree.nodes);
}
