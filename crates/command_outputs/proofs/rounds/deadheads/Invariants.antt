use Rattle.std.proofs.Common.{◌≡◌, ◌≤◌, take}
use Rattle.postman.specs.Rounds.{deadheads_in}
use Rattle.command_outputs.proofs.rounds.deadheads.Given as goal

abbrev pub invariant-loop-i : goal.invariant-loop-i
invariant-loop-i l = record {
  counted : l.count ≡ deadheads_in (take l.i l.walk);
  few : l.count ≤ l.i;
}
