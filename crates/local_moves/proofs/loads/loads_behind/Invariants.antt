use Rattle.std.proofs.Common.{◌≤◌, take}
use Rattle.local_moves.specs.Loads.{AreLoadsBehind, load_behind}
use Rattle.local_moves.proofs.loads.loads_behind.Given as goal

abbrev pub invariant-loop-i : goal.invariant-loop-i
invariant-loop-i l = record {
  behind : AreLoadsBehind l.board l.stops l.i l.behind.items;
  load : l.load ≤ load_behind l.board 0 (take l.i l.stops);
  small : l.load ≤ 60000;
}
