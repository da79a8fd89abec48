use Rattle.std.proofs.Common.{◌≤◌, drop}
use Rattle.local_moves.specs.Loads.{AreLoadsAhead, load_ahead}
use Rattle.local_moves.proofs.loads.loads_ahead.Given as goal

abbrev pub invariant-loop-i : goal.invariant-loop-i
invariant-loop-i l = record {
  ahead : AreLoadsAhead l.board l.stops l.i l.ahead.items;
  load : l.load ≤ load_ahead l.board (drop l.i l.stops);
  small : l.load ≤ 60000;
}
