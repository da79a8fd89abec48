use Rattle.std.proofs.Common.{◌≡◌, ◌≤◌, ◌*◌, drop}
use Rattle.local_moves.specs.Sequences.{fits, fits_from}
use Rattle.local_moves.proofs.loads.fits.Given as goal

abbrev pub invariant-loop-i : goal.invariant-loop-i
invariant-loop-i l = record {
  small : l.load ≤ 30000 * l.i;
  same : fits l.board l.sequence ≡ fits_from l.board l.load (drop l.i l.sequence);
}
