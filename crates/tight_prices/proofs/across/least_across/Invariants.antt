use Rattle.std.proofs.Common.{◌≡◌, ◌≤◌, ◌⊎◌}
use Rattle.tight_prices.specs.Searches.{IsOver}
use Rattle.tight_prices.proofs.across.least_across.Given as goal

abbrev pub invariant-loop-i : goal.invariant-loop-i
invariant-loop-i l = record {
  low : l.least ≤ l.most;
  either : (l.least ≡ l.most) ⊎ IsOver l.fn.inst l.fn.shore l.fn.prices l.least;
}
