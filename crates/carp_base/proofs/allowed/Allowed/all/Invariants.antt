use Rattle.std.proofs.Common.{◌≡◌, ℕ, ◌+◌, ◌*◌, ◌<◌, ◌==◌, nat_lt, ◌&&◌, not, false, length, get_or}
use Rattle.carp_base.proofs.allowed.Allowed.all.Given as goal

-- the edges so far are not allowed with themselves
abbrev pub invariant-loop-edge : goal.invariant-loop-edge
invariant-loop-edge l = record {
  square : length l.table.items ≡ l.size * l.size;
  entries : (a b : ℕ) → a < l.size → b < l.size → get_or l.table.items (a * l.size + b) false ≡ not ((a == b) && nat_lt a l.edge);
}
