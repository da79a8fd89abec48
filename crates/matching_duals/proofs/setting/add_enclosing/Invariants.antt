use Rattle.std.proofs.Common.{◌≡◌, ℕ, ◌+◌, ◌==◌, take, length, get_or}
use Rattle.std.specs.Prelude.{if◌then◌else◌}
use Rattle.std.specs.List.{list_any}
use Rattle.matching_duals.proofs.setting.add_enclosing.Given as goal

abbrev pub invariant-loop-i : goal.invariant-loop-i
invariant-loop-i l = record {
  long : length l.enclosing ≡ length l.fn.enclosing;
  added : (v : ℕ) → get_or l.enclosing v 0 ≡ get_or l.fn.enclosing v 0 + (if list_any (λ x. x == v) (take l.i l.members) then l.more else 0);
}
