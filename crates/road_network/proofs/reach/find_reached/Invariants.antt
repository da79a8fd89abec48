use Rattle.std.proofs.Common.{◌≡◌, ℕ, ◌+◌, ◌-◌, ◌<◌, ◌≤◌, true, false, length, get_or}
use Rattle.carp_base.specs.Problem.{IsValid}
use Rattle.road_network.specs.Search.{IsFound, ReachesAll}
use Rattle.road_network.proofs.reach.find_reached.Given as goal

-- the edges at the vertices before `next` were gone through
abbrev pub invariant-loop-next : goal.invariant-loop-next
invariant-loop-next l = record {
  valid : IsValid l.inst;
  found : IsFound l.inst l.reached.items l.found.items;
  depot : get_or l.reached.items l.inst.depot false ≡ true;
  within : l.next ≤ length l.found.items;
  closed : (k : ℕ) → k < l.next → ReachesAll l.inst l.reached.items (get_or l.found.items k 0);
}

abbrev pub decreases-loop-next : goal.decreases-loop-next
decreases-loop-next l = l.inst.vertices + 1 - l.next
