use Rattle.std.proofs.Common.{◌≡◌, ◌-◌, ◌*◌, ◌≤◌, take}
use Rattle.std.specs.List.{sum_by}
use Rattle.carp_base.proofs.instance.Instance.required_cost.Given as goal

-- the sum so far, and that it is small
abbrev pub invariant-loop-e : goal.invariant-loop-e
invariant-loop-e l = record {
  value : l.sum ≡ sum_by (λ x. x.service) (take (l.e - 1) l.self.edges);
  small : l.sum ≤ (l.e - 1) * 1000000;
}
