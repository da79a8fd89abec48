use Rattle.std.proofs.Common.{rules, ◌-◌, ◌^◌}
use Rattle.std.proofs.lemmas.List.Sorted.{IsNonDecreasingBy-from_sort_by_key}
use Rattle.fleet_pack.proofs.item.sort.Goals as goal

pub returns-clause-fall : goal.returns-clause-fall
returns-clause-fall c = IsNonDecreasingBy-from_sort_by_key (λ x. 2 ^ 64 - 1 - x.demand) _ c.in_ok-sort_by_key.ensures.sorted (λ a r q k. search rules)
