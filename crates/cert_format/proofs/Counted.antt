-- The numbers of an instance in a certificate.
use Rattle.std.proofs.Common.{◌≡◌, suc, ◌≤◌, ◌<◌, length, refl, subst, arith, All}
use Rattle.std.proofs.lemmas.List.{get_or-take, length-take}
use Rattle.std.proofs.lemmas.List.Elements.{All-from_get_or}
use Rattle.std.proofs.lemmas.List.Sums.{sum_by-le}
use Rattle.carp_base.specs.Problem.{Problem, IsValid, no_edge, required_edges, total_demand}
use Rattle.cert_lines.specs.Certificates.{Certificate}
use Rattle.cert_lines.specs.Laws.{FineIsSpellable, SpellableIsFine}
use Rattle.cert_lines.specs.Spelling.{IsFine}
use Rattle.cert_format.specs.Good.{with_counts, CountsAreInRange, CountsKeepGood}

demand_is_small : (p : Problem) → IsValid p → total_demand p ≤ 18000000
demand_is_small p valid =
    let count : length (required_edges p) ≡ p.required = rw length-take (omega (arith, valid.required_in)) in
    let each : All (λ x. x.demand ≤ 30000) (required_edges p) = All-from_get_or (λ x. x.demand ≤ 30000) (required_edges p) no_edge (λ i within.
    let inside : i < p.required = subst (λ n. i < n) count within in
    let task = valid.tasks (suc i) (record { from_one = omega arith; in_range = omega arith }) in
    rw (get_or-take p.required p.edges i no_edge inside) (omega (arith, task.demand_fits, valid.capacity_in))) in
    omega (arith, sum_by-le (λ x. x.demand) 30000 (required_edges p) each, count, valid.few_required)

pub in_range : CountsAreInRange
in_range p valid = record {
  vertices = record { from_first = omega (arith, valid.depot_in.from_one, valid.depot_in.in_range); to_last = valid.few_vertices };
  edges = valid.few_edges;
  required = valid.few_required;
  capacity = record { from_first = valid.some_capacity; to_last = valid.capacity_in };
  demand = demand_is_small p valid;
}

counted : (p : Problem) (c : Certificate) → IsValid p → IsFine c → IsFine (with_counts p c)
counted p c valid fine = record {
  counts_in = in_range p valid;
  cost_in = fine.cost_in;
  bound_in = fine.bound_in;
  few_tours = fine.few_tours;
  few_steps = fine.few_steps;
  edges_in = fine.edges_in;
  few_shores = fine.few_shores;
  shores_fine = fine.shores_fine;
  different = fine.different;
  few_sets = fine.few_sets;
  sets_fine = fine.sets_fine;
  counted = λ some. refl;
  few_nodes = fine.few_nodes;
  nodes_fine = fine.nodes_fine;
  tree = fine.tree;
  in_preorder = fine.in_preorder;
}

pub keep_good : FineIsSpellable → SpellableIsFine → CountsKeepGood
keep_good spells fines p c valid good spellable = (
  record {
    counts = refl;
    lawful = good.lawful;
    cost = good.cost;
    shores = good.shores;
    prices = good.prices;
    deadheads = good.deadheads;
    tree = good.tree;
    nodes = good.nodes;
    pairs = good.pairs;
    lean = good.lean;
    shows = good.shows;
  },
  spells (with_counts p c) (counted p c valid (fines c spellable)),
)
