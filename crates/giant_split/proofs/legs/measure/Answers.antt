use Rattle.std.proofs.Common.{◌≡◌, ◌+◌, ◌*◌, ◌<◌, ◌≤◌, length, add-one, ap, arith, ◌∙◌}
use Rattle.std.proofs.Math.ListN.{length-set}
use Rattle.std.proofs.lemmas.List.Sums.{sum_by_more}
use Rattle.carp_base.specs.declared.edge.Task.{Task}
use Rattle.carp_base.specs.Problem.{IsRequired, edge_at}
use Rattle.deadhead_paths.specs.Prices.{costs_of, price_of}
use Rattle.giant_split.specs.declared.legs.Leg.{Leg}
use Rattle.giant_split.specs.Legs.{IsFineLeg, IsLeg, end_at, load_before, no_task, start_at, stand_before, task_at, way_before}
use Rattle.giant_split.proofs.Measuring.{all_at, legs_more, load_now, price_as, way_now}
use Rattle.giant_split.proofs.legs.measure.Goals as goal

pub loop-i-preserved : goal.loop-i-preserved
loop-i-preserved c =
    let p = c.args.inst.now in
    let q = price_of (costs_of p) in
    let order = c.args.order.now in
    let legs = c.loop-i.legs in
    let i = c.loop-i.i in
    let loop = c.loop-i.invariant in
    let t : Task = task_at order i in
    let start = c.ends-start.result.0 in
    let end = c.ends-start.result.1 in
    let depot_is = c.depot-depot.ensures.value in
    let valid = c.depot-depot.ensures.valid in
    let way = c.loop-i.way + c.least_cost-way.result in
    let load = c.loop-i.load + c.edge-load.result.demand in
    let leg : Leg = record { out = c.least_cost.result; way = way; home = c.least_cost-in-loop-i.result; before = c.loop-i.load; after = load } in
    let below : i < length order = c.loop-i-test.true in
    let room : i < length legs = omega (arith, below, loop.long) in
    let required : IsRequired p t.edge = all_at (λ (u : Task). IsRequired p u.edge) order i no_task below c.requires.required in
    let demand : c.edge-load.result.demand ≡ (edge_at p t.edge).demand = ap (λ x. x.demand) c.edge-load.ensures in
    let fits = (valid.tasks t.edge required).demand_fits in
    let more = sum_by_more (λ (u : Task). (edge_at p u.edge).demand) order i no_task below in
    let way_small : way ≤ 999000000 * (i + 1) = omega (arith, loop.way_small, c.least_cost-way.ensures.small) in
    let load_small : load ≤ 30000 * (i + 1) = omega (arith, loop.load_small, demand, fits, valid.capacity_in) in
    let fine : IsFineLeg p.capacity i (way_before legs i) (load_before legs i) leg = record {
      out_small = c.least_cost.ensures.small;
      home_small = c.least_cost-in-loop-i.ensures.small;
      way_small = way_small;
      load_small = load_small;
      way_rises = omega (arith, loop.way);
      starts = loop.load_before;
      load_rises = omega (arith, loop.load_before);
      carried = omega (arith, demand, fits);
    } in
    let one : IsLeg p order i (way_before legs i) (load_before legs i) leg = record {
      out = price_as p q c.depot-depot.result start p.depot (start_at p order i) leg.out depot_is c.ends-start.ensures.tail c.least_cost.ensures.least;
      home = price_as p q end c.depot-depot.result (end_at p order i) p.depot leg.home c.ends-start.ensures.head depot_is c.least_cost-in-loop-i.ensures.least;
      link = c.least_cost-way.result;
      linked = price_as p q c.loop-i.at start (stand_before p order i) (start_at p order i) c.least_cost-way.result loop.at c.ends-start.ensures.tail c.least_cost-way.ensures.least;
      way_is = omega (arith, loop.way);
      before_is = loop.load;
      after_is = omega (arith, loop.load, demand, more);
      fine = fine;
    } in
    record {
      long = length-set legs i leg ∙ loop.long;
      stand = c.ends-start.ensures.head_stands;
      at = rw add-one c.ends-start.ensures.head;
      way = way_now p order legs i leg room;
      way_small = way_small;
      load = omega (arith, loop.load, demand, more);
      load_before = load_now p order legs i leg room;
      load_small = load_small;
      each = legs_more p order legs i leg room loop.each one;
    }
