use Rattle.std.proofs.Common.{◌+◌, ◌≤◌, arith}
use Rattle.deadhead_paths.specs.Prices.{price_of, costs_of}
use Rattle.augment_merge.proofs.searching.link_saving.Goals as goal

pub overflow_sub-result : goal.overflow_sub-result
overflow_sub-result c =
    let p = c.args.inst.now in
    c.least_prices_are_distances.ensures.triangle p (price_of (costs_of p)) c.args.a.end p.depot c.args.b.start c.args.a.home c.args.b.out c.least_cost.result c.requires.first.home_least c.requires.second.out_least c.least_cost.ensures.least

pub returns : goal.returns
returns c = record {
  link = c.least_cost.result;
  least = c.least_cost.ensures.least;
  saved = let below : c.least_cost.result ≤ c.args.a.home + c.args.b.out = overflow_sub-result c in omega arith;
}
