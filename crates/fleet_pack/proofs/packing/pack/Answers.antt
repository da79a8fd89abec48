use Rattle.std.proofs.Common.{◌≤◌, ap, arith}
use Rattle.fleet_pack.specs.FirstFit.{first_fit_count}
use Rattle.fleet_pack.proofs.Finishing.{if_ok_then, is_packed}
use Rattle.fleet_pack.proofs.packing.pack.Goals as goal

pub returns : goal.returns
returns c =
    let p = c.args.inst.now in
    let search = c.run.new.self in
    let fewer : search.best.count ≤ first_fit_count p =
    omega (arith, c.in_ok-first_fit.ensures.count, c.in_ok-best.ensures.fewer, c.in_ok-run.ensures.fewer, ap (λ g. g.count) c.in_ok-search.ensures.best) in
    if_ok_then c.finish.result
    (λ found. is_packed p c.args.turns search found c.validity.ensures c.trees_bound_packings.ensures.proofs c.lean_trees_are_small.ensures fewer c.in_ok-run.ensures.ended c.in_ok-run.ensures.few)
    (c.finish.ensures p c.in_ok-run.ensures.search)
