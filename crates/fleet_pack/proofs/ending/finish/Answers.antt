use Rattle.std.proofs.Common.{◌+◌, subst, arith, ap, refl, ◌∙◌}
use Rattle.fleet_pack.specs.States.{IsLeastValue, closed_count}
use Rattle.fleet_pack.proofs.Finishing.{few_nodes, has_ended, has_tree}
use Rattle.fleet_pack.proofs.ending.finish.Goals as goal

pub returns : goal.returns
returns c p search =
    let least : IsLeastValue c.args.search.best.count c.args.search.shares.items c.least_value-bound.result =
    subst (λ xs. IsLeastValue c.args.search.best.count xs c.least_value-bound.result) c.deref.ensures.value c.least_value-bound.ensures in
    let closed = c.closed_leaves.ensures.closed ∙ ap (closed_count c.args.search.best.count) c.deref-2.ensures.value in record {
      packing = search.best;
      count_is = refl;
      tree = has_tree p c.args.search.nodes.items c.args.search.path.items c.args.search.shares.items _ search.state least (omega (arith, closed)) c.in_ok-put_shares.ensures;
      few = few_nodes p c.args.search.best.count c.args.search.nodes.items _ c.args.search.path.items c.args.search.shares.items search.state c.in_ok-put_shares.ensures;
      ended = λ limit ended low.
          has_ended c.args.search.best.count c.least_value-bound.result limit _ (c.len.result + c.closed_leaves.result) c.args.search.shares.items least ended (omega (arith, closed)) low;
    }
