use Rattle.std.proofs.Common.{◌≤◌, ap, sym, subst}
use Rattle.packing_trees.specs.Bundles.{AreAllClosed, bundle_count}
use Rattle.packing_trees.specs.declared.node.PackNode.TheVariants.{Apart}
use Rattle.fleet_pack.specs.States.{IsDone}
use Rattle.std.proofs.lemmas.Result.{on_ok_weaker}
use Rattle.fleet_pack.proofs.search.Search.settle.Goals as goal

pub returns-clause-search : goal.returns-clause-search
returns-clause-search c =
    let p = c.args.inst.now in
    let fewer = c.take_bundles.new.self.best.count in
    let done : IsDone p fewer c.take_bundles.new.self.path.items Apart =
    subst (λ path. AreAllClosed p path × (fewer ≤ bundle_count p path)) (sym (ap (λ v. v.items) c.in_ok-take_bundles.ensures.path)) (c.requires.closed, c.in_ok-take_bundles.ensures.most) in
    on_ok_weaker c.close.result (λ then_so. then_so p c.in_ok-take_bundles.ensures.at_hand done) c.close.ensures.search
