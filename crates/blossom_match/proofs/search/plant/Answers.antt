use Rattle.std.proofs.Common.{◌≡◌, ◌<◌, refl, length, slice_index, arith}
use Rattle.std.proofs.Math.ListN.{length-set}
use Rattle.std.proofs.lemmas.List.{get_or_read}
use Rattle.blossom_match.specs.declared.state.Label.TheVariants.{Outer}
use Rattle.blossom_match.proofs.Planting.{planted, relabeled}
use Rattle.blossom_match.proofs.search.plant.Goals as goal

pub returns-clause-searching : goal.returns-clause-searching
returns-clause-searching c =
    let s = c.args.state.now in
    let b = c.requires.between in
    let below : c.args.root < length c.args.state.now.top.items = omega (arith, c.requires.root_in, b.shape.top_len) in
    let node : c.index-node.result.now ≡ slice_index c.args.state.now.top.items c.args.root = get_or_read c.args.state.now.top.items c.args.root c.index-node.result.now below c.index-node.ensures 0 in
    record {
      so_far = relabeled c.args.costs.now c.args.state.now _ refl refl refl refl refl refl refl refl refl refl refl refl (length-set c.args.state.now.label.items c.index-node.result.now Outer) refl b;
      tree = rw node
          (planted c.args.costs.now c.args.state.now.size c.args.state.now.top.items c.args.state.now.sums.items c.args.state.now.mate.items c.args.state.now.label.items c.args.state.now.entry.items c.args.root
          c.requires.root_in c.requires.unmatched c.requires.treeless (omega (arith, b.tops.top_in c.args.root c.requires.root_in, b.shape.label_len)) b.weights.parity);
    }
