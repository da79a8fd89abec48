use Rattle.std.proofs.Common.{◌≡◌, ◌∙◌, List, length, map, take, ap, arith}
use Rattle.std.proofs.lemmas.List.{length-map, length-take-le}
use Rattle.decision_chains.specs.declared.decision.Decision.{Decision}
use Rattle.grown_trees.specs.Backward.{Found, read_from}
use Rattle.grown_trees.specs.Blocks.{joined}
use Rattle.grown_trees.proofs.Joining.{before_few, block_is, node_of, read_before}
use Rattle.grown_trees.proofs.Reading.{read_few}
use Rattle.grown_trees.proofs.way.decisions_back.Goals as goal

pub read_blocks-requires : goal.read_blocks-requires
read_blocks-requires c =
    let blocks = c.args.blocks.now in
    let spot = c.find-spot.result in
    let s = c.find-spot.ensures in
    let x = c.nodes.result.now in
    let here : x ≡ s.here = c.nodes.ensures ∙ c.index-blocks-spot.is ∙ block_is blocks c.args.place spot s c.index-blocks-spot.result in
    let first : Found = record { decisions = c.new.result.items; whole = 0 } in
    omega (
      arith,
      ap (λ (f : Found). f.whole) c.in_ok-read_nodes.ensures,
      read_few first (map node_of (take spot.inner x)),
      length-map (take spot.inner x) node_of,
      length-take-le spot.inner x (omega (arith, s.inside, ap length here)),
      before_few blocks c.args.place spot s,
      c.requires.few,
    )

pub returns : goal.returns
returns c =
    let blocks = c.args.blocks.now in
    let spot = c.find-spot.result in
    let s = c.find-spot.ensures in
    let x = c.nodes.result.now in
    let here : x ≡ s.here = c.nodes.ensures ∙ c.index-blocks-spot.is ∙ block_is blocks c.args.place spot s c.index-blocks-spot.result in
    let first : Found = record { decisions = c.new.result.items; whole = 0 } in
    ap (λ (f : Found). f.decisions) (
    c.in_ok-read_blocks.ensures
    ∙ ap (λ (f : Found). read_from f (map node_of (joined (take spot.block blocks)))) c.in_ok-read_nodes.ensures
    ∙ read_before blocks c.args.place spot s x here first
    ∙ ap (λ (ds : List Decision). read_from (record { decisions = ds; whole = 0 }) (map node_of (take c.args.place (joined blocks)))) c.new.ensures.items
    )
