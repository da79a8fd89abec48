use Rattle.std.proofs.Common.{◌≡◌, ◌+◌, ◌<◌, ◌≤◌, ◌++◌, ◌∷◌, ◌∙◌, Option, List, length, take, drop, ap, arith, subst, length-append}
use Rattle.std.specs.Option.{option_to_list}
use Rattle.grown_trees.specs.Blocks.{IsSpot}
use Rattle.grown_trees.specs.declared.growing.GrowingNode.{GrowingNode}
use Rattle.grown_trees.proofs.Filling.{filled_divided, more_divided}
use Rattle.grown_trees.proofs.Joining.{block_is, divided_same, spot_divided}
use Rattle.grown_trees.proofs.blocks.roomy_spot.Goals as goal

pub returns-then-is_roomy-clause-spot : goal.returns-then-is_roomy-clause-spot
returns-then-is_roomy-clause-spot c =
    let blocks = c.args.blocks.now.items in
    let s : IsSpot blocks c.args.place c.find-spot.result = subst (λ (bs : List (List GrowingNode)). IsSpot bs c.args.place c.find-spot.result) c.deref.ensures.value c.find-spot.ensures in
    let here : c.index.result.now ≡ s.here = c.index.ensures ∙ block_is blocks c.args.place c.find-spot.result s c.index.result.now in
    record { spot_is = s; roomy = omega (arith, c.is_roomy.ensures.roomy c.if-is_roomy.true, ap length here) }

pub returns : goal.returns
returns c =
    let blocks = c.args.blocks.now.items in
    let spot = c.find-spot.result in
    let news = c.divide.new.blocks.items in
    let s : IsSpot blocks c.args.place spot = subst (λ (bs : List (List GrowingNode)). IsSpot bs c.args.place spot) c.deref.ensures.value c.find-spot.ensures in
    let here : c.index.result.now ≡ s.here = c.index.ensures ∙ block_is blocks c.args.place spot s c.index.result.now in
    let full : 1022 < length s.here = omega (arith, c.is_roomy.ensures.full c.if-is_roomy.false, ap length here) in
    let most : length s.here ≤ 1024 = omega (arith, c.is_roomy.ensures.few, ap length here) in
    let is : news ≡ s.before ++ (take 512 s.here ∷ drop 512 s.here ∷ s.behind) = c.divide.ensures.divided s.before s.behind s.here s.whole s.block in
    let left : length c.pop.new.self.items + 1 ≡ length c.args.spare.now.items =
    omega (arith, ap length c.pop.ensures.items, length-append c.pop.new.self.items (option_to_list c.pop.result), ap (λ (o : Option (List GrowingNode)). length (option_to_list o)) c.unwrap-upper.ensures) in
    record {
      same = divided_same blocks c.args.place spot s news full most is;
      spot = spot_divided blocks c.args.place spot s news full most is c.spot_in_halves.result c.spot_in_halves.ensures.first c.spot_in_halves.ensures.second;
      filled = filled_divided blocks c.args.place spot s news full is;
      number = omega (arith, more_divided blocks c.args.place spot s news full is, left);
      capacity = c.divide.ensures.capacity;
    }
