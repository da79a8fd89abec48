use Rattle.std.proofs.Common.{◌≡◌, ◌+◌, ◌∙◌, List, ◌∷◌, ◌++◌, take, drop, set, refl, ap}
use Rattle.std.specs.List.{insert}
use Rattle.grown_trees.specs.declared.growing.GrowingNode.{GrowingNode}
use Rattle.grown_trees.proofs.Joining.{got_at, inserted_at, set_at}
use Rattle.grown_trees.proofs.blocks.divide.Goals as goal

pub returns-clause-divided : goal.returns-clause-divided
returns-clause-divided c = λ before behind here is at.
    let old = c.args.blocks.now.items in
    let block = c.args.block in
    let now = c.insert.new.self.items in
    let upper_is : c.copy_upper_half.new.other ≡ drop 512 here =
    c.copy_upper_half.ensures ∙ ap (λ (es : List GrowingNode). drop 512 es) (c.index.ensures ∙ got_at before behind here old block is at c.index.result.now) in
    let all_in : now ≡ insert old (block + 1) c.copy_upper_half.new.other = rw (c.insert.ensures.items, c.unwrap.ensures) refl in
    let middle : now ≡ before ++ (here ∷ drop 512 here ∷ behind) =
    all_in ∙ ap (λ (u : List GrowingNode). insert old (block + 1) u) upper_is
    ∙ inserted_at before behind here (drop 512 here) (take 512 here) old block is at in
    let lower_is : c.keep_lower_half.new.self ≡ take 512 here =
    c.keep_lower_half.ensures ∙ ap (λ (es : List GrowingNode). take 512 es) (c.index_mut.ensures.value ∙ got_at before (drop 512 here ∷ behind) here now block middle at c.index_mut.result.now) in
    ap (λ (z : List GrowingNode). set now block z) lower_is ∙ set_at before behind here (drop 512 here) (take 512 here) now block middle at
