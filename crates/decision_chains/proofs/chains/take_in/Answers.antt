use Rattle.std.proofs.Common.{sym, ap, ◌∙◌, arith}
use Rattle.decision_chains.specs.ChainTables.{near_has, near_with}
use Rattle.decision_chains.proofs.Linking.{taken_by, taken_again, near_place, label_place}
use Rattle.decision_chains.proofs.chains.take_in.Goals as goal

pub returns-then-has : goal.returns-then-has
returns-then-has c = λ branch tangled before.
    let pair = c.requires.pair in
    taken_again _ branch _ _ _ _ tangled before pair
    (ap (λ x. near_has x c.args.b) (sym (near_place c.args.near.now c.args.a _ pair.a_from_one (omega (arith, pair.a_in_range, c.requires.long)))) ∙ sym c.has.ensures ∙ c.if-has.true)

pub returns : goal.returns
returns c = λ branch tangled before.
    let pair = c.requires.pair in
    let near = c.args.near.now in
    let labels = c.args.labels.now in
    let a_near = near_place near c.args.a _ pair.a_from_one (omega (arith, pair.a_in_range, c.requires.long)) in
    let b_near = near_place near c.args.b _ pair.b_from_one (omega (arith, pair.b_in_range, c.requires.long)) in
    taken_by _ branch c.args.a c.args.b labels near tangled before pair _ _ c.with-at_a.result c.with-at_b.result c.relabel.new.labels c.has.result c.tangles.result
    (label_place labels c.args.a _ pair.a_from_one pair.a_in_range)
    (label_place labels c.args.b _ pair.b_from_one pair.b_in_range)
    (c.with-at_a.ensures ∙ ap (λ x. near_with x c.args.b) a_near)
    (c.with-at_b.ensures ∙ ap (λ x. near_with x c.args.a) b_near)
    (c.has.ensures ∙ ap (λ x. near_has x c.args.b) a_near) c.if-has.false c.relabel.ensures c.tangles.ensures
