use Rattle.std.proofs.Common.{arith, rules, nat_eq, ap, sym, ◌∙◌}
use Rattle.std.specs.List.{list_any}
use Rattle.std.specs.Cmp.Lexicographic.{pointwise}
use Rattle.shore_search.proofs.Placing.{none_from, placed}
use Rattle.shore_search.proofs.judging.place.Goals as goal

pub returns : goal.returns
returns c =
    let p = c.args.inst.now in
    rw c.in_ok-push.ensures.items (placed p c.args.x.now c.args.most c.args.last c.shortfall-short.result c.args.shores.now.items c.args.shore
    c.requires.short c.requires.set (search rules) c.shortfall-short.ensures (omega (arith, c.if-short-le-TOLERANCE.false)) (omega (arith, c.if-last-short.false)) (omega (arith, c.if-most-len.false, c.len.ensures, c.args.shores.now.ok))
    (ap (list_any (λ y. pointwise nat_eq y c.args.shore)) (sym c.deref.ensures.value) ∙ none_from _ (sym c.is_new.ensures ∙ c.if-not-is_new.false)))
