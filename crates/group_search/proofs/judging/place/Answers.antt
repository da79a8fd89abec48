use Rattle.std.proofs.Common.{nat_eq, arith, sym, ap, ◌∙◌}
use Rattle.std.specs.List.{list_any}
use Rattle.std.specs.Cmp.Lexicographic.{pointwise}
use Rattle.group_search.specs.Violation.{tolerance, violation}
use Rattle.group_search.proofs.Ranked.{none_from, placed}
use Rattle.group_search.proofs.judging.place.Goals as goal

pub returns : goal.returns
returns c =
    rw c.in_ok-push.ensures.items (placed c.args.inst.now c.args.flow.now (tolerance c.args.effort) c.args.most c.args.last c.violation-violation.result c.args.groups.now.items c.args.group
    c.requires.violated c.requires.group (c.violation-violation.ensures ∙ ap (violation c.args.inst.now c.args.flow.now) c.edges.ensures) (omega (arith, c.if-violation-tolerance.false, c.tolerance.ensures))
    (omega (arith, c.if-last-violation.false)) (omega (arith, c.if-most-len.false, c.len.ensures, c.args.groups.now.ok))
    (ap (list_any (λ y. pointwise nat_eq y c.args.group)) (sym c.deref.ensures.value) ∙ none_from _ (sym c.is_new.ensures ∙ c.if-not-is_new.false)))
