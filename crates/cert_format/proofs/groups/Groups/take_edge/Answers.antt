use Rattle.std.proofs.Common.{◌≡◌, ◌-◌, Bool, true, ◌&&◌, [], ◌∷◌, ◌++◌, to_z, of_z, w64, ap, sym, subst, refl, ◌∙◌, arith, rules}
use Rattle.std.proofs.lemmas.Int.{ints, to_z-of_z}
use Rattle.cert_lines.specs.Lines.{Remainder}
use Rattle.cert_format.specs.Numbers.{is_within}
use Rattle.cert_format.specs.Groups.{HoldsGroups, Awaits, LeftIs, IsNoWordAfter}
use Rattle.cert_format.specs.declared.groups.Awaited.{Awaited}
use Rattle.cert_format.proofs.GroupSteps.{more_at, at_edge}
use Rattle.cert_format.proofs.EdgeSteps.{edge_more, edge_last, left_less, none_left}
use Rattle.cert_format.proofs.groups.Groups.take_edge.Goals as goal

pub returns-in_default : goal.returns-in_default
returns-in_default c = λ head groups rest text h held awaits.
    let s = at_edge c.args.weight c.args.left c.args.exact rest (subst (λ (a : Awaited). Awaits a rest) awaits h.awaits) in
    subst (λ (r : Remainder). IsNoWordAfter r text) (sym s.is) (c.in_default.ensures.told text held)

pub returns-then-left-gt1 : goal.returns-then-left-gt1
returns-then-left-gt1 c = λ head groups rest text h held awaits.
    let old = c.args.self.now in
    let new = c.push_edge.new.self in
    let s = at_edge c.args.weight c.args.left c.args.exact rest (subst (λ (a : Awaited). Awaits a rest) awaits h.awaits) in
    let same : to_z w64 (of_z w64 c.args.weight) ≡ c.args.weight = (let fits = c.ranges.weight.sfits in grind (arith, ints, to_z-of_z)) in
    let less = left_less c.args.exact c.args.left s.missing s.left_is c.if-left-gt1.true in
    let ranges : new.in_range ≡ (old.in_range && is_within 1 600 c.in-Some.edge) = search rules in
    let room : new.room ≡ old.room = search rules in
    let order : new.in_order ≡ old.in_order = search rules in
    let kept : new.kept.items ≡ old.kept.items = search rules in
    let pushed : new.in_range ≡ true → new.edges.items ≡ old.edges.items ++ c.min.result ∷ [] = (λ good. search rules) in
    more_at s.is
    (edge_more {old = old} (to_z w64 (of_z w64 c.args.weight)) c.in-Some.edge c.min.result (c.args.left - 1) s.missing less.0 c.args.exact
    (subst (λ (r : Remainder). HoldsGroups old head groups r) s.is h) (same ∙ s.told) (c.in-Some.ensures.told text held) c.min.ensures less.1 less.2 refl ranges pushed room order kept)

pub returns : goal.returns
returns c = λ head groups rest text h held awaits.
    let old = c.args.self.now in
    let pushed_to = c.push_edge.new.self in
    let new = c.keep.new.self in
    let bits = c.ranges in
    let same : to_z w64 (of_z w64 c.args.weight) ≡ c.args.weight = (let fits = c.ranges.weight.sfits in grind (arith, ints, to_z-of_z)) in
    let s = at_edge c.args.weight c.args.left c.args.exact rest (subst (λ (a : Awaited). Awaits a rest) awaits h.awaits) in
    let exact : c.args.exact ≡ true = search rules in
    let none : s.missing ≡ 0 = none_left c.args.left s.missing (subst (λ (b : Bool). LeftIs b c.args.left s.missing) exact s.left_is) c.if-left-gt1.false in
    let first : pushed_to.in_range ≡ (old.in_range && is_within 1 600 c.in-Some.edge) = search rules in
    let ranges : new.in_range ≡ (old.in_range && is_within 1 600 c.in-Some.edge) = c.in_ok-keep.ensures.in_range ∙ first in
    let room : new.room ≡ old.room = search rules in
    let order : pushed_to.in_order ≡ old.in_order = search rules in
    let kept : pushed_to.kept.items ≡ old.kept.items = search rules in
    let pushed : pushed_to.in_range ≡ true → pushed_to.edges.items ≡ old.edges.items ++ c.min.result ∷ [] = (λ good. search rules) in
    more_at s.is
    (edge_last {old = old} (to_z w64 (of_z w64 c.args.weight)) c.in-Some.edge c.min.result s.missing pushed_to.edges.items
    (subst (λ (r : Remainder). HoldsGroups old head groups r) s.is h) (same ∙ s.told) (c.in-Some.ensures.told text held) c.min.ensures none
    c.in_ok-keep.ensures.awaited ranges (λ good. pushed (sym c.in_ok-keep.ensures.in_range ∙ good)) room
    (λ good. (
    let both = c.in_ok-keep.ensures.in_order (sym c.in_ok-keep.ensures.in_range ∙ good) in
    (λ e. (sym order ∙ (both.0 e).0, (both.0 e).1), λ e. both.1 (order ∙ e.0, e.1))
    ))
    (λ good e. c.in_ok-keep.ensures.kept (sym c.in_ok-keep.ensures.in_range ∙ good) e ∙ ap (λ xs. xs ++ record { edges = pushed_to.edges.items; weight = to_z w64 (of_z w64 c.args.weight) } ∷ []) kept))
