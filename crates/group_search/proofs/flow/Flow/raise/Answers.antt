use Rattle.std.proofs.Common.{◌≡◌, ◌+◌, ◌*◌, length, get_or, set, sym, ap, ◌∙◌, subst, arith}
use Rattle.std.proofs.lemmas.List.{get_or_default}
use Rattle.group_search.specs.Flows.{FlowTable, IsRaised, more}
use Rattle.group_search.proofs.Cells.{raised}
use Rattle.group_search.proofs.flow.Flow.raise.Goals as goal

pub returns : goal.returns
returns c =
    let services = ap (λ (t : FlowTable). t.services) c.self.view_is in
    let long = ap (λ (t : FlowTable). length t.amounts) c.self.view_is in
    let cell : c.place-place.result ≡ c.args.e * (c.self.inside.services + 1) + c.args.f = c.place-place.ensures.value ∙ ap (λ s. c.args.e * (s + 1) + c.args.f) (sym services) in
    let read =
    c.index.ensures ∙ get_or_default c.self.inside.amounts.items c.place-place.result c.index.result.now 0 (omega (arith, c.place-place.ensures.below, long))
    ∙ ap (λ k. get_or c.self.inside.amounts.items k 0) cell in
    subst (λ t. IsRaised c.args.e c.args.f c.args.amount t (record { services = c.self.inside.services; amounts = set c.self.inside.amounts.items c.place-place.result c.sum_of.result }))
    c.self.view_is
    (raised c.self.inside.services c.self.inside.amounts.items (set c.self.inside.amounts.items c.place-place.result c.sum_of.result) c.args.e c.args.f c.args.amount c.sum_of.result c.self.invariant.long
    (omega (arith, c.requires.e, services)) (omega (arith, c.requires.f, services)) (ap (λ k. set c.self.inside.amounts.items k c.sum_of.result) cell)
    (c.sum_of.ensures ∙ ap (λ n. more n c.args.amount) read))
