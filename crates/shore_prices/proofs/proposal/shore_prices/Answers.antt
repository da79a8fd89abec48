use Rattle.std.proofs.Common.{rules, ◌≡◌, ◌*◌, map, pos, refl, subst, sym, ◌∙◌}
use Rattle.std.proofs.lemmas.Result.{IfOk-weaker}
use Rattle.carp_base.specs.Problem.{required_edges}
use Rattle.leaf_adviser.specs.Offers.{IsOffer}
use Rattle.shore_prices.proofs.Proposed.{set_fine, set_offered}
use Rattle.shore_prices.proofs.proposal.shore_prices.Goals as goal
use Rattle.price_points.specs.Limits.{denominator}

pub new-requires : goal.new-requires
new-requires c =
    let services : c.deref.result.now ≡ map (λ x. pos (denominator * x.service)) (required_edges c.args.inst.now) = search rules in
    let weights : c.deref-2.result.now ≡ c.in_ok-listed.listed.items = search rules in
    rw (services, weights) (set_fine c.args.inst.now c.validity.ensures _ c.in_ok-listed.listed.items c.in_ok-listed.ensures.few c.in_ok-listed.ensures.listed)

pub returns-clause-offer : goal.returns-clause-offer
returns-clause-offer c =
    let services : c.deref.result.now ≡ map (λ x. pos (denominator * x.service)) (required_edges c.args.inst.now) = search rules in
    let weights : c.deref-2.result.now ≡ c.in_ok-listed.listed.items = search rules in
    let offered = set_offered c.args.inst.now c.validity.ensures c.place_weights.new.pool c.in_ok-listed.listed.items c.place_weights.ensures.belong c.in_ok-listed.ensures.listed in
    IfOk-weaker c.new.result _ _
    (λ set is. subst (IsOffer c.args.inst.now c.place_weights.new.pool) (sym (is ∙ (rw (services, weights) refl))) offered) c.new.ensures
