use Rattle.std.proofs.Common.{◌≡◌, ◌+◌, ◌-◌, ◌*◌, ◌/◌, ◌%◌, ◌<◌, arith, ap, ◌∙◌}
use Rattle.std.proofs.lemmas.Nat.{div-mul-add, mod-mul-add, mul-add-lt}
use Rattle.carp_base.specs.Allowed.{allows}
use Rattle.route_pricing.proofs.copying.copy_pairs.Goals as goal

pub returns-clause-same : goal.returns-clause-same
returns-clause-same c = λ a b a_in b_in.
    let m = c.args.required in
    let r = c.args.allowed.now in
    let i = (a - 1) * m + (b - 1) in
    let below : b - 1 < m = omega (arith, b_in.from_one, b_in.in_range, c.requires.on) in
    let within = mul-add-lt (a - 1) m (b - 1) m (omega (arith, a_in.from_one, a_in.in_range, c.requires.on)) below in
    let row : i / m + 1 ≡ a = omega (arith, div-mul-add (a - 1) m (b - 1) below, a_in.from_one) in
    let column : i % m + 1 ≡ b = omega (arith, mod-mul-add (a - 1) m (b - 1) below, b_in.from_one) in
    c.loop-place.invariant.same i (omega (arith, within, c.loop-place-test.false)) ∙ ap (λ k. allows r k (i % m + 1)) row ∙ ap (allows r a) column

pub returns-clause-symmetric : goal.returns-clause-symmetric
returns-clause-symmetric c = λ a b a_in b_in.
    let m = c.args.required in
    let within = mul-add-lt (a - 1) m (b - 1) m (omega (arith, a_in.from_one, a_in.in_range, c.requires.on)) (omega (arith, b_in.from_one, b_in.in_range, c.requires.on)) in
    (c.loop-place.invariant.relation (omega (arith, within, c.loop-place-test.false))).symmetric a b a_in b_in
