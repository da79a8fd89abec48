use Rattle.std.proofs.Common.{◌≡◌, ◌&&◌, sym, subst, refl, to_z, of_z, w64, rules}
use Rattle.cert_lines.specs.Lines.{Remainder}
use Rattle.cert_format.specs.Numbers.{price_ok}
use Rattle.cert_format.specs.Groups.{HoldsGroups, IsNoWordAfter}
use Rattle.cert_format.proofs.Told.{told_bits}
use Rattle.cert_format.proofs.GroupSteps.{more_at, at_weight, weight_step}
use Rattle.cert_format.proofs.groups.Groups.take_weight.Goals as goal

pub returns-in_default : goal.returns-in_default
returns-in_default c = λ head groups rest text h held awaits.
    let is = at_weight c.args.self.now.awaited rest h.awaits awaits in
    subst (λ (r : Remainder). IsNoWordAfter r text) (sym is) (c.in_default.ensures text held)

pub returns : goal.returns
returns c = λ head groups rest text h held awaits.
    let is = at_weight c.args.self.now.awaited rest h.awaits awaits in
    let told = c.in-Some.ensures text held in
    let ranges : c.if-self.self ≡ (c.args.self.now.in_range && price_ok (to_z w64 (of_z w64 c.in-Some.weight))) = search rules in
    more_at is
    (weight_step {old = c.args.self.now} c.in-Some.weight (to_z w64 (of_z w64 c.in-Some.weight)) (subst (λ (r : Remainder). HoldsGroups c.args.self.now head groups r) is h) told
    (told_bits told.z c.in-Some.weight told.value) refl ranges refl refl refl)
