use Rattle.std.proofs.Common.{◌≡◌, ◌&&◌, nat_le, ◌-◌, to_z, of_z, w64, sym, subst, refl, ◌∙◌, arith, rules}
use Rattle.std.proofs.lemmas.Int.{ints, to_z-of_z}
use Rattle.cert_lines.specs.Lines.{Remainder}
use Rattle.cert_format.specs.Numbers.{is_within}
use Rattle.cert_format.specs.Groups.{HoldsGroups, Awaits, IsNoWordAfter}
use Rattle.cert_format.specs.declared.groups.Awaited.{Awaited}
use Rattle.cert_format.proofs.GroupSteps.{more_at, and_assoc, at_size, size_step}
use Rattle.cert_format.proofs.groups.Groups.take_size.Goals as goal

pub returns-in_default : goal.returns-in_default
returns-in_default c = λ head groups rest text h held awaits.
    let s = at_size c.args.weight rest (subst (λ (a : Awaited). Awaits a rest) awaits h.awaits) in
    subst (λ (r : Remainder). IsNoWordAfter r text) (sym s.is) (c.in_default.ensures.told text held)

pub returns : goal.returns
returns c = λ head groups rest text h held awaits.
    let old = c.args.self.now in
    let same : to_z w64 (of_z w64 c.args.weight) ≡ c.args.weight = (let fits = c.ranges.weight.sfits in grind (arith, ints, to_z-of_z)) in
    let s = at_size c.args.weight rest (subst (λ (a : Awaited). Awaits a rest) awaits h.awaits) in
    let fits : c.if-self.self ≡ (old.in_range && (is_within 2 600 c.in-Some.size && nat_le c.in-Some.size old.room)) = search rules in
    let ranges = fits ∙ sym (and_assoc old.in_range (is_within 2 600 c.in-Some.size) (nat_le c.in-Some.size old.room)) in
    let room : c.saturating_sub-self.result ≡ old.room - c.in-Some.size = search rules in
    more_at s.is
    (size_step {old = old} (to_z w64 (of_z w64 c.args.weight)) c.in-Some.size (subst (λ (r : Remainder). HoldsGroups old head groups r) s.is h) (same ∙ s.told) (c.in-Some.ensures.told text held)
    c.edges_of-self.ensures.none c.edges_of-self.ensures.exact c.edges_of-self.ensures.more ranges room c.clear.ensures.items refl refl)
