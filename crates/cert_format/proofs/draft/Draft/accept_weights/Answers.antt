use Rattle.std.proofs.Common.{◌≡◌, [], ◌∷◌, length, List, sym, ap, subst, ◌∙◌}
use Rattle.branch_rules.specs.Prices.{Prices}
use Rattle.branch_rules.specs.declared.weight.Weight.{Weight}
use Rattle.cert_lines.specs.Lines.{weights}
use Rattle.cert_lines.specs.Certificates.{unit_of, services_of}
use Rattle.cert_format.specs.Drafts.{HoldsDraft}
use Rattle.cert_format.proofs.draft.Draft.accept_weights.Goals as goal

pub returns-clause-held : goal.returns-clause-held
returns-clause-held c = λ said held fine.
    let ws = c.args.weights.now in
    let made : c.in_ok-set.set ≡ record { unit = c.args.self.now.unit; services = c.args.self.now.services.items; weights = ws; groups = [] } =
    c.in_ok-set.ensures ∙ (λ i. record { unit = c.args.self.now.unit; services = c.deref-2.ensures.value i; weights = ws; groups = [] }) in
    let same : c.in_ok-set.set ≡ record { unit = unit_of said; services = services_of said; weights = c.in_ok-set.set.weights; groups = [] } =
    made ∙ (λ i. record { unit = held.unit i; services = held.services i; weights = (ap (λ (set : Prices). set.weights) (sym made)) i; groups = [] }) in
    subst (λ (xs : List Weight). HoldsDraft c.place_set.new.self (weights (length ws) xs ∷ said)) (ap (λ (set : Prices). set.weights) made)
    (c.in_ok-place_set.ensures.held said (length ws) held same)
