use Rattle.cert_format.specs.Certs.{certificate_in}
use Rattle.cert_transfer.proofs.Parts.{carried_over, served, shores, tree_nodes, would_show}
use Rattle.cert_transfer.proofs.carrying.carry_over.Goals as goal

pub carry_plan-requires-clause-services : goal.carry_plan-requires-clause-services
carry_plan-requires-clause-services c =
    served c.known_laws.ensures c.args.before.now c.args.after.now c.validity.ensures c.counts_of-counts.ensures.valid c.requires.raised (certificate_in c.args.cert.now) c.requires.spellable c.requires.good

pub carry_parts-requires-clause-nodes : goal.carry_parts-requires-clause-nodes
carry_parts-requires-clause-nodes c =
    tree_nodes c.known_laws.ensures c.args.before.now c.args.after.now c.validity.ensures c.counts_of-counts.ensures.valid c.requires.raised (certificate_in c.args.cert.now) c.requires.spellable c.requires.good

pub carry_parts-requires-clause-shows : goal.carry_parts-requires-clause-shows
carry_parts-requires-clause-shows c =
    would_show c.known_laws.ensures c.args.before.now c.args.after.now c.validity.ensures c.counts_of-counts.ensures.valid c.requires.raised (certificate_in c.args.cert.now) c.requires.spellable c.requires.good

pub carry_parts-requires-clause-shores : goal.carry_parts-requires-clause-shores
carry_parts-requires-clause-shores c =
    shores c.known_laws.ensures c.args.before.now c.args.after.now c.validity.ensures c.counts_of-counts.ensures.valid c.requires.raised (certificate_in c.args.cert.now) c.requires.spellable c.requires.good

pub returns : goal.returns
returns c =
    let parts = c.in_ok-parts.ensures in
    rw (c.counts_of-counts.ensures.counts, parts.shores, parts.sets)
    (carried_over c.known_laws.ensures c.args.before.now c.args.after.now c.validity.ensures c.counts_of-counts.ensures.valid c.requires.raised (certificate_in c.args.cert.now) c.requires.spellable c.requires.good
    c.in_ok-parts.parts.tree.nodes parts.carried c.in_ok-plan.plan c.in_ok-cost.field-0 c.in_ok-parts.parts.bound c.in_ok-plan.ensures.lawful c.in_ok-cost.ensures c.in_ok-plan.ensures.few_tours
    c.in_ok-plan.ensures.few_steps parts.no_more parts.greatest c.in_ok-plan.ensures.tours c.in_ok-plan.ensures.paths)
