use Rattle.std.proofs.Common.{◌≡◌, ◌∙◌, ◌+◌, List, All, ap, arith, drop, length, min, subst, sym}
use Rattle.std.proofs.lemmas.List.{take_at}
use Rattle.std.proofs.lemmas.Result.{IfOk-weaker}
use Rattle.branch_rules.specs.Prices.{Prices}
use Rattle.plan_model.specs.Plans.{plan_cost}
use Rattle.grown_trees.specs.Growth.{IsSpelledNode, turns_in}
use Rattle.grown_trees.specs.declared.growing.GrowingNode.{GrowingNode}
use Rattle.branch_tree.specs.Resumes.{MayResume}
use Rattle.cert_format.specs.Certs.{certificate_in}
use Rattle.tree_transfer.specs.Shown.{HasShores, WouldShowSome}
use Rattle.carp_engine.specs.Certifying.{IsSearched}
use Rattle.carp_engine.proofs.Better.{improved}
use Rattle.carp_engine.proofs.Named.{had_before, may_go_on, spelled_entries, taken_up}
use Rattle.carp_engine.proofs.Olds.{shores, spelled_nodes, tree_nodes, would_show}
use Rattle.carp_engine.proofs.Sound.{no_dearer}
use Rattle.carp_engine.proofs.improving.take_up.Goals as goal

pub note_nodes-requires-clause-nodes : goal.note_nodes-requires-clause-nodes
note_nodes-requires-clause-nodes g c = tree_nodes c.known_laws.ensures.fine c.known_laws.ensures.once c.args.inst.now (certificate_in c.args.cert) c.requires.spellable c.requires.good

pub note_nodes-requires-clause-shows : goal.note_nodes-requires-clause-shows
note_nodes-requires-clause-shows g c =
    subst (λ (sets : List Prices). WouldShowSome (record { problem = c.args.inst.now; pool = c.args.cert.shores; sets = sets }) c.args.cert.tree.nodes) (sym c.deref.ensures.value)
    (would_show c.known_laws.ensures.fine c.known_laws.ensures.once c.args.inst.now (certificate_in c.args.cert) c.requires.spellable c.requires.good)

pub note_nodes-requires-clause-shores : goal.note_nodes-requires-clause-shores
note_nodes-requires-clause-shores g c =
    subst (λ (sets : List Prices). HasShores (record { problem = c.args.inst.now; pool = c.args.cert.shores; sets = sets })) (sym c.deref.ensures.value)
    (shores c.known_laws.ensures.fine c.known_laws.ensures.once c.args.inst.now (certificate_in c.args.cert) c.requires.spellable c.requires.good)

pub search_on-requires-clause-allowed : goal.search_on-requires-clause-allowed
search_on-requires-clause-allowed g c = c.known_laws.ensures.allowed c.args.inst.now c.args.helped.plan c.validity.ensures c.requires.short

pub keep_named_sets-requires : goal.keep_named_sets-requires
keep_named_sets-requires g c =
    let sets = length c.args.cert.sets.items in
    subst (All (λ (e : GrowingNode). IsSpelledNode sets e.node)) (sym c.deref_mut.ensures.value)
    (spelled_entries sets c.in_ok-nodes.nodes.items c.args.cert.tree.nodes c.in_ok-nodes.ensures.nodes
    (spelled_nodes c.known_laws.ensures.fine c.known_laws.ensures.once c.args.inst.now (certificate_in c.args.cert) c.requires.spellable c.requires.good))

pub search_on-requires-clause-may : goal.search_on-requires-clause-may
search_on-requires-clause-may g c =
    let p = c.args.inst.now in
    let old = certificate_in c.args.cert in
    let nodes = c.in_ok-nodes.nodes in
    let taken = taken_up p old c.deref.ensures.value c.in_ok-nodes.ensures.noted c.deref_mut.ensures.value c.in_ok-sets.ensures.named in
    let long : length c.keep_named_sets.new.nodes ≡ nodes.len = omega (arith, c.keep_named_sets.auto.nodes, ap length c.deref_mut.ensures.value, nodes.ok.0) in
    let here : c.deref-2.result.now ≡ c.keep_named_sets.new.nodes = c.deref-2.ensures.value ∙ take_at c.keep_named_sets.new.nodes (drop (length c.keep_named_sets.new.nodes) nodes.items) nodes.len long in
    subst (MayResume p old.shores c.in_ok-sets.sets.items old.bound) (sym here)
    (may_go_on c.known_laws.ensures.fine c.known_laws.ensures.once c.known_laws.ensures.named p old c.requires.spellable c.requires.good
    (c.known_laws.ensures.proof p old c.validity.ensures c.requires.good).bounds taken c.in_ok-sets.ensures.no_more)

pub returns-clause-improved : goal.returns-clause-improved
returns-clause-improved g c =
    let p = c.args.inst.now in
    let old = certificate_in c.args.cert in
    let best = c.args.helped.plan in
    let nodes = c.in_ok-nodes.nodes in
    let after = c.keep_named_sets.new.nodes in
    let laws = c.known_laws.ensures in
    let taken = taken_up p old c.deref.ensures.value c.in_ok-nodes.ensures.noted c.deref_mut.ensures.value c.in_ok-sets.ensures.named in
    let long : length after ≡ nodes.len = omega (arith, c.keep_named_sets.auto.nodes, ap length c.deref_mut.ensures.value, nodes.ok.0) in
    let here : c.deref-2.result.now ≡ after = c.deref-2.ensures.value ∙ take_at after (drop (length after) nodes.items) nodes.len long in
    let before =
    had_before c.known_laws.ensures.fine c.known_laws.ensures.once c.known_laws.ensures.named p old c.requires.spellable c.requires.good
    (c.known_laws.ensures.proof p old c.validity.ensures c.requires.good).bounds taken c.known_laws.ensures.turns in
    IfOk-weaker c.search_on.result _ _
    (λ solved searched. improved laws p old after c.args.turns best c.requires.short c.requires.cheap before _ _
    (subst (λ (xs : List GrowingNode). IsSearched p old.bound (min (turns_in (plan_cost p best) xs + c.args.turns) 1048576) best (certificate_in solved.cert) solved.turns) here searched))
    c.search_on.ensures

pub returns-clause-no_dearer : goal.returns-clause-no_dearer
returns-clause-no_dearer g c =
    IfOk-weaker c.search_on.result _ _ (λ solved searched. no_dearer c.args.inst.now c.args.cert.bound _ c.args.helped.plan _ _ searched) c.search_on.ensures
