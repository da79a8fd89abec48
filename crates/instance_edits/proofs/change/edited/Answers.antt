use Rattle.std.proofs.Common.{◌≡◌, ◌+◌, ◌-◌, ℕ, refl, sym, subst, ◌∙◌, length, arith}
use Rattle.std.specs.Prelude.{IfOk, IfErr, OnOk}
use Rattle.std.specs.List.{All}
use Rattle.carp_base.specs.Problem.{Problem, IsValid, described}
use Rattle.carp_base.specs.Refusals.{RefusesFirstFault}
use Rattle.instance_edits.specs.Edits.{edited}
use Rattle.instance_edits.specs.Changing.{IsApplied}
use Rattle.instance_edits.proofs.Changes.{all_applied, lists_same, same_problem}
use Rattle.instance_edits.proofs.change.edited.Goals as goal

pub changes_by-requires-clause-applied : goal.changes_by-requires-clause-applied
changes_by-requires-clause-applied c =
    subst (λ (n : ℕ). All (IsApplied (n + 1)) c.args.edits.now) (sym c.edge_count.ensures.value) (all_applied c.args.inst.now c.args.edits.now c.edge_count.ensures.valid c.requires.known c.requires.short)

same : (c : goal.After-drop-changes-2) → described c.from.result c.from-2.result c.capacity.result c.deref-3.result.now c.deref-4.result.now ≡ edited c.args.inst.now c.args.edits.now
same c =
    let within = c.edge_count.ensures.valid.required_in in
    same_problem c.args.inst.now c.args.edits.now _ _ _ _ _ (c.from.ensures ∙ c.vertices.ensures.value) (c.from-2.ensures ∙ c.depot.ensures.value) c.capacity.ensures.value
    (lists_same c.args.inst.now c.deref.result.now c.in_ok-changes.changes.items c.args.edits.now c.in_ok-required.required.items c.deref-3.result.now 0 c.required.result 0 c.args.inst.now.required
    c.edge_count.result c.deref-3.ensures.value c.in_ok-required.ensures.kept c.deref.ensures.value refl c.required.ensures.value c.in_ok-changes.ensures.table c.in_ok-changes.ensures.all c.edge_count.ensures.value (omega (arith, within)))
    (lists_same c.args.inst.now c.deref-2.result.now c.in_ok-changes.changes.items c.args.edits.now c.in_ok-others.others.items c.deref-4.result.now c.required-2.result (c.edge_count-2.result - c.required-3.result)
    c.args.inst.now.required (length c.args.inst.now.edges - c.args.inst.now.required)
    c.edge_count.result c.deref-4.ensures.value c.in_ok-others.ensures.kept c.deref-2.ensures.value c.required-2.ensures.value (omega (arith, c.edge_count-2.ensures.value, c.required-3.ensures.value))
    c.in_ok-changes.ensures.table c.in_ok-changes.ensures.all c.edge_count.ensures.value (omega (arith, within)))

pub returns-clause-built : goal.returns-clause-built
returns-clause-built c = subst (λ (p : Problem). IfOk c.build.result (λ after. after ≡ p)) (same c) c.build.ensures.built

pub returns-clause-accepted : goal.returns-clause-accepted
returns-clause-accepted c = subst (λ (p : Problem). OnOk c.build.result (IsValid p)) (same c) c.build.ensures.accepted

pub returns-clause-refused : goal.returns-clause-refused
returns-clause-refused c = subst (λ (p : Problem). IfErr c.build.result (RefusesFirstFault p)) (same c) c.build.ensures.refused
