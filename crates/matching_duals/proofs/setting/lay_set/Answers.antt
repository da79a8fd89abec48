use Rattle.std.proofs.Common.{◌∷◌, ℕ, List, length, ap, sym, ◌∙◌, subst}
use Rattle.blossom_match.specs.Answer.{len_in}
use Rattle.matching_duals.specs.Sets.{AreLaid, members_of, set_of, sets_to}
use Rattle.matching_duals.proofs.Merged.{whole}
use Rattle.matching_duals.proofs.Laying.{set_members_in, set_distinct, set_placed, set_small, set_fits, set_sides, set_laid}
use Rattle.matching_duals.proofs.setting.lay_set.Goals as goal

pub depths_of-requires-clause-members : goal.depths_of-requires-clause-members
depths_of-requires-clause-members c =
    let m = c.args.matching.now in
    let i = c.args.i in
    let is = c.in_ok-members.ensures ∙ ap (λ (l : List ℕ). members_of l m i (len_in m i)) c.deref.ensures.value in
    set_members_in c.vertices_are_listed.ensures c.args.inst.now c.args.ground.now.odd.items c.args.ground.now.table.items m i c.args.laying.now.enclosing.items
    c.args.laying.now.shores.items c.validity.ensures c.requires.sets c.requires.set c.requires.laid c.deref-4.result.now (c.deref-4.ensures.value ∙ is)

pub add_levels-requires-clause-sides : goal.add_levels-requires-clause-sides
add_levels-requires-clause-sides c =
    let m = c.args.matching.now in
    let i = c.args.i in
    let is = c.in_ok-members.ensures ∙ ap (λ (l : List ℕ). members_of l m i (len_in m i)) c.deref.ensures.value in
    set_sides c.vertices_are_listed.ensures c.args.inst.now c.args.ground.now.odd.items c.args.ground.now.table.items m i c.args.laying.now.enclosing.items
    c.args.laying.now.shores.items c.validity.ensures c.requires.sets c.requires.set c.requires.laid c.deref-2.result.now c.deref-3.result.now c.deref-4.result.now
    c.in_ok-depths.depths.items c.deref-5.result.now c.halves-weight.result c.in_ok-depths.ensures c.deref-2.ensures.value c.deref-3.ensures.value
    (c.deref-4.ensures.value ∙ is) c.halves-weight.ensures c.deref-5.ensures.value

pub add_levels-requires-clause-small : goal.add_levels-requires-clause-small
add_levels-requires-clause-small c =
    set_fits c.vertices_are_listed.ensures c.args.inst.now c.args.ground.now.odd.items c.args.ground.now.table.items c.args.matching.now c.args.i c.args.laying.now.enclosing.items
    c.args.laying.now.shores.items c.validity.ensures c.requires.sets c.requires.set c.requires.laid c.halves-weight.result c.halves-weight.ensures

pub add_enclosing-requires-clause-distinct : goal.add_enclosing-requires-clause-distinct
add_enclosing-requires-clause-distinct c =
    let m = c.args.matching.now in
    let i = c.args.i in
    let is = c.in_ok-members.ensures ∙ ap (λ (l : List ℕ). members_of l m i (len_in m i)) c.deref.ensures.value in
    set_distinct c.vertices_are_listed.ensures c.args.inst.now c.args.ground.now.odd.items c.args.ground.now.table.items m i c.args.laying.now.enclosing.items
    c.args.laying.now.shores.items c.validity.ensures c.requires.sets c.requires.set c.requires.laid c.deref-6.result.now (c.deref-6.ensures.value ∙ is)

pub add_enclosing-requires-clause-members : goal.add_enclosing-requires-clause-members
add_enclosing-requires-clause-members c =
    let m = c.args.matching.now in
    let i = c.args.i in
    let is = c.in_ok-members.ensures ∙ ap (λ (l : List ℕ). members_of l m i (len_in m i)) c.deref.ensures.value in
    set_placed c.vertices_are_listed.ensures c.args.inst.now c.args.ground.now.odd.items c.args.ground.now.table.items m i c.args.laying.now.enclosing.items
    c.args.laying.now.shores.items c.validity.ensures c.requires.sets c.requires.set c.requires.laid c.deref-6.result.now c.deref_mut.result.now
    (c.deref-6.ensures.value ∙ is) c.deref_mut.ensures.value

pub add_enclosing-requires-clause-small : goal.add_enclosing-requires-clause-small
add_enclosing-requires-clause-small c =
    let m = c.args.matching.now in
    let i = c.args.i in
    let is = c.in_ok-members.ensures ∙ ap (λ (l : List ℕ). members_of l m i (len_in m i)) c.deref.ensures.value in
    set_small c.vertices_are_listed.ensures c.args.inst.now c.args.ground.now.odd.items c.args.ground.now.table.items m i c.args.laying.now.enclosing.items
    c.args.laying.now.shores.items c.validity.ensures c.requires.sets c.requires.set c.requires.laid c.deref-6.result.now c.deref_mut.result.now c.halves-weight.result
    (c.deref-6.ensures.value ∙ is) c.deref_mut.ensures.value c.halves-weight.ensures

pub returns : goal.returns
returns c =
    let p = c.args.inst.now in
    let m = c.args.matching.now in
    let i = c.args.i in
    let odd = c.args.ground.now.odd.items in
    let table = c.args.ground.now.table.items in
    let enclosing = c.args.laying.now.enclosing.items in
    let now = c.add_enclosing.new.enclosing in
    let is = c.in_ok-members.ensures ∙ ap (λ (l : List ℕ). members_of l m i (len_in m i)) c.deref.ensures.value in
    let long = c.add_enclosing.auto.enclosing ∙ ap length c.deref_mut.ensures.value in
    subst (λ (l : List ℕ). AreLaid p table (set_of odd m i ∷ sets_to odd m (len_in m i) i) l c.add_levels.new.shores.items)
    (sym (whole enclosing now c.args.laying.now.enclosing.len (c.args.laying.now.enclosing.ok.0 ∙ sym long)))
    (set_laid c.vertices_are_listed.ensures p odd table m i enclosing c.args.laying.now.shores.items c.validity.ensures c.requires.sets c.requires.set c.requires.laid
    c.deref-2.result.now c.deref-3.result.now c.deref-4.result.now c.in_ok-depths.depths.items c.deref-5.result.now c.halves-weight.result c.in_ok-depths.ensures
    c.deref-2.ensures.value c.deref-3.ensures.value (c.deref-4.ensures.value ∙ is) c.halves-weight.ensures c.deref-5.ensures.value c.add_levels.new.shores.items
    c.in_ok-add_levels.ensures now c.deref_mut.result.now c.deref-6.result.now c.deref_mut.ensures.value (c.deref-6.ensures.value ∙ is) long c.add_enclosing.ensures)
