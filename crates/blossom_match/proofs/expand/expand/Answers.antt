use Rattle.std.proofs.Common.{refl, ap, sym, ◌∙◌, ◌≡◌, ◌<◌, subst, length, drop, arith}
use Rattle.std.proofs.lemmas.List.{take_at, get_or_read}
use Rattle.std.specs.Vec.{with_items}
use Rattle.blossom_match.specs.Turns.{top_of}
use Rattle.blossom_match.specs.Views.{link_at, no_pair}
use Rattle.blossom_match.specs.Expanding.{IsWayIn}
use Rattle.blossom_match.proofs.ExpandingStart.{spent_top, put_circle, put_few, put_place}
use Rattle.blossom_match.proofs.ExpandingStates.{IsExpanded, expanded, expanded_growth, expanded_keeps, expanded_less}
use Rattle.blossom_match.proofs.expand.expand.Goals as goal

pub index-requires : goal.index-requires
index-requires c =
    let r = c.requires in
    let b = r.searching.so_far in
    let o = spent_top c.args.costs.now c.args.state.now c.args.s c.args.first c.args.mate r.asked r.searching r.spent r.child r.matched in
    let entry_in : c.args.s < length c.args.state.now.entry.items = omega (arith, r.spent.in_slots, b.shape.entry_len) in
    let entry_is : c.index-entry.result.now ≡ link_at c.args.state.now.entry.items c.args.s = get_or_read c.args.state.now.entry.items c.args.s c.index-entry.result.now entry_in c.index-entry.ensures no_pair in
    let inside_in : c.index-entry.result.now.inside < c.args.state.now.size = subst (λ q. q.inside < c.args.state.now.size) (sym entry_is) o.reached.entry_tight.inside_in in
    let a = c.put_away-len.ensures in
    omega (arith, inside_in, a.top_len, b.shape.top_len, c.put_away-len.new.state.top.ok.0)

pub index-requires-2 : goal.index-requires-2
index-requires-2 c =
    let r = c.requires in
    let b = r.searching.so_far in
    let o = spent_top c.args.costs.now c.args.state.now c.args.s c.args.first c.args.mate r.asked r.searching r.spent r.child r.matched in
    let a = c.put_away-len.ensures in
    omega (arith, o.can.inside_in, a.top_len, b.shape.top_len, c.put_away-len.new.state.top.ok.0)

pub label_way-requires-clause-few : goal.label_way-requires-clause-few
label_way-requires-clause-few c =
    let r = c.requires in
    let b = r.searching.so_far in
    let o = spent_top c.args.costs.now c.args.state.now c.args.s c.args.first c.args.mate r.asked r.searching r.spent r.child r.matched in
    let a = c.put_away-len.ensures in
    omega (arith, put_few c.args.costs.now c.args.state.now c.put_away-len.new.state c.args.s c.args.first c.put_away-len.result c.args.mate o r.matched a, b.shape.size_is, r.asked.table.few)

pub label_way-requires-clause-circle : goal.label_way-requires-clause-circle
label_way-requires-clause-circle c =
    let r = c.requires in
    let b = r.searching.so_far in
    let o = spent_top c.args.costs.now c.args.state.now c.args.s c.args.first c.args.mate r.asked r.searching r.spent r.child r.matched in
    let a = c.put_away-len.ensures in
    let base_in : c.args.mate.inside < length c.put_away-len.new.state.top.items = omega (arith, o.can.inside_in, a.top_len, b.shape.top_len) in
    let base_is : c.index-2.result.now ≡ top_of c.put_away-len.new.state c.args.mate.inside = get_or_read c.put_away-len.new.state.top.items c.args.mate.inside c.index-2.result.now base_in c.index-2.ensures 0 in
    rw (c.deref.ensures.value, a.next, base_is)
    (put_circle c.args.costs.now c.args.state.now c.put_away-len.new.state c.args.s c.args.first c.put_away-len.result (length c.args.state.now.next.items) c.args.mate o r.matched a (sym b.shape.next_len))

pub label_way-requires-clause-place : goal.label_way-requires-clause-place
label_way-requires-clause-place c =
    let r = c.requires in
    let b = r.searching.so_far in
    let o = spent_top c.args.costs.now c.args.state.now c.args.s c.args.first c.args.mate r.asked r.searching r.spent r.child r.matched in
    let entry_in : c.args.s < length c.args.state.now.entry.items = omega (arith, r.spent.in_slots, b.shape.entry_len) in
    let entry_is : c.index-entry.result.now ≡ link_at c.args.state.now.entry.items c.args.s = get_or_read c.args.state.now.entry.items c.args.s c.index-entry.result.now entry_in c.index-entry.ensures no_pair in
    let inside_in : c.index-entry.result.now.inside < c.args.state.now.size = subst (λ q. q.inside < c.args.state.now.size) (sym entry_is) o.reached.entry_tight.inside_in in
    let a = c.put_away-len.ensures in
    let from_in : c.index-entry.result.now.inside < length c.put_away-len.new.state.top.items = omega (arith, inside_in, a.top_len, b.shape.top_len) in
    let from_is : c.index.result.now ≡ top_of c.put_away-len.new.state (link_at c.args.state.now.entry.items c.args.s).inside =
    get_or_read c.put_away-len.new.state.top.items c.index-entry.result.now.inside c.index.result.now from_in c.index.ensures 0 ∙ ap (λ q. top_of c.put_away-len.new.state q.inside) entry_is in
    let base_in : c.args.mate.inside < length c.put_away-len.new.state.top.items = omega (arith, o.can.inside_in, a.top_len, b.shape.top_len) in
    let base_is : c.index-2.result.now ≡ top_of c.put_away-len.new.state c.args.mate.inside = get_or_read c.put_away-len.new.state.top.items c.args.mate.inside c.index-2.result.now base_in c.index-2.ensures 0 in
    rw (c.deref.ensures.value, a.next, base_is, from_is) (put_place c.args.costs.now c.args.state.now c.put_away-len.new.state c.args.s c.args.first c.put_away-len.result c.args.mate o r.matched a)

-- what the steps did to the state
done : (c : goal.After-state-2-1) → IsExpanded c.args.costs.now c.args.state.now c.put_away-len.new.state
    (record c.put_away-len.new.state {
      label = with_items c.put_away-len.new.state.label c.label_way.new.label;
      entry = with_items c.put_away-len.new.state.entry c.label_way.new.entry;
    }) c.args.s c.args.first c.put_away-len.result c.args.mate
done c =
    let r = c.requires in
    let b = r.searching.so_far in
    let o = spent_top c.args.costs.now c.args.state.now c.args.s c.args.first c.args.mate r.asked r.searching r.spent r.child r.matched in
    let entry_in : c.args.s < length c.args.state.now.entry.items = omega (arith, r.spent.in_slots, b.shape.entry_len) in
    let entry_is : c.index-entry.result.now ≡ link_at c.args.state.now.entry.items c.args.s = get_or_read c.args.state.now.entry.items c.args.s c.index-entry.result.now entry_in c.index-entry.ensures no_pair in
    let inside_in : c.index-entry.result.now.inside < c.args.state.now.size = subst (λ q. q.inside < c.args.state.now.size) (sym entry_is) o.reached.entry_tight.inside_in in
    let a = c.put_away-len.ensures in
    let from_in : c.index-entry.result.now.inside < length c.put_away-len.new.state.top.items = omega (arith, inside_in, a.top_len, b.shape.top_len) in
    let from_is : c.index.result.now ≡ top_of c.put_away-len.new.state (link_at c.args.state.now.entry.items c.args.s).inside =
    get_or_read c.put_away-len.new.state.top.items c.index-entry.result.now.inside c.index.result.now from_in c.index.ensures 0 ∙ ap (λ q. top_of c.put_away-len.new.state q.inside) entry_is in
    let base_in : c.args.mate.inside < length c.put_away-len.new.state.top.items = omega (arith, o.can.inside_in, a.top_len, b.shape.top_len) in
    let base_is : c.index-2.result.now ≡ top_of c.put_away-len.new.state c.args.mate.inside = get_or_read c.put_away-len.new.state.top.items c.args.mate.inside c.index-2.result.now base_in c.index-2.ensures 0 in
    let label_same : length c.label_way.new.label ≡ length c.put_away-len.new.state.label.items = c.label_way.auto.label ∙ ap length c.deref_mut.ensures.value in
    let entry_same : length c.label_way.new.entry ≡ length c.put_away-len.new.state.entry.items = c.label_way.auto.entry ∙ ap length c.deref_mut-2.ensures.value in
    let label_len : length c.label_way.new.label ≡ c.put_away-len.new.state.label.len = omega (arith, label_same, c.put_away-len.new.state.label.ok.0) in
    let entry_len : length c.label_way.new.entry ≡ c.put_away-len.new.state.entry.len = omega (arith, entry_same, c.put_away-len.new.state.entry.ok.0) in
    let label_now = take_at c.label_way.new.label (drop (length c.label_way.new.label) c.put_away-len.new.state.label.items) c.put_away-len.new.state.label.len label_len in
    let entry_now = take_at c.label_way.new.entry (drop (length c.label_way.new.entry) c.put_away-len.new.state.entry.items) c.put_away-len.new.state.entry.len entry_len in
    let way : IsWayIn c.args.state.now.next.items c.args.state.now.link.items (top_of c.put_away-len.new.state c.args.mate.inside) (top_of c.put_away-len.new.state (link_at c.args.state.now.entry.items c.args.s).inside)
    c.put_away-len.result (link_at c.args.state.now.entry.items c.args.s) c.put_away-len.new.state.label.items c.label_way.new.label c.args.state.now.entry.items c.label_way.new.entry =
    rw (c.deref.ensures.value, c.deref-2.ensures.value, c.deref_mut.ensures.value, c.deref_mut-2.ensures.value, a.next, a.link, a.entry, base_is, from_is, entry_is) at c.label_way.ensures in
    record {
      asked = r.asked;
      searching = r.searching;
      spent = r.spent;
      child = r.child;
      matched = r.matched;
      away = a;
      way = rw (label_now, entry_now) way;
      relabelled = record {
        size = refl;
        held = refl;
        halves = refl;
        top = refl;
        sums = refl;
        child = refl;
        next = refl;
        link = refl;
        mate = refl;
        one_way = refl;
        other_way = refl;
        base = refl;
        root = refl;
        label_len = rw label_now label_same;
        entry_len = rw entry_now entry_same;
      };
    }

pub returns-clause-searching : goal.returns-clause-searching
returns-clause-searching c = expanded c.args.costs.now c.args.state.now c.put_away-len.new.state _ c.args.s c.args.first c.put_away-len.result c.args.mate (done c)

pub returns-clause-less : goal.returns-clause-less
returns-clause-less c = expanded_less c.args.costs.now c.args.state.now c.put_away-len.new.state _ c.args.s c.args.first c.put_away-len.result c.args.mate (done c)

pub returns-clause-keeps : goal.returns-clause-keeps
returns-clause-keeps c = expanded_keeps c.args.costs.now c.args.state.now c.put_away-len.new.state _ c.args.s c.args.first c.put_away-len.result c.args.mate (done c)

pub returns-clause-growth : goal.returns-clause-growth
returns-clause-growth c = expanded_growth c.args.costs.now c.args.state.now c.put_away-len.new.state _ c.args.s c.args.first c.put_away-len.result c.args.mate (done c)
