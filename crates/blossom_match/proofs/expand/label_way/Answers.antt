use Rattle.std.proofs.Common.{◌≡◌, ◌≢◌, ℕ, ◌<◌, List, arith, length, set}
use Rattle.std.proofs.lemmas.List.{get_or-set_same, get_or-set_other}
use Rattle.blossom_match.specs.Between.{after}
use Rattle.blossom_match.specs.Views.{link_at, no_pair}
use Rattle.blossom_match.proofs.RowsWays.{on_trip, way_back, way_on}
use Rattle.blossom_match.proofs.expand.label_way.Goals as goal
use Rattle.blossom_match.proofs.expand.label_way.Goals.{then-place-eq0, else-place-eq0}

pub label_along-requires-else-place-eq0-clause-trip : goal.label_along-requires-else-place-eq0-clause-trip
label_along-requires-else-place-eq0-clause-trip c =
    on_trip c.args.next.now (length c.args.next.now) c.args.len c.args.base c.args.from c.steps_to-place.result c.requires.circle c.steps_to-place.ensures.within (omega (arith, c.if-place-eq0.false)) c.steps_to-place.ensures.there

pub enter_on-requires-clause-trip : goal.enter_on-requires-clause-trip
enter_on-requires-clause-trip c =
    on_trip c.args.next.now (length c.args.next.now) c.args.len c.args.base c.args.from c.steps_to-place.result c.requires.circle c.steps_to-place.ensures.within (omega (arith, c.if-place-eq0.false)) c.steps_to-place.ensures.there

from_in : (next : List ℕ) (slots base place from entries before : ℕ) → after next place base ≡ from → after next place base < slots → before ≡ slots → entries ≡ before → from < entries
from_in next slots base place from entries before at below same_slots same = omega (arith, at, below, same_slots, same)

pub returns : goal.returns
returns c =
    let r = c.requires in
    let p = c.steps_to-place in
    let inside : c.args.from < length c.if-place-eq0.entry =
    from_in c.args.next.now (length c.args.next.now) c.args.base c.steps_to-place.result c.args.from (length c.if-place-eq0.entry) (length c.args.entry.now) c.steps_to-place.ensures.there
    (r.circle.in_slots c.steps_to-place.result c.steps_to-place.ensures.within) r.entry_len c.if-place-eq0.auto.entry in
    let entered = get_or-set_same c.if-place-eq0.entry c.args.from c.args.first no_pair inside in
    let stays : (t : ℕ) → t ≢ c.args.from → link_at (set c.if-place-eq0.entry c.args.from c.args.first) t ≡ link_at c.if-place-eq0.entry t =
    λ t other. get_or-set_other c.if-place-eq0.entry c.args.from t c.args.first no_pair other in
    elim c.if-place-eq0.branch [
      | then-place-eq0 w ↦ way_back c.args.next.now c.args.link.now (length c.args.next.now) c.args.base c.args.from c.args.len c.steps_to-place.result c.args.first c.args.label.now c.if-place-eq0.label
          c.args.entry.now c.if-place-eq0.entry (set c.if-place-eq0.entry c.args.from c.args.first) r.circle p.ensures.within w.if-place-eq0.true p.ensures.there
          (rw w.label-is w.label_along.ensures) (rw w.entry-is w.enter_back.ensures) entered stays
      | else-place-eq0 w ↦ way_on c.args.next.now c.args.link.now (length c.args.next.now) c.args.base c.args.from c.args.len c.steps_to-place.result c.args.first c.args.label.now c.if-place-eq0.label
          c.args.entry.now c.if-place-eq0.entry (set c.if-place-eq0.entry c.args.from c.args.first) r.circle p.ensures.within (omega (arith, w.if-place-eq0.false)) p.ensures.there
          (rw w.label-is w.label_along-else-place-eq0.ensures) (rw w.entry-is w.enter_on.ensures) entered stays
    ]
