use Rattle.std.proofs.Common.{◌≡◌, ℕ, ◌-◌, ◌*◌, ◌<◌, ◌≤◌, length}
use Rattle.carp_base.specs.Search.{arc_tail, arc_head, IsMarked, IsSearch, Extends}
use Rattle.carp_base.specs.Drafts.{drafted}
use Rattle.carp_base.proofs.search.Finds.visit.Given as goal

-- the far ends of the arcs out of v are marked, from the link on
abbrev pub invariant-loop-link : goal.invariant-loop-link
invariant-loop-link l = let edges = l.draft.edges.items in record {
  within : l.link ≤ 2 * length edges;
  leaves : 0 < l.link → arc_tail edges (l.link - 1) ≡ l.v;
  marked : (arc : ℕ) → l.link ≤ arc → arc < 2 * length edges → arc_tail edges arc ≡ l.v → IsMarked l.self.marks.items (arc_head edges arc);
  search : IsSearch (drafted l.draft) l.self.marks.items l.self.order.items;
  extends : Extends l.fn.self.marks.items l.fn.self.order.items l.self.marks.items l.self.order.items;
}

abbrev pub decreases-loop-link : goal.decreases-loop-link
decreases-loop-link l = l.link
