use Rattle.std.proofs.Common.{ℕ, ◌+◌, ◌-◌, ◌<◌, ◌≤◌, length, slice_index}
use Rattle.carp_base.specs.Search.{IsMarked, IsSearch, LeadsToMarks}
use Rattle.carp_base.specs.Drafts.{drafted}
use Rattle.carp_base.proofs.search.marks_reached.Given as goal

-- each vertex that is done leads to marked vertices alone
abbrev pub invariant-loop-done : goal.invariant-loop-done
invariant-loop-done l = record {
  within : l.done ≤ length l.finds.order.items;
  depot : IsMarked l.finds.marks.items l.draft.depot;
  search : IsSearch (drafted l.draft) l.finds.marks.items l.finds.order.items;
  closed : (k : ℕ) → k < l.done → LeadsToMarks l.draft.edges.items (slice_index l.finds.order.items k) l.finds.marks.items;
}

abbrev pub decreases-loop-done : goal.decreases-loop-done
decreases-loop-done l = l.draft.vertices + 1 - l.done
