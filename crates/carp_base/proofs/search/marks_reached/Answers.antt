use Rattle.std.proofs.Common.{arith}
use Rattle.std.proofs.lemmas.List.{get_or_read}
use Rattle.carp_base.specs.Drafts.{drafted}
use Rattle.carp_base.proofs.Finding.{listed_within}
use Rattle.carp_base.proofs.Paths.{search_ends}
use Rattle.carp_base.proofs.search.marks_reached.Goals as goal

pub visit-requires-clause-in_range : goal.visit-requires-clause-in_range
visit-requires-clause-in_range c =
    let f = c.loop-done.finds in
    omega (
      arith,
      get_or_read f.order.items c.loop-done.done _ (omega arith) c.index-v.ensures 0,
      listed_within (drafted c.args.draft.now) f.marks.items f.order.items c.loop-done.done c.loop-done.invariant.search (omega arith),
    )

pub returns : goal.returns
returns c =
    let f = c.loop-done.finds in
    search_ends (drafted c.args.draft.now) f.marks.items f.order.items c.loop-done.invariant.search c.loop-done.invariant.depot
    (λ k below. c.loop-done.invariant.closed k (omega arith))
