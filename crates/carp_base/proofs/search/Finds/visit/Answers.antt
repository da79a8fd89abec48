use Rattle.std.proofs.Common.{◌-◌, arith}
use Rattle.carp_base.specs.Drafts.{drafted}
use Rattle.carp_base.proofs.Paths.{reached_more}
use Rattle.carp_base.proofs.search.Finds.visit.Goals as goal

pub mark-requires-clause-reached : goal.mark-requires-clause-reached
mark-requires-clause-reached c =
    let within = c.loop-link.invariant.within in
    rw (c.arc_head.ensures, c.deref.ensures.value)
    (reached_more (drafted c.args.draft.now) c.args.v (c.loop-link.link - 1) c.requires.reached (omega arith) (c.loop-link.invariant.leaves c.loop-link-test.true))
