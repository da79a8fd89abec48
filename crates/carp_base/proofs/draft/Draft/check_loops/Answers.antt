use Rattle.carp_base.specs.Drafts.{drafted}
use Rattle.carp_base.proofs.DraftFaults.{loops_clear, loops_first}
use Rattle.carp_base.proofs.draft.Draft.check_loops.Goals as goal

pub returns-in-Some : goal.returns-in-Some
returns-in-Some c = loops_first (drafted c.args.self.now) _ c.deref.ensures.value c.in-Some.i c.requires c.in-Some.ensures.value

pub returns-in-None : goal.returns-in-None
returns-in-None c = loops_clear (drafted c.args.self.now) _ c.deref.ensures.value c.requires c.in-None.ensures.value
