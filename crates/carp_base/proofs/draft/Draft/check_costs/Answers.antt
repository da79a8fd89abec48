use Rattle.carp_base.specs.Drafts.{drafted}
use Rattle.carp_base.proofs.DraftFaults.{costs_clear, costs_first}
use Rattle.carp_base.proofs.draft.Draft.check_costs.Goals as goal

pub returns-in-Some : goal.returns-in-Some
returns-in-Some c = costs_first (drafted c.args.self.now) _ c.deref.ensures.value c.in-Some.i c.requires c.in-Some.ensures.value

pub returns-in-None : goal.returns-in-None
returns-in-None c = costs_clear (drafted c.args.self.now) _ c.deref.ensures.value c.requires c.in-None.ensures.value
