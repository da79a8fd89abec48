use Rattle.std.proofs.Common.{rules, take, ap}
use Rattle.carp_base.specs.Drafts.{drafted}
use Rattle.carp_base.proofs.DraftFaults.{demands_clear, demands_first}
use Rattle.carp_base.proofs.draft.Draft.check_demands.Goals as goal

pub returns-in-Some : goal.returns-in-Some
returns-in-Some c =
    demands_first (drafted c.args.self.now) _ (ap (take c.args.self.now.required) c.deref.ensures.value) (search rules) c.in-Some.i c.requires c.in-Some.ensures.value

pub returns-in-None : goal.returns-in-None
returns-in-None c =
    demands_clear (drafted c.args.self.now) _ (ap (take c.args.self.now.required) c.deref.ensures.value) (search rules) c.requires c.in-None.ensures.value
