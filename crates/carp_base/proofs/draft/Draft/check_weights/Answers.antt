use Rattle.std.proofs.Common.{rules, take, ap}
use Rattle.carp_base.specs.Drafts.{drafted}
use Rattle.carp_base.proofs.DraftFaults.{weights_clear, weights_first}
use Rattle.carp_base.proofs.draft.Draft.check_weights.Goals as goal

pub returns-in-Some : goal.returns-in-Some
returns-in-Some c =
    weights_first (drafted c.args.self.now) _ (ap (take c.args.self.now.required) c.deref.ensures.value) (search rules) c.in-Some.i c.requires c.in-Some.ensures.value

pub returns-in-None : goal.returns-in-None
returns-in-None c =
    weights_clear (drafted c.args.self.now) _ (ap (take c.args.self.now.required) c.deref.ensures.value) (search rules) c.requires c.in-None.ensures.value
