use Rattle.carp_base.proofs.Ends.{required_fit, others_fit}
use Rattle.carp_base.proofs.description.Description.draft.Goals as goal

pub push_required-requires : goal.push_required-requires
push_required-requires c =
    let d = c.args.self.now in required_fit d.vertices d.depot d.capacity d.required.now d.others.now c.requires

pub push_others-requires : goal.push_others-requires
push_others-requires c = let d = c.args.self.now in others_fit d.vertices d.depot d.capacity d.required.now d.others.now c.requires
