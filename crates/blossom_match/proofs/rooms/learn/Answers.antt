use Rattle.blossom_match.proofs.Bounding.{rooms_learn}
use Rattle.blossom_match.proofs.rooms.learn.Goals as goal

pub returns-then-is_new-clause-rooms : goal.returns-then-is_new-clause-rooms
returns-then-is_new-clause-rooms c =
    rooms_learn c.args.costs.now c.args.state.now c.args.u c.args.known.now c.args.least.now c.lower_to.new.least c.requires.u_in (c.is_new.ensures.outer c.if-is_new.true) c.requires.rooms
    c.lower_to.auto.least c.lower_to.ensures.less c.lower_to.ensures.low
