use Rattle.blossom_match.proofs.Bounding.{rooms_grow}
use Rattle.blossom_match.proofs.Turning.{root_trans}
use Rattle.blossom_match.proofs.search.turn.Goals as goal

pub returns-clause-keeps : goal.returns-clause-keeps
returns-clause-keeps c = root_trans _ _ _ c.raise_rooms-event.ensures.keeps c.answer.ensures.keeps

pub returns-clause-rooms : goal.returns-clause-rooms
returns-clause-rooms c = λ yet. rooms_grow c.args.costs.now c.raise_rooms-event.new.state _ _ _ (c.answer.ensures.growth yet) c.raise_rooms-event.ensures.rooms
