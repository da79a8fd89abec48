use Rattle.blossom_match.proofs.Bounding.{rooms_raise}
use Rattle.blossom_match.proofs.Turning.{happens_moved, root_kept}
use Rattle.blossom_match.proofs.search.raise_rooms.Goals as goal

pub returns-clause-happens : goal.returns-clause-happens
returns-clause-happens c = happens_moved _ _ _ _ _ c.raise.ensures.moved c.in-Some.ensures.happens

pub returns-clause-keeps : goal.returns-clause-keeps
returns-clause-keeps c = root_kept _ _ c.raise.ensures.keeps c.raise.ensures.moved.top c.raise.ensures.moved.root

pub returns-clause-rooms : goal.returns-clause-rooms
returns-clause-rooms c =
    let falls = rw (c.deref.ensures.value, c.deref-in-Some.ensures.value) at c.lower_all.ensures in
    rooms_raise c.args.costs.now c.args.state.now c.raise.new.state c.in-Some.turn.amount c.least_turn.new.known c.least_turn.new.least c.lower_all.new.least c.requires.searching c.in-Some.ensures.lawful c.raise.ensures.moved
    c.least_turn.ensures.rooms c.lower_all.auto.least falls
