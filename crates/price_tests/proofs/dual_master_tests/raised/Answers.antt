use Rattle.std.proofs.Common.{[]}
use Rattle.price_tests.proofs.dual_master_tests.raised.Goals as goal

pub raised_set-requires-clause-net : goal.raised_set-requires-clause-net
raised_set-requires-clause-net c = c.in_ok-net.ensures

pub raised_set-requires-clause-room : goal.raised_set-requires-clause-room
raised_set-requires-clause-room c = c.in_ok-start.ensures.room

pub raised_set-requires-clause-belong : goal.raised_set-requires-clause-belong
raised_set-requires-clause-belong c = c.in_ok-start.ensures.belong

pub raised_set-requires-clause-shores : goal.raised_set-requires-clause-shores
raised_set-requires-clause-shores c = c.in_ok-start.ensures.shores

pub raised_set-requires-clause-fits : goal.raised_set-requires-clause-fits
raised_set-requires-clause-fits c = c.in_ok-start.ensures.fits []
