use Rattle.std.proofs.Common.{take}
use Rattle.town_maker.proofs.Drawing.{HasDrawn}
use Rattle.town_maker.proofs.draws.draw_edges.Given as goal

-- what is drawn for the streets so far is on its lists
abbrev pub invariant-loop-street : goal.invariant-loop-street
invariant-loop-street l = HasDrawn l.fn.words (take l.street-index l.streets) l.fn.required.items l.fn.others.items l.required.items l.others.items l.words
