use Rattle.std.proofs.Common.{◌≡◌, ℕ, ◌+◌, ◌-◌, ◌≤◌, List, IsTrue}
use Rattle.carp_outside.specs.Causes.{RoseBy}
use Rattle.carp_outside.specs.Told.{SameContents}
use Rattle.carp_outside.specs.Pieces.{limit_of, taken_of}
use Rattle.cert_checker.specs.Streams.{HasRead}
use Rattle.cert_checker.proofs.streaming.take_file.Given as goal

abbrev pub invariant-loop-pieces : goal.invariant-loop-pieces
invariant-loop-pieces g l =
    let shelf = g.H.Shelf in record {
      limit : limit_of l.pieces ≡ l.limit;
      within : taken_of l.pieces ≤ l.limit;
      read : HasRead l.inst l.stream shelf.tells (shelf.contents l.fn.shelf l.name) (taken_of l.pieces);
      contents : IsTrue shelf.tells → SameContents (shelf.contents l.fn.shelf) (shelf.contents l.shelf);
      given : RoseBy (taken_of l.pieces) (shelf.given l.fn.shelf) (shelf.given l.shelf);
      later : shelf.given l.fn.shelf ≤ shelf.given l.shelf;
      keeps : shelf.failed_keeps l.shelf ≡ shelf.failed_keeps l.fn.shelf;
      looks : (other : List ℕ) → shelf.failed_looks l.fn.shelf other ≤ shelf.failed_looks l.shelf other;
    }

abbrev pub decreases-loop-pieces : goal.decreases-loop-pieces
decreases-loop-pieces g l = l.limit + 1 - taken_of l.pieces
