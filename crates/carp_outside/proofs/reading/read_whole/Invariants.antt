use Rattle.std.proofs.Common.{◌≡◌, ℕ, ◌+◌, ◌-◌, ◌≤◌, List, length, take, IsTrue, IfSome, IsSome, ◌<◌}
use Rattle.carp_outside.specs.Causes.{RoseBy}
use Rattle.carp_outside.specs.Told.{SameContents}
use Rattle.carp_outside.specs.Pieces.{limit_of, taken_of}
use Rattle.carp_outside.proofs.reading.read_whole.Given as goal

abbrev pub invariant-loop-bytes : goal.invariant-loop-bytes
invariant-loop-bytes g l =
    let shelf = g.H.Shelf in record {
      taken : taken_of l.pieces ≡ length l.bytes.items;
      limit : limit_of l.pieces ≡ l.limit;
      within : length l.bytes.items ≤ l.limit;
      whole : IsTrue shelf.tells → IfSome (shelf.contents l.fn.shelf l.name) (λ file. (l.bytes.items ≡ take (length l.bytes.items) file) × (length l.bytes.items ≤ length file));
      there : IsTrue shelf.tells → 0 < length l.bytes.items → IsSome (shelf.contents l.fn.shelf l.name);
      contents : IsTrue shelf.tells → SameContents (shelf.contents l.fn.shelf) (shelf.contents l.shelf);
      given : RoseBy (length l.bytes.items) (shelf.given l.fn.shelf) (shelf.given l.shelf);
      later : shelf.given l.fn.shelf ≤ shelf.given l.shelf;
      keeps : shelf.failed_keeps l.shelf ≡ shelf.failed_keeps l.fn.shelf;
      looks : (other : List ℕ) → shelf.failed_looks l.fn.shelf other ≤ shelf.failed_looks l.shelf other;
    }

abbrev pub decreases-loop-bytes : goal.decreases-loop-bytes
decreases-loop-bytes g l = l.limit + 1 - length l.bytes.items
