use Rattle.std.proofs.Common.{◌≡◌, suc, true, false, cond}
use Rattle.blossom_match.specs.Rooms.{AreRooms}
use Rattle.blossom_match.specs.Between.{IsSearching, IsBetween, HasMate}
use Rattle.blossom_match.specs.Views.{to_do}
use Rattle.blossom_match.proofs.Turning.{KeptSoFar}
use Rattle.blossom_match.proofs.search.search.Given as goal

abbrev pub invariant-loop-found : goal.invariant-loop-found
invariant-loop-found l = record {
  keeps : KeptSoFar l.fn.state l.state;
  goes_on : l.found ≡ false → IsSearching l.costs l.state;
  between : l.found ≡ true → IsBetween l.costs l.state;
  matched : l.found ≡ true → HasMate l.state l.root;
  root : l.state.root ≡ l.root;
  rooms : l.found ≡ false → AreRooms l.costs l.state l.known l.least;
}

abbrev pub decreases-loop-found : goal.decreases-loop-found
decreases-loop-found l = cond l.found 0 (suc (to_do l.state))
