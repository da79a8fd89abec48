-- A helper stays fit while the best plan gets cheaper.
use Rattle.std.proofs.Common.{ℕ, ◌≤◌, Option, None, Some, arith}
use Rattle.plan_model.specs.Offers.{Tally}
use Rattle.helper_rounds.specs.Helpers.{IsAtMost, IsFit}

still_at_most : (cost dearer : ℕ) (c : Option ℕ) → cost ≤ dearer → IsAtMost dearer c → IsAtMost cost c
still_at_most cost dearer None less h = tt
still_at_most cost dearer (Some c) less h = omega arith

pub still_fit : (rounds cost dearer asked : ℕ) (tally : Tally) → cost ≤ dearer → IsFit rounds dearer asked tally → IsFit rounds cost asked tally
still_fit rounds cost dearer asked tally less h = record {
  not_often = h.not_often;
  one_foul = h.one_foul;
  foul_when_asked = h.foul_when_asked;
  no_cheaper = still_at_most cost dearer tally.least less h.no_cheaper;
}
