-- The numbers that a helper keeps of itself.
use Rattle.plan_model.specs.Offers.{Tally}
use Rattle.helper_frame.specs.declared.standing.Standing.{Standing}

-- the numbers that an offer can change
abbrev pub tally_of : Standing → Tally
tally_of s = record { fouls = s.fouls; least = s.least; last = s.last }
