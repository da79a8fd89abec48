-- Small data for the examples beside the tests. No public contract speaks of this.
use Rattle.std.specs.Prelude.{true, false, List, [], ◌∷◌}
use Rattle.plan_model.specs.declared.step.Step.{Step}

-- the lane is served and crossed home, and the alley is crossed out and home for nothing
abbrev pub detour : List Step
detour =
    record { edge = 1; forward = true; served = true }
    ∷ record { edge = 1; forward = false; served = false }
    ∷ record { edge = 2; forward = true; served = false }
    ∷ record { edge = 2; forward = false; served = false }
    ∷ []
