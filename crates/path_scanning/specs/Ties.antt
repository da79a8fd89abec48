-- Which task goes before another at a moment of a scan (Golden, DeArmon and Baker 1983).
use Rattle.std.specs.Prelude.{◌≡◌, ℕ, ◌*◌, ◌<◌, ◌⊎◌, List, [], ◌∷◌, if◌then◌else◌, nat_le}
use Rattle.path_scanning.specs.declared.candidate.Candidate.{Candidate}
use Rattle.path_scanning.specs.declared.rule.Rule.{Rule}
use Rattle.path_scanning.specs.declared.rule.Rule.TheVariants.{Far, Near, Cheap, Dear, Half}
use Rattle.path_scanning.specs.declared.rule.Tie.{Tie}
use Rattle.path_scanning.specs.declared.rule.Tie.TheVariants.{Farther, Nearer, Cheaper, Dearer}

-- what a rule compares, if a vehicle of this capacity has this load before it takes the next task
abbrev pub tie_of : Rule → ℕ → ℕ → Tie
tie_of Far capacity load = Farther
tie_of Near capacity load = Nearer
tie_of Cheap capacity load = Cheaper
tie_of Dear capacity load = Dearer
tie_of Half capacity load = if nat_le (2 * load) capacity then Farther else Nearer

-- the number of c to compare with that of d, the lesser being better: for the farther and the nearer one the distance from the
-- task's end to the depot, and for the cheaper and the dearer one the quotients of service cost and demand, multiplied crosswise
abbrev pub tie_weight : Tie → Candidate → Candidate → ℕ
tie_weight Farther c d = d.home
tie_weight Nearer c d = c.home
tie_weight Cheaper c d = c.service * d.demand
tie_weight Dearer c d = d.service * c.demand

-- a key is no later than another: the first numbers that differ tell
abbrev pub KeyNoLater : List ℕ → List ℕ → Type 0
KeyNoLater (x ∷ xs) (y ∷ ys) = (x < y) ⊎ ((x ≡ y) × KeyNoLater xs ys)
KeyNoLater _ _ = Unit {0}

-- what is compared: the distance to the start, what the rule compares, the edge number, and the direction, forward first
abbrev pub task_key : Tie → Candidate → Candidate → List ℕ
task_key tie c d = c.near ∷ tie_weight tie c d ∷ c.task.edge ∷ (if c.task.forward then 0 else 1) ∷ []

-- c goes before d, or is the same task
abbrev pub TaskNoLater : Tie → Candidate → Candidate → Type 0
TaskNoLater tie c d = KeyNoLater (task_key tie c d) (task_key tie d c)
