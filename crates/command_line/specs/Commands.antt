-- The commands: what each reads, what it keeps, and whether it asks the helpers.
use Rattle.std.specs.Prelude.{ℕ, Bool, true, false, List, [], ◌∷◌, Option, None, Some}

pub data Command : Type 0 where
  Solve : (file cert : List ℕ) (turns seed : ℕ) → Command
  Check : (file cert : List ℕ) → Command
  Sheet : (file cert : List ℕ) → Command
  Make : (file : List ℕ) (seed : ℕ) → Command
  Drill : (turns seed : ℕ) → Command
  Upgrade : (file cert renewed : List ℕ) → Command
  Postman : (file : List ℕ) → Command
  Fleet : (file : List ℕ) (turns : ℕ) → Command
  Edit : (file cert edits edited carried : List ℕ) → Command
  Improve : (file cert improved : List ℕ) (turns seed : ℕ) → Command

-- a file that is read, and the most bytes that it may have
pub record Source : Type 0 where
  pub name : List ℕ
  pub limit : ℕ

abbrev pub instance_at : List ℕ → Source
instance_at name = record { name = name; limit = 4194304 }

abbrev pub certificate_at : List ℕ → Source
certificate_at name = record { name = name; limit = 268435456 }

abbrev pub edits_at : List ℕ → Source
edits_at name = record { name = name; limit = 1048576 }

-- the files that a command reads, in order
abbrev pub reads : Command → List Source
reads (Solve file cert turns seed) = instance_at file ∷ []
reads (Check file cert) = instance_at file ∷ certificate_at cert ∷ []
reads (Sheet file cert) = instance_at file ∷ certificate_at cert ∷ []
reads (Make file seed) = []
reads (Drill turns seed) = []
reads (Upgrade file cert renewed) = instance_at file ∷ certificate_at cert ∷ []
reads (Postman file) = instance_at file ∷ []
reads (Fleet file turns) = instance_at file ∷ []
reads (Edit file cert edits edited carried) = instance_at file ∷ certificate_at cert ∷ edits_at edits ∷ []
reads (Improve file cert improved turns seed) = instance_at file ∷ certificate_at cert ∷ []

-- the names that a command keeps if it is done, in order
abbrev pub keeps : Command → List (List ℕ)
keeps (Solve file cert turns seed) = cert ∷ []
keeps (Make file seed) = file ∷ []
keeps (Upgrade file cert renewed) = renewed ∷ []
keeps (Edit file cert edits edited carried) = edited ∷ carried ∷ []
keeps (Improve file cert improved turns seed) = improved ∷ []
keeps _ = []

-- whether a command asks the helpers
abbrev pub asks_helpers : Command → Bool
asks_helpers (Solve file cert turns seed) = true
asks_helpers (Drill turns seed) = true
asks_helpers (Improve file cert improved turns seed) = true
asks_helpers _ = false

-- the seed with which a command asks them
abbrev pub seed_of : Command → ℕ
seed_of (Solve file cert turns seed) = seed
seed_of (Drill turns seed) = seed
seed_of (Improve file cert improved turns seed) = seed
seed_of _ = 0

-- words that are no command read nothing, keep nothing and ask no helper
abbrev pub sources_of : Option Command → List Source
sources_of None = []
sources_of (Some c) = reads c

abbrev pub kept_by : Option Command → List (List ℕ)
kept_by None = []
kept_by (Some c) = keeps c

abbrev pub is_helped : Option Command → Bool
is_helped None = false
is_helped (Some c) = asks_helpers c

abbrev pub seed_by : Option Command → ℕ
seed_by None = 0
seed_by (Some c) = seed_of c
