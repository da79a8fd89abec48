-- What names hold, for examples.
use Rattle.std.specs.Prelude.{ℕ, List, [], ◌∷◌, Option, None, Some}

-- no name holds anything
abbrev pub nowhere : {X : Type 0} → List ℕ → Option X
nowhere name = None

-- the empty name holds this, and no other name anything
abbrev pub alone : {X : Type 0} → X → List ℕ → Option X
alone x [] = Some x
alone x (letter ∷ letters) = None

-- every name holds this
abbrev pub everywhere : {X : Type 0} → X → List ℕ → Option X
everywhere x name = Some x
