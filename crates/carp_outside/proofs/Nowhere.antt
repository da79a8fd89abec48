-- Names that hold nothing, for the examples.
use Rattle.std.proofs.Common.{◌≡◌, ◌≢◌, [], ◌∷◌, None, Some, rules}

pub some_is_not_none : {X : Type 0} (x : X) → Some x ≡ None → ⊥
some_is_not_none x same = search rules

pub other_name : {X : Type 0} {x : X} → (x ∷ []) ≢ []
other_name = λ same. search rules
