-- What a look at told contents gives, and what a keep or a put leaves.
use Rattle.std.specs.Prelude.{◌≡◌, ◌≢◌, ℕ, ◌≤◌, ◌++◌, [], List, length, take, drop, Option, Some, ◌⊎◌, IsSomeAnd}

-- n bytes of the file from `at` on stand at the front of the buffer, and none only where none are left
pub record IsPiece (file : List ℕ) (at n : ℕ) (buffer : List ℕ) : Type 0 where
  pub within : n ≤ length (drop at file)
  pub bytes : take n buffer ≡ take n (drop at file)
  pub none_at_end : n ≡ 0 → length file ≤ at

-- the name holds these bytes, and every other name what it held
pub record HoldsExactly (name bytes : List ℕ) (before now : List ℕ → Option (List ℕ)) : Type 0 where
  pub there : now name ≡ Some bytes
  pub others : (other : List ℕ) → other ≢ name → now other ≡ before other

-- a keep that was cut short: the name holds what it held or a front of these bytes, and every other name what it held
pub record HoldsFront (name bytes : List ℕ) (before now : List ℕ → Option (List ℕ)) : Type 0 where
  pub there : (now name ≡ before name) ⊎ ((n : ℕ) × (now name ≡ Some (take n bytes)))
  pub others : (other : List ℕ) → other ≢ name → now other ≡ before other

-- each name holds what it held
abbrev pub SameContents : (List ℕ → Option (List ℕ)) → (List ℕ → Option (List ℕ)) → Type 0
SameContents before now = (name : List ℕ) → now name ≡ before name

-- the first n bytes, all of them or fewer, were written
abbrev pub WroteFront : List ℕ → List ℕ → List ℕ → Type 0
WroteFront bytes before now = (n : ℕ) × (n ≤ length bytes) × (now ≡ before ++ take n bytes)

-- the piece stands in the file at a place from 0, and is empty only where none of the file is left
pub record IsPieceAt (file : List ℕ) (at : ℕ) (piece : List ℕ) : Type 0 where
  pub is : piece ≡ take (length piece) (drop at file)
  pub none_at_end : piece ≡ [] → length file ≤ at

-- the name is held, and the piece stands in its bytes
abbrev pub IsNextPiece : Option (List ℕ) → ℕ → List ℕ → Type 0
IsNextPiece held at piece = IsSomeAnd held (λ file. IsPieceAt file at piece)
