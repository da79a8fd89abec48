-- A file in pieces.
use Rattle.std.specs.Prelude.{ℕ, List, length, take}
use Rattle.carp_outside.specs.declared.pieces.Pieces.{Pieces}

-- the latest piece
abbrev pub piece_of : Pieces → List ℕ
piece_of pieces = take pieces.filled pieces.room.items

-- how many bytes were taken
abbrev pub taken_of : Pieces → ℕ
taken_of pieces = pieces.taken

-- how many bytes may be taken
abbrev pub limit_of : Pieces → ℕ
limit_of pieces = pieces.limit

-- how many bytes a piece may have
abbrev pub size_of : Pieces → ℕ
size_of pieces = length pieces.room.items
