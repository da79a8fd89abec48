-- What a shelf in memory holds, what it is ready for, and its counts.
use Rattle.std.specs.Prelude.{◌≡◌, ℕ, List, Option}
use Rattle.carp_outside.specs.declared.mem_shelf.MemShelf.{MemShelf}
use Rattle.carp_outside.specs.Calls.{CallLog, log_of}
use Rattle.carp_outside.specs.Files.{bytes_in, room_in}

-- what each name holds; a name that is only made ready is not held
abbrev pub contents_of : MemShelf → List ℕ → Option (List ℕ)
contents_of shelf = bytes_in shelf.files

-- for how many bytes each name is ready; none where it was never made ready
abbrev pub room_of : MemShelf → List ℕ → Option ℕ
room_of shelf = room_in shelf.files

-- how many bytes a look gives at most
abbrev pub piece_of : MemShelf → ℕ
piece_of shelf = shelf.piece

-- the looks so far
abbrev pub looks_of : MemShelf → CallLog
looks_of shelf = log_of shelf.looks

-- the keeps so far
abbrev pub keeps_of : MemShelf → CallLog
keeps_of shelf = log_of shelf.keeps

-- how many bytes were given so far
abbrev pub given_of : MemShelf → ℕ
given_of shelf = shelf.given

-- how many bytes a keep that is torn leaves; none where no keep is torn
abbrev pub torn_of : MemShelf → Option ℕ
torn_of shelf = shelf.torn

-- no look and no keep was made, and the piece and the tear are the same
pub record SameCounts (before now : MemShelf) : Type 0 where
  pub looks : looks_of now ≡ looks_of before
  pub keeps : keeps_of now ≡ keeps_of before
  pub given : given_of now ≡ given_of before
  pub piece : piece_of now ≡ piece_of before
  pub torn : torn_of now ≡ torn_of before
