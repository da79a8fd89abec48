-- Files in memory, by name.
use Rattle.std.specs.Prelude.{◌≡◌, ◌≢◌, ℕ, List, Option, None, Some, String, max, unwrap_or, if◌then◌else◌}
use Rattle.std.specs.BTreeMap.{BTreeMap, get_by_text}
use Rattle.std.specs.declared.alloc.Global.{Global}
use Rattle.carp_outside.specs.declared.mem_file.MemFile.{MemFile}

abbrev pub Files : Type 0
Files = BTreeMap (String Global) MemFile

-- the bytes of a file that is held, and not only made ready
abbrev pub held_bytes : Option MemFile → Option (List ℕ)
held_bytes None = None
held_bytes (Some file) = if file.held then Some file.bytes.items else None

-- for how many bytes a file was made ready
abbrev pub ready_room : Option MemFile → Option ℕ
ready_room None = None
ready_room (Some file) = Some file.room

-- what each name holds
abbrev pub bytes_in : Files → List ℕ → Option (List ℕ)
bytes_in files name = held_bytes (get_by_text files name)

-- for how many bytes each name is ready; none where it was never made ready
abbrev pub room_in : Files → List ℕ → Option ℕ
room_in files name = ready_room (get_by_text files name)

-- each name is ready for as many bytes as it was
abbrev pub SameRooms : (List ℕ → Option ℕ) → (List ℕ → Option ℕ) → Type 0
SameRooms before now = (name : List ℕ) → now name ≡ before name

-- the name is ready for so many bytes too, and every other name for as many as it was
pub record IsMadeReady (name : List ℕ) (room : ℕ) (before now : List ℕ → Option ℕ) : Type 0 where
  pub there : now name ≡ Some (max (unwrap_or (before name) 0) room)
  pub others : (other : List ℕ) → other ≢ name → now other ≡ before other
