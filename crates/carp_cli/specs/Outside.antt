-- What the outside of a run holds and counts at one moment, and what of it a command finds.
use Rattle.std.specs.Prelude.{◌≡◌, ℕ, Bool, IsTrue, List, [], ◌∷◌, Option, ◌⊎◌}
use Rattle.carp_outside.specs.Causes.{Rose}
use Rattle.carp_outside.specs.Told.{HoldsExactly, HoldsFront, SameContents, WroteFront}
use Rattle.command_outputs.specs.Outputs.{Kept, Output}

-- what each name holds and what was written, as they are told, how many looks at each name, keeps and puts failed, how many bytes were
-- given, and the least cost of the lawful plans that each helper offered
pub record Outside : Type 0 where
  pub contents : List ℕ → Option (List ℕ)
  pub failed_looks : List ℕ → ℕ
  pub failed_keeps : ℕ
  pub given : ℕ
  pub written : List ℕ
  pub failed_puts : ℕ
  pub offered : List (Option ℕ)

abbrev pub outside_of : (contents : List ℕ → Option (List ℕ)) (failed_looks : List ℕ → ℕ) (failed_keeps given : ℕ) (written : List ℕ) (failed_puts : ℕ) (offered : List (Option ℕ)) → Outside
outside_of contents failed_looks failed_keeps given written failed_puts offered = record {
  contents = contents;
  failed_looks = failed_looks;
  failed_keeps = failed_keeps;
  given = given;
  written = written;
  failed_puts = failed_puts;
  offered = offered;
}

-- what a command finds: the contents at its beginning, the failed looks at its beginning and at its end, and what helpers offered
pub record Finding : Type 0 where
  pub contents : List ℕ → Option (List ℕ)
  pub looks_before : List ℕ → ℕ
  pub looks_now : List ℕ → ℕ
  pub offered : List (Option ℕ)

abbrev pub found : Outside → Outside → Finding
found before now = record {
  contents = before.contents;
  looks_before = before.failed_looks;
  looks_now = now.failed_looks;
  offered = now.offered;
}

-- these names hold these bytes, kept one after another, and all others what they held
abbrev pub AreKept : List Kept → (List ℕ → Option (List ℕ)) → (List ℕ → Option (List ℕ)) → Type 0
AreKept [] before now = SameContents before now
AreKept (k ∷ ks) before now = (next : List ℕ → Option (List ℕ)) × HoldsExactly k.name k.bytes before next × AreKept ks next now

-- one of the keeps failed: its name holds what it held or a front of its bytes, the keeps before it are whole, and those after it
-- were not made
abbrev pub AreKeptInPart : List Kept → (List ℕ → Option (List ℕ)) → (List ℕ → Option (List ℕ)) → Type 0
AreKeptInPart [] before now = ⊥
AreKeptInPart (k ∷ ks) before now =
    HoldsFront k.name k.bytes before now ⊎ ((next : List ℕ → Option (List ℕ)) × HoldsExactly k.name k.bytes before next × AreKeptInPart ks next now)

-- An output was cut short by a call that failed: at a keep, with nothing written, or at the text, with all kept. `contents_told`
-- and `written_told` say whether contents and what was written are told.
abbrev pub IsLeftShort : (contents_told written_told : Bool) → Output → (before now : Outside) → Type 0
IsLeftShort contents_told written_told output before now =
    (Rose before.failed_keeps now.failed_keeps × (IsTrue contents_told → AreKeptInPart output.kept before.contents now.contents)
    × (IsTrue written_told → now.written ≡ before.written))
    ⊎ (Rose before.failed_puts now.failed_puts × (IsTrue contents_told → AreKept output.kept before.contents now.contents)
    × (IsTrue written_told → WroteFront output.text before.written now.written))
