-- What an answer keeps and writes.
use Rattle.std.specs.Prelude.{ℕ, List, map}
use Rattle.command_outputs.specs.declared.delivery.Kept as files
use Rattle.command_outputs.specs.declared.delivery.Delivery.{Delivery}

-- a name, and the bytes that are kept there
pub record Kept : Type 0 where
  pub name : List ℕ
  pub bytes : List ℕ

-- what an answer keeps, in order, and writes
pub record Output : Type 0 where
  pub kept : List Kept
  pub text : List ℕ

-- the output that the code holds
abbrev pub kept_in : files.Kept → Kept
kept_in k = record { name = k.name.now; bytes = k.bytes.items }

abbrev pub output_in : Delivery → Output
output_in d = record { kept = map kept_in d.kept.items; text = d.text.items }
