use Rattle.std.proofs.Common.{◌<◌}
use Rattle.dat_text.specs.declared.key.Key.{Key}
use Rattle.dat_text.specs.Lines.{SameLetters, key_name}
use Rattle.dat_text.specs.Text.{key_place}
use Rattle.dat_text.proofs.kind.key_named.Given as goal

-- the keys before are not named so
abbrev pub invariant-loop-key : goal.invariant-loop-key
invariant-loop-key l = (key : Key) → key_place key < l.key-index → ¬ (SameLetters l.name (key_name key))
