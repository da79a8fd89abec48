use Rattle.std.proofs.Common.{◌≡◌, ℕ, ◌<◌, get_or}
use Rattle.shore_program.specs.declared.cuts.Cut.{Cut}
use Rattle.shore_program.proofs.cuts.is_held.Given as goal

abbrev pub invariant-loop-place : goal.invariant-loop-place
invariant-loop-place l = (k : ℕ) (d : Cut) → k < l.place → ¬ ((get_or l.cuts k d).shore ≡ l.shore)
