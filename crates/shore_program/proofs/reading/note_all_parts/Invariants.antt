use Rattle.std.proofs.Common.{◌≤◌, ◌^◌, All}
use Rattle.shore_program.proofs.reading.note_all_parts.Given as goal

abbrev pub invariant-loop-column : goal.invariant-loop-column
invariant-loop-column l = All (λ n. n ≤ 2 ^ 30) l.parts
