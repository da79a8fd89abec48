use denote.Text.{Utf8}
use denote.Shadow.{shadow}
use Rattle.samples.proofs.cases.try_cases.Given as goal

-- The instance of the lines below is text.
abbrev pub invariant-loop-place : goal.invariant-loop-place
invariant-loop-place g l =
    (goal.iterator-loop-place g).can_next l.place-iterator ×
    (goal.iterator-loop-place g).is_finite l.place-iterator ×
    shadow (Utf8 l.over)
