use Rattle.std.proofs.Common.{◌≡◌, ◌++◌, take}
use Rattle.plan_print.specs.Report.{tour_lines}
use Rattle.plan_print.proofs.reporting.push_tour_lines.Given as goal

-- the lines of the tours so far are written
abbrev pub invariant-loop-i : goal.invariant-loop-i
invariant-loop-i l = l.text.items ≡ l.fn.text.items ++ tour_lines l.inst 1 (take l.i l.plan)
