use Rattle.std.proofs.Common.{◌≡◌, ◌++◌, take}
use Rattle.plan_print.specs.Sheet.{tours_steps}
use Rattle.plan_print.proofs.sheets.push_tours_steps.Given as goal

-- the lines of the tours so far are written
abbrev pub invariant-loop-i : goal.invariant-loop-i
invariant-loop-i l = l.text.items ≡ l.fn.text.items ++ tours_steps l.inst 1 (take l.i l.plan)
