use Rattle.std.proofs.Common.{◌≡◌, ◌++◌, take}
use Rattle.std.specs.List.{flat_map}
use Rattle.plan_print.specs.Report.{crossing_text}
use Rattle.plan_print.proofs.reporting.push_crossings.Given as goal

-- the crossings so far are written
abbrev pub invariant-loop-i : goal.invariant-loop-i
invariant-loop-i l = l.text.items ≡ l.fn.text.items ++ flat_map (crossing_text l.inst) (take l.i l.walk)
