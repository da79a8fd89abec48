use Rattle.std.proofs.Common.{◌≡◌, ◌*◌, ◌≤◌, ◌^◌, ◌++◌, take}
use Rattle.plan_model.specs.Plans.{walk_load}
use Rattle.plan_print.specs.Sheet.{step_lines}
use Rattle.plan_print.proofs.sheets.push_step_lines.Given as goal

-- the lines of the steps so far are written, and this is their load
abbrev pub invariant-loop-i : goal.invariant-loop-i
invariant-loop-i l = record {
  lines : l.text.items ≡ l.fn.text.items ++ step_lines l.inst 1 0 (take l.i l.walk);
  load : l.load ≡ walk_load l.inst (take l.i l.walk);
  small : l.load ≤ l.i * 2 ^ 64;
}
