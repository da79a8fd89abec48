use Rattle.std.proofs.Common.{append_assoc}
use Rattle.plan_print.specs.Sheet.{total_line}
use Rattle.plan_print.proofs.sheets.push_total_line.Goals as goal

pub returns : goal.returns
unfolding total_line
returns c =
    rw (c.in_ok-push_line.ensures, c.in_ok-push_words.ensures, c.total_cost.ensures, c.len.ensures.value) (simp append_assoc)
