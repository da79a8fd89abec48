use Rattle.std.proofs.Common.{append_assoc}
use Rattle.plan_print.specs.Report.{instance_line}
use Rattle.plan_print.proofs.reporting.push_instance_line.Goals as goal

pub returns : goal.returns
unfolding instance_line
returns c =
    rw (
      c.in_ok-push_line.ensures,
      c.in_ok-push_words-4.ensures,
      c.in_ok-push_words-3.ensures,
      c.in_ok-push_words-2.ensures,
      c.in_ok-push_words.ensures,
      c.from.ensures,
      c.total_demand.ensures,
      c.capacity.ensures.value,
      c.required.ensures.value,
      c.edge_count.ensures.value,
      c.vertices.ensures.value,
    )
    (simp append_assoc)
