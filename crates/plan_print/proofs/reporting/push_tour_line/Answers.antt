use Rattle.std.proofs.Common.{append_assoc}
use Rattle.plan_print.specs.Report.{tour_line}
use Rattle.plan_print.proofs.reporting.push_tour_line.Goals as goal

pub returns : goal.returns
unfolding tour_line
returns c =
    rw (
      c.in_ok-push.ensures.items,
      c.in_ok-push_route.ensures,
      c.in_ok-extend_from_slice.ensures.items,
      c.in_ok-push_words-3.ensures,
      c.in_ok-push_words-2.ensures,
      c.in_ok-push_words.ensures,
      c.load_of.ensures,
      c.cost_of.ensures,
    )
    (simp append_assoc)
