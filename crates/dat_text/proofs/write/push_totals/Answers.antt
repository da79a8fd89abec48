use Rattle.std.proofs.Common.{append_assoc}
use Rattle.dat_text.specs.DatText.{totals_text}
use Rattle.dat_text.proofs.write.push_totals.Goals as goal

pub returns : goal.returns
unfolding totals_text
returns c =
    rw (c.in_ok-push_key_line-3.ensures, c.in_ok-extend_from_slice.ensures.items, c.in_ok-push_key_line-2.ensures, c.in_ok-push_key_line.ensures, c.vehicles.ensures, c.capacity.ensures.value, c.required_cost.ensures) (simp append_assoc)
