use Rattle.std.proofs.Common.{append_assoc}
use Rattle.dat_text.specs.DatText.{counts_text}
use Rattle.dat_text.proofs.write.push_counts.Goals as goal

pub returns : goal.returns
unfolding counts_text
returns c =
    rw (c.in_ok-push_key_line-3.ensures, c.in_ok-push_key_line-2.ensures, c.in_ok-push_key_line.ensures, c.in_ok-extend_from_slice.ensures.items, c.from.ensures, c.from-2.ensures, c.vertices.ensures.value, c.required.ensures.value, c.other_count.ensures) (simp append_assoc)
