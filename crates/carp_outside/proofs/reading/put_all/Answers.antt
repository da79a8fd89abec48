use Rattle.std.proofs.Common.{rules}
use Rattle.carp_outside.proofs.Files.{wrote_more}
use Rattle.carp_outside.proofs.reading.put_all.Goals as goal

pub loop-done-preserved : goal.loop-done-preserved
loop-done-preserved g c = record {
  within = search rules;
  written = λ told. wrote_more _ _ _ _ _ _ (c.loop-done.invariant.written told) (c.in_ok-done.ensures.written told);
  later = search rules;
}
