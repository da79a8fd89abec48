use Rattle.std.proofs.Common.{◌∙◌}
use Rattle.std.proofs.lemmas.List.{length-set}
use Rattle.carp_base.proofs.Entries.{entry_more}
use Rattle.carp_base.proofs.allowed.Allowed.all.Goals as goal

pub loop-edge-preserved : goal.loop-edge-preserved
loop-edge-preserved c =
    let so_far = c.loop-edge.invariant in
    record {
      square = length-set _ _ _ ∙ so_far.square;
      entries = λ a b a_in b_in. entry_more c.loop-edge.table.items _ c.loop-edge.edge a b so_far.square c.loop-edge-test.true a_in b_in (so_far.entries a b a_in b_in);
    }
