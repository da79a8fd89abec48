use Rattle.std.proofs.lemmas.List.{take_rest}
use Rattle.flow_cut.proofs.Trying.{all_untried}
use Rattle.flow_cut.proofs.blocking.improve.Goals as goal

pub block-requires-clause-untried : goal.block-requires-clause-untried
block-requires-clause-untried c =
    rw (c.copy_from_slice.ensures.after, c.deref.ensures.value, take_rest)
    (all_untried c.args.ends.nodes c.args.adjacency.now.starts.items c.requires.adjacency.starts_len)
