use Rattle.std.proofs.Common.{ap, ◌∙◌, replicate}
use Rattle.blossom_match.specs.Answer.{mate_in}
use Rattle.matching_duals.proofs.Joined.{paired_none}
use Rattle.matching_duals.proofs.joining.join_pairs.Goals as goal

pub loop-i-init : goal.loop-i-init
loop-i-init c =
    paired_none c.args.inst.now c.args.ground.now.odd.items c.args.ground.now.table.items (mate_in c.args.matching.now) c.in_ok-counts.counts.items
    (c.in_ok-counts.ensures.items_if_clones_equal (λ y is. is) ∙ ap (λ n. replicate n 0) c.edge_count.ensures.value)
