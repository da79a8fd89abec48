use Rattle.std.proofs.Common.{refl, arith}
use Rattle.blossom_match.proofs.Answering.{least_by}
use Rattle.blossom_match.proofs.least.match_least.Goals as goal

pub returns : goal.returns
returns c =
    least_by c.unfold.new.state _ c.args.costs.now c.unfold.ensures (omega (arith, c.unfold.ensures.shape.size_is, c.requires.table.few)) refl c.in_ok-mates.ensures.len
    c.in_ok-mates.ensures.mates c.in_ok-sets.ensures
