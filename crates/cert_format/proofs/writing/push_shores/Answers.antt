use Rattle.std.proofs.Common.{◌++◌, ap, ◌∙◌, [], arith, List, ℕ}
use Rattle.cert_format.specs.Pieces.{shore_text}
use Rattle.cert_format.proofs.Steps.{piece_more, shore_after}
use Rattle.cert_format.proofs.writing.push_shores.Goals as goal

pub loop-i-preserved : goal.loop-i-preserved
loop-i-preserved c =
    piece_more shore_text c.args.pool.now c.loop-i.i [] c.args.text.now.items c.loop-i.text.items c.push_shore.new.text.items (omega arith) c.loop-i.invariant
    (c.in_ok-push_shore.ensures ∙ ap (λ (shore : List ℕ). c.loop-i.text.items ++ shore_text shore) (c.shore.ensures ∙ shore_after c.args.pool.now c.loop-i.i))
