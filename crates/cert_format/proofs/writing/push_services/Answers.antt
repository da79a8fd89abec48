use Rattle.std.proofs.Common.{◌++◌, ap, ◌∙◌, pos, arith, ℤ}
use Rattle.cert_format.specs.Pieces.{price_piece}
use Rattle.cert_format.proofs.Steps.{piece_more, price_after}
use Rattle.cert_format.proofs.writing.push_services.Goals as goal

pub loop-i-preserved : goal.loop-i-preserved
loop-i-preserved c =
    piece_more price_piece c.args.set.now.services c.loop-i.i (pos 0) c.args.text.now.items c.loop-i.text.items c.push_service.new.text.items (omega arith) c.loop-i.invariant
    (c.in_ok-push_service.ensures ∙ ap (λ (z : ℤ). c.loop-i.text.items ++ price_piece z) (price_after c.args.set.now c.loop-i.i))
