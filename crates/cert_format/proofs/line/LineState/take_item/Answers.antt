use Rattle.cert_format.proofs.Growing.{item_fails}
use Rattle.cert_format.proofs.Told.{plain_fails}
use Rattle.cert_format.proofs.line.LineState.take_item.Goals as goal

pub returns : goal.returns
returns c = λ words text form s all held.
    item_fails text s all (λ y more waits e. plain_fails c.args.kind s.items y text more c.in_default.not-Tour c.in_default.not-Shore c.in_default.not-Prices c.in_default.not-Weights c.in_default.not-Bonds e)
