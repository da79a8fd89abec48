use Rattle.std.proofs.Common.{Some, refl, ap}
use Rattle.cert_format.proofs.Growing.{item_fails, item_more, line_shaped, all_come}
use Rattle.cert_format.proofs.Told.{no_waiting, shore_words, shore_fails}
use Rattle.cert_format.proofs.line.LineState.take_shore.Goals as goal

pub returns-in_default : goal.returns-in_default
returns-in_default c = λ context words text s all held form none.
    let h = s.held (all_come s all) in
    item_fails text s all (λ y more waits e. shore_fails y.weights s.items.weights y.waiting s.items.waiting text more waits (no_waiting s.items.waiting c.args.self.now.waiting h.1 none) e (c.in_default.ensures.told text held))

pub returns : goal.returns
returns c = λ context words text s all held form none.
    let is = c.in-Some.ensures.told text held in
    let h = s.held (all_come s all) in
    line_shaped form (item_more text (record s.items { waiting = Some is.n }) s all refl refl
    (shore_words s.items.weights s.items.waiting is.n text (no_waiting s.items.waiting c.args.self.now.waiting h.1 none) is.spelled)
    (h.0, ap Some is.value))
