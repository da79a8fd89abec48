use Rattle.std.proofs.Common.{ℕ, List, ◌++◌, take, refl, sym, subst, rules}
use Rattle.std.proofs.Math.Seq.{take-length}
use Rattle.cert_checker.specs.declared.stream.Stream.{Stream}
use Rattle.cert_checker.specs.Streams.{HasStreamed}
use Rattle.cert_checker.proofs.Taking.{item_comes, streamed_bad, streamed_on}
use Rattle.cert_checker.proofs.stream.Stream.take_run.Goals as goal

pub take_item-requires : goal.take_item-requires
take_item-requires c =
    let s = c.requires.streamed.streamed in
    let bytes = c.requires.streamed.bytes in
    let gives = c.in-Ok.ensures.gives bytes s.taken in
    record { before = gives.0.before; said = gives.0.said; comes = item_comes c.stream_laws.ensures c.args.inst.now c.args.self.now _ bytes c.args.piece.now c.in-Ok.count c.in-Ok.item s refl gives.1 gives.0 }

pub returns-in_ok-take_item-in-Ok-clause-streamed : goal.returns-in_ok-take_item-in-Ok-clause-streamed
returns-in_ok-take_item-in-Ok-clause-streamed c = λ bytes streamed.
    let gives = c.in-Ok.ensures.gives bytes streamed.taken in
    let comes = item_comes c.stream_laws.ensures c.args.inst.now c.args.self.now _ bytes c.args.piece.now c.in-Ok.count c.in-Ok.item streamed refl gives.1 gives.0 in
    streamed_on c.stream_laws.ensures c.args.inst.now _ c.feed.new.self (bytes ++ take c.in-Ok.count c.args.piece.now) gives.0.said gives.0.rest
    c.in_ok-take_item-in-Ok.ensures.reader gives.1 gives.0.read (c.in_ok-take_item-in-Ok.ensures.stage gives.0.before gives.0.said comes)

pub returns-in-Err-Refused-clause-streamed : goal.returns-in-Err-Refused-clause-streamed
returns-in-Err-Refused-clause-streamed c = λ bytes streamed.
    let fault = c.in-Err-Refused.field-0-0 in
    let bad = c.in-Err-Refused.ensures.bad bytes streamed.taken fault (search rules) in
    let new = streamed_bad c.stream_laws.ensures c.args.inst.now (record { reader = c.feed.new.self; stage = c.args.self.now.stage }) (bytes ++ c.args.piece.now) bad.0.0 fault bad.1 bad.0.1 in
    subst (λ (xs : List ℕ). HasStreamed c.args.inst.now (record { reader = c.feed.new.self; stage = c.args.self.now.stage }) (bytes ++ xs)) (sym (take-length c.args.piece.now)) new
