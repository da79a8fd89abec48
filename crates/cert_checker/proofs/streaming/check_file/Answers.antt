use Rattle.std.proofs.Common.{length, rules}
use Rattle.carp_outside.specs.Causes.{RoseBy}
use Rattle.cert_lines.specs.Texts.{IsFaultOf}
use Rattle.cert_checker.specs.Streams.{HasStreamed, IsChecked}
use Rattle.cert_checker.proofs.FileAnswers.{says_bad, says_checked, then}
use Rattle.cert_checker.proofs.streaming.check_file.Goals as goal

pub finish-requires : goal.finish-requires
finish-requires g c = record { bytes = c.in-Ok.ensures.streamed.bytes; streamed = c.in-Ok.ensures.streamed.streamed }

pub returns-in-Ok-finish-clause-says : goal.returns-in-Ok-finish-clause-says
returns-in-Ok-finish-clause-says g c =
    let p = c.args.inst.now in
    let some = c.in-Ok.ensures.streamed in
    let given : RoseBy (length some.bytes) (g.H.Shelf.given c.args.shelf.now) (g.H.Shelf.given c.take_file.new.shelf) = some.given in
    let checked = c.in-Ok-finish.checked in
    says_checked p _ _ _ _ _ _ _ checked some.bytes given c.texts_are_unique.ensures.apart (c.in-Ok-finish.ensures.checked some.bytes some.streamed)
    (λ told. then p _ g.H.Shelf.tells _ 0 0 0 0 {P = HasStreamed p c.take_file.new.stream} {Q = λ file. IsChecked p file checked} (λ file streamed. c.in-Ok-finish.ensures.checked file streamed) (c.in-Ok.ensures.whole told))

pub returns-in-Err-Refused-clause-says : goal.returns-in-Err-Refused-clause-says
returns-in-Err-Refused-clause-says g c =
    let p = c.args.inst.now in
    let fault = c.in-Err-Refused.fault in
    says_bad p _ _ _ _ _ _ _ fault c.texts_are_unique.ensures.apart c.texts_are_unique.ensures.fault
    (λ told. then p _ g.H.Shelf.tells _ 0 0 0 0 {P = HasStreamed p c.take_file.new.stream} {Q = λ file. IsFaultOf file fault} (λ file streamed. c.in-Err-Refused.ensures.refused file streamed fault (search rules)) (c.in-Ok.ensures.whole told))
