use Rattle.std.proofs.Common.{◌+◌, ◌-◌, ◌++◌, length, take, drop, arith}
use Rattle.cert_checker.proofs.Reading.{rest_length, run_on}
use Rattle.cert_checker.proofs.stream.Stream.take_piece.Goals as goal

pub loop-taken-preserved : goal.loop-taken-preserved
loop-taken-preserved c =
    let xs = c.args.piece.now in
    let t = c.loop-taken.taken in
    let m = c.in_ok-taken.field-0 in
    let some = c.loop-taken.invariant.some in
    record {
      within = omega (arith, c.in_ok-taken.ensures.within.1, rest_length xs t, c.loop-taken.invariant.within);
      some = record { bytes = some.bytes ++ take m (take (length xs - t) (drop t xs)); streamed = c.in_ok-taken.ensures.streamed some.bytes some.streamed };
      streamed = λ bytes streamed. run_on c.args.inst.now c.take_run.new.self bytes xs t m (c.in_ok-taken.ensures.streamed (bytes ++ take t xs) (c.loop-taken.invariant.streamed bytes streamed));
    }
