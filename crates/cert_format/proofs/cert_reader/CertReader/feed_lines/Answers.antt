use Rattle.std.proofs.Common.{ℕ, ◌+◌, List, ◌++◌, length, take, ap, subst, ◌∙◌, append_assoc, arith}
use Rattle.cert_format.specs.Held.{IsBroken, Advances}
use Rattle.cert_format.proofs.MoreBytes.{advances_same, advances_more}
use Rattle.cert_format.proofs.Standings.{some_bytes, slice_rest, slice_run, slice_length, fills_other}
use Rattle.cert_lines.specs.declared.item.Item.{Item}
use Rattle.cert_format.proofs.cert_reader.CertReader.feed_lines.Goals as goal

pub returns-in-Err-clause-bad : goal.returns-in-Err-clause-bad
returns-in-Err-clause-bad c = λ bytes said rest going fault is.
    let piece : List ℕ = c.args.piece.now in
    let t : ℕ = c.loop-taken.taken in
    let a = c.loop-taken.invariant.gives bytes said rest going in
    let broken = c.in-Err.ensures.bad (bytes ++ take t piece) a.said a.rest a.going fault is in
    (subst (λ (x : List ℕ). IsBroken c.take_run.new.self x fault) (append_assoc bytes (take t piece) _ ∙ ap (λ (x : List ℕ). bytes ++ x) (slice_rest piece t)) broken.0, broken.1)

pub loop-taken-preserved : goal.loop-taken-preserved
loop-taken-preserved c =
    let piece : List ℕ = c.args.piece.now in
    let t : ℕ = c.loop-taken.taken in
    let m : ℕ = c.in-Ok.run'.0 in
    record {
      within = omega (arith, c.in-Ok.ensures.within.1, slice_length piece t, c.loop-taken.invariant.within);
      going = c.in-Ok.ensures.going;
      gives = λ bytes said rest going.
          (let a = c.loop-taken.invariant.gives bytes said rest going in
          let b = c.in-Ok.ensures.gives (bytes ++ take t piece) a.said a.rest a.going in
          subst (λ (i : Item). Advances c.take_run.new.self (bytes ++ take (t + m) piece) said i) c.in-Quiet.is
          (advances_more (bytes ++ take (t + m) piece) a (advances_same _ (bytes ++ take (t + m) piece) (slice_run bytes piece t m) b)));
    }

pub returns-in_default-clause-gives : goal.returns-in_default-clause-gives
returns-in_default-clause-gives c = λ bytes said rest going.
    let piece : List ℕ = c.args.piece.now in
    let t : ℕ = c.loop-taken.taken in
    let m : ℕ = c.in-Ok.run'.0 in
    let a = c.loop-taken.invariant.gives bytes said rest going in
    let b = c.in-Ok.ensures.gives (bytes ++ take t piece) a.said a.rest a.going in (
      omega (arith, c.in-Ok.ensures.within.1, slice_length piece t, c.loop-taken.invariant.within),
      fills_other c.in-Ok.run'.1 (t + m) (length piece) c.in_default.not-Quiet,
      advances_more (bytes ++ take (t + m) piece) a (advances_same _ (bytes ++ take (t + m) piece) (slice_run bytes piece t m) b),
    )

pub returns-clause-gives : goal.returns-clause-gives
returns-clause-gives c = λ bytes said rest going.
    (c.loop-taken.invariant.within, omega (arith, c.loop-taken.invariant.within, c.loop-taken-test.false), c.loop-taken.invariant.gives bytes said rest going)

pub returns-clause-within : goal.returns-clause-within
returns-clause-within c = (omega (arith, c.loop-taken.invariant.within, c.loop-taken-test.false, some_bytes c.args.piece.now c.requires.some), c.loop-taken.invariant.within)

pub returns-in_default-clause-within : goal.returns-in_default-clause-within
returns-in_default-clause-within c = (omega (arith, c.in-Ok.ensures.within.0), omega (arith, c.in-Ok.ensures.within.1, slice_length c.args.piece.now c.loop-taken.taken, c.loop-taken.invariant.within))
