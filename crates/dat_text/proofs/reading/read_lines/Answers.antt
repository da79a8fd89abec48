use Rattle.std.proofs.Common.{◌≡◌, ◌+◌, ◌<◌, ◌++◌, ◌∷◌, [], length, get_or, eqb, ap, rules, tests, arith}
use Rattle.std.proofs.lemmas.List.{length_push}
use Rattle.std.proofs.lemmas.Result.{err_from_is_err_and}
use Rattle.std.proofs.lemmas.Iterator.Consumers.{YieldsList-turn, YieldsList-end}
use Rattle.std.proofs.lemmas.Iterator.Splits.{YieldsList-from_slice_split}
use Rattle.dat_text.specs.Text.{lines_of}
use Rattle.dat_text.proofs.Turns.{good_more, bad_more, all_done, refused_now}
use Rattle.dat_text.proofs.reading.read_lines.Goals as goal

pub returns-in_err-take_line : goal.returns-in_err-take_line
returns-in_err-take_line c =
    let s = c.into_iter-line-iterator.result in
    let t : (length c.loop-line.yielded < length (lines_of c.args.bytes.now)) × (c.in-Some.line.now ≡ get_or (lines_of c.args.bytes.now) (length c.loop-line.yielded) c.in-Some.line.now) =
    YieldsList-turn (YieldsList-from_slice_split {s = s} _ (λ b. eqb b 10) c.args.bytes.now (cc) (cc) (cc) (λ x r q k. search (rules, tests)))
    c.loop-line.yielded _ c.loop-line.yielded_by _ _ c.in-Some.line c.in-Some.is c.next.ensures.steps in
    let i = c.loop-line.invariant in
    let n = length c.loop-line.yielded in
    let p = err_from_is_err_and c.from_residual.result c.from_residual.ensures.1 in
    rw (p.1, p.2) (refused_now c.args.bytes.now i.said n (n + 1) (c.loop-line.at + 1) c.in-Some.line.now c.take_line.new.self c.in_err-take_line.field-0.0 t.0 t.1
    (ap (λ k. k + 1) i.at) i.bad (c.in_err-take_line.ensures i.said i.matches))

pub loop-line-preserved : goal.loop-line-preserved
loop-line-preserved c =
    let s = c.into_iter-line-iterator.result in
    let t : (length c.loop-line.yielded < length (lines_of c.args.bytes.now)) × (c.in-Some.line.now ≡ get_or (lines_of c.args.bytes.now) (length c.loop-line.yielded) c.in-Some.line.now) =
    YieldsList-turn (YieldsList-from_slice_split {s = s} _ (λ b. eqb b 10) c.args.bytes.now (cc) (cc) (cc) (λ x r q k. search (rules, tests)))
    c.loop-line.yielded _ c.loop-line.yielded_by _ _ c.in-Some.line c.in-Some.is c.next.ensures.steps in
    let i = c.loop-line.invariant in
    let n = length c.loop-line.yielded in
    let lines = lines_of c.args.bytes.now in
    let taken = c.in_ok-take_line.ensures i.said i.matches in
    let more : length (c.loop-line.yielded ++ c.in-Some.line ∷ []) ≡ n + 1 = length_push c.loop-line.yielded c.in-Some.line in
    rw more (record {
      said = taken.0 ∷ i.said;
      matches = taken.2;
      at = ap (λ k. k + 1) i.at;
      good = λ all rest. i.good all (good_more i.said all lines n c.in-Some.line.now taken.0 t.0 t.1 taken.1 rest);
      bad = λ fault rest. i.bad fault (bad_more i.said fault lines n (n + 1) c.in-Some.line.now taken.0 t.0 t.1 taken.1 rest);
    })

pub returns : goal.returns
returns c =
    let s = c.into_iter-line-iterator.result in
    let t = YieldsList-end (YieldsList-from_slice_split {s = s} _ (λ b. eqb b 10) c.args.bytes.now (cc) (cc) (cc) (λ x r q k. search (rules, tests)))
    c.loop-line.yielded _ c.loop-line.yielded_by _ _ c.in-None.is c.next.ensures.steps in
    let i = c.loop-line.invariant in
    (i.said, i.good i.said (all_done i.said (lines_of c.args.bytes.now) (length c.loop-line.yielded) (omega (arith, t.1))), i.matches)
