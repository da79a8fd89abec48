use Rattle.std.proofs.Common.{◌≡◌, ℕ, ◌+◌, ◌<◌, List, [], ◌∷◌, ◌++◌, length, get_or, take, drop, refl, sym, ap, subst, ◌∙◌, append_assoc, rules, arith}
use Rattle.carp_base.specs.declared.fail.Fail.TheVariants.{Refused}
use Rattle.cert_format.specs.Held.{IsBroken}
use Rattle.cert_format.proofs.MoreBytes.{going_more, going_blank, advances_quiet, advances_same, take_one}
use Rattle.cert_format.proofs.Standings.{not_plain, piece_parts}
use Rattle.cert_format.proofs.cert_reader.CertReader.take_run.Goals as goal

pub returns-then-end-piece-clause-gives : goal.returns-then-end-piece-clause-gives
returns-then-end-piece-clause-gives c = λ bytes said rest going.
    advances_quiet (going_more _ (take c.run_of-end.result c.args.piece.now) going refl refl c.extend.ensures c.run_of-end.ensures.plain)

pub returns-then-piece-end-eq32-clause-gives : goal.returns-then-piece-end-eq32-clause-gives
returns-then-piece-end-eq32-clause-gives c = λ bytes said rest going.
    let q : List ℕ = take c.run_of-end.result c.args.piece.now in
    let mid = going_more (record c.args.self.now { word = c.extend.new.self }) q going refl refl c.extend.ensures c.run_of-end.ensures.plain in
    advances_same ((bytes ++ q) ++ 32 ∷ []) (bytes ++ take (c.run_of-end.result + 1) c.args.piece.now)
    (append_assoc bytes q (32 ∷ []) ∙ ap (λ (x : List ℕ). bytes ++ x) (sym (take_one c.args.piece.now c.run_of-end.result 32 (search rules) c.if-piece-end-eq32.true)))
    (advances_quiet (going_blank c.end_word.new.self mid c.end_word.ensures.draft (c.in_ok-end_word.ensures.line mid.words mid.text mid.line mid.word) c.in_ok-end_word.ensures.word))

pub returns-in-Ok-clause-gives : goal.returns-in-Ok-clause-gives
returns-in-Ok-clause-gives c = λ bytes said rest going.
    let q : List ℕ = take c.run_of-end.result c.args.piece.now in
    let below : c.run_of-end.result < length c.args.piece.now = omega (arith, c.run_of-end.ensures.within, c.if-end-piece.false) in
    let byte : get_or c.args.piece.now c.run_of-end.result 0 ≡ 10 = not_plain (get_or c.args.piece.now c.run_of-end.result 0) (c.run_of-end.ensures.ends below) c.if-piece-end-eq32.false in
    advances_same ((bytes ++ q) ++ 10 ∷ []) (bytes ++ take (c.run_of-end.result + 1) c.args.piece.now)
    (append_assoc bytes q (10 ∷ []) ∙ ap (λ (x : List ℕ). bytes ++ x) (sym (take_one c.args.piece.now c.run_of-end.result 10 below byte)))
    (c.in-Ok.ensures.gives (bytes ++ q) said (rest ++ q) (going_more _ q going refl refl c.extend.ensures c.run_of-end.ensures.plain))

pub returns-in-Err-clause-bad : goal.returns-in-Err-clause-bad
returns-in-Err-clause-bad c = λ bytes said rest going fault is.
    let q : List ℕ = take c.run_of-end.result c.args.piece.now in
    let below : c.run_of-end.result < length c.args.piece.now = omega (arith, c.run_of-end.ensures.within, c.if-end-piece.false) in
    let byte : get_or c.args.piece.now c.run_of-end.result 0 ≡ 10 = not_plain (get_or c.args.piece.now c.run_of-end.result 0) (c.run_of-end.ensures.ends below) c.if-piece-end-eq32.false in
    let more : List ℕ = drop (c.run_of-end.result + 1) c.args.piece.now in
    let broken = c.in-Err.ensures.bad (bytes ++ q) more said (rest ++ q) (going_more _ q going refl refl c.extend.ensures c.run_of-end.ensures.plain) fault (let same : c.in-Err.fail ≡ Refused fault = (let b = is in cc) in search rules) in (
      subst (λ (x : List ℕ). IsBroken c.end_line.new.self x fault)
          (append_assoc bytes q (10 ∷ more) ∙ ap (λ (x : List ℕ). bytes ++ x) (piece_parts c.args.piece.now c.run_of-end.result 10 below byte)) broken.0,
      broken.1,
    )
