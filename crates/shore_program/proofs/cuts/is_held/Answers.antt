use Rattle.std.proofs.Common.{get_or, refl, sym, ◌∙◌, arith}
use Rattle.std.specs.Cmp.Lexicographic.{same_text}
use Rattle.std.proofs.lemmas.Bool.{false≢true}
use Rattle.shore_program.proofs.Holding.{held_there, not_held}
use Rattle.shore_program.proofs.cuts.is_held.Goals as goal

pub returns-then-eq : goal.returns-then-eq
returns-then-eq c =
    let cuts = c.args.cuts.now in
    let shore = c.args.shore.now in
    let k = c.loop-place.place in
    let cut = c.index-cuts-place.result in
    let same = same_text (get_or cuts k cut).shore shore (sym c.if-eq.true ∙ c.eq.ensures) in
    (λ _. held_there cuts shore k cut c.loop-place-test.true same, λ _. refl)

pub returns : goal.returns
returns c = (
  λ wrong. absurd (false≢true wrong),
  λ held. absurd (not_held c.args.cuts.now c.args.shore.now
      (λ k d below. c.loop-place.invariant k d (omega (arith, below, c.loop-place-test.false))) held),
)
