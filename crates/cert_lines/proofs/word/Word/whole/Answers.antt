use Rattle.std.proofs.Common.{◌≡◌, ℕ, ◌<◌, ◌≤◌, pos, neg_ℤ, ◌-ℤ◌, to_z, of_z, subst, sym, arith, w64}
use Rattle.std.proofs.lemmas.Int.{ints, to_z_pos, to_z-of_z}
use Rattle.cert_lines.specs.Numbers.{IsMarkedNumber, IsWhole}
use Rattle.cert_lines.proofs.Cuts.{natural_is_whole, no_whole, no_zero, marked_whole}
use Rattle.cert_lines.proofs.word.Word.whole.Goals as goal

pub returns-in-Some : goal.returns-in-Some
returns-in-Some c = λ text held. subst (IsWhole text) (let e : pos c.in-Some.told ≡ to_z w64 c.in-Some.told = grind (arith, ints) in e) (natural_is_whole c.in-Some.told (c.in-Some.ensures.told text held))

pub returns-in_default-marked : goal.returns-in_default-marked
returns-in_default-marked c = λ text held. no_whole (c.in_default.ensures.told text held) (c.in_default-marked.ensures.told text held)

pub returns-then-size-eq0 : goal.returns-then-size-eq0
returns-then-size-eq0 c = λ text held. no_zero (c.in_default.ensures.told text held) (subst (IsMarkedNumber 45 text) c.if-size-eq0.true (c.in-Some-marked.ensures.told text held))

pub returns : goal.returns
returns c = λ text held.
    let size : ℕ = c.in-Some-marked.size in
    let small : size ≤ 1000000000000000000 = c.in-Some-marked.ensures.small in
    let some : 0 < size = omega (arith, c.if-size-eq0.false) in
    let told : to_z w64 size ≡ pos size = to_z_pos w64 size (omega (arith, small)) in
    let back : to_z w64 (of_z w64 (pos 0 -ℤ to_z w64 size)) ≡ neg_ℤ (pos size) = grind (arith, ints, to_z-of_z) in
    subst (IsWhole text) (sym back) (marked_whole size (c.in-Some-marked.ensures.told text held) some)
