-- A value divided by its denominator, rounded up.
use Rattle.std.proofs.Common.{◌≡◌, ℕ, zero, suc, ◌+◌, ◌*◌, ◌/◌, ◌%◌, ◌^◌, ◌<◌, ◌≤◌, min, ap, ◌∙◌, arith, ℤ, pos, negsuc, ◌-ℤ◌, ◌*ℤ◌, ◌≤ℤ◌, inl, inr, ◌⊎◌}
use Rattle.std.proofs.Math.Nat.{mul-le-mul_left}
use Rattle.std.proofs.lemmas.Bool.{cases_lt}
use Rattle.std.proofs.lemmas.Grind.{div_ceil_times}
use Rattle.std.proofs.lemmas.Int.{ints}
use Rattle.std.specs.Int.{div_ceil}
use Rattle.std.specs.Int.RustNames.{unsigned_abs}
use Rattle.grown_trees.specs.Values.{IsMostShown, IsShown}

-- a quotient that was rounded up, and the greatest number that is written for it
record IsRounded (v unit shown most : ℕ) : Type 0 where
  pub enough : v ≤ shown * unit
  pub just : shown * unit < v + unit
  pub most_is : most ≡ min shown 18446744073709551615

below_shown : (v unit shown b : ℕ) → v ≤ shown * unit → unit * b < v → b < shown
below_shown v unit shown b enough less = elim (cases_lt b shown) [
  | inl is ↦ is
  | inr over ↦
      let more : unit * shown ≤ unit * b = mul-le-mul_left unit over in
      absurd (omega (arith, more, enough, less))
]

below_value : (v unit shown b : ℕ) → shown * unit < v + unit → suc b ≤ shown → unit * b < v
below_value v unit shown b just within =
    let more : unit * suc b ≤ unit * shown = mul-le-mul_left unit within in
    omega (arith, more, just)

minus_one : (b : ℕ) → (pos (suc b) -ℤ pos 1) ≡ pos b
minus_one b = omega (arith, ints)

one_less : (unit b : ℕ) → (pos unit *ℤ (pos (suc b) -ℤ pos 1)) ≡ pos (unit * b)
one_less unit b = ap (λ (z : ℤ). pos unit *ℤ z) (minus_one b)

shown_at : (v unit shown most : ℕ) → 1 ≤ unit → IsRounded v unit shown most → (bound : ℕ) → bound < 10 ^ 18 →
    (IsShown unit (pos v) bound → bound ≤ most) × (bound ≤ most → IsShown unit (pos v) bound)
shown_at v unit shown most some is zero small = (λ _. omega arith, λ _. omega (arith, ints, some))
shown_at v unit shown most some is (suc b) small = (
  λ above.
      let less : unit * b < v = omega (arith, ints, above, one_less unit b) in
      let within = below_shown v unit shown b is.enough less in
      omega (arith, within, is.most_is, small),
  λ within.
      let less : unit * b < v = below_value v unit shown b is.just (omega (arith, within, is.most_is)) in
      omega (arith, ints, less, one_less unit b),
)

covers_at : (v unit shown most : ℕ) → IsRounded v unit shown most → (pos v ≤ℤ pos (unit * most)) ⊎ (10 ^ 18 ≤ most)
covers_at v unit shown most is = elim (cases_lt shown 18446744073709551616) [
  | inl fits ↦
      let same : most ≡ shown = omega (arith, is.most_is, fits) in
      let product : unit * most ≡ shown * unit = omega (arith, ap (λ n. unit * n) same) in
      inl (omega (arith, ints, product, is.enough))
  | inr over ↦ inr (omega (arith, is.most_is, over))
]

pub rounded : (v unit most : ℕ) → 1 ≤ unit → most ≡ min (v / unit + min 1 (v % unit)) 18446744073709551615 → IsMostShown unit (pos v) most
rounded v unit most some is =
    let shown = v / unit + min 1 (v % unit) in
    let times = div_ceil_times v unit some in
    let all : IsRounded v unit shown most = record { enough = times.0; just = times.1; most_is = is } in
    record {
      shown = shown_at v unit shown most some all;
      covers = covers_at v unit shown most all;
    }

-- a value that is not above 0 shows the bound 0 alone, where it shows that
pub low_shown : (value : ℤ) (unit : ℕ) → IsShown unit value 0 → value ≤ℤ pos 0 → IsMostShown unit value 0
low_shown value unit above low = record {
  shown = λ bound small. by bound;
  covers = inl (omega (arith, ints, low));
}
  where
    by : (bound : ℕ) → (IsShown unit value bound → bound ≤ 0) × (bound ≤ 0 → IsShown unit value bound)
    by zero = (λ _. omega arith, λ _. above)
    by (suc b) = (λ shown. absurd (omega (arith, ints, low, shown, one_less unit b)), λ none. absurd (omega (arith, none)))

pub rounded_up : (value : ℤ) (size from quotient top most unit : ℕ) → pos 0 ≤ℤ value → 1 ≤ unit → size ≡ unsigned_abs value → from ≡ unit → quotient ≡ div_ceil size from →
    top ≡ 18446744073709551615 → most ≡ min quotient top → IsMostShown unit value most
rounded_up (pos v) size from quotient top most unit not_negative some size_is from_is quotient_is top_is most_is =
    let whole : most ≡ min (v / unit + min 1 (v % unit)) 18446744073709551615 =
    most_is ∙ ap (λ n. min quotient n) top_is ∙ ap (λ n. min n 18446744073709551615) (quotient_is ∙ ap (λ n. div_ceil n from) size_is ∙ ap (λ n. div_ceil v n) from_is) in
    rounded v unit most some whole
rounded_up (negsuc v) size from quotient top most unit not_negative some size_is from_is quotient_is top_is most_is = absurd (omega (arith, ints, not_negative))
