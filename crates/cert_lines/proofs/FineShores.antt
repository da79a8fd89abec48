-- The shores of an instance have at most 999 vertices, so that they can be spelled.
use Rattle.std.proofs.Common.{◌≡◌, ◌≢◌, ℕ, zero, suc, ◌+◌, ◌<◌, ◌≤◌, ◌==◌, List, [], ◌∷◌, length, get_or, true, refl, sym, ap, ◌∙◌, arith, inl, inr}
use Rattle.std.specs.List.Sorted.{IsStrictlyIncreasing}
use Rattle.std.proofs.lemmas.Bool.{cases_lt, eq-eqb, or_left, or_right, false≢true}
use Rattle.carp_base.specs.Problem.{Problem, IsValid}
use Rattle.cut_pool.specs.Shores.{is_in, IsShore, Belongs}
use Rattle.cert_lines.specs.Spelling.{IsFineShore}

is_in_at : (xs : List ℕ) (k v : ℕ) → k < length xs → get_or xs k 0 ≡ v → is_in xs v ≡ true
is_in_at [] k v below same = absurd (omega (arith, below))
is_in_at (x ∷ xs) zero v below same = or_left (x == v) (is_in xs v) (eq-eqb x v same)
is_in_at (x ∷ xs) (suc k) v below same = or_right (x == v) (is_in xs v) (is_in_at xs k v (omega (arith, below)) same)

-- rising numbers from 1 on, among which v is missing
record Misses (v : ℕ) (xs : List ℕ) : Type 0 where
  from_one : (k : ℕ) → k < length xs → 1 ≤ get_or xs k 0
  missing : (k : ℕ) → k < length xs → get_or xs k 0 ≢ v
  rising : IsStrictlyIncreasing xs

-- the number at a place, and that one number fewer is there below a number above v
record IsHigh (v k n : ℕ) : Type 0 where
  own : k + 1 ≤ n
  past : v < n → k + 2 ≤ n

high : (v : ℕ) (xs : List ℕ) → 1 ≤ v → Misses v xs → (k : ℕ) → k < length xs → IsHigh v k (get_or xs k 0)
high v xs some misses zero below = record { own = misses.from_one 0 below; past = λ more. omega (arith, some, more) }
high v xs some misses (suc k) below =
    let before = high v xs some misses k (omega (arith, below)) in
    let next : get_or xs (k + 1) 0 ≡ get_or xs (suc k) 0 = ap (λ (i : ℕ). get_or xs i 0) (omega arith) in
    let more : get_or xs k 0 < get_or xs (k + 1) 0 = misses.rising k (omega (arith, below)) in record {
      own = omega (arith, before.own, more, next);
      past = λ above. elim (cases_lt v (get_or xs k 0)) [
        | inl past ↦ omega (arith, before.past past, more, next)
        | inr not_past ↦ let other = misses.missing k (omega (arith, below)) in omega (arith, other, not_past, before.own, above, more, next)
      ];
    }

few_missing : (v n : ℕ) (xs : List ℕ) (m : ℕ) → length xs ≡ m → 1 ≤ v → v ≤ n → Misses v xs → ((k : ℕ) → k < length xs → get_or xs k 0 ≤ n) → length xs + 1 ≤ n
few_missing v n xs zero long some within misses most = omega (arith, long, some, within)
few_missing v n xs (suc m) long some within misses most =
    let inside : m < length xs = omega (arith, long) in
    let last = high v xs some misses m inside in
    elim (cases_lt v (get_or xs m 0)) [
      | inl past ↦ omega (arith, long, last.past past, most m inside)
      | inr not_past ↦ let other = misses.missing m inside in omega (arith, long, last.own, other, not_past, within)
    ]

pub shore_is_fine : (p : Problem) (shore : List ℕ) → IsValid p → IsShore shore → Belongs p shore → IsFineShore shore
shore_is_fine p shore valid is belongs =
    let misses : Misses p.depot shore = record {
      from_one = λ k below. (belongs.vertices k 0 below).from_one;
      missing = λ k below same. false≢true (sym belongs.no_depot ∙ is_in_at shore k p.depot below same);
      rising = is.rising;
    } in
    let few = few_missing p.depot p.vertices shore (length shore) refl valid.depot_in.from_one valid.depot_in.in_range misses (λ k below. (belongs.vertices k 0 below).in_range) in record {
      size = record { from_first = some shore is.some; to_last = omega (arith, few, valid.few_vertices) };
      vertices_in = λ k d below. record { from_first = (belongs.vertices k d below).from_one; to_last = omega (arith, (belongs.vertices k d below).in_range, valid.few_vertices) };
      rising = is.rising;
    } where
      some : (xs : List ℕ) → xs ≢ [] → 1 ≤ length xs
      some [] none = absurd (none refl)
      some (x ∷ xs) none = omega arith
