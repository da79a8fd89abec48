-- Loads, and what they say of groups.
use Rattle.std.proofs.Common.{◌≡◌, ℕ, zero, suc, ◌+◌, ◌-◌, ◌*◌, ◌≤◌, ◌<◌, ◌==◌, if◌then◌else◌, List, length, set, refl, sym, ap, ◌∙◌, arith, inl, inr}
use Rattle.std.specs.Prelude.{slice_index}
use Rattle.std.specs.List.{All}
use Rattle.std.proofs.lemmas.List.Elements.{All-get_or}
use Rattle.std.proofs.lemmas.List.{get_or-set_same, get_or-set_other, length-set}
use Rattle.std.proofs.lemmas.Bool.{cases_eq, eq-eqb, ne_eqb}
use Rattle.carp_base.specs.Problem.{Problem, IsRequired}
use Rattle.carp_base.specs.Packings.{IsGroup, IsPacking, group_of, demand_in, group_load}
use Rattle.fleet_pack.specs.FirstFit.{demand_of}
use Rattle.fleet_pack.specs.Groups.{AreFineLoads}

pub load_step : (p : Problem) (groups loads : List ℕ) (e d : ℕ) → 1 ≤ e → d ≡ demand_of p e → slice_index groups (e - 1) < length loads →
    ((k : ℕ) → k < length loads → slice_index loads k ≡ demand_in p groups k (e - 1)) → (k : ℕ) → k < length (set loads (slice_index groups (e - 1)) (slice_index loads (slice_index groups (e - 1)) + d)) →
    slice_index (set loads (slice_index groups (e - 1)) (slice_index loads (slice_index groups (e - 1)) + d)) k ≡ demand_in p groups k (e + 1 - 1)
load_step p groups loads zero d low is within so_far k less = absurd (omega (arith, low))
load_step p groups loads (suc n) d low is within so_far k less =
    let back : suc n - 1 ≡ n = omega arith in
    let next : suc n + 1 - 1 ≡ suc n = omega arith in
    let g = slice_index groups (suc n - 1) in
    let group_is : group_of groups (suc n) ≡ g = ap (slice_index groups) (sym back) in
    let short : k < length loads = omega (arith, less, length-set loads g (slice_index loads g + d)) in
    let old : slice_index loads k ≡ demand_in p groups k n = so_far k short ∙ ap (demand_in p groups k) back in
    ap (λ m. m) (elim (cases_eq k g) [
      | inl same ↦
          let here : (if group_of groups (suc n) == k then demand_of p (suc n) else 0) ≡ demand_of p (suc n) = rw (eq-eqb (group_of groups (suc n)) k (group_is ∙ sym same)) refl in
          let now : slice_index (set loads g (slice_index loads g + d)) k ≡ slice_index loads g + d = ap (slice_index (set loads g (slice_index loads g + d))) same ∙ get_or-set_same loads g (slice_index loads g + d) 0 within in
          let sum : slice_index (set loads g (slice_index loads g + d)) k ≡ demand_in p groups k (suc n) = omega (arith, now, here, old, is, ap (slice_index loads) same) in
          sum ∙ ap (demand_in p groups k) (sym next)
      | inr other ↦
          let none : (if group_of groups (suc n) == k then demand_of p (suc n) else 0) ≡ 0 = rw (ne_eqb (group_of groups (suc n)) k (λ at. other (sym at ∙ group_is))) refl in
          let now : slice_index (set loads g (slice_index loads g + d)) k ≡ slice_index loads k = get_or-set_other loads g k (slice_index loads g + d) 0 other in
          let sum : slice_index (set loads g (slice_index loads g + d)) k ≡ demand_in p groups k (suc n) = omega (arith, now, none, old) in
          sum ∙ ap (demand_in p groups k) (sym next)
    ])

pub small_step : (loads : List ℕ) (g e d : ℕ) → 1 ≤ e → d ≤ 30000 → g < length loads → ((k : ℕ) → k < length loads → slice_index loads k ≤ 30000 * (e - 1)) →
    (k : ℕ) → k < length (set loads g (slice_index loads g + d)) → slice_index (set loads g (slice_index loads g + d)) k ≤ 30000 * (e + 1 - 1)
small_step loads g e d low fits within small k less =
    let short : k < length loads = omega (arith, less, length-set loads g (slice_index loads g + d)) in
    elim (cases_eq k g) [
      | inl same ↦
          let now : slice_index (set loads g (slice_index loads g + d)) k ≡ slice_index loads g + d = ap (slice_index (set loads g (slice_index loads g + d))) same ∙ get_or-set_same loads g (slice_index loads g + d) 0 within in
          omega (arith, now, fits, small g within, low)
      | inr other ↦ omega (arith, get_or-set_other loads g k (slice_index loads g + d) 0 other, small k short, low)
    ]

some_edge : (p : Problem) (groups : List ℕ) (g n : ℕ) → 1 ≤ demand_in p groups g n → (e : ℕ) × (1 ≤ e) × (e ≤ n) × (group_of groups e ≡ g)
some_edge p groups g zero some = absurd (omega (arith, some))
some_edge p groups g (suc n) some = elim (cases_eq (group_of groups (suc n)) g) [
  | inl is ↦ (suc n, omega arith, omega arith, is)
  | inr other ↦
      let none : (if group_of groups (suc n) == g then demand_of p (suc n) else 0) ≡ 0 = rw (ne_eqb (group_of groups (suc n)) g other) refl in
      let found = some_edge p groups g n (omega (arith, some, none)) in
      (found.0, found.1, omega (arith, found.2), found.3)
]

group_in : (p : Problem) (groups : List ℕ) (count e : ℕ) → length groups ≡ p.required → All (IsGroup count) groups → IsRequired p e → IsGroup count (group_of groups e)
group_in p groups count zero long all required = absurd (omega (arith, required.from_one))
group_in p groups count (suc k) long all required = All-get_or (IsGroup count) groups k 0 (omega (arith, long, required.in_range)) all

pub judged : (p : Problem) (groups loads : List ℕ) (count : ℕ) → length groups ≡ p.required → All (IsGroup count) groups → length loads ≡ count + 1 →
    ((k : ℕ) → k < length loads → slice_index loads k ≡ group_load p groups k) → AreFineLoads p.capacity loads → IsPacking p groups count
judged p groups loads count one_each all long are fine = record {
  one_each = one_each;
  placed = λ e required. group_in p groups count e one_each all required;
  none_empty = λ g group.
      let less : g < length loads = omega (arith, long, group.in_range) in
      let found = some_edge p groups g p.required (omega (arith, are g less, (fine g group.from_one less).0)) in
      (found.0, record { from_one = found.1; in_range = found.2 }, found.3);
  loads = λ g group. let less : g < length loads = omega (arith, long, group.in_range) in omega (arith, are g less, (fine g group.from_one less).1);
}
