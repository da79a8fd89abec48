-- Places along a cycle of children.
use Rattle.std.proofs.Common.{◌≡◌, ◌≢◌, ◌⊎◌, ℕ, zero, suc, ◌+◌, ◌*◌, ◌-◌, ◌/◌, ◌%◌, ◌<◌, ◌≤◌, Bool, true, false, cond, List, Option, slice_index, refl, sym, subst, ap, ◌∙◌, arith, inl, inr}
use Rattle.std.proofs.lemmas.Bool.{cases_lt, cases_order, false≢true, false_from_ne_true}
use Rattle.blossom_match.specs.declared.costs.Costs.{Costs}
use Rattle.blossom_match.specs.declared.state.Pair.{Pair}
use Rattle.blossom_match.specs.Matching.{total, members}
use Rattle.blossom_match.specs.Views.{holds, link_at, is_used}
use Rattle.blossom_match.specs.Between.{IsCycle, IsLink, AreSets, after}
use Rattle.blossom_match.specs.Cycles.{IsRound, IsTrip, IsWhole}
use Rattle.blossom_match.proofs.Totals.{total-le, total-none, total-only, total-swap}
use Rattle.blossom_match.proofs.Duality.{some_or_none}
use Rattle.blossom_match.proofs.Keeping.{odd_member}

pub after_add : (next : List ℕ) (a b m c : ℕ) → m ≡ a + b → after next m c ≡ after next a (after next b c)
after_add next zero b m c is = ap (λ x. after next x c) (omega (arith, is))
after_add next (suc a) b zero c is = absurd (omega (arith, is))
after_add next (suc a) b (suc m) c is = ap (λ x. slice_index next x) (after_add next a b m c (omega (arith, is)))

-- each place is one of the first round
pub around : (next : List ℕ) (len c : ℕ) → after next len c ≡ c → 1 ≤ len → (m : ℕ) → (k : ℕ) × (k < len) × (after next m c ≡ after next k c)
around next len c closes some zero = (0, omega (arith, some), refl)
around next len c closes some (suc m) =
    let w = around next len c closes some m in
    elim (cases_lt (suc w.0) len) [
      | inl less ↦ (suc w.0, less, ap (λ x. slice_index next x) w.2)
      | inr more ↦ (0, omega (arith, some), ap (λ x. slice_index next x) w.2 ∙ subst (λ x. after next x c ≡ c) (last w.0 w.1 more) closes)
    ]
  where
    last : (k : ℕ) → k < len → len ≤ suc k → len ≡ suc k
    last k below more = omega (arith, below, more)

-- a place counted from another one
pub placed : (next : List ℕ) (len c : ℕ) → after next len c ≡ c → (j k : ℕ) → j < len → k < len →
    (i : ℕ) × (i < len) × (after next j (after next k c) ≡ after next i c) × ((i ≡ j + k) ⊎ (i + len ≡ j + k))
placed next len c closes j k j_in k_in = elim (cases_lt (j + k) len) [
  | inl less ↦ (j + k, less, sym (after_add next j k (j + k) c refl), inl refl)
  | inr more ↦ (
    j + k - len,
    omega (arith, j_in, k_in, more),
    sym (after_add next j k (j + k) c refl) ∙ after_add next (j + k - len) len (j + k) c (omega (arith, more)) ∙ ap (λ x. after next (j + k - len) x) closes,
    inr (omega (arith, more)),
  )
]

-- each place is reached from each other one
pub reached : (next : List ℕ) (len c : ℕ) → after next len c ≡ c → 1 ≤ len → (k i : ℕ) → k < len → i < len → (j : ℕ) × (j < len) × (after next j (after next k c) ≡ after next i c)
reached next len c closes some k i k_in i_in = elim (cases_lt i k) [
  | inl less ↦ (
    i + len - k,
    omega (arith, less, k_in),
    sym (after_add next (i + len - k) k (i + len) c (omega (arith, k_in))) ∙ after_add next i len (i + len) c refl ∙ ap (λ x. after next i x) closes,
  )
  | inr more ↦ (i - k, omega (arith, i_in), sym (after_add next (i - k) k i c (omega (arith, more))))
]

pub apart_any : (costs : Costs) (n : ℕ) (held : List Bool) (halves : List ℕ) (child : List (Option ℕ)) (next : List ℕ) (link : List Pair) (s c : ℕ) (y : IsCycle costs n held halves child next link s c)
    (j k v : ℕ) → j < y.len → k < y.len → j ≢ k → v < n → holds n held (after next j c) v ≡ true → holds n held (after next k c) v ≡ false
apart_any costs n held halves child next link s c y j k v j_in k_in other v_in on = elim (cases_order j k) [
  | inl same ↦ absurd (other same)
  | inr (inl less) ↦ y.disjoint j k less k_in v v_in on
  | inr (inr more) ↦ false_from_ne_true (holds n held (after next k c) v) (λ both. false≢true (sym (y.disjoint k j more j_in v v_in both) ∙ on))
]

-- a cycle may begin at each child
pub turned_cycle : (costs : Costs) (n : ℕ) (held : List Bool) (halves : List ℕ) (child : List (Option ℕ)) (next : List ℕ) (link : List Pair) (s c : ℕ) (y : IsCycle costs n held halves child next link s c)
    (k : ℕ) → k < y.len → (z : IsCycle costs n held halves child next link s (after next k c)) × (z.len ≡ y.len)
turned_cycle costs n held halves child next link s c y k k_in = (
  record {
    len = y.len;
    odd = y.odd;
    several = y.several;
    closes = sym (after_add next y.len k (y.len + k) c refl) ∙ after_add next k y.len (y.len + k) c (omega arith) ∙ ap (λ x. after next k x) y.closes;
    in_slots = λ j j_in. (let w = placed next y.len c y.closes j k j_in k_in in subst (λ x. x < 2 * n) (sym w.2) (y.in_slots w.0 w.1));
    used = λ j j_in. (let w = placed next y.len c y.closes j k j_in k_in in ap (λ x. is_used n child x) w.2 ∙ y.used w.0 w.1);
    inner = λ j v j_in v_in on.
        let w = placed next y.len c y.closes j k j_in k_in in
        y.inner w.0 v w.1 v_in (ap (λ x. holds n held x v) (sym w.2) ∙ on);
    covers = λ v v_in on.
        let i = y.covers v v_in on in
        let w = reached next y.len c y.closes (omega (arith, y.several)) k i.0 k_in i.1 in
        (w.0, w.1, ap (λ x. holds n held x v) w.2 ∙ i.2);
    disjoint = λ i j less j_in v v_in on.
        let a = placed next y.len c y.closes i k (omega (arith, less, j_in)) k_in in
        let b = placed next y.len c y.closes j k j_in k_in in
        ap (λ x. holds n held x v) b.2
        ∙ apart_any costs n held halves child next link s c y a.0 b.0 v a.1 b.1 (differ a.0 b.0 i j less j_in a.1 b.1 a.3 b.3) v_in (ap (λ x. holds n held x v) (sym a.2) ∙ on);
    links = λ j j_in.
        let w = placed next y.len c y.closes j k j_in k_in in
        subst (λ x. IsLink costs n held halves (link_at link x) x (slice_index next x)) (sym w.2) (y.links w.0 w.1);
  },
  refl,
)
  where
    differ : (a b i j : ℕ) → i < j → j < y.len → a < y.len → b < y.len → (a ≡ i + k) ⊎ (a + y.len ≡ i + k) → (b ≡ j + k) ⊎ (b + y.len ≡ j + k) → a ≢ b
    differ a b i j less j_in a_in b_in (inl p) (inl q) = λ same. omega (arith, less, p, q, same)
    differ a b i j less j_in a_in b_in (inl p) (inr q) = λ same. omega (arith, less, j_in, p, q, same)
    differ a b i j less j_in a_in b_in (inr p) (inl q) = λ same. omega (arith, less, j_in, p, q, same, a_in, b_in)
    differ a b i j less j_in a_in b_in (inr p) (inr q) = λ same. omega (arith, less, p, q, same)

-- two children are two nodes
pub child_apart : (costs : Costs) (n : ℕ) (held : List Bool) (halves : List ℕ) (child : List (Option ℕ)) (next : List ℕ) (link : List Pair) (s c : ℕ) → AreSets n held halves child →
    (y : IsCycle costs n held halves child next link s c) → (j k : ℕ) → j < y.len → k < y.len → j ≢ k → after next j c ≢ after next k c
child_apart costs n held halves child next link s c sets y j k j_in k_in other same =
    let m = odd_member n (holds n held (after next j c)) (sets.odd (after next j c) (y.in_slots j j_in) (y.used j j_in)) in
    false≢true (sym (apart_any costs n held halves child next link s c y j k m.0 j_in k_in other m.1 m.2) ∙ ap (λ x. holds n held x m.0) (sym same) ∙ m.2)

total_same : (n : ℕ) → total n (λ k. 1) ≡ n
total_same zero = refl
total_same (suc n) = omega (arith, total_same n)

one_holder : (len : ℕ) (on : ℕ → Bool) → ((j k : ℕ) → j < len → k < len → j ≢ k → on j ≡ true → on k ≡ false) → total len (λ k. cond (on k) 1 0) ≤ 1
one_holder len on lone = elim (some_or_none len on) [
  | inl some ↦
      let only = total-only len (λ k. cond (on k) 1 0) some.0 some.1 (λ k k_in other. ap (λ b. cond b 1 0) (lone some.0 k some.1 k_in (λ e. other (sym e)) some.2)) in
      let at : cond (on some.0) 1 0 ≡ 1 = ap (λ b. cond {A = ℕ} b 1 0) some.2 in
      omega (arith, only, at)
  | inr none ↦ (let all = total-none len (λ k. cond (on k) 1 0) (λ k k_in. ap (λ b. cond b 1 0) (none k k_in)) in omega (arith, all))
]

-- there are no more children than members
pub few_children : (costs : Costs) (n : ℕ) (held : List Bool) (halves : List ℕ) (child : List (Option ℕ)) (next : List ℕ) (link : List Pair) (s c : ℕ) → AreSets n held halves child →
    (y : IsCycle costs n held halves child next link s c) → y.len ≤ n
few_children costs n held halves child next link s c sets y =
    let swap = total-swap y.len n (λ k v. cond (holds n held (after next k c) v) 1 0) in
    let lower = total-le y.len (λ k. 1) (λ k. total n (λ v. cond (holds n held (after next k c) v) 1 0))
    (λ k k_in. some_member (members n (holds n held (after next k c))) (sets.odd (after next k c) (y.in_slots k k_in) (y.used k k_in))) in
    let upper = total-le n (λ v. total y.len (λ k. cond (holds n held (after next k c) v) 1 0)) (λ v. 1)
    (λ v v_in. one_holder y.len (λ k. holds n held (after next k c) v) (λ j k j_in k_in other on. apart_any costs n held halves child next link s c y j k v j_in k_in other v_in on)) in
    omega (arith, swap, lower, upper, total_same n, total_same y.len)
  where
    some_member : (m : ℕ) → m % 2 ≡ 1 → 1 ≤ m
    some_member m odd = omega (arith, odd)

trip_of : (costs : Costs) (n : ℕ) (held : List Bool) (halves : List ℕ) (child : List (Option ℕ)) (next : List ℕ) (link : List Pair) (s c : ℕ) → AreSets n held halves child →
    (y : IsCycle costs n held halves child next link s c) → (len : ℕ) → y.len ≡ len → IsTrip next (2 * n) (2 * (len / 2)) c
trip_of costs n held halves child next link s c sets y len is = record {
  in_slots = λ k k_in. y.in_slots k (omega (arith, k_in, is, y.odd));
  apart = λ j k less k_in. child_apart costs n held halves child next link s c sets y j k (omega (arith, less, k_in, is, y.odd)) (omega (arith, k_in, is, y.odd)) (λ e. omega (arith, e, less));
}

pub round_of : (costs : Costs) (n : ℕ) (held : List Bool) (halves : List ℕ) (child : List (Option ℕ)) (next : List ℕ) (link : List Pair) (s c : ℕ) → AreSets n held halves child →
    IsCycle costs n held halves child next link s c → IsRound n held next c
round_of costs n held halves child next link s c sets y = record {
  len = y.len;
  odd = y.odd;
  few = few_children costs n held halves child next link s c sets y;
  closes = y.closes;
  in_slots = y.in_slots;
  disjoint = λ j k v less k_in v_in on. y.disjoint j k less k_in v v_in on;
  trip = λ k k_in. (let z = turned_cycle costs n held halves child next link s c y k k_in in trip_of costs n held halves child next link s (after next k c) sets z.0 y.len z.1);
}

-- a walk ends after one round
pub whole_len : (costs : Costs) (n : ℕ) (held : List Bool) (halves : List ℕ) (child : List (Option ℕ)) (next : List ℕ) (link : List Pair) (s c : ℕ) → AreSets n held halves child →
    (y : IsCycle costs n held halves child next link s c) → (len : ℕ) → IsWhole next len c → len ≡ y.len
whole_len costs n held halves child next link s c sets y len w = elim (cases_order len y.len) [
  | inl same ↦ same
  | inr (inl less) ↦ absurd (child_apart costs n held halves child next link s c sets y 0 len (omega (arith, y.several)) less (λ e. omega (arith, e, w.some)) (sym w.closes))
  | inr (inr more) ↦ absurd (w.least y.len (omega (arith, y.several)) more y.closes)
]
