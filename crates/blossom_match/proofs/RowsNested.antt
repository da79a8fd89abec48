-- A used node inside a set lies inside one of its children.
use Rattle.std.proofs.Common.{◌≡◌, ◌≢◌, ◌⊎◌, ℕ, zero, suc, ◌+◌, ◌*◌, ◌<◌, ◌≤◌, Bool, true, false, not, ◌&&◌, ◌||◌, cond, ltb, List, Option, Some, None, is_some, IfSome, refl, sym, subst, ap, ◌∙◌, arith, inl, inr}
use Rattle.std.proofs.lemmas.Bool.{cases_eq, cases_lt, false≢true, le-ltb}
use Rattle.blossom_match.specs.declared.costs.Costs.{Costs}
use Rattle.blossom_match.specs.declared.state.Pair.{Pair}
use Rattle.blossom_match.specs.Matching.{members, Within, AreDistinct}
use Rattle.blossom_match.specs.Views.{holds, child_at, is_used}
use Rattle.blossom_match.specs.Between.{IsCycle, AreCycles, AreSets, after}
use Rattle.blossom_match.proofs.Measuring.{total-less}
use Rattle.blossom_match.proofs.Duality.{some_or_none}
use Rattle.blossom_match.proofs.Keeping.{odd_member}
use Rattle.blossom_match.proofs.RowsAround.{after_add, around, reached, apart_any}

one_of : (a b : Bool) → (a ≡ true → b ≡ true) → cond a 1 0 ≤ cond b 1 0
one_of true b both = subst (λ x. 1 ≤ cond x 1 0) (sym (both refl)) (omega arith)
one_of false b both = omega arith

less_one : (a b : Bool) → a ≡ false → b ≡ true → cond a 1 0 < cond b 1 0
less_one a b off on = subst (λ x. cond x 1 0 < cond b 1 0) (sym off) (subst (λ x. 0 < cond x 1 0) (sym on) (omega arith))

-- a set inside another one, which holds a member more
pub fewer_at : (n : ℕ) (a b : ℕ → Bool) (w : ℕ) → Within n a b → w < n → a w ≡ false → b w ≡ true → members n a < members n b
fewer_at n a b w within w_in off on =
    total-less n (λ v. cond (a v) 1 0) (λ v. cond (b v) 1 0) w (λ v v_in. one_of (a v) (b v) (within v v_in)) w_in (less_one (a w) (b w) off on)

both_true : (x y : Bool) → (x && not y) ≡ true → (x ≡ true) × (y ≡ false)
both_true true true is = absurd (false≢true is)
both_true true false is = (refl, refl)
both_true false y is = absurd (false≢true is)

not_more : (x y : Bool) → (x && not y) ≡ false → (y ≡ true → x ≡ true) → y ≡ x
not_more true true none within = refl
not_more true false none within = absurd (false≢true (sym none))
not_more false true none within = sym (within refl)
not_more false false none within = refl

fewer : (n : ℕ) (a b : ℕ → Bool) → Within n a b → AreDistinct n a b → members n a < members n b
fewer n a b within distinct = elim (some_or_none n (λ v. b v && not (a v))) [
  | inl some ↦ (let both = both_true (b some.0) (a some.0) some.2 in fewer_at n a b some.0 within some.1 both.1 both.0)
  | inr none ↦ absurd (distinct (λ v v_in. not_more (b v) (a v) (none v v_in) (within v v_in)))
]

same_bool : (x y : Bool) → (x ≡ true → y ≡ true) → (y ≡ true → x ≡ true) → x ≡ y
same_bool true y to from = sym (to refl)
same_bool false true to from = from refl
same_bool false false to from = refl

not_equal : (n : ℕ) (a b : ℕ → Bool) → Within n a b → Within n b a → AreDistinct n a b → ⊥
not_equal n a b to from distinct = distinct (λ v v_in. same_bool (a v) (b v) (to v v_in) (from v v_in))

pub option_cases : (o : Option ℕ) → (o ≡ None) ⊎ ((c : ℕ) × (o ≡ Some c))
option_cases None = inl refl
option_cases (Some c) = inr (c, refl)

pub if_some_number : (o : Option ℕ) (P : ℕ → Type 0) (c : ℕ) → o ≡ Some c → IfSome o P → P c
if_some_number o P c is has = subst (λ x. IfSome x P) is has

pub some_slot : (n s : ℕ) (o : Option ℕ) → n ≤ s → (ltb s n || is_some o) ≡ true → o ≡ None → ⊥
some_slot n s o high used none = false≢true (sym (ap (λ x. x || is_some o) (le-ltb s n high) ∙ ap (λ x. is_some x) none) ∙ used)

-- a used node is a single member or a cycle
pub single_or_cycle : (costs : Costs) (n : ℕ) (held : List Bool) (halves : List ℕ) (child : List (Option ℕ)) (next : List ℕ) (link : List Pair) → AreCycles costs n held halves child next link →
    (s : ℕ) → s < 2 * n → is_used n child s ≡ true → (s < n) ⊎ ((c : ℕ) × (child_at child s ≡ Some c) × IsCycle costs n held halves child next link s c)
single_or_cycle costs n held halves child next link cycles s s_in used = elim (cases_lt s n) [
  | inl low ↦ inl low
  | inr high ↦ elim (option_cases (child_at child s)) [
    | inl none ↦ absurd (some_slot n s (child_at child s) high used none)
    | inr some ↦ inr (some.0, some.1, if_some_number (child_at child s) (IsCycle costs n held halves child next link s) some.0 some.1 (cycles.larger s s_in))
  ]
]

-- all that the nodes of a family keep
pub record IsNest (costs : Costs) (n : ℕ) (held : List Bool) (halves : List ℕ) (child : List (Option ℕ)) (next : List ℕ) (link : List Pair) : Type 0 where
  pub sets : AreSets n held halves child
  pub cycles : AreCycles costs n held halves child next link

-- two cycles with a common child are one
same_cycle : (costs : Costs) (n : ℕ) (held : List Bool) (halves : List ℕ) (child : List (Option ℕ)) (next : List ℕ) (link : List Pair) (s c e f : ℕ) →
    (y : IsCycle costs n held halves child next link s c) → (z : IsCycle costs n held halves child next link e f) → (k j : ℕ) → k < y.len → j < z.len → after next k c ≡ after next j f →
    Within n (holds n held s) (holds n held e)
same_cycle costs n held halves child next link s c e f y z k j k_in j_in same w w_in on =
    let i = y.covers w w_in on in
    let m = reached next y.len c y.closes (omega (arith, y.several)) k i.0 k_in i.1 in
    let a = around next z.len f z.closes (omega (arith, z.several)) (m.0 + j) in
    let path : after next i.0 c ≡ after next a.0 f = sym m.2 ∙ ap (λ x. after next m.0 x) same ∙ sym (after_add next m.0 j (m.0 + j) f refl) ∙ a.2 in
    z.inner a.0 w a.1 w_in (ap (λ x. holds n held x w) (sym path) ∙ i.2)

-- a child has fewer members than its set
pub child_fewer : (costs : Costs) (n : ℕ) (held : List Bool) (halves : List ℕ) (child : List (Option ℕ)) (next : List ℕ) (link : List Pair) (s c : ℕ) → AreSets n held halves child →
    (y : IsCycle costs n held halves child next link s c) → (k : ℕ) → k < y.len → members n (holds n held (after next k c)) < members n (holds n held s)
child_fewer costs n held halves child next link s c sets y k k_in = elim (cases_eq k 0) [
  | inl first ↦ from 1 (omega (arith, y.several)) (λ e. omega (arith, e, first))
  | inr later ↦ from 0 (omega (arith, y.several)) (λ e. later (sym e))
]
  where
    from : (j : ℕ) → j < y.len → j ≢ k → members n (holds n held (after next k c)) < members n (holds n held s)
    from j j_in other =
        let m = odd_member n (holds n held (after next j c)) (sets.odd (after next j c) (y.in_slots j j_in) (y.used j j_in)) in
        fewer_at n (holds n held (after next k c)) (holds n held s) m.0 (λ v v_in on. y.inner k v k_in v_in on) m.1
        (apart_any costs n held halves child next link s c y j k m.0 j_in k_in other m.1 m.2) (y.inner j m.0 j_in m.1 m.2)

-- a node that is a child of a set inside s
pub record IsChildIn (costs : Costs) (n : ℕ) (held : List Bool) (halves : List ℕ) (child : List (Option ℕ)) (next : List ℕ) (link : List Pair) (s t : ℕ) : Type 0 where
  pub set : ℕ
  pub first : ℕ
  pub cycle : IsCycle costs n held halves child next link set first
  pub place : ℕ
  pub place_in : place < cycle.len
  pub at : after next place first ≡ t
  pub within : Within n (holds n held set) (holds n held s)

-- no node of one member holds another node
single_alone : (costs : Costs) (n : ℕ) (held : List Bool) (halves : List ℕ) (child : List (Option ℕ)) (next : List ℕ) (link : List Pair) → IsNest costs n held halves child next link →
    (s t v : ℕ) → s < n → t < 2 * n → is_used n child s ≡ true → is_used n child t ≡ true → t ≢ s → v < n → holds n held t v ≡ true → Within n (holds n held t) (holds n held s) → ⊥
single_alone costs n held halves child next link nest s t v s_in t_in s_used t_used other v_in on within =
    not_equal n (holds n held t) (holds n held s) within
    (λ w w_in at.
    let here : s ≡ w = nest.cycles.single s w s_in w_in at in
    let there : s ≡ v = nest.cycles.single s v s_in v_in (within v v_in on) in
    subst (λ x. holds n held t x ≡ true) (sym there ∙ here) on)
    (nest.sets.distinct t s t_in (omega (arith, s_in)) t_used s_used other)

-- each used node inside a set is a child of a set inside it
pub child_in : (costs : Costs) (n : ℕ) (held : List Bool) (halves : List ℕ) (child : List (Option ℕ)) (next : List ℕ) (link : List Pair) → IsNest costs n held halves child next link →
    (m s c t : ℕ) → (y : IsCycle costs n held halves child next link s c) → s < 2 * n → is_used n child s ≡ true → members n (holds n held s) ≤ m → t < 2 * n → is_used n child t ≡ true → t ≢ s →
    Within n (holds n held t) (holds n held s) → IsChildIn costs n held halves child next link s t
child_in costs n held halves child next link nest zero s c t y s_in s_used small t_in t_used other within =
    absurd (omega (arith, small, fewer n (holds n held t) (holds n held s) within (nest.sets.distinct t s t_in s_in t_used s_used other)))
child_in costs n held halves child next link nest (suc m) s c t y s_in s_used small t_in t_used other within =
    let less = fewer n (holds n held t) (holds n held s) within (nest.sets.distinct t s t_in s_in t_used s_used other) in
    let v = odd_member n (holds n held t) (nest.sets.odd t t_in t_used) in
    let k = y.covers v.0 v.1 (within v.0 v.1 v.2) in
    let d_in = y.in_slots k.0 k.1 in
    let d_used = y.used k.0 k.1 in
    elim (cases_eq t (after next k.0 c)) [
      | inl same ↦ record { set = s; first = c; cycle = y; place = k.0; place_in = k.1; at = sym same; within = λ w w_in on. on }
      | inr differ ↦ elim (nest.sets.laminar t (after next k.0 c) t_in d_in differ) [
        | inl inside ↦ elim (single_or_cycle costs n held halves child next link nest.cycles (after next k.0 c) d_in d_used) [
          | inl low ↦ absurd (single_alone costs n held halves child next link nest (after next k.0 c) t v.0 low t_in d_used t_used differ v.1 v.2 inside)
          | inr some ↦
              let r = child_in costs n held halves child next link nest m (after next k.0 c) some.0 t some.2 d_in d_used
              (omega (arith, small, child_fewer costs n held halves child next link s c nest.sets y k.0 k.1)) t_in t_used differ inside in
              record { set = r.set; first = r.first; cycle = r.cycle; place = r.place; place_in = r.place_in; at = r.at; within = λ w w_in on. y.inner k.0 w k.1 w_in (r.within w w_in on) }
        ]
        | inr (inl around_it) ↦ elim (single_or_cycle costs n held halves child next link nest.cycles t t_in t_used) [
          | inl low ↦ absurd (single_alone costs n held halves child next link nest t (after next k.0 c) v.0 low d_in t_used d_used (λ e. differ (sym e)) v.1 k.2 around_it)
          | inr some ↦
              let r = child_in costs n held halves child next link nest m t some.0 (after next k.0 c) some.2 t_in t_used (omega (arith, small, less)) d_in d_used (λ e. differ (sym e)) around_it in
              absurd (not_equal n (holds n held t) (holds n held s) within
              (λ w w_in on. r.within w w_in (same_cycle costs n held halves child next link s c r.set r.first y r.cycle k.0 r.place k.1 r.place_in (sym r.at) w w_in on))
              (nest.sets.distinct t s t_in s_in t_used s_used other))
        ]
        | inr (inr apart) ↦ absurd (false≢true (sym (apart v.0 v.1 v.2) ∙ k.2))
      ]
    ]

-- a used node inside a set lies inside one of its children
pub in_child : (costs : Costs) (n : ℕ) (held : List Bool) (halves : List ℕ) (child : List (Option ℕ)) (next : List ℕ) (link : List Pair) → IsNest costs n held halves child next link →
    (s c t : ℕ) → (y : IsCycle costs n held halves child next link s c) → s < 2 * n → is_used n child s ≡ true → t < 2 * n → is_used n child t ≡ true → t ≢ s →
    Within n (holds n held t) (holds n held s) → (k : ℕ) × (k < y.len) × Within n (holds n held t) (holds n held (after next k c))
in_child costs n held halves child next link nest s c t y s_in s_used t_in t_used other within =
    let v = odd_member n (holds n held t) (nest.sets.odd t t_in t_used) in
    let k = y.covers v.0 v.1 (within v.0 v.1 v.2) in
    let d_in = y.in_slots k.0 k.1 in
    let d_used = y.used k.0 k.1 in
    elim (cases_eq t (after next k.0 c)) [
      | inl same ↦ (k.0, k.1, subst (λ x. Within n (holds n held t) (holds n held x)) same (λ w w_in on. on))
      | inr differ ↦ elim (nest.sets.laminar t (after next k.0 c) t_in d_in differ) [
        | inl inside ↦ (k.0, k.1, inside)
        | inr (inl around_it) ↦ elim (single_or_cycle costs n held halves child next link nest.cycles t t_in t_used) [
          | inl low ↦ absurd (single_alone costs n held halves child next link nest t (after next k.0 c) v.0 low d_in t_used d_used (λ e. differ (sym e)) v.1 k.2 around_it)
          | inr some ↦
              let r = child_in costs n held halves child next link nest (members n (holds n held t)) t some.0 (after next k.0 c) some.2 t_in t_used (omega arith) d_in d_used (λ e. differ (sym e)) around_it in
              absurd (not_equal n (holds n held t) (holds n held s) within
              (λ w w_in on. r.within w w_in (same_cycle costs n held halves child next link s c r.set r.first y r.cycle k.0 r.place k.1 r.place_in (sym r.at) w w_in on))
              (nest.sets.distinct t s t_in s_in t_used s_used other))
        ]
        | inr (inr apart) ↦ absurd (false≢true (sym (apart v.0 v.1 v.2) ∙ k.2))
      ]
    ]
