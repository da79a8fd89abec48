-- Two lists that fall and have each number equally often are one list; so first fit of the sorted items takes as many groups as its definition says.
use Rattle.std.proofs.Common.{◌≡◌, ℕ, zero, suc, ◌+◌, ◌-◌, ◌^◌, ◌≤◌, ◌<◌, ◌==◌, if◌then◌else◌, List, [], ◌∷◌, ◌++◌, length, get_or, map, refl, ap, ◌∙◌, arith, inl, inr}
use Rattle.std.specs.List.{sum_by, All}
use Rattle.std.proofs.lemmas.List.Sorted.{sum_by-IsPermutation, All-permutation, length_permutation}
use Rattle.std.proofs.lemmas.List.Sums.{sum_by-cons, sum_by-append}
use Rattle.std.proofs.lemmas.List.Elements.{All-nil, All-cons, All-append, All-get_or}
use Rattle.std.specs.Prelude.{replicate}
use Rattle.std.proofs.lemmas.List.{length-append, length-replicate, get_or-replicate, get_or_past}
use Rattle.std.proofs.lemmas.Bool.{cases_eq, cases_lt, eq-eqb, ne_eqb, lt-ltb, le-ltb}
use Rattle.carp_base.specs.Problem.{Problem, IsRequired, IsValid}
use Rattle.carp_base.specs.Packings.{group_of}
use Rattle.plan_model.specs.Sums.{sum_to}
use Rattle.fleet_pack.specs.declared.item.Item.{Item}
use Rattle.fleet_pack.specs.FirstFit.{demand_of, put_edge, falling}
use Rattle.fleet_pack.specs.Groups.{numbered, Fall, AreFalling, IsItem, IsPlaced, times, demands_of}

tick : ℕ → ℕ → ℕ
tick x y = if y == x then 1 else 0

tick_same : (x y : ℕ) → y ≡ x → tick x y ≡ 1
unfolding tick
tick_same x y same = rw (eq-eqb y x same) refl

tick_other : (x y : ℕ) → (y ≡ x → ⊥) → tick x y ≡ 0
unfolding tick
tick_other x y other = rw (ne_eqb y x other) refl

abbrev many : ℕ → List ℕ → ℕ
many x [] = 0
many x (y ∷ ys) = tick x y + many x ys

abbrev AtMost : ℕ → List ℕ → Type 0
AtMost m [] = Unit {0}
AtMost m (y ∷ ys) = (y ≤ m) × AtMost m ys

abbrev Falls : List ℕ → Type 0
Falls [] = Unit {0}
Falls (x ∷ xs) = AtMost x xs × Falls xs

at_most_more : (m n : ℕ) (xs : List ℕ) → m ≤ n → AtMost m xs → AtMost n xs
at_most_more m n [] le most = tt
at_most_more m n (x ∷ xs) le most = (omega (arith, most.0), at_most_more m n xs le most.1)

member_le : (x m : ℕ) (ys : List ℕ) → AtMost m ys → 1 ≤ many x ys → x ≤ m
member_le x m [] most some = absurd (omega (arith, some))
member_le x m (y ∷ ys) most some = elim (cases_eq y x) [
  | inl same ↦ omega (arith, most.0)
  | inr other ↦ member_le x m ys most.1 (omega (arith, some, tick_other x y other))
]

head_le : (x y : ℕ) (ys : List ℕ) → AtMost y ys → 1 ≤ many x (y ∷ ys) → x ≤ y
head_le x y ys most some = member_le x y (y ∷ ys) (omega arith, most) some

has_head : (x : ℕ) (xs : List ℕ) → 1 ≤ many x (x ∷ xs)
has_head x xs = omega (arith, tick_same x x refl)

same_lists : (xs ys : List ℕ) → Falls xs → Falls ys → ((x : ℕ) → many x xs ≡ many x ys) → xs ≡ ys
same_lists [] [] one two alike = refl
same_lists [] (y ∷ ys) one two alike = absurd (omega (arith, alike y, has_head y ys))
same_lists (x ∷ xs) [] one two alike = absurd (omega (arith, alike x, has_head x xs))
same_lists (x ∷ xs) (y ∷ ys) one two alike =
    let up : x ≤ y = head_le x y ys two.0 (omega (arith, alike x, has_head x xs)) in
    let down : y ≤ x = head_le y x xs one.0 (omega (arith, alike y, has_head y ys)) in
    let same : x ≡ y = omega arith in
    let rest : xs ≡ ys = same_lists xs ys one.1 two.1 (λ z. let e : tick z x ≡ tick z y = ap (tick z) same in omega (arith, alike z, e)) in
    ap (λ z. z ∷ xs) same ∙ ap (λ zs. y ∷ zs) rest

-- The list by its definition.

module _ (p : Problem) where
  at_most_put : (m e : ℕ) (edges : List ℕ) → demand_of p e ≤ m → AtMost m (map (demand_of p) edges) → AtMost m (map (demand_of p) (put_edge p e edges))
  at_most_put m e [] le most = (le, tt)
  at_most_put m e (f ∷ edges) le most = elim (cases_lt (demand_of p f) (demand_of p e)) [
    | inl less ↦ rw (lt-ltb (demand_of p f) (demand_of p e) less) (le, most)
    | inr more ↦ rw (le-ltb (demand_of p f) (demand_of p e) more) (most.0, at_most_put m e edges le most.1)
  ]

  put_falls : (e : ℕ) (edges : List ℕ) → Falls (map (demand_of p) edges) → Falls (map (demand_of p) (put_edge p e edges))
  put_falls e [] falls = (tt, tt)
  put_falls e (f ∷ edges) falls = elim (cases_lt (demand_of p f) (demand_of p e)) [
    | inl less ↦ rw (lt-ltb (demand_of p f) (demand_of p e) less)
        ((omega (arith, less), at_most_more (demand_of p f) (demand_of p e) (map (demand_of p) edges) (omega (arith, less)) falls.0), falls)
    | inr more ↦ rw (le-ltb (demand_of p f) (demand_of p e) more) (at_most_put (demand_of p f) e edges more falls.0, put_falls e edges falls.1)
  ]

  falling_falls : (n : ℕ) → Falls (map (demand_of p) (falling p n))
  falling_falls zero = tt
  falling_falls (suc n) = put_falls (suc n) (falling p n) (falling_falls n)

  many_put : (x e : ℕ) (edges : List ℕ) → many x (map (demand_of p) (put_edge p e edges)) ≡ many x (map (demand_of p) edges) + tick x (demand_of p e)
  many_put x e [] = omega arith
  many_put x e (f ∷ edges) = elim (cases_lt (demand_of p f) (demand_of p e)) [
    | inl less ↦ rw (lt-ltb (demand_of p f) (demand_of p e) less) (omega arith)
    | inr more ↦ rw (le-ltb (demand_of p f) (demand_of p e) more) (omega (arith, many_put x e edges))
  ]

  many_falling : (x n : ℕ) → many x (map (demand_of p) (falling p n)) ≡ sum_to n (λ e. tick x (demand_of p e))
  many_falling x zero = refl
  many_falling x (suc n) = omega (arith, many_put x (suc n) (falling p n), many_falling x n)

  -- The items.

  many_is : (x : ℕ) (items : List Item) → many x (demands_of items) ≡ sum_by (λ i. tick x i.demand) items
  many_is x [] = refl
  many_is x (i ∷ items) = omega (arith, many_is x items, sum_by-cons (λ i. tick x i.demand) i items)

  many_numbered : (x n : ℕ) → sum_by (λ i. tick x i.demand) (numbered p n) ≡ sum_to n (λ e. tick x (demand_of p e))
  many_numbered x zero = refl
  many_numbered x (suc n) =
      let last : Item = record { edge = suc n; demand = demand_of p (suc n) } in
      omega (arith, many_numbered x n, sum_by-append (λ (i : Item). tick x i.demand) (numbered p n) (last ∷ []), sum_by-cons (λ (i : Item). tick x i.demand) last [])

  at_most_from : (m : ℕ) (items : List Item) → ((k : ℕ) (d : Item) → k < length items → (get_or items k d).demand ≤ m) → AtMost m (demands_of items)
  at_most_from m [] most = tt
  at_most_from m (i ∷ items) most = (most 0 i (omega arith), at_most_from m items (λ k d less. most (suc k) d (omega (arith, less))))

  falls_from : (items : List Item) → ((k : ℕ) (d : Item) → k < length items → (get_or items k d).demand < 2 ^ 64) → Fall items → Falls (demands_of items)
  falls_from [] small fall = tt
  falls_from (i ∷ items) small fall = (
    at_most_from i.demand items (λ k d less. omega (arith, fall 0 (suc k) d (omega arith) (omega (arith, less)), small 0 d (omega arith), small (suc k) d (omega (arith, less)))),
    falls_from items (λ k d less. small (suc k) d (omega (arith, less))) (λ a b d le less. fall (suc a) (suc b) d (omega (arith, le)) (omega (arith, less))),
  )

  times_is : (e : ℕ) (items : List Item) → times e items ≡ sum_by (λ i. tick e i.edge) items
  unfolding tick
  times_is e [] = refl
  times_is e (i ∷ items) = omega (arith, times_is e items, sum_by-cons (λ i. tick e i.edge) i items)

  never_above : (e n : ℕ) → n < e → sum_by (λ (i : Item). tick e i.edge) (numbered p n) ≡ 0
  never_above e zero less = refl
  never_above e (suc n) less =
      let last : Item = record { edge = suc n; demand = demand_of p (suc n) } in
      omega (
        arith,
        never_above e n (omega (arith, less)),
        sum_by-append (λ (i : Item). tick e i.edge) (numbered p n) (last ∷ []),
        sum_by-cons (λ (i : Item). tick e i.edge) last [],
        tick_other e (suc n) (λ same. absurd (omega (arith, same, less))),
      )

  never_zero : (n : ℕ) → sum_by (λ (i : Item). tick 0 i.edge) (numbered p n) ≡ 0
  never_zero zero = refl
  never_zero (suc n) =
      let last : Item = record { edge = suc n; demand = demand_of p (suc n) } in
      omega (
        arith,
        never_zero n,
        sum_by-append (λ (i : Item). tick 0 i.edge) (numbered p n) (last ∷ []),
        sum_by-cons (λ (i : Item). tick 0 i.edge) last [],
        tick_other 0 (suc n) (λ same. absurd (omega (arith, same))),
      )

  once_each : (e n : ℕ) → 1 ≤ e → e ≤ n → sum_by (λ (i : Item). tick e i.edge) (numbered p n) ≡ 1
  once_each e zero low high = absurd (omega (arith, low, high))
  once_each e (suc n) low high =
      let last : Item = record { edge = suc n; demand = demand_of p (suc n) } in
      let cut = sum_by-append (λ (i : Item). tick e i.edge) (numbered p n) (last ∷ []) in
      let one = sum_by-cons (λ (i : Item). tick e i.edge) last [] in
      elim (cases_eq (suc n) e) [
        | inl same ↦ omega (arith, cut, one, tick_same e (suc n) same, never_above e n (omega (arith, same)))
        | inr other ↦ omega (arith, cut, one, tick_other e (suc n) other, once_each e n low (omega (arith, high, other)))
      ]

  at_most_once : (e n : ℕ) → sum_by (λ (i : Item). tick e i.edge) (numbered p n) ≤ 1
  at_most_once zero n = omega (arith, never_zero n)
  at_most_once (suc k) n = elim (cases_lt n (suc k)) [
    | inl above ↦ omega (arith, never_above (suc k) n above)
    | inr within ↦ omega (arith, once_each (suc k) n (omega arith) within)
  ]

  each_numbered : (n : ℕ) → ((e : ℕ) → 1 ≤ e → e ≤ n → IsItem p (record { edge = e; demand = demand_of p e })) → All (IsItem p) (numbered p n)
  each_numbered zero fine = All-nil (IsItem p)
  each_numbered (suc n) fine =
      let last : Item = record { edge = suc n; demand = demand_of p (suc n) } in
      All-append (IsItem p) (numbered p n) (last ∷ []) (each_numbered n (λ e low high. fine e low (omega (arith, high))))
      (All-cons (IsItem p) last [] (fine (suc n) (omega arith) (omega arith)) (All-nil (IsItem p)))

  long_numbered : (n : ℕ) → length (numbered p n) ≡ n
  long_numbered zero = refl
  long_numbered (suc n) =
      let last : Item = record { edge = suc n; demand = demand_of p (suc n) } in
      omega (arith, long_numbered n, length-append (numbered p n) (last ∷ []))

  each_item : (items : List Item) → IsValid p → AreFalling p items → All (IsItem p) items
  each_item items valid falling_ones = All-permutation (IsItem p) (numbered p p.required) items falling_ones.same
      (each_numbered p.required (λ e low high.
      let required : IsRequired p e = record { from_one = low; in_range = high } in
      record { required = required; demand_is = refl; fits = (valid.tasks e required).demand_fits }))

  small_item : (i : Item) → IsValid p → IsItem p i → i.demand < 2 ^ 64
  small_item i valid item = omega (arith, item.fits, valid.capacity_in)

  pub sorted_demands : (items : List Item) → IsValid p → AreFalling p items → demands_of items ≡ map (demand_of p) (falling p p.required)
  sorted_demands items valid falling_ones =
      let each = each_item items valid falling_ones in
      same_lists (demands_of items) (map (demand_of p) (falling p p.required))
      (falls_from items (λ k d less. small_item (get_or items k d) valid (All-get_or (IsItem p) items k d less each)) falling_ones.fall)
      (falling_falls p.required)
      (λ x. omega (arith, many_is x items, many_numbered x p.required, many_falling x p.required, sum_by-IsPermutation (λ (i : Item). tick x i.demand) (numbered p p.required) items falling_ones.same))

  times_now : (e : ℕ) (items : List Item) → AreFalling p items → times e items ≡ sum_by (λ (i : Item). tick e i.edge) (numbered p p.required)
  times_now e items falling_ones = times_is e items ∙ sum_by-IsPermutation (λ (i : Item). tick e i.edge) (numbered p p.required) items falling_ones.same

  no_group : (n e : ℕ) → group_of (replicate n 0) e ≡ 0
  no_group n zero = refl
  no_group n (suc k) = elim (cases_lt k n) [
    | inl less ↦ get_or-replicate n k 0 0 less
    | inr past ↦ get_or_past (replicate n 0) k 0 (omega (arith, past, length-replicate {A = ℕ} n 0))
  ]

  pub few_items : (items : List Item) → IsValid p → AreFalling p items → length items ≤ 600
  few_items items valid falling_ones = omega (arith, length_permutation (numbered p p.required) items falling_ones.same, long_numbered p.required, valid.few_required)

  -- before the first item no edge has a group
  pub none_placed : (items : List Item) (groups : List ℕ) → IsValid p → AreFalling p items → groups ≡ replicate p.required 0 → IsPlaced p items groups []
  none_placed items groups valid falling_ones is = record {
    one_each = rw is (length-replicate {A = ℕ} p.required 0);
    few = omega (arith, length_permutation (numbered p p.required) items falling_ones.same, long_numbered p.required);
    each = each_item items valid falling_ones;
    once = λ e. omega (arith, times_now e items falling_ones, at_most_once e p.required);
    free = λ e one. rw is (no_group p.required e);
    placed = λ e required none. absurd (omega (arith, times_now e items falling_ones, once_each e p.required required.from_one required.in_range, none));
    loaded = record { are = λ k less. absurd (omega (arith, less)); filled = λ k less. absurd (omega (arith, less)); light = λ k less. absurd (omega (arith, less)) };
  }

  item_of : ℕ → ℕ → Item
  item_of e d = record { edge = e; demand = d }

  pub numbered_more : (e : ℕ) (items : List Item) (x : Item) → 1 ≤ e → items ≡ numbered p (e - 1) → x.edge ≡ e → x.demand ≡ demand_of p e → items ++ x ∷ [] ≡ numbered p (e + 1 - 1)
  unfolding item_of
  numbered_more zero items x low is edge demand = absurd (omega (arith, low))
  numbered_more (suc n) items x low is edge demand =
      let back : suc n - 1 ≡ n = omega arith in
      let next : suc n + 1 - 1 ≡ suc n = omega arith in
      let same : x ≡ item_of (suc n) (demand_of p (suc n)) = ap (λ k. item_of k x.demand) edge ∙ ap (item_of (suc n)) demand in
      rw next (ap (λ (xs : List Item). xs ++ x ∷ []) (is ∙ ap (numbered p) back) ∙ ap (λ (y : Item). numbered p n ++ y ∷ []) same)
