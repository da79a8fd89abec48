-- A set of vertices needs no fewer deadheads where demands rise.
use Rattle.std.proofs.Common.{◌≡◌, ℕ, zero, suc, ◌+◌, ◌-◌, ◌*◌, ◌%◌, ◌<◌, ◌≤◌, max, Bool, true, false, cond, List, [], ◌∷◌, length, take, refl, sym, ap, subst, ◌∙◌, arith, inl, inr, mul-le-mul_left}
use Rattle.std.specs.Prelude.{sum_by, count_by, slice_index_or, if◌then◌else◌}
use Rattle.std.specs.Int.{div_ceil}
use Rattle.std.proofs.lemmas.Bool.{cases_lt}
use Rattle.std.proofs.lemmas.Grind.{div_ceil_times}
use Rattle.std.proofs.lemmas.List.Sums.{sum_by-cons}
use Rattle.carp_base.specs.declared.edge.Edge.{Edge}
use Rattle.carp_base.specs.Problem.{Problem, IsValid, IsEdgeNumber, IsRequired, no_edge, required_edges}
use Rattle.plan_model.specs.Plans.{crosses}
use Rattle.cut_pool.specs.Shores.{demand_inside, required_crossings, touched, touches, vehicles}
use Rattle.tree_transfer.specs.Raised.{IsNoCheaper, IsRaised}
use Rattle.tree_transfer.specs.Laws.{IsNoLessNeeded, NeedsRise}
use Rattle.tree_transfer.proofs.Rising.{required_less}

-- edges one by one no cheaper than others
abbrev AreNoCheaper : List Edge → List Edge → Type 0
AreNoCheaper [] [] = Unit {0}
AreNoCheaper [] (y ∷ ys) = ⊥
AreNoCheaper (x ∷ xs) [] = ⊥
AreNoCheaper (x ∷ xs) (y ∷ ys) = IsNoCheaper x y × AreNoCheaper xs ys

taken : (n : ℕ) (xs ys : List Edge) → n ≤ length xs → n ≤ length ys → ((k : ℕ) → k < n → IsNoCheaper (slice_index_or xs k no_edge) (slice_index_or ys k no_edge)) →
    AreNoCheaper (take n xs) (take n ys)
taken zero xs ys in_xs in_ys each = tt
taken (suc n) [] ys in_xs in_ys each = absurd (omega (arith, in_xs))
taken (suc n) (x ∷ xs) [] in_xs in_ys each = absurd (omega (arith, in_ys))
taken (suc n) (x ∷ xs) (y ∷ ys) in_xs in_ys each =
    (each 0 (omega arith), taken n xs ys (omega (arith, in_xs)) (omega (arith, in_ys)) (λ k less. each (suc k) (omega (arith, less))))

-- an edge of which only the ends count
abbrev bare : ℕ → ℕ → Edge
bare u v = record { u = u; v = v; cost = 0; demand = 0; service = 0 }

module _ (inside : ℕ → Bool) where
  crosses_same : (x y : Edge) → IsNoCheaper x y → crosses inside y ≡ crosses inside x
  crosses_same x y less = ap (λ u. crosses inside (bare u y.v)) less.u_same ∙ ap (λ v. crosses inside (bare x.u v)) less.v_same

  touches_same : (x y : Edge) → IsNoCheaper x y → touches inside y ≡ touches inside x
  touches_same x y less = ap (λ u. touches inside (bare u y.v)) less.u_same ∙ ap (λ v. touches inside (bare x.u v)) less.v_same

  crossings_same : (xs ys : List Edge) → AreNoCheaper xs ys → count_by (crosses inside) ys ≡ count_by (crosses inside) xs
  crossings_same [] [] less = refl
  crossings_same [] (y ∷ ys) less = absurd less
  crossings_same (x ∷ xs) [] less = absurd less
  crossings_same (x ∷ xs) (y ∷ ys) less = omega (
    arith,
    sum_by-cons (λ z. cond (crosses inside z) 1 0) x xs,
    sum_by-cons (λ z. cond (crosses inside z) 1 0) y ys,
    ap {B = ℕ} (λ b. cond b 1 0) (crosses_same x y less.0),
    crossings_same xs ys less.1,
  )

  one_less : (b c : Bool) (m n : ℕ) → c ≡ b → m ≤ n → (if b then m else 0) ≤ (if c then n else 0)
  one_less true true m n same less = less
  one_less true false m n same less = cc
  one_less false c m n same less = omega arith

  demand_less : (xs ys : List Edge) → AreNoCheaper xs ys → sum_by (demand_inside inside) xs ≤ sum_by (demand_inside inside) ys
  demand_less [] [] less = omega arith
  demand_less [] (y ∷ ys) less = absurd less
  demand_less (x ∷ xs) [] less = absurd less
  demand_less (x ∷ xs) (y ∷ ys) less = omega (
    arith,
    sum_by-cons (demand_inside inside) x xs,
    sum_by-cons (demand_inside inside) y ys,
    one_less (touches inside x) (touches inside y) x.demand y.demand (touches_same x y less.0) less.0.demand,
    demand_less xs ys less.1,
  )

pub ceil_less : (a b q : ℕ) → 1 ≤ q → a ≤ b → div_ceil a q ≤ div_ceil b q
ceil_less a b q some less = elim (cases_lt (div_ceil b q) (div_ceil a q)) [
  | inl fewer ↦
      let more : q * (div_ceil b q + 1) ≤ q * div_ceil a q = mul-le-mul_left q (omega (arith, fewer)) in
      absurd (omega (arith, less, more, (div_ceil_times a q (omega (arith, some))).1, (div_ceil_times b q (omega (arith, some))).0))
  | inr most ↦ most
]

need_less : (r s v w : ℕ) → s ≡ r → v ≤ w → max (r % 2) (2 * v - r) ≤ max (s % 2) (2 * w - s)
need_less r s v w same less = subst (λ t. max (r % 2) (2 * v - r) ≤ max (t % 2) (2 * w - t)) (sym same) (omega (arith, less))

module _ (old new : Problem) (valid : IsValid old) (valid' : IsValid new) (raised : IsRaised old new) where
  all_less : AreNoCheaper (required_edges old) (required_edges new)
  all_less = subst (λ n. AreNoCheaper (take old.required old.edges) (take n new.edges)) (sym raised.required)
      (taken old.required old.edges new.edges valid.required_in (omega (arith, valid'.required_in, raised.required)) each)
    where
      each : (k : ℕ) → k < old.required → IsNoCheaper (slice_index_or old.edges k no_edge) (slice_index_or new.edges k no_edge)
      each k less =
          let required : IsRequired new (suc k) = record { from_one = omega arith; in_range = omega (arith, less, raised.required) } in
          let number : IsEdgeNumber new (suc k) = record { from_one = omega arith; in_range = omega (arith, less, raised.required, valid'.required_in) } in
          required_less old new raised (suc k) number required

  module _ (inside : ℕ → Bool) where
    vehicles_less : vehicles old (touched old inside) ≤ vehicles new (touched new inside)
    vehicles_less = subst (λ q. vehicles old (touched old inside) ≤ div_ceil (touched new inside) q) (sym raised.capacity)
        (ceil_less (touched old inside) (touched new inside) old.capacity valid.some_capacity (demand_less inside (required_edges old) (required_edges new) all_less))

    no_less : IsNoLessNeeded old new inside
    no_less =
        let same : required_crossings new inside ≡ required_crossings old inside = crossings_same inside (required_edges old) (required_edges new) all_less in
        record {
          crossings = same;
          needs = need_less (required_crossings old inside) (required_crossings new inside) (vehicles old (touched old inside)) (vehicles new (touched new inside)) same vehicles_less;
        }

pub needs_rise : NeedsRise
needs_rise old new valid valid' raised inside = no_less old new valid valid' raised inside
