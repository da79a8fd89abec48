-- Level sets lie within each other, so they are different and few, and their weights are small.
use Rattle.std.proofs.Common.{◌≡◌, ◌≢◌, ℕ, zero, suc, ◌+◌, ◌-◌, ◌*◌, ◌<◌, ◌≤◌, Bool, true, false, ◌||◌, List, [], ◌∷◌, map, length, get_or, refl, sym, ap, ◌∙◌, subst, arith, inl, inr, ◌⊎◌, nat_abs, eqb}
use Rattle.std.specs.Prelude.{if◌then◌else◌}
use Rattle.std.specs.List.{All, sum_by}
use Rattle.std.proofs.lemmas.Bool.{cases_lt, cases_Bool, false≢true, eq-eqb}
use Rattle.std.proofs.lemmas.List.Elements.{All-nil, All-cons}
use Rattle.std.proofs.lemmas.List.Sums.{sum_by-cons}
use Rattle.carp_base.specs.declared.edge.Edge.{Edge}
use Rattle.carp_base.specs.Problem.{Problem, IsValid, edge_at, no_edge, head_of}
use Rattle.plan_model.specs.Plans.{Leads}
use Rattle.plan_model.specs.declared.step.Step.{Step}
use Rattle.cut_pool.specs.Shores.{is_in, Belongs}
use Rattle.cut_pool.specs.declared.shore.Weighted.{Weighted}
use Rattle.deadhead_paths.specs.Prices.{IsLeastPrice, price_of, costs_of}
use Rattle.deadhead_paths.specs.Laws.{FewStepsAreLeast}
use Rattle.capacity_cuts.specs.Levels.{IsBeyond, IsLevelSet, IsShell, AreShellsFrom}
use Rattle.dual_master.specs.Pieces.{AreApart, ArePlaceable, IsPositive}

-- least prices by cost are small
cost_at : (edges : List Edge) (k : ℕ) → get_or (map (λ x. x.cost) edges) k 0 ≡ (get_or edges k no_edge).cost
cost_at [] k = refl
cost_at (x ∷ edges) zero = refl
cost_at (x ∷ edges) (suc k) = cost_at edges k

pub cost_of_edge : (p : Problem) (e : ℕ) → price_of (costs_of p) e ≡ (edge_at p e).cost
cost_of_edge p zero = refl
cost_of_edge p (suc k) = cost_at p.edges k

steps_cost : (p : Problem) (a b : ℕ) (steps : List Step) → IsValid p → Leads p a steps b → sum_by (λ s. price_of (costs_of p) s.edge) steps ≤ length steps * 1000000
steps_cost p a b [] valid leads = omega arith
steps_cost p a b (s ∷ steps) valid leads =
    omega (
      arith,
      sum_by-cons (λ t. price_of (costs_of p) t.edge) s steps,
      steps_cost p (head_of (edge_at p s.edge) s.forward) b steps valid leads.2,
      cost_of_edge p s.edge,
      (valid.edges s.edge leads.0).cost_in,
    )

pub least_small : FewStepsAreLeast → (p : Problem) (a b n : ℕ) → IsValid p → IsLeastPrice p (price_of (costs_of p)) a b n → n ≤ 1000000000
least_small few p a b n valid is =
    let short = few p valid (price_of (costs_of p)) a b n is in
    let reached = short.1 in
    omega (arith, reached.costs, steps_cost p a b short.0 valid reached.leads, short.2, valid.few_vertices)

-- beyond a level is beyond each level below it
nearer : (p : Problem) (s t v : ℕ) → s ≤ t → IsBeyond p t v → IsBeyond p s v
nearer p s t v low beyond = record { distance = beyond.distance; is = beyond.is; above = omega (arith, low, beyond.above) }

-- a shell at a place is the level set of its first level, which is not below the level from which the shells are taken
pub level_of : (p : Problem) (t : ℕ) (shells : List Weighted) (j : ℕ) (d : Weighted) → AreShellsFrom p t shells → j < length shells →
    (s : ℕ) × (t ≤ s) × IsLevelSet p s (is_in (get_or shells j d).shore)
level_of p t [] j d are below = absurd (omega (arith, below))
level_of p t (shell ∷ shells) zero d are below = (t, omega arith, are.0.level t (omega arith) (omega (arith, are.0.some)))
level_of p t (shell ∷ shells) (suc j) d are below =
    let later = level_of p (t + nat_abs shell.weight) shells j d are.1 (omega (arith, below)) in
    (later.0, omega (arith, later.1), later.2)

-- a level set of its own levels and of a later one would be one between them
not_again : (p : Problem) (t levels s : ℕ) (shell : Weighted) → IsShell p t levels shell → t + levels ≤ s → IsLevelSet p s (is_in shell.shore) → ⊥
not_again p t levels s shell is later again =
    is.ends (λ v vertex. (
      (λ there. nearer p (t + levels) s v later ((again v vertex).0 there)),
      (λ beyond. (is.level t (omega arith) (omega (arith, is.some)) v vertex).1 (nearer p t (t + levels) v (omega arith) beyond)),
    ))

head_differs : (p : Problem) (t j : ℕ) (d shell : Weighted) (shells : List Weighted) → AreShellsFrom p t (shell ∷ shells) → j < length shells → shell.shore ≡ (get_or shells j d).shore → ⊥
head_differs p t j d shell shells are below same =
    let later = level_of p (t + nat_abs shell.weight) shells j d are.1 below in
    not_again p t (nat_abs shell.weight) later.0 shell are.0 later.1 (subst (λ shore. IsLevelSet p later.0 (is_in shore)) (sym same) later.2)

pub shells_apart : (p : Problem) (t : ℕ) (shells : List Weighted) → AreShellsFrom p t shells → AreApart shells
shells_apart p t [] are i j d i_in j_in same = absurd (omega (arith, i_in))
shells_apart p t (shell ∷ shells) are zero zero d i_in j_in same = refl
shells_apart p t (shell ∷ shells) are zero (suc j) d i_in j_in same = absurd (head_differs p t j d shell shells are (omega (arith, j_in)) same)
shells_apart p t (shell ∷ shells) are (suc i) zero d i_in j_in same = absurd (head_differs p t i d shell shells are (omega (arith, i_in)) (sym same))
shells_apart p t (shell ∷ shells) are (suc i) (suc j) d i_in j_in same =
    ap suc (shells_apart p (t + nat_abs shell.weight) shells are.1 i j d (omega (arith, i_in)) (omega (arith, j_in)) same)

-- how many of the numbers 1 to n pass the test
abbrev pub count_to : ℕ → (ℕ → Bool) → ℕ
count_to zero test = 0
count_to (suc n) test = count_to n test + (if test (suc n) then 1 else 0)

one_most : (b : Bool) → (if b then 1 else 0) ≤ 1
one_most true = omega arith
one_most false = omega arith

pub count_most : (n : ℕ) (test : ℕ → Bool) → count_to n test ≤ n
count_most zero test = omega arith
count_most (suc n) test = omega (arith, count_most n test, one_most (test (suc n)))

-- one of two tests at a number: it passes the second where it passes the first
one_step : (b c : Bool) (m n : ℕ) → (b ≡ true → c ≡ true) → m ≤ n → m + (if b then 1 else 0) ≤ n + (if c then 1 else 0)
one_step true true m n also most = omega (arith, most)
one_step true false m n also most = absurd (false≢true (also refl))
one_step false true m n also most = omega (arith, most)
one_step false false m n also most = omega (arith, most)

one_less : (b c : Bool) (m n : ℕ) → (b ≡ true → c ≡ true) → m < n → m + (if b then 1 else 0) < n + (if c then 1 else 0)
one_less true true m n also less = omega (arith, less)
one_less true false m n also less = absurd (false≢true (also refl))
one_less false true m n also less = omega (arith, less)
one_less false false m n also less = omega (arith, less)

last_less : (b c : Bool) (m n : ℕ) → b ≡ false → c ≡ true → m ≤ n → m + (if b then 1 else 0) < n + (if c then 1 else 0)
last_less true c m n not is most = absurd (false≢true (sym not))
last_less false true m n not is most = omega (arith, most)
last_less false false m n not is most = absurd (false≢true is)

fewer_or_same : (n : ℕ) (f g : ℕ → Bool) → ((v : ℕ) → 1 ≤ v → v ≤ n → g v ≡ true → f v ≡ true) →
    (count_to n g ≤ count_to n f) × ((count_to n g < count_to n f) ⊎ ((v : ℕ) → 1 ≤ v → v ≤ n → f v ≡ true → g v ≡ true))
fewer_or_same zero f g within = (omega arith, inr (λ v low high there. absurd (omega (arith, low, high))))
fewer_or_same (suc n) f g within =
    let before = fewer_or_same n f g (λ v low high. within v low (omega (arith, high))) in
    let also = within (suc n) (omega arith) (omega arith) in (
      one_step (g (suc n)) (f (suc n)) (count_to n g) (count_to n f) also before.0,
      elim before.1 [
        | inl less ↦ inl (one_less (g (suc n)) (f (suc n)) (count_to n g) (count_to n f) also less)
        | inr same ↦ elim (cases_Bool (f (suc n))) [
          | inr out ↦ inr (λ v low high there. elim (cases_lt v (suc n)) [
            | inl below ↦ same v low (omega (arith, below)) there
            | inr last ↦ absurd (false≢true (sym out ∙ subst (λ k. f k ≡ true) (omega (arith, high, last)) there))
          ])
          | inl is ↦ elim (cases_Bool (g (suc n))) [
            | inr out ↦ inl (last_less (g (suc n)) (f (suc n)) (count_to n g) (count_to n f) out is before.0)
            | inl both ↦ inr (λ v low high there. elim (cases_lt v (suc n)) [
              | inl below ↦ same v low (omega (arith, below)) there
              | inr last ↦ subst (λ k. g k ≡ true) (omega (arith, high, last)) both
            ])
          ]
        ]
      ],
    )

-- the next shell has fewer vertices
pub next_is_less : (p : Problem) (t levels next : ℕ) (shell after : Weighted) → IsShell p t levels shell → IsShell p (t + levels) next after →
    count_to p.vertices (is_in after.shore) < count_to p.vertices (is_in shell.shore)
next_is_less p t levels next shell after is later =
    let first = is.level t (omega arith) (omega (arith, is.some)) in
    let second = later.level (t + levels) (omega arith) (omega (arith, later.some)) in
    let within = λ (v : ℕ) (low : 1 ≤ v) (high : v ≤ p.vertices) (there : is_in after.shore v ≡ true).
    (first v (record { from_one = low; in_range = high })).1 (nearer p t (t + levels) v (omega arith) ((second v (record { from_one = low; in_range = high })).0 there)) in
    elim (fewer_or_same p.vertices (is_in shell.shore) (is_in after.shore) within).1 [
      | inl less ↦ less
      | inr same ↦ absurd (is.ends (λ v vertex. (
        (λ there. (second v vertex).0 (same v vertex.from_one vertex.in_range there)),
        (λ beyond. (first v vertex).1 (nearer p t (t + levels) v (omega arith) beyond)),
      )))
    ]

shells_after : (p : Problem) (t : ℕ) (shell : Weighted) (shells : List Weighted) → AreShellsFrom p t (shell ∷ shells) → length shells ≤ count_to p.vertices (is_in shell.shore)
shells_after p t shell [] are = omega arith
shells_after p t shell (after ∷ shells) are =
    let n = nat_abs shell.weight in
    omega (
      arith,
      shells_after p (t + n) after shells are.1,
      next_is_less p t n (nat_abs after.weight) shell after are.0 are.1.0,
    )

pub shells_few : (p : Problem) (t : ℕ) (shells : List Weighted) → IsValid p → AreShellsFrom p t shells → length shells ≤ 2000
shells_few p t [] valid are = omega arith
shells_few p t (shell ∷ shells) valid are = omega (arith, shells_after p t shell shells are, count_most p.vertices (is_in shell.shore), valid.few_vertices)

-- the first vertex of a shore
filled : (xs : List ℕ) → xs ≢ [] → 0 < length xs
filled [] some = absurd (some refl)
filled (x ∷ xs) some = omega arith

first_in : (xs : List ℕ) → 0 < length xs → is_in xs (get_or xs 0 0) ≡ true
first_in [] some = absurd (omega (arith, some))
first_in (x ∷ xs) some = here (eqb x x) (is_in xs x) (eq-eqb x x refl)
  where
    here : (b c : Bool) → b ≡ true → (b || c) ≡ true
    here true c is = refl
    here false c is = absurd (false≢true is)

module _ (few : FewStepsAreLeast) (p : Problem) (valid : IsValid p) where
  -- a vertex of a shell is farther away than its levels are many
  levels_small : (t levels : ℕ) (shell : Weighted) → IsShell p t levels shell → levels ≤ 1000000000
  levels_small t levels shell is =
      let some = filled shell.shore is.is_shore.some in
      let v = get_or shell.shore 0 0 in
      let last = t + levels - 1 in
      let beyond = (is.level last (omega (arith, is.some)) (omega (arith, is.some)) v (is.belongs.vertices 0 0 some)).0 (first_in shell.shore some) in
      omega (arith, is.some, beyond.above, least_small few p p.depot v beyond.distance valid beyond.is)

  shells_positive : (t : ℕ) (shells : List Weighted) → AreShellsFrom p t shells → All IsPositive shells
  shells_positive t [] are = All-nil IsPositive
  shells_positive t (shell ∷ shells) are =
      All-cons IsPositive shell shells
      (record { natural = are.0.weight; some = are.0.some; small = omega (arith, levels_small t (nat_abs shell.weight) shell are.0) })
      (shells_positive (t + nat_abs shell.weight) shells are.1)

  shells_belong : (t : ℕ) (shells : List Weighted) → AreShellsFrom p t shells → All (λ s. Belongs p s.shore) shells
  shells_belong t [] are = All-nil (λ (s : Weighted). Belongs p s.shore)
  shells_belong t (shell ∷ shells) are =
      All-cons (λ (s : Weighted). Belongs p s.shore) shell shells are.0.belongs (shells_belong (t + nat_abs shell.weight) shells are.1)

  pub shells_placeable : (shells : List Weighted) → AreShellsFrom p 0 shells → ArePlaceable p shells
  shells_placeable shells are = record {
    few = shells_few p 0 shells valid are;
    apart = shells_apart p 0 shells are;
    positive = shells_positive 0 shells are;
    belong = shells_belong 0 shells are;
  }
