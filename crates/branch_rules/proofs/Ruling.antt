-- No lawful plan meets a void branch, no excluded pair are neighbours, and deadheads keep within the numbers of their shores.
use Rattle.std.proofs.Common.{◌≡◌, ℕ, ◌+◌, ◌%◌, ◌≤◌, ◌<◌, ◌==◌, Bool, true, false, List, [], ◌∷◌, refl, ap, arith, inl, inr, ◌⊎◌, Option, Some, None, max}
use Rattle.std.specs.Prelude.{if◌then◌else◌, IfSome}
use Rattle.std.specs.List.{AllByRecursion, sum_by}
use Rattle.std.proofs.lemmas.Bool.{eqb-true}
use Rattle.carp_base.specs.Problem.{Problem, IsValid, IsRequired, edge_at}
use Rattle.plan_model.specs.Plans.{IsLawful, deadheads_over}
use Rattle.plan_model.specs.Offers.{smaller}
use Rattle.plan_model.specs.declared.step.Step.{Step}
use Rattle.cut_pool.specs.Shores.{is_in}
use Rattle.cut_pool.specs.Laws.{NeedIsMet}
use Rattle.decision_chains.specs.Neighbours.{AreNeighbours}
use Rattle.cut_pool.specs.Pools.{shore_at}
use Rattle.branch_rules.specs.Decisions.{MeetsAll, highest, lowest, to_parity, lower_of, IsVoid, IsFixed, Spells, three, cycle, heavy_chain, crossed}
use Rattle.decision_chains.specs.Exclusions.{IsYes, YesPath, AreJoined, Excluded, same, said_no, first_full, second_full, closes, heavy}
use Rattle.decision_chains.specs.declared.decision.Decision.{Decision}
use Rattle.decision_chains.specs.declared.decision.Decision.TheVariants.{Yes, No, Low, High}
use Rattle.branch_rules.proofs.Line.{neighbours_required}
use Rattle.branch_rules.proofs.Meeting.{neighbours_turn, yes_neighbours, no_neighbours, not_itself, not_three, no_detour}
use Rattle.branch_rules.proofs.Heavy.{walk_of_near, walk_of, not_heavy}
use Rattle.branch_rules.proofs.ChainLaws.{ChainLaws}

-- the least of the low decisions is a bound from above, and the greatest of the high ones from below
low_step : (b : Bool) (k n : ℕ) (o : Option ℕ) → (b ≡ true → n ≤ k) → IfSome o (λ j. n ≤ j) → IfSome (if b then smaller (Some k) o else o) (λ j. n ≤ j)
low_step true k n None here rest = here refl
low_step true k n (Some j) here rest = omega (arith, here refl)
low_step false k n o here rest = rest

high_step : (b : Bool) (k n h : ℕ) → (b ≡ true → k + 1 ≤ n) → h ≤ n → (if b then max (k + 1) h else h) ≤ n
high_step true k n h here rest = omega (arith, here refl)
high_step false k n h here rest = rest

at_shore : (p : Problem) (pool : List (List ℕ)) (plan : List (List Step)) (s shore : ℕ) → (s == shore) ≡ true →
    deadheads_over p (is_in (shore_at pool s)) plan ≡ deadheads_over p (is_in (shore_at pool shore)) plan
at_shore p pool plan s shore is = ap (λ i. deadheads_over p (is_in (shore_at pool i)) plan) (eqb-true s shore is)

pub upper_law : (p : Problem) (pool : List (List ℕ)) (plan : List (List Step)) (shore : ℕ) (branch : List Decision) → MeetsAll p pool plan branch →
    IfSome (lowest shore branch) (λ k. deadheads_over p (is_in (shore_at pool shore)) plan ≤ k)
upper_law p pool plan shore [] met = tt
upper_law p pool plan shore (Yes a b ∷ branch) met = upper_law p pool plan shore branch met.1
upper_law p pool plan shore (No a b ∷ branch) met = upper_law p pool plan shore branch met.1
upper_law p pool plan shore (Low s k ∷ branch) met =
    low_step (s == shore) k _ (lowest shore branch) (λ is. rw (at_shore p pool plan s shore is) at met.0) (upper_law p pool plan shore branch met.1)
upper_law p pool plan shore (High s k ∷ branch) met = upper_law p pool plan shore branch met.1

highest_law : (p : Problem) (pool : List (List ℕ)) (plan : List (List Step)) (shore : ℕ) (branch : List Decision) → MeetsAll p pool plan branch →
    highest shore branch ≤ deadheads_over p (is_in (shore_at pool shore)) plan
highest_law p pool plan shore [] met = omega arith
highest_law p pool plan shore (Yes a b ∷ branch) met = highest_law p pool plan shore branch met.1
highest_law p pool plan shore (No a b ∷ branch) met = highest_law p pool plan shore branch met.1
highest_law p pool plan shore (Low s k ∷ branch) met = highest_law p pool plan shore branch met.1
highest_law p pool plan shore (High s k ∷ branch) met =
    high_step (s == shore) k _ (highest shore branch) (λ is. rw (at_shore p pool plan s shore is) at met.0) (highest_law p pool plan shore branch met.1)

parity_up : (r n d : ℕ) → n ≤ d → d % 2 ≡ r % 2 → to_parity r n ≤ d
parity_up r n d most even = omega (arith, even)

max_le : (a b n : ℕ) → a ≤ n → b ≤ n → max a b ≤ n
max_le a b n x y = omega arith

module _ (p : Problem) (pool : List (List ℕ)) (plan : List (List Step)) (branch : List Decision) (lawful : IsLawful p plan) (met : MeetsAll p pool plan branch) where
  pub lower_law : NeedIsMet → IsValid p → (shore : ℕ) → is_in (shore_at pool shore) p.depot ≡ false → lower_of p pool branch shore ≤ deadheads_over p (is_in (shore_at pool shore)) plan
  lower_law need_is_met valid shore out =
      let needs = need_is_met p (is_in (shore_at pool shore)) plan valid lawful out in
      parity_up _ _ _ (max_le _ _ _ needs.enough (highest_law p pool plan shore branch met)) needs.parity

module _ (laws : ChainLaws) (p : Problem) (pool : List (List ℕ)) (plan : List (List Step)) (branch : List Decision) (lawful : IsLawful p plan) (met : MeetsAll p pool plan branch) where
  each_yes : (a b : ℕ) → IsYes branch a b → AreNeighbours plan a b
  each_yes a b is = yes_neighbours laws p pool plan branch a b met is

  pub excluded_law : (a b : ℕ) → Excluded p branch a b → ¬ (AreNeighbours plan a b)
  excluded_law a b (same is) near = not_itself laws p pool plan branch lawful met a b is near
  excluded_law a b (said_no is) near = no_neighbours laws p pool plan branch a b met is near
  excluded_law a b (first_full two) near = not_three laws p pool plan branch lawful met a b two near
  excluded_law a b (second_full two) near = not_three laws p pool plan branch lawful met b a two (neighbours_turn plan a b near)
  excluded_law a b (closes joined a_end b_end never) near =
      no_detour laws p pool plan branch lawful met a b joined.0 near (laws.joins.detour branch a b a joined.0 b never joined.1)
  excluded_law a b (heavy apart over) near =
      let found = walk_of_near plan a b near in
      not_heavy laws p plan branch lawful each_yes found.0 a b found.1 found.2 found.3 over

  joined_required : (a e : ℕ) (path : List ℕ) → YesPath branch a path e → IsRequired p e → IsRequired p a
  joined_required a e [] joined required = rw joined required
  joined_required a e (x ∷ path) joined required = (neighbours_required p plan a x lawful.walks (yes_neighbours laws p pool plan branch a x met joined.0)).0

  chain_required : (a : ℕ) (es : List ℕ) → AllByRecursion (λ e. IsRequired p e × (AreJoined branch a e ⊎ AreJoined branch a e)) es →
      p.capacity < sum_by (λ e. (edge_at p e).demand) es → IsRequired p a
  chain_required a [] joined over = absurd (omega arith)
  chain_required a (e ∷ es) joined over = elim joined.0.1 [
    | inl path ↦ joined_required a e path.0 path.1 joined.0.0
    | inr path ↦ joined_required a e path.0 path.1 joined.0.0
  ]

  pub void_law : NeedIsMet → IsValid p → ((shore : ℕ) → is_in (shore_at pool shore) p.depot ≡ false) → IsVoid p pool branch → ⊥
  void_law need_is_met valid out (three a b is two) = excluded_law a b (first_full two) (yes_neighbours laws p pool plan branch a b met is)
  void_law need_is_met valid out (cycle a b path other is detour) = no_detour laws p pool plan branch lawful met a b path (yes_neighbours laws p pool plan branch a b met is) detour
  void_law need_is_met valid out (heavy_chain a over) =
      let required = chain_required a over.edges over.joined over.over in
      let found = walk_of plan a (omega (arith, lawful.once a required)) in
      not_heavy laws p plan branch lawful each_yes found.0 a a found.1 found.2 found.2 over
  void_law need_is_met valid out (crossed shore k is less) =
      let most : deadheads_over p (is_in (shore_at pool shore)) plan ≤ k = rw is at (upper_law p pool plan shore branch met) in
      let least = lower_law p pool plan branch lawful met need_is_met valid shore (out shore) in
      absurd (below_itself _ _ k least most less)
    where
      below_itself : (l d k : ℕ) → l ≤ d → d ≤ k → k < l → ⊥
      below_itself l d k x y z = omega arith

  pub only_yes : IsFixed p pool branch → (a b : ℕ) → AreNeighbours plan a b → IsYes branch a b
  only_yes settled a b near =
      let both = neighbours_required p plan a b lawful.walks near in
      elim (settled.settled a b both.0 both.1) [
        | inl is ↦ is
        | inr excluded ↦ absurd (excluded_law a b excluded near)
      ]

  pub spells_fixed : IsFixed p pool branch → Spells branch plan
  spells_fixed settled = record { each_yes = each_yes; only_yes = only_yes settled }
