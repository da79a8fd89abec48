-- A fitting price set bounds the plans that meet its branch, and a tree's bound holds for every lawful plan.
use Rattle.std.proofs.Common.{◌≡◌, ℕ, zero, suc, ◌*◌, ◌≤◌, false, List, [], ◌∷◌, ◌++◌, get_or, refl, arith, inl, inr, pos, ◌-ℤ◌, ◌*ℤ◌, ◌≤ℤ◌, ◌<ℤ◌}
use Rattle.std.specs.List.{AllByRecursion, count_by}
use Rattle.std.proofs.lemmas.Bool.{cases_lt}
use Rattle.carp_base.specs.Problem.{Problem}
use Rattle.plan_model.specs.Plans.{IsLawful, steps_of, plan_cost, deadheads_over}
use Rattle.plan_model.specs.declared.step.Step.{Step}
use Rattle.deadhead_paths.specs.Tours.{IsFollowed}
use Rattle.cut_pool.specs.Shores.{is_in}
use Rattle.cut_pool.specs.Laws.{NeedIsMet}
use Rattle.plan_model.specs.Laws.{ServedOnceByNumber}
use Rattle.deadhead_paths.specs.Laws.{WalkIsTaskTour, LeastDeadheadIsThere, LeastDeadheadIsLeast}
use Rattle.decision_chains.specs.Neighbours.{served_edges, AreNeighbours}
use Rattle.branch_rules.specs.Prices.{Prices, KeepsRules, value_of}
use Rattle.cut_pool.specs.Pools.{shore_at}
use Rattle.branch_rules.specs.Decisions.{Meets, MeetsAll, rules_of, IsVoid}
use Rattle.decision_chains.specs.Exclusions.{Excluded}
use Rattle.decision_chains.specs.declared.decision.Decision.{Decision}
use Rattle.decision_chains.specs.declared.decision.Decision.TheVariants.{Yes, No, Low, High}
use Rattle.branch_rules.specs.declared.weight.Weight.{Weight}
use Rattle.branch_rules.specs.Trees.{Tree, pair, cut, price, void, fixed, Support, set_at, Shows, IsSoundSupport}
use Rattle.branch_rules.specs.Laws.{NoDepot, IsMet, FitsBranch}
use Rattle.branch_rules.proofs.Signed.{bound_from_value}
use Rattle.branch_rules.proofs.Bonding.{bonds_law}
use Rattle.branch_rules.proofs.Together.{some_bond}
use Rattle.branch_rules.proofs.Bound.{value_le, deadheads_at}
use Rattle.branch_rules.proofs.Paying.{each_pays}
use Rattle.branch_rules.proofs.Ruling.{excluded_law, lower_law, upper_law, void_law, spells_fixed}
use Rattle.branch_rules.proofs.Fixed.{fixed_value_law}
use Rattle.branch_rules.proofs.ChainLaws.{ChainLaws}

-- one of two cases holds, though it may be unknown which
either_way : (P : Type 0) (m n : ℕ) → (P → m ≤ n) → (¬ P → m ≤ n) → m ≤ n
either_way P m n yes_case no_case = elim (cases_lt n m) [
  | inl less ↦ no_case (λ p. absurd (omega (arith, yes_case p)))
  | inr enough ↦ enough
]

met_more : (p : Problem) (pool : List (List ℕ)) (plan : List (List Step)) (branch : List Decision) (d : Decision) →
    MeetsAll p pool plan branch → Meets p pool plan d → MeetsAll p pool plan (branch ++ d ∷ [])
met_more p pool plan [] d met here = (here, tt)
met_more p pool plan (c ∷ branch) d met here = (met.0, met_more p pool plan branch d met.1 here)

-- the neighbours of each walk are neighbours in the plan
none_excluded : (P : ℕ → ℕ → Type 0) (plan : List (List Step)) → ((a b : ℕ) → AreNeighbours plan a b → P a b) →
    AllByRecursion (λ walk. (a b : ℕ) → IsFollowed (served_edges walk) a b → P a b) plan
none_excluded P [] each = tt
none_excluded P (walk ∷ plan) each = ((λ a b follows. each a b (inl (inl follows))), none_excluded P plan (λ a b near. each a b (inr near)))

-- a shore of the pool by its number, where none has the depot
out_at : (p : Problem) (pool : List (List ℕ)) (k : ℕ) → NoDepot p pool → is_in (get_or pool k []) p.depot ≡ false
out_at p [] k out = refl
out_at p (shore ∷ pool) zero out = out.0
out_at p (shore ∷ pool) (suc k) out = out_at p pool k out.1

out_of : (p : Problem) (pool : List (List ℕ)) (shore : ℕ) → NoDepot p pool → is_in (shore_at pool shore) p.depot ≡ false
out_of p pool zero out = refl
out_of p pool (suc k) out = out_at p pool k out

pub numbers_law : NeedIsMet → (p : Problem) (pool : List (List ℕ)) (branch : List Decision) (plan : List (List Step)) → IsMet p pool branch plan → (shore : ℕ) →
    KeepsRules (rules_of p pool branch) shore (deadheads_over p (is_in (shore_at pool shore)) plan)
numbers_law need_is_met p pool branch plan is shore = record {
  least = lower_law p pool plan branch is.lawful is.meets need_is_met is.valid shore (out_of p pool shore is.no_depot);
  most = upper_law p pool plan shore branch is.meets;
}

-- what is known of lawful plans, of deadheads and of relaxed tours
pub record Known : Type 0 where
  pub served_once : ServedOnceByNumber
  pub need_is_met : NeedIsMet
  pub is_tour : WalkIsTaskTour
  pub there : LeastDeadheadIsThere
  pub below : LeastDeadheadIsLeast
  pub chains : ChainLaws

module _ (known : Known) (p : Problem) (pool : List (List ℕ)) (branch : List Decision) (set : Prices) (plan : List (List Step)) (fits : FitsBranch p pool branch set) (is : IsMet p pool branch plan) where
  keeps : (weights : List Weight) → AllByRecursion (λ w. KeepsRules (rules_of p pool branch) w.shore (count_by (deadheads_at p pool set w.shore) (steps_of plan))) weights
  keeps [] = tt
  keeps (w ∷ weights) = (numbers_law known.need_is_met p pool branch plan is w.shore, keeps weights)

  pub value_law : value_of (rules_of p pool branch) set ≤ℤ pos (set.unit * plan_cost p plan)
  value_law =
      value_le p pool set known.served_once (rules_of p pool branch) (λ a b. ¬ (Excluded p branch a b))
      (each_pays p pool set fits.fits.not_negative is.valid known.is_tour known.there known.below (λ a b. ¬ (Excluded p branch a b)) fits.fits.tours)
      fits.fits.has_upper fits.fits.has_yes fits.one_each plan is.lawful
      (none_excluded (λ a b. ¬ (Excluded p branch a b)) plan (λ a b near excluded. excluded_law known.chains p pool plan branch is.lawful is.meets a b excluded near))
      (keeps set.weights)
      (λ group. omega (arith, bonds_law p is.valid known.served_once group plan is.lawful))
      (some_bond known.chains p pool branch plan is.meets)

  pub price_law : (bound : ℕ) → (pos set.unit *ℤ (pos bound -ℤ pos 1)) <ℤ value_of (rules_of p pool branch) set → bound ≤ plan_cost p plan
  price_law bound above = bound_from_value set.unit bound (plan_cost p plan) _ value_law above

module _ (known : Known) (c : Support) (bound : ℕ) (sound : IsSoundSupport c) (plan : List (List Step)) (lawful : IsLawful c.problem plan) where
  met_by : (branch : List Decision) → MeetsAll c.problem c.pool plan branch → IsMet c.problem c.pool branch plan
  met_by branch met = record { valid = sound.valid; no_depot = sound.shores; lawful = lawful; meets = met }

  pub tree_law : (branch : List Decision) (tree : Tree) → MeetsAll c.problem c.pool plan branch → Shows c branch bound tree → bound ≤ plan_cost c.problem plan
  tree_law branch (pair a b together apart) met shown =
      either_way (AreNeighbours plan a b) bound (plan_cost c.problem plan)
      (λ near. tree_law (branch ++ Yes a b ∷ []) together (met_more c.problem c.pool plan branch (Yes a b) met near) shown.0)
      (λ far. tree_law (branch ++ No a b ∷ []) apart (met_more c.problem c.pool plan branch (No a b) met far) shown.1)
  tree_law branch (cut shore k below above) met shown =
      elim (cases_lt k (deadheads_over c.problem (is_in (shore_at c.pool shore)) plan)) [
        | inl more ↦ tree_law (branch ++ High shore k ∷ []) above (met_more c.problem c.pool plan branch (High shore k) met (omega (arith, more))) shown.1
        | inr most ↦ tree_law (branch ++ Low shore k ∷ []) below (met_more c.problem c.pool plan branch (Low shore k) met most) shown.0
      ]
  tree_law branch (price i) met shown =
      price_law known c.problem c.pool branch (set_at c i) plan (record { one_each = sound.sets i shown.0 shown.1; fits = shown.2.fits }) (met_by branch met) bound shown.2.above
  tree_law branch void met shown = absurd (void_law known.chains c.problem c.pool plan branch lawful met known.need_is_met sound.valid (λ shore. out_of c.problem c.pool shore sound.shores) shown)
  tree_law branch fixed met shown =
      omega (
        arith,
        shown.enough,
        fixed_value_law known.chains c.problem plan branch lawful (spells_fixed known.chains c.problem c.pool plan branch lawful met shown.settled) shown.value shown.fixed known.served_once,
      )

pub tree_bounds_law : Known → (c : Support) (bound : ℕ) (tree : Tree) → IsSoundSupport c → Shows c [] bound tree → (plan : List (List Step)) → IsLawful c.problem plan → bound ≤ plan_cost c.problem plan
tree_bounds_law known c bound tree sound shown plan lawful = tree_law known c bound sound plan lawful [] tree tt shown

pub void_met_law : ChainLaws → NeedIsMet → (p : Problem) (pool : List (List ℕ)) (branch : List Decision) (plan : List (List Step)) → IsVoid p pool branch → ¬ (IsMet p pool branch plan)
void_met_law laws need_is_met p pool branch plan shown is = void_law laws p pool plan branch is.lawful is.meets need_is_met is.valid (λ shore. out_of p pool shore is.no_depot) shown
