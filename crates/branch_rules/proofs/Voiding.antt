-- Why a branch is void, or not, by its chains and its numbers.
use Rattle.std.proofs.Common.{◌≡◌, ℕ, zero, suc, ◌≤◌, ◌<◌, ◌==◌, Bool, true, false, not, List, [], ◌∷◌, length, get_or, Option, Some, None, min, refl, sym, subst, arith, ◌↔◌}
use Rattle.std.specs.Prelude.{if◌then◌else◌}
use Rattle.std.specs.List.{All}
use Rattle.std.proofs.lemmas.Bool.{eqb-true, eq-eqb, both_ways, not-true, not_from_false, false_from_ne_true, true_from_ne_false}
use Rattle.carp_base.specs.Problem.{Problem, IsRequired}
use Rattle.plan_model.specs.Offers.{smaller}
use Rattle.branch_rules.specs.Decisions.{lowest, lower_of, IsFixed, IsVoid, three, cycle, heavy_chain, crossed}
use Rattle.decision_chains.specs.Exclusions.{IsDetermined, IsHeavy}
use Rattle.decision_chains.specs.ChainTables.{IsChainTable, IsTangled, crowded, cyclic}
use Rattle.branch_rules.specs.Crossings.{IsCrossed, IsCrossing, IsUncrossed}
use Rattle.decision_chains.specs.declared.chains.Chains.{Chains}
use Rattle.decision_chains.specs.declared.decision.Decision.{Decision}
use Rattle.decision_chains.specs.declared.decision.Decision.TheVariants.{Yes, No, Low, High}

-- the upper number of a shore is at most the number of each of its low decisions
abbrev pub HasUpTo : ℕ → List Decision → ℕ → Type 0
HasUpTo shore ds k = (j : ℕ) × (lowest shore ds ≡ Some j) × (j ≤ k)

least_of : (k l : ℕ) (o : Option ℕ) (j : ℕ) → o ≡ Some j → j ≤ k → (i : ℕ) × (smaller (Some l) o ≡ Some i) × (i ≤ k)
least_of k l None j is most = cc
least_of k l (Some n) j is most = let same : n ≡ j = cc in (min l n, refl, omega (arith, same, most))

least_here : (k : ℕ) (o : Option ℕ) → (i : ℕ) × (smaller (Some k) o ≡ Some i) × (i ≤ k)
least_here k None = (k, refl, omega arith)
least_here k (Some n) = (min k n, refl, omega arith)

up_to_more : (shore k : ℕ) (d : Decision) (ds : List Decision) → HasUpTo shore ds k → HasUpTo shore (d ∷ ds) k
up_to_more shore k (Yes a b) ds up = up
up_to_more shore k (No a b) ds up = up
up_to_more shore k (Low s l) ds up = go (s == shore)
  where
    go : (b : Bool) → (j : ℕ) × ((if b then smaller (Some l) (lowest shore ds) else lowest shore ds) ≡ Some j) × (j ≤ k)
    go true = least_of k l (lowest shore ds) up.0 up.1 up.2
    go false = up
up_to_more shore k (High s l) ds up = up

up_to_here : (shore k : ℕ) (d : Decision) (ds : List Decision) → d ≡ Low shore k → HasUpTo shore (d ∷ ds) k
up_to_here shore k d ds is = subst (λ x. HasUpTo shore (x ∷ ds) k) (sym is) (go (shore == shore) (eq-eqb shore shore refl))
  where
    go : (b : Bool) → b ≡ true → (j : ℕ) × ((if b then smaller (Some k) (lowest shore ds) else lowest shore ds) ≡ Some j) × (j ≤ k)
    go true same = least_here k (lowest shore ds)
    go false same = cc

up_to_at : (shore k : ℕ) (ds : List Decision) (i : ℕ) (d : Decision) → i < length ds → get_or ds i d ≡ Low shore k → HasUpTo shore ds k
up_to_at shore k [] i d less is = absurd (omega (arith, less))
up_to_at shore k (x ∷ ds) zero d less is = up_to_here shore k x ds is
up_to_at shore k (x ∷ ds) (suc i) d less is = up_to_more shore k x ds (up_to_at shore k ds i d (omega (arith, less)) is)

pub crossing_now : (p : Problem) (pool : List (List ℕ)) (branch : List Decision) (i : ℕ) (d : Decision) → i < length branch → IsCrossing p pool branch (get_or branch i d) → IsCrossed p pool branch
crossing_now p pool branch i d less crossing = go (get_or branch i d) refl crossing
  where
    go : (x : Decision) → get_or branch i d ≡ x → IsCrossing p pool branch x → IsCrossed p pool branch
    go (Yes a b) is crossing' = absurd crossing'
    go (No a b) is crossing' = absurd crossing'
    go (Low shore k) is crossing' =
        let up = up_to_at shore k branch i d less is in
        record { shore = shore; k = up.0; upper = up.1; below = omega (arith, crossing', up.2) }
    go (High shore k) is crossing' = absurd crossing'

least_above : (n k : ℕ) (o : Option ℕ) → n ≤ k → ((j : ℕ) → o ≡ Some j → n ≤ j) → (j : ℕ) → smaller (Some k) o ≡ Some j → n ≤ j
least_above n k None here rest j is = let same : k ≡ j = cc in omega (arith, same, here)
least_above n k (Some l) here rest j is = let same : min k l ≡ j = cc in omega (arith, same, here, rest l refl)

module _ (p : Problem) (pool : List (List ℕ)) (branch : List Decision) where
  above : (shore : ℕ) (ds : List Decision) → All (IsUncrossed p pool branch) ds → (j : ℕ) → lowest shore ds ≡ Some j → lower_of p pool branch shore ≤ j
  above shore [] all = λ j is. cc
  above shore (d ∷ ds) all = one d (all 0 d (omega arith)) (above shore ds (λ k e less. all (suc k) e (omega (arith, less))))
    where
      one : (x : Decision) → IsUncrossed p pool branch x → ((j : ℕ) → lowest shore ds ≡ Some j → lower_of p pool branch shore ≤ j) →
          (j : ℕ) → lowest shore (x ∷ ds) ≡ Some j → lower_of p pool branch shore ≤ j
      one (Yes a b) here rest = rest
      one (No a b) here rest = rest
      one (Low s k) here rest = go (s == shore) refl
        where
          go : (b : Bool) → (s == shore) ≡ b → (j : ℕ) → (if b then smaller (Some k) (lowest shore ds) else lowest shore ds) ≡ Some j → lower_of p pool branch shore ≤ j
          go true same = least_above (lower_of p pool branch shore) k (lowest shore ds) (subst (λ x. lower_of p pool branch x ≤ k) (eqb-true s shore same) here) rest
          go false same = rest
      one (High s k) here rest = rest

  pub not_crossed : All (IsUncrossed p pool branch) branch → IsCrossed p pool branch → ⊥
  not_crossed all is = omega (arith, above is.shore branch all is.k is.upper, is.below)

  pub crossed_void : IsCrossed p pool branch → IsVoid p pool branch
  crossed_void is = crossed is.shore is.k is.upper is.below

module _ (t : Chains) (table : IsChainTable t) (pool : List (List ℕ)) where
  pub tangle_void : t.tangled ≡ true → IsVoid t.inst.now pool t.decisions.now
  tangle_void is = go (table.chains.tangle.0 is)
    where
      go : IsTangled t.decisions.now → IsVoid t.inst.now pool t.decisions.now
      go (crowded a b is_yes two) = three a b is_yes two
      go (cyclic a b path apart is_yes detour) = cycle a b path apart is_yes detour

  pub overload_void : (e : ℕ) × IsHeavy t.inst.now t.decisions.now e e → IsVoid t.inst.now pool t.decisions.now
  overload_void over = heavy_chain over.0 over.1

  pub not_void : (p : Problem) (branch : List Decision) → t.inst.now ≡ p → t.decisions.now ≡ branch → t.tangled ≡ false → ((e : ℕ) → IsHeavy t.inst.now t.decisions.now e e → ⊥) →
      ¬ (IsCrossed p pool branch) → IsVoid p pool branch → ⊥
  not_void p branch same_inst same_decisions untangled light uncrossed (three a b is_yes two) =
      both_ways _ untangled (table.chains.tangle.1 (subst IsTangled (sym same_decisions) (crowded a b is_yes two)))
  not_void p branch same_inst same_decisions untangled light uncrossed (cycle a b path apart is_yes detour) =
      both_ways _ untangled (table.chains.tangle.1 (subst IsTangled (sym same_decisions) (cyclic a b path apart is_yes detour)))
  not_void p branch same_inst same_decisions untangled light uncrossed (heavy_chain a over) =
      light a (subst (λ q. IsHeavy q t.decisions.now a a) (sym same_inst) (subst (λ ds. IsHeavy p ds a a) (sym same_decisions) over))
  not_void p branch same_inst same_decisions untangled light uncrossed (crossed shore k upper below) =
      uncrossed (record { shore = shore; k = k; upper = upper; below = below })

-- a test and its contrary
pub not_iff : (b : Bool) (P : Type 0) → (b ≡ true) ↔ P → (not b ≡ true) ↔ ¬ P
not_iff b P is = (
  (λ unlike p. both_ways b (not-true b unlike) (is.1 p)),
  (λ unlike. not_from_false b (false_from_ne_true b (λ here. unlike (is.0 here)))),
)

-- a branch is fixed where it is not void and no pair is found open
pub fixed_iff : (p : Problem) (pool : List (List ℕ)) (branch : List Decision) (b : Bool) → ¬ (IsVoid p pool branch) →
    (b ≡ true → (a c : ℕ) → IsRequired p a → IsRequired p c → IsDetermined p branch a c) →
    (b ≡ false → (a c : ℕ) × IsRequired p a × IsRequired p c × ¬ (IsDetermined p branch a c)) → (b ≡ true) ↔ IsFixed p pool branch
fixed_iff p pool branch b meets settled unsettled = (
  (λ is. record { open_yet = meets; settled = settled is }),
  (λ fixed. true_from_ne_false b (λ is. let found = unsettled is in found.4 (fixed.settled found.0 found.1 found.2 found.3))),
)
