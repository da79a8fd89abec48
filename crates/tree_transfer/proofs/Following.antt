-- What holds under the decisions on the way to a node of a tree, and under those that are left of them where the tree was carried over.
use Rattle.std.proofs.Common.{◌≡◌, ℕ, ◌<◌, ◌≤◌, List, [], ◌∷◌, ◌++◌, refl, subst, inl, inr, ◌⊎◌}
use Rattle.std.specs.Prelude.{IfSome}
use Rattle.carp_base.specs.Problem.{Problem, IsRequired, IsValid}
use Rattle.cut_pool.specs.Pools.{shore_at}
use Rattle.cut_pool.specs.Shores.{is_in, required_crossings}
use Rattle.decision_chains.specs.Exclusions.{Excluded, IsDetermined}
use Rattle.decision_chains.specs.Laws.{ExcludedIsSymmetric, YesPairsJoin}
use Rattle.decision_chains.specs.declared.decision.Decision.{Decision}
use Rattle.decision_chains.specs.declared.decision.Decision.TheVariants.{Yes, No, Low, High}
use Rattle.branch_rules.specs.Decisions.{lowest, lower_of}
use Rattle.grown_trees.specs.Laws.{DecisionsKeepChainsLight, DecisionsKeepExclusions}
use Rattle.tree_transfer.specs.Laws.{RoomWeightsFall, FixedValuesRise, NeedsRise, SetsStayFit}
use Rattle.tree_transfer.specs.Raised.{IsRaised}
use Rattle.tree_transfer.proofs.Numbers.{NumbersFollow, numbers_root, numbers_old, numbers_both, numbers_low, numbers_high, numbers_left}
use Rattle.tree_transfer.proofs.Chaining.{ChainsFollow, chains_root, chains_both, chains_old, required_now}

-- two instances, of which one rose from the other, and the laws over them
pub record Known (p q : Problem) : Type 0 where
  pub valid_old : IsValid p
  pub valid_new : IsValid q
  pub rise : IsRaised p q
  pub join : YesPairsJoin
  pub turn : ExcludedIsSymmetric
  pub kept : DecisionsKeepExclusions
  pub light : DecisionsKeepChainsLight
  pub needs : NeedsRise
  pub fits : SetsStayFit
  pub values : FixedValuesRise
  pub rooms : RoomWeightsFall

pub record Follows (p q : Problem) (pool : List (List ℕ)) (old new : List Decision) : Type 0 where
  pub numbers : NumbersFollow p q pool old new
  pub chains : ChainsFollow p q old new

pub follows_root : (p q : Problem) (pool : List (List ℕ)) → Known p q → Follows p q pool [] []
follows_root p q pool known = record {
  numbers = numbers_root p q pool known.needs known.valid_old known.valid_new known.rise;
  chains = chains_root p q known.valid_new known.rise;
}

module _ (p q : Problem) (pool : List (List ℕ)) (known : Known p q) (old new : List Decision) (follows : Follows p q pool old new) where
  module _ (a b : ℕ) (a_in : IsRequired p a) (b_in : IsRequired p b) where
    -- a pair that stays is as open as it was
    pub open_yet : ¬ (IsDetermined p old a b) → ¬ (Excluded q new a b) → ¬ (IsDetermined q new a b)
    open_yet undetermined apart (inl says) = undetermined (inl (follows.chains.yes_from a b says))
    open_yet undetermined apart (inr excluded) = apart excluded

    of_pair : (x y : ℕ) → (Yes a b ≡ Yes x y) ⊎ (Yes a b ≡ Yes y x) → IsRequired q y
    of_pair x y (inl straight) = let is : b ≡ y = cc in subst (IsRequired q) is (required_now p q known.valid_new known.rise b b_in)
    of_pair x y (inr turned) = let is : a ≡ y = cc in subst (IsRequired q) is (required_now p q known.valid_new known.rise a a_in)

    pub follows_yes : ¬ (IsDetermined q new a b) → Follows p q pool (old ++ Yes a b ∷ []) (new ++ Yes a b ∷ [])
    follows_yes undetermined = record {
      numbers = numbers_both p q pool old new follows.numbers (Yes a b) (λ shore. (refl, refl));
      chains =
          chains_both p q known.valid_new known.rise old new follows.chains (Yes a b) known.kept known.light undetermined
          (λ x y says. of_pair x y (known.join.names_yes x y (Yes a b) says));
    }

    pub follows_no : ¬ (IsDetermined q new a b) → Follows p q pool (old ++ No a b ∷ []) (new ++ No a b ∷ [])
    follows_no undetermined = record {
      numbers = numbers_both p q pool old new follows.numbers (No a b) (λ shore. (refl, refl));
      chains =
          chains_both p q known.valid_new known.rise old new follows.chains (No a b) known.kept known.light undetermined
          (λ x y says. cc);
    }

    of_no : (x y : ℕ) → Excluded q new a b → (No a b ≡ No x y) ⊎ (No a b ≡ No y x) → Excluded q new x y
    of_no x y excluded (inl straight) =
        let first : a ≡ x = cc in
        let second : b ≡ y = cc in
        subst (λ v. Excluded q new x v) second (subst (λ u. Excluded q new u b) first excluded)
    of_no x y excluded (inr turned) =
        let first : a ≡ y = cc in
        let second : b ≡ x = cc in
        known.turn q new y x (subst (λ v. Excluded q new y v) second (subst (λ u. Excluded q new u b) first excluded))

    -- a pair that is excluded now gave way to its no
    pub follows_gone : Excluded q new a b → Follows p q pool (old ++ No a b ∷ []) new
    follows_gone excluded = record {
      numbers = numbers_old p q pool old new follows.numbers (No a b) (λ shore. (refl, refl));
      chains =
          chains_old p q known.valid_new known.rise old new follows.chains (No a b) (λ x y says. cc)
          (λ x y says. of_no x y excluded (known.join.names_no x y (No a b) says));
    }

  module _ (shore k : ℕ) where
    crossings_same : (s : ℕ) → required_crossings q (is_in (shore_at pool s)) ≡ required_crossings p (is_in (shore_at pool s))
    crossings_same s = (known.needs p q known.valid_old known.valid_new known.rise (is_in (shore_at pool s))).crossings

    pub follows_low : lower_of q pool new shore ≤ k → IfSome (lowest shore old) (λ u. k < u) → Follows p q pool (old ++ Low shore k ∷ []) (new ++ Low shore k ∷ [])
    follows_low less within = record {
      numbers = numbers_low p q pool old new follows.numbers shore k less within;
      chains = chains_both p q known.valid_new known.rise old new follows.chains (Low shore k) known.kept known.light tt (λ x y says. cc);
    }

    pub follows_high : lower_of p pool old shore ≤ k → lower_of q pool new shore ≤ k → Follows p q pool (old ++ High shore k ∷ []) (new ++ High shore k ∷ [])
    follows_high above less = record {
      numbers = numbers_high p q pool old new follows.numbers shore k crossings_same above less;
      chains = chains_both p q known.valid_new known.rise old new follows.chains (High shore k) known.kept known.light tt (λ x y says. cc);
    }

    -- a cut below the lower number gave way to what is above it
    pub follows_past : lower_of p pool old shore ≤ k → k < lower_of q pool new shore → Follows p q pool (old ++ High shore k ∷ []) new
    follows_past above past = record {
      numbers = numbers_left p q pool old new follows.numbers shore k crossings_same above past;
      chains = chains_old p q known.valid_new known.rise old new follows.chains (High shore k) (λ x y says. cc) (λ x y says. cc);
    }
