-- One more decision makes no chain too heavy.
use Rattle.std.proofs.Common.{ℕ, List, [], ◌∷◌, ◌++◌, refl, subst, inl, inr, ◌⊎◌}
use Rattle.std.specs.List.{AllByRecursion}
use Rattle.std.proofs.lemmas.Bool.{cases_eq}
use Rattle.carp_base.specs.Problem.{Problem, IsRequired}
use Rattle.decision_chains.specs.Exclusions.{IsYes, AreJoined, IsChainEnd, IsHeavy, first_full, closes, heavy, IsDetermined}
use Rattle.decision_chains.specs.Laws.{ExcludedIsSymmetric, YesPairsJoin}
use Rattle.decision_chains.specs.declared.decision.Decision.{Decision}
use Rattle.decision_chains.specs.declared.decision.Decision.TheVariants.{Yes, No, Low, High}
use Rattle.grown_trees.specs.Laws.{IsOpenDecision}
use Rattle.grown_trees.proofs.Keeping.{links, no_yes, path_back, turned_too}

-- each edge is required, and of the chain of one of two others
abbrev OfChains : Problem → List Decision → (a b : ℕ) → List ℕ → Type 0
OfChains p branch a b es = AllByRecursion (λ e. IsRequired p e × (AreJoined branch a e ⊎ AreJoined branch b e)) es

-- A decision that says yes to no pair.

module _ (p : Problem) (branch : List Decision) (d : Decision) (back : (a b : ℕ) → IsYes (branch ++ d ∷ []) a b → IsYes branch a b) where
  joined_back : (a b : ℕ) → AreJoined (branch ++ d ∷ []) a b → AreJoined branch a b
  joined_back a b joined = (joined.0, path_back branch d p back a b joined.0 joined.1)

  each_back : (a b : ℕ) (es : List ℕ) → OfChains p (branch ++ d ∷ []) a b es → OfChains p branch a b es
  each_back a b [] all = tt
  each_back a b (e ∷ es) all = ((all.0.0, elim all.0.1 [ inl one ↦ inl (joined_back a e one) | inr other ↦ inr (joined_back b e other) ]), each_back a b es all.1)

  light_plain : ((c : ℕ) → ¬ (IsHeavy p branch c c)) → (c : ℕ) → ¬ (IsHeavy p (branch ++ d ∷ []) c c)
  light_plain light c over = light c (record { edges = over.edges; distinct = over.distinct; joined = each_back c c over.edges over.joined; over = over.over })

-- an edge of an open pair is the end of a chain: of two yes neighbours none would be the other edge
ends_chain : (p : Problem) (branch : List Decision) (m n : ℕ) → ¬ (IsDetermined p branch m n) → IsChainEnd branch m
ends_chain p branch m n undetermined x y one other = elim (cases_eq x y) [
  | inl equal ↦ equal
  | inr apart ↦ absurd
      (undetermined
      (inr
      (first_full (record {
        x = x;
        y = y;
        x_yes = one;
        y_yes = other;
        apart = apart;
        x_other = λ is. undetermined (inl (subst (λ u. IsYes branch m u) is one));
        y_other = λ is. undetermined (inl (subst (λ u. IsYes branch m u) is other));
      }))))
]

-- A yes to a pair that is not determined.

module _ (laws : YesPairsJoin) (turn : ExcludedIsSymmetric) (p : Problem) (branch : List Decision) (m n : ℕ) (undetermined : ¬ (IsDetermined p branch m n)) where
  abbrev said : List Decision
  said = branch ++ Yes m n ∷ []

  abbrev Link : ℕ → ℕ → Type 0
  Link a b = AreJoined branch a b ⊎ ((AreJoined branch a m × AreJoined branch n b) ⊎ (AreJoined branch a n × AreJoined branch m b))

  link : (a b : ℕ) → AreJoined said a b ⊎ AreJoined said a b → Link a b
  link a b (inl one) = links laws turn p branch m n undetermined a b one.0 one.1
  link a b (inr other) = links laws turn p branch m n undetermined a b other.0 other.1

  -- the pair is of two chains
  of_two_chains : ¬ (AreJoined branch m n)
  of_two_chains joined =
      undetermined
      (inr
      (closes joined (ends_chain p branch m n undetermined) (ends_chain p branch n m (turned_too laws turn p branch m n undetermined)) (λ yes_yet. undetermined (inl yes_yet))))

  -- the edges of a chain were of that chain before, or it is one of the two that the pair joins
  abbrev Gathered : ℕ → List ℕ → Type 0
  Gathered c es = OfChains p branch c c es ⊎ (AreJoined branch c m ⊎ AreJoined branch c n)

  gather_step : (c e : ℕ) (es : List ℕ) → IsRequired p e → Link c e → Gathered c es → Gathered c (e ∷ es)
  gather_step c e es required (inl joined) (inl rest) = inl ((required, inl joined), rest)
  gather_step c e es required (inl joined) (inr touches) = inr touches
  gather_step c e es required (inr (inl both)) rest = inr (inl both.0)
  gather_step c e es required (inr (inr both)) rest = inr (inr both.0)

  gathered : (c : ℕ) (es : List ℕ) → OfChains p said c c es → Gathered c es
  gathered c [] all = inl tt
  gathered c (e ∷ es) all = gather_step c e es all.0.0 (link c e all.0.1) (gathered c es all.1)

  -- in the second case they were of these two chains
  spread_step : (c e : ℕ) → AreJoined branch c m ⊎ AreJoined branch c n → Link c e → AreJoined branch m e ⊎ AreJoined branch n e
  spread_step c e (inl at_m) (inl joined) = inl (laws.on branch m c e (laws.turned branch c m at_m) joined)
  spread_step c e (inr at_n) (inl joined) = inr (laws.on branch n c e (laws.turned branch c n at_n) joined)
  spread_step c e touches (inr (inl both)) = inr both.1
  spread_step c e touches (inr (inr both)) = inl both.1

  spread : (c : ℕ) → AreJoined branch c m ⊎ AreJoined branch c n → (es : List ℕ) → OfChains p said c c es → OfChains p branch m n es
  spread c touches [] all = tt
  spread c touches (e ∷ es) all = ((all.0.0, spread_step c e touches (link c e all.0.1)), spread c touches es all.1)

  light_said : ((c : ℕ) → ¬ (IsHeavy p branch c c)) → (c : ℕ) → ¬ (IsHeavy p said c c)
  light_said light c over = elim (gathered c over.edges over.joined) [
    | inl all ↦ light c (record { edges = over.edges; distinct = over.distinct; joined = all; over = over.over })
    | inr touches ↦
        undetermined
        (inr (heavy of_two_chains (record { edges = over.edges; distinct = over.distinct; joined = spread c touches over.edges over.joined; over = over.over })))
  ]

pub light_kept : (laws : YesPairsJoin) (turn : ExcludedIsSymmetric) (p : Problem) (branch : List Decision) (d : Decision) → IsOpenDecision p branch d →
    ((c : ℕ) → ¬ (IsHeavy p branch c c)) → (c : ℕ) → ¬ (IsHeavy p (branch ++ d ∷ []) c c)
light_kept laws turn p branch (Yes m n) undetermined light = light_said laws turn p branch m n undetermined light
light_kept laws turn p branch (No m n) undetermined light = light_plain p branch (No m n) (λ x y is. no_yes x y branch (No m n) refl is) light
light_kept laws turn p branch (Low shore k) undetermined light = light_plain p branch (Low shore k) (λ x y is. no_yes x y branch (Low shore k) refl is) light
light_kept laws turn p branch (High shore k) undetermined light = light_plain p branch (High shore k) (λ x y is. no_yes x y branch (High shore k) refl is) light
