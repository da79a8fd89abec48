-- A tree of decisions that is carried over to another instance.
use Rattle.std.specs.Prelude.{◌≡◌, ℕ, ◌<◌, ◌≤◌, ◌⊎◌, List, [], ◌∷◌, ◌++◌}
use Rattle.carp_base.specs.Problem.{Problem}
use Rattle.decision_chains.specs.declared.decision.Decision.{Decision}
use Rattle.decision_chains.specs.declared.decision.Decision.TheVariants.{Yes, No, Low, High}
use Rattle.decision_chains.specs.Exclusions.{Excluded}
use Rattle.decision_chains.specs.FixedValue.{HasFixedValue}
use Rattle.branch_rules.specs.Decisions.{lower_of, IsVoid, IsFixed}
use Rattle.branch_rules.specs.Trees.{Tree, pair, cut, price, void, fixed, Support, PriceShows}

-- The tree of an instance, carried over from an older one: a node whose pair is excluded under the decisions that are left gives way to
-- its second child, and so does a cut whose number is below the lower number of its shore; all other nodes stay.
abbrev pub IsCarried : Problem → List (List ℕ) → List Decision → (old new : Tree) → Type 0
IsCarried p pool branch (pair a b together apart) new =
    (Excluded p branch a b × IsCarried p pool branch apart new)
    ⊎ ((¬ (Excluded p branch a b))
    × ((t : Tree) × (u : Tree) × IsCarried p pool (branch ++ Yes a b ∷ []) together t × IsCarried p pool (branch ++ No a b ∷ []) apart u × (new ≡ pair a b t u)))
IsCarried p pool branch (cut shore k below above) new =
    ((k < lower_of p pool branch shore) × IsCarried p pool branch above new)
    ⊎ ((lower_of p pool branch shore ≤ k)
    × ((t : Tree) × (u : Tree) × IsCarried p pool (branch ++ Low shore k ∷ []) below t × IsCarried p pool (branch ++ High shore k ∷ []) above u × (new ≡ cut shore k t u)))
IsCarried p pool branch (price set) new = new ≡ price set
IsCarried p pool branch void new = new ≡ void
IsCarried p pool branch fixed new = new ≡ fixed

-- a fixed branch shows the bound by each value that it has
pub record FixedWouldShow (c : Support) (branch : List Decision) (bound : ℕ) : Type 0 where
  pub settled : IsFixed c.problem c.pool branch
  pub enough : (value : ℕ) → HasFixedValue c.problem branch value → bound ≤ value

-- each leaf shows the bound under the decisions on the way to it, if fixed branches have values
abbrev pub WouldShow : Support → List Decision → (bound : ℕ) → Tree → Type 0
WouldShow c branch bound (pair a b together apart) =
    WouldShow c (branch ++ Yes a b ∷ []) bound together × WouldShow c (branch ++ No a b ∷ []) bound apart
WouldShow c branch bound (cut shore k below above) =
    WouldShow c (branch ++ Low shore k ∷ []) bound below × WouldShow c (branch ++ High shore k ∷ []) bound above
WouldShow c branch bound (price set) = PriceShows c branch bound set
WouldShow c branch bound void = IsVoid c.problem c.pool branch
WouldShow c branch bound fixed = FixedWouldShow c branch bound
