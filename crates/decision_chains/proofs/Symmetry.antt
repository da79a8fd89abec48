-- The order of an excluded pair is free, so the allowed pairs of a branch are a symmetric relation.
use Rattle.std.proofs.Common.{ℕ, List, [], ◌∷◌, sym, inl, inr, ◌⊎◌}
use Rattle.std.specs.List.{AllByRecursion}
use Rattle.carp_base.specs.Problem.{Problem, IsRequired}
use Rattle.decision_chains.specs.Exclusions.{AreJoined, IsHeavy, Excluded, same, said_no, first_full, second_full, closes, heavy}
use Rattle.decision_chains.specs.declared.decision.Decision.{Decision}
use Rattle.decision_chains.proofs.YesPairs.{yes_turn, path_back, no_turn}

turn_joined : (p : Problem) (branch : List Decision) (a b : ℕ) (es : List ℕ) →
    AllByRecursion (λ e. IsRequired p e × (AreJoined branch a e ⊎ AreJoined branch b e)) es →
    AllByRecursion (λ e. IsRequired p e × (AreJoined branch b e ⊎ AreJoined branch a e)) es
turn_joined p branch a b [] all = tt
turn_joined p branch a b (e ∷ es) all = ((all.0.0, elim all.0.1 [ inl joined ↦ inr joined | inr joined ↦ inl joined ]), turn_joined p branch a b es all.1)

heavy_turn : (p : Problem) (branch : List Decision) (a b : ℕ) → IsHeavy p branch a b → IsHeavy p branch b a
heavy_turn p branch a b over = record {
  edges = over.edges;
  distinct = over.distinct;
  joined = turn_joined p branch a b over.edges over.joined;
  over = over.over;
}

joined_turn : (branch : List Decision) (a b : ℕ) → AreJoined branch a b → AreJoined branch b a
joined_turn branch a b joined = path_back branch a b joined.0 joined.1

pub excluded_turn : (p : Problem) (branch : List Decision) (a b : ℕ) → Excluded p branch a b → Excluded p branch b a
excluded_turn p branch a b (same is) = same (sym is)
excluded_turn p branch a b (said_no is) = said_no (no_turn branch a b is)
excluded_turn p branch a b (first_full two) = second_full two
excluded_turn p branch a b (second_full two) = first_full two
excluded_turn p branch a b (closes joined a_end b_end never) = closes (joined_turn branch a b joined) b_end a_end (λ is. never (yes_turn branch b a is))
excluded_turn p branch a b (heavy apart over) = heavy (λ joined. apart (joined_turn branch b a joined)) (heavy_turn p branch a b over)
