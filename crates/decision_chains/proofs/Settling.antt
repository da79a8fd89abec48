-- Pairs that are left open by a relation and the chains, and pairs in either order.
use Rattle.std.proofs.Common.{◌≡◌, ℕ, ◌+◌, ◌≤◌, ◌<◌, Bool, true, false, List, refl, arith, inl, inr, MatchBool}
use Rattle.std.proofs.lemmas.Bool.{cases_eq, cases_order, both_ways}
use Rattle.carp_base.specs.Allowed.{Relation, allows}
use Rattle.carp_base.specs.Problem.{Problem, IsRequired}
use Rattle.decision_chains.specs.Exclusions.{IsDetermined, PermitsUnexcluded, same}
use Rattle.decision_chains.specs.ChainTables.{IsChainTable, near_has, near_at}
use Rattle.decision_chains.specs.declared.chains.Chains.{Chains}
use Rattle.decision_chains.specs.declared.decision.Decision.{Decision}
use Rattle.decision_chains.proofs.Barring.{yes_settled}
use Rattle.decision_chains.proofs.Neighbouring.{near_yes}
use Rattle.decision_chains.proofs.YesPairs.{yes_turn}
use Rattle.decision_chains.proofs.Symmetry.{excluded_turn}

module _ (t : Chains) (table : IsChainTable t) (a b : ℕ) (a_in : IsRequired t.inst.now a) (b_in : IsRequired t.inst.now b) where
  pub open_now : (r : Relation) → PermitsUnexcluded t.inst.now t.decisions.now r → allows r a b ≡ true → near_has (near_at t.near.items a) b ≡ false → ¬ (IsDetermined t.inst.now t.decisions.now a b)
  open_now r permits may unjoined (inl is) = elim (yes_settled t table a b a_in b_in is) [
    | inl joined ↦ both_ways _ unjoined joined
    | inr excluded ↦ permits.permitted a b a_in b_in may excluded
  ]
  open_now r permits may unjoined (inr excluded) = permits.permitted a b a_in b_in may excluded

  pub joined_now : near_has (near_at t.near.items a) b ≡ true → IsDetermined t.inst.now t.decisions.now a b
  joined_now joined = inl (near_yes t.decisions.now a b (near_at t.near.items a) (table.chains.neighbours a) joined)

determined_turn : (p : Problem) (branch : List Decision) (a b : ℕ) → IsDetermined p branch a b → IsDetermined p branch b a
determined_turn p branch a b (inl is) = inl (yes_turn branch a b is)
determined_turn p branch a b (inr excluded) = inr (excluded_turn p branch a b excluded)

pub all_from_below : (p : Problem) (branch : List Decision) → ((a b : ℕ) → a ≤ p.required → 1 ≤ b → b < a → IsDetermined p branch a b) →
    (a b : ℕ) → IsRequired p a → IsRequired p b → IsDetermined p branch a b
all_from_below p branch below a b a_in b_in = elim (cases_order a b) [
  | inl is ↦ inr (same is)
  | inr apart ↦ elim apart [
    | inl less ↦ determined_turn p branch b a (below b a b_in.in_range a_in.from_one less)
    | inr more ↦ below a b a_in.in_range b_in.from_one more
  ]
]

pub match_from : (b : Bool) (P Q : Type 0) → (b ≡ true → P) → (b ≡ false → Q) → MatchBool b P Q
match_from true P Q when_true when_false = when_true refl
match_from false P Q when_true when_false = when_false refl

pub match_false : (b : Bool) (P Q : Type 0) → b ≡ false → Q → MatchBool b P Q
match_false true P Q is q = cc
match_false false P Q is q = q

-- what holds at each place below the next one
pub one_more : (P : ℕ → Type 0) (i : ℕ) → ((k : ℕ) → k < i → P k) → P i → (k : ℕ) → k < i + 1 → P k
one_more P i before here k less = elim (cases_eq k i) [
  | inl last ↦ rw last here
  | inr other ↦ before k (omega (arith, less, other))
]
