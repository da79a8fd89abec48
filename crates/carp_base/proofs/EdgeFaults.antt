-- Faults of edges, by the edges' numbers.
use Rattle.std.proofs.Common.{◌≡◌, ℕ, ◌+◌, ◌-◌, ◌<◌, ◌≤◌, Bool, true, false, List, length, get_or, Some, None, position, inl, inr, arith, sym, subst, ◌∙◌, ap}
use Rattle.std.specs.List.{position_or_len}
use Rattle.std.proofs.lemmas.Bool.{cases_lt, false≢true}
use Rattle.std.proofs.lemmas.List.Quantifiers.{position-Some}
use Rattle.std.proofs.lemmas.List.Sums.{fails_before_first}
use Rattle.std.proofs.lemmas.Bool.Decides.{nat_tests}
use Rattle.carp_base.specs.declared.edge.Edge.{Edge}
use Rattle.carp_base.specs.declared.fault.InstanceFault.{InstanceFault}
use Rattle.carp_base.specs.Problem.{Problem, edge_at, no_edge}
use Rattle.carp_base.specs.Faults.{FaultApplies, fault_rank, fault_number, IsFirstFault}
use Rattle.carp_base.specs.Checks.{IsClear}
use Rattle.carp_base.proofs.Ranks.{first_at, clear_more}
use Rattle.carp_base.proofs.Numbers.{edge_after, edge_before}

-- the faults of the rank after `rank` are those of the edges up to n where the test holds
pub record EdgeFault (p : Problem) (fault : ℕ → InstanceFault) (rank n : ℕ) (bad : ℕ → Bool) : Type 0 where
  pub only : (g : InstanceFault) → fault_rank g ≡ rank + 1 → (e : ℕ) × (g ≡ fault e)
  pub ranked : (e : ℕ) → fault_rank (fault e) ≡ rank + 1
  pub named : (e : ℕ) → fault_number (fault e) ≡ e
  pub shown : (e : ℕ) → FaultApplies p (fault e) → (1 ≤ e) × (e ≤ n) × (bad e ≡ true)
  pub holds : (e : ℕ) → 1 ≤ e → e ≤ n → bad e ≡ true → FaultApplies p (fault e)

module _ (p : Problem) (fault : ℕ → InstanceFault) (rank n : ℕ) (bad : ℕ → Bool) (is : EdgeFault p fault rank n bad) where
  fault_of : (g : InstanceFault) → fault_rank g ≡ rank + 1 → FaultApplies p g → (e : ℕ) × (g ≡ fault e) × (1 ≤ e) × (e ≤ n) × (bad e ≡ true)
  fault_of g here applies =
      let found = is.only g here in
      let P : InstanceFault → Type 0 = FaultApplies p in
      let there = is.shown found.0 (subst P found.1 applies) in
      (found.0, found.1, there.0, there.1, there.2)

  -- where no edge is bad, no fault of the rank applies
  pub edge_clear : IsClear p rank → ((e : ℕ) → 1 ≤ e → e ≤ n → bad e ≡ false) → IsClear p (rank + 1)
  edge_clear clear none =
      clear_more p rank clear (λ g here applies.
      let found = fault_of g here applies in
      false≢true (sym (none found.0 found.2 found.3) ∙ found.4))

  -- the first bad edge gives the first fault
  pub edge_first : (e : ℕ) → IsClear p rank → 1 ≤ e → e ≤ n → bad e ≡ true → ((k : ℕ) → 1 ≤ k → k < e → bad k ≡ false) → IsFirstFault p (fault e)
  edge_first e clear from_one below here none =
      first_at p (fault e) rank clear (is.ranked e) (is.holds e from_one below here) (λ g rank_is applies.
      let found = fault_of g rank_is applies in
      let number : fault_number g ≡ found.0 = ap fault_number found.1 ∙ is.named found.0 in
      elim (cases_lt found.0 e) [
        | inl less ↦ absurd (false≢true (sym (none found.0 found.2 less) ∙ found.4))
        | inr most ↦ omega (arith, is.named e, number, most)
      ])

-- where no place is found, the test fails everywhere
pub position-None : {X : Type 0} (test : X → Bool) (xs : List X) (k : ℕ) (d : X) → None ≡ position test xs → k < length xs → test (get_or xs k d) ≡ false
position-None test xs k d none below =
    elim (cases_lt (position_or_len test xs) (length xs)) [
      | inl found ↦ absurd (grind (arith, nat_tests))
      | inr past ↦ fails_before_first test xs k d (omega (arith, past, below))
    ]

-- the same by `position` over a list that holds these edges
module _ (p : Problem) (fault : ℕ → InstanceFault) (rank : ℕ) (test : Edge → Bool) (xs : List Edge)
    (same : (k : ℕ) → k < length xs → get_or xs k no_edge ≡ get_or p.edges k no_edge)
    (is : EdgeFault p fault rank (length xs) (λ e. test (edge_at p e))) where
  pub list_clear : IsClear p rank → None ≡ position test xs → IsClear p (rank + 1)
  list_clear clear none =
      edge_clear p fault rank (length xs) (λ e. test (edge_at p e)) is clear (λ e from_one below.
      let in_list : e - 1 < length xs = omega (arith, from_one, below) in
      ap test (edge_before p e from_one ∙ sym (same (e - 1) in_list)) ∙ position-None test xs (e - 1) no_edge none in_list)

  pub list_first : (i : ℕ) → IsClear p rank → Some i ≡ position test xs → IsFirstFault p (fault (i + 1))
  list_first i clear found =
      let at = position-Some test xs i no_edge (sym found) in
      let here : test (edge_at p (i + 1)) ≡ true = ap test (edge_after p i ∙ sym (same i at.0)) ∙ at.1 in
      edge_first p fault rank (length xs) (λ e. test (edge_at p e)) is (i + 1) clear (omega arith) (omega (arith, at.0)) here (λ e from_one below.
      let earlier : e - 1 < i = omega (arith, from_one, below) in
      ap test (edge_before p e from_one ∙ sym (same (e - 1) (omega (arith, earlier, at.0)))) ∙ at.2 (e - 1) earlier)
