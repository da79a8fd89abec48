-- The numbers of shores under a branch and under the one that it is carried over to.
use Rattle.std.proofs.Common.{◌≡◌, ◌≢◌, ℕ, ◌+◌, ◌<◌, ◌≤◌, ◌==◌, Bool, true, false, List, [], ◌∷◌, ◌++◌, refl, sym, ap, subst, ◌∙◌, arith, inl, inr, ◌⊎◌, Option, Some, None, min, max}
use Rattle.std.specs.Prelude.{if◌then◌else◌, IfSome}
use Rattle.std.proofs.lemmas.Bool.{cases_eq, cases_lt, eq-eqb, ne_eqb}
use Rattle.carp_base.specs.Problem.{Problem, IsValid}
use Rattle.plan_model.specs.Offers.{smaller}
use Rattle.cut_pool.specs.Pools.{shore_at}
use Rattle.cut_pool.specs.Shores.{is_in, need, required_crossings}
use Rattle.decision_chains.specs.declared.decision.Decision.{Decision}
use Rattle.decision_chains.specs.declared.decision.Decision.TheVariants.{Yes, No, Low, High}
use Rattle.branch_rules.specs.Decisions.{highest, lowest, lower_of, to_parity}
use Rattle.tree_transfer.specs.Laws.{NeedsRise}
use Rattle.tree_transfer.specs.Raised.{IsRaised}

-- One decision more.

if_max : (b : Bool) (k h one : ℕ) → (if b then max k (max h one) else max h one) ≡ max (if b then max k h else h) one
if_max true k h one = omega arith
if_max false k h one = refl

highest_push : (shore : ℕ) (ds : List Decision) (d : Decision) → highest shore (ds ++ d ∷ []) ≡ max (highest shore ds) (highest shore (d ∷ []))
highest_push shore [] d = omega arith
highest_push shore (Yes a b ∷ ds) d = highest_push shore ds d
highest_push shore (No a b ∷ ds) d = highest_push shore ds d
highest_push shore (Low s k ∷ ds) d = highest_push shore ds d
highest_push shore (High s k ∷ ds) d =
    ap (λ n. if s == shore then max (k + 1) n else n) (highest_push shore ds d) ∙ if_max (s == shore) (k + 1) (highest shore ds) (highest shore (d ∷ []))

smaller_three : (k : ℕ) (o one : Option ℕ) → smaller (Some k) (smaller o one) ≡ smaller (smaller (Some k) o) one
smaller_three k None one = refl
smaller_three k (Some n) None = refl
smaller_three k (Some n) (Some m) = ap Some (omega arith)

if_smaller : (b : Bool) (k : ℕ) (o one : Option ℕ) → (if b then smaller (Some k) (smaller o one) else smaller o one) ≡ smaller (if b then smaller (Some k) o else o) one
if_smaller true k o one = smaller_three k o one
if_smaller false k o one = refl

lowest_push : (shore : ℕ) (ds : List Decision) (d : Decision) → lowest shore (ds ++ d ∷ []) ≡ smaller (lowest shore ds) (lowest shore (d ∷ []))
lowest_push shore [] d = refl
lowest_push shore (Yes a b ∷ ds) d = lowest_push shore ds d
lowest_push shore (No a b ∷ ds) d = lowest_push shore ds d
lowest_push shore (Low s k ∷ ds) d =
    ap (λ o. if s == shore then smaller (Some k) o else o) (lowest_push shore ds d) ∙ if_smaller (s == shore) k (lowest shore ds) (lowest shore (d ∷ []))
lowest_push shore (High s k ∷ ds) d = lowest_push shore ds d

smaller_none : (o one : Option ℕ) → one ≡ None → smaller o one ≡ o
smaller_none None one is = is
smaller_none (Some k) one is = ap (smaller (Some k)) is

-- the decision is no cut of the shore
abbrev pub IsElsewhere : ℕ → Decision → Type 0
IsElsewhere shore d = (highest shore (d ∷ []) ≡ 0) × (lowest shore (d ∷ []) ≡ None)

high_here : (shore k : ℕ) → highest shore (High shore k ∷ []) ≡ k + 1
high_here shore k = rw (eq-eqb shore shore refl) (omega arith)

high_elsewhere : (shore s k : ℕ) → s ≢ shore → IsElsewhere shore (High s k)
high_elsewhere shore s k other = (rw (ne_eqb s shore other) refl, refl)

low_here : (shore k : ℕ) → lowest shore (Low shore k ∷ []) ≡ Some k
low_here shore k = rw (eq-eqb shore shore refl) refl

low_elsewhere : (shore s k : ℕ) → s ≢ shore → IsElsewhere shore (Low s k)
low_elsewhere shore s k other = (refl, rw (ne_eqb s shore other) refl)

upper_same : (branch : List Decision) (d : Decision) (shore : ℕ) → lowest shore (d ∷ []) ≡ None → lowest shore (branch ++ d ∷ []) ≡ lowest shore branch
upper_same branch d shore is = lowest_push shore branch d ∙ smaller_none (lowest shore branch) (lowest shore (d ∷ [])) is

upper_push : (old new : List Decision) (d : Decision) (shore : ℕ) → lowest shore new ≡ lowest shore old → lowest shore (new ++ d ∷ []) ≡ lowest shore (old ++ d ∷ [])
upper_push old new d shore is = lowest_push shore new d ∙ ap (λ o. smaller o (lowest shore (d ∷ []))) is ∙ sym (lowest_push shore old d)

low_is_least : (o : Option ℕ) (k u : ℕ) → IfSome o (λ v. k < v) → smaller o (Some k) ≡ Some u → u ≡ k
low_is_least None k u within is = cc
low_is_least (Some v) k u within is = let least : min v k ≡ u = cc in omega (arith, least, within)

upper_here : (branch : List Decision) (shore k u : ℕ) → IfSome (lowest shore branch) (λ v. k < v) → lowest shore (branch ++ Low shore k ∷ []) ≡ Some u → u ≡ k
upper_here branch shore k u within is =
    low_is_least (lowest shore branch) k u within (ap (smaller (lowest shore branch)) (sym (low_here shore k)) ∙ sym (lowest_push shore branch (Low shore k)) ∙ is)

max_none : (h one : ℕ) → one ≡ 0 → max h one ≡ h
max_none h one is = omega (arith, is)

-- the least number of a parity that is past k
past_needs : (r n h k one : ℕ) → one ≡ k + 1 → to_parity r (max n h) ≤ k → to_parity r (max n (max h one)) ≡ to_parity r (k + 1)
past_needs r n h k one is less = let most : max n (max h one) ≡ k + 1 = omega (arith, is, less) in ap (to_parity r) most

past_least : (r n k : ℕ) → k < to_parity r n → to_parity r (k + 1) ≤ to_parity r n
past_least r n k less = omega (arith, less)

more_past : (r n h one : ℕ) → to_parity r (max n h) ≤ to_parity r (max n (max h one))
more_past r n h one = omega arith

needs_more : (r s m n : ℕ) → s ≡ r → m ≤ n → to_parity r (max m 0) ≤ to_parity s (max n 0)
needs_more r s m n is more = subst (λ t. to_parity r (max m 0) ≤ to_parity t (max n 0)) (sym is) (omega (arith, more))

module _ (p : Problem) (pool : List (List ℕ)) (branch : List Decision) where
  abbrev inside : ℕ → ℕ → Bool
  inside shore = is_in (shore_at pool shore)

  lower_same : (d : Decision) (shore : ℕ) → highest shore (d ∷ []) ≡ 0 → lower_of p pool (branch ++ d ∷ []) shore ≡ lower_of p pool branch shore
  lower_same d shore is =
      ap (λ h. to_parity (required_crossings p (inside shore)) (max (need p (inside shore)) h))
      (highest_push shore branch d ∙ max_none (highest shore branch) (highest shore (d ∷ [])) is)

  lower_push : (d : Decision) (shore : ℕ) →
      lower_of p pool (branch ++ d ∷ []) shore ≡ to_parity (required_crossings p (inside shore)) (max (need p (inside shore)) (max (highest shore branch) (highest shore (d ∷ []))))
  lower_push d shore = ap (λ h. to_parity (required_crossings p (inside shore)) (max (need p (inside shore)) h)) (highest_push shore branch d)

  lower_high : (shore k : ℕ) → lower_of p pool branch shore ≤ k → lower_of p pool (branch ++ High shore k ∷ []) shore ≡ to_parity (required_crossings p (inside shore)) (k + 1)
  lower_high shore k less =
      lower_push (High shore k) shore
      ∙ past_needs (required_crossings p (inside shore)) (need p (inside shore)) (highest shore branch) k (highest shore (High shore k ∷ [])) (high_here shore k) less

  lower_more : (d : Decision) (shore : ℕ) → lower_of p pool branch shore ≤ lower_of p pool (branch ++ d ∷ []) shore
  lower_more d shore =
      subst (λ m. lower_of p pool branch shore ≤ m) (sym (lower_push d shore))
      (more_past (required_crossings p (inside shore)) (need p (inside shore)) (highest shore branch) (highest shore (d ∷ [])))

-- the upper numbers stay, the lower ones are no less; and where they cross in the new branch, they did in the old one
pub record NumbersFollow (p q : Problem) (pool : List (List ℕ)) (old new : List Decision) : Type 0 where
  pub upper : (shore : ℕ) → lowest shore new ≡ lowest shore old
  pub lower : (shore : ℕ) → lower_of p pool old shore ≤ lower_of q pool new shore
  pub uncrossed : (shore u : ℕ) → lowest shore old ≡ Some u → (u < lower_of p pool old shore) ⊎ (lower_of q pool new shore ≤ u)

module _ (p q : Problem) (pool : List (List ℕ)) (old new : List Decision) (numbers : NumbersFollow p q pool old new) (d : Decision) where
  -- the old branch gains a decision on a pair
  pub numbers_old : ((shore : ℕ) → IsElsewhere shore d) → NumbersFollow p q pool (old ++ d ∷ []) new
  numbers_old elsewhere = record {
    upper = λ shore. numbers.upper shore ∙ sym (upper_same old d shore (elsewhere shore).1);
    lower = λ shore. subst (λ m. m ≤ lower_of q pool new shore) (sym (lower_same p pool old d shore (elsewhere shore).0)) (numbers.lower shore);
    uncrossed = λ shore u is.
        subst (λ m. (u < m) ⊎ (lower_of q pool new shore ≤ u)) (sym (lower_same p pool old d shore (elsewhere shore).0))
        (numbers.uncrossed shore u (sym (upper_same old d shore (elsewhere shore).1) ∙ is));
  }

  -- both gain it
  uncrossed_elsewhere : (shore u : ℕ) → IsElsewhere shore d → lowest shore (old ++ d ∷ []) ≡ Some u →
      (u < lower_of p pool (old ++ d ∷ []) shore) ⊎ (lower_of q pool (new ++ d ∷ []) shore ≤ u)
  uncrossed_elsewhere shore u elsewhere is =
      subst (λ m. (u < m) ⊎ (lower_of q pool (new ++ d ∷ []) shore ≤ u)) (sym (lower_same p pool old d shore elsewhere.0))
      (subst (λ m. (u < lower_of p pool old shore) ⊎ (m ≤ u)) (sym (lower_same q pool new d shore elsewhere.0))
      (numbers.uncrossed shore u (sym (upper_same old d shore elsewhere.1) ∙ is)))

  lower_elsewhere : (shore : ℕ) → highest shore (d ∷ []) ≡ 0 → lower_of p pool (old ++ d ∷ []) shore ≤ lower_of q pool (new ++ d ∷ []) shore
  lower_elsewhere shore elsewhere =
      subst (λ m. m ≤ lower_of q pool (new ++ d ∷ []) shore) (sym (lower_same p pool old d shore elsewhere))
      (subst (λ m. lower_of p pool old shore ≤ m) (sym (lower_same q pool new d shore elsewhere)) (numbers.lower shore))

  pub numbers_both : ((shore : ℕ) → IsElsewhere shore d) → NumbersFollow p q pool (old ++ d ∷ []) (new ++ d ∷ [])
  numbers_both elsewhere = record {
    upper = λ shore. upper_push old new d shore (numbers.upper shore);
    lower = λ shore. lower_elsewhere shore (elsewhere shore).0;
    uncrossed = λ shore u. uncrossed_elsewhere shore u (elsewhere shore);
  }

-- Cuts.

module _ (p q : Problem) (pool : List (List ℕ)) (old new : List Decision) (numbers : NumbersFollow p q pool old new) (shore k : ℕ) where
  crosses_low : (s u : ℕ) → lower_of q pool new shore ≤ k → IfSome (lowest shore old) (λ v. k < v) → lowest s (old ++ Low shore k ∷ []) ≡ Some u →
      (u < lower_of p pool (old ++ Low shore k ∷ []) s) ⊎ (lower_of q pool (new ++ Low shore k ∷ []) s ≤ u)
  crosses_low s u less within is = elim (cases_eq shore s) [
    | inl here ↦
        let up : lowest shore (old ++ Low shore k ∷ []) ≡ Some u = subst (λ t. lowest t (old ++ Low shore k ∷ []) ≡ Some u) (sym here) is in
        let low : lower_of q pool (new ++ Low shore k ∷ []) shore ≤ u = omega (arith, lower_same q pool new (Low shore k) shore refl, upper_here old shore k u within up, less) in
        inr (subst (λ t. lower_of q pool (new ++ Low shore k ∷ []) t ≤ u) here low)
    | inr other ↦ uncrossed_elsewhere p q pool old new numbers (Low shore k) s u (low_elsewhere s shore k other) is
  ]

  pub numbers_low : lower_of q pool new shore ≤ k → IfSome (lowest shore old) (λ v. k < v) → NumbersFollow p q pool (old ++ Low shore k ∷ []) (new ++ Low shore k ∷ [])
  numbers_low less within = record {
    upper = λ s. upper_push old new (Low shore k) s (numbers.upper s);
    lower = λ s. lower_elsewhere p q pool old new numbers (Low shore k) s refl;
    uncrossed = λ s u is. crosses_low s u less within is;
  }

  module _ (crossings : (s : ℕ) → required_crossings q (is_in (shore_at pool s)) ≡ required_crossings p (is_in (shore_at pool s))) (above : lower_of p pool old shore ≤ k) where
    both_high : lower_of q pool new shore ≤ k → lower_of q pool (new ++ High shore k ∷ []) shore ≡ lower_of p pool (old ++ High shore k ∷ []) shore
    both_high less = lower_high q pool new shore k less ∙ ap (λ r. to_parity r (k + 1)) (crossings shore) ∙ sym (lower_high p pool old shore k above)

    lower_kept : (s : ℕ) → lower_of q pool new shore ≤ k → lower_of p pool (old ++ High shore k ∷ []) s ≤ lower_of q pool (new ++ High shore k ∷ []) s
    lower_kept s less = elim (cases_eq shore s) [
      | inl here ↦ subst (λ t. lower_of p pool (old ++ High shore k ∷ []) t ≤ lower_of q pool (new ++ High shore k ∷ []) t) here (omega (arith, both_high less))
      | inr other ↦ lower_elsewhere p q pool old new numbers (High shore k) s (high_elsewhere s shore k other).0
    ]

    split_by : (u m n : ℕ) → n ≡ m → (u < m) ⊎ (n ≤ u)
    split_by u m n is = elim (cases_lt u m) [ inl less ↦ inl less | inr more ↦ inr (omega (arith, is, more)) ]

    crosses_high : (s u : ℕ) → lower_of q pool new shore ≤ k → lowest s (old ++ High shore k ∷ []) ≡ Some u →
        (u < lower_of p pool (old ++ High shore k ∷ []) s) ⊎ (lower_of q pool (new ++ High shore k ∷ []) s ≤ u)
    crosses_high s u less is = elim (cases_eq shore s) [
      | inl here ↦
          split_by u (lower_of p pool (old ++ High shore k ∷ []) s) (lower_of q pool (new ++ High shore k ∷ []) s)
          (subst (λ t. lower_of q pool (new ++ High shore k ∷ []) t ≡ lower_of p pool (old ++ High shore k ∷ []) t) here (both_high less))
      | inr other ↦ uncrossed_elsewhere p q pool old new numbers (High shore k) s u (high_elsewhere s shore k other) is
    ]

    pub numbers_high : lower_of q pool new shore ≤ k → NumbersFollow p q pool (old ++ High shore k ∷ []) (new ++ High shore k ∷ [])
    numbers_high less = record {
      upper = λ s. upper_push old new (High shore k) s (numbers.upper s);
      lower = λ s. lower_kept s less;
      uncrossed = λ s u is. crosses_high s u less is;
    }

    -- the cut gave way
    lower_left : (s : ℕ) → k < lower_of q pool new shore → lower_of p pool (old ++ High shore k ∷ []) s ≤ lower_of q pool new s
    lower_left s past = elim (cases_eq shore s) [
      | inl here ↦ subst (λ t. lower_of p pool (old ++ High shore k ∷ []) t ≤ lower_of q pool new t) here (left_here past)
      | inr other ↦
          subst (λ m. m ≤ lower_of q pool new s) (sym (lower_same p pool old (High shore k) s (high_elsewhere s shore k other).0)) (numbers.lower s)
    ]
      where
        left_here : k < lower_of q pool new shore → lower_of p pool (old ++ High shore k ∷ []) shore ≤ lower_of q pool new shore
        left_here more =
            let inner = is_in (shore_at pool shore) in
            subst (λ m. m ≤ lower_of q pool new shore) (sym (lower_high p pool old shore k above ∙ ap (λ r. to_parity r (k + 1)) (sym (crossings shore))))
            (past_least (required_crossings q inner) (max (need q inner) (highest shore new)) k more)

    crosses_left : (s u : ℕ) → (u < lower_of p pool old s) ⊎ (lower_of q pool new s ≤ u) → (u < lower_of p pool (old ++ High shore k ∷ []) s) ⊎ (lower_of q pool new s ≤ u)
    crosses_left s u (inl less) = inl (omega (arith, less, lower_more p pool old (High shore k) s))
    crosses_left s u (inr more) = inr more

    pub numbers_left : k < lower_of q pool new shore → NumbersFollow p q pool (old ++ High shore k ∷ []) new
    numbers_left past = record {
      upper = λ s. numbers.upper s ∙ sym (upper_same old (High shore k) s refl);
      lower = λ s. lower_left s past;
      uncrossed = λ s u is. crosses_left s u (numbers.uncrossed s u (sym (upper_same old (High shore k) s refl) ∙ is));
    }

-- at the root
pub numbers_root : (p q : Problem) (pool : List (List ℕ)) → NeedsRise → IsValid p → IsValid q → IsRaised p q → NumbersFollow p q pool [] []
numbers_root p q pool needs valid_old valid_new rise = record {
  upper = λ shore. refl;
  lower = λ shore.
      let inner = is_in (shore_at pool shore) in
      let more = needs p q valid_old valid_new rise inner in
      needs_more (required_crossings p inner) (required_crossings q inner) (need p inner) (need q inner) more.crossings more.needs;
  uncrossed = λ shore u is. cc;
}
