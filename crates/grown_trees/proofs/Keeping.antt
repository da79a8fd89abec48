-- A price set that fits under a branch fits under it with one more decision, and has no lower value there.
use Rattle.std.proofs.Common.{◌≡◌, ◌≢◌, ℕ, suc, ◌+◌, ◌≤◌, ◌==◌, max, Bool, true, false, ◌&&◌, ◌||◌, List, [], ◌∷◌, ◌++◌, refl, sym, ◌∙◌, subst, arith, inl, inr, ◌⊎◌, Option, Some, None, IsSome, ℤ, pos, negsuc, ◌≤ℤ◌, ◌<ℤ◌}
use Rattle.std.specs.Prelude.{if◌then◌else◌, IsTrue, unwrap_or}
use Rattle.std.specs.List.{AllByRecursion, list_any}
use Rattle.std.proofs.Math.Nat.{mul-le-mul_left}
use Rattle.std.proofs.lemmas.Bool.{and_parts, cases_eq, eqb-true, or_cases, or_left, or_right}
use Rattle.std.proofs.lemmas.Int.{ints}
use Rattle.std.proofs.lemmas.List.Folds.{list_any-append}
use Rattle.carp_base.specs.Problem.{Problem, IsRequired}
use Rattle.cut_pool.specs.Pools.{shore_at}
use Rattle.cut_pool.specs.Shores.{is_in, need, required_crossings}
use Rattle.deadhead_paths.specs.Prices.{price_of}
use Rattle.plan_model.specs.Offers.{smaller}
use Rattle.decision_chains.specs.Exclusions.{says_yes, says_no, IsYes, IsNo, YesPath, AreJoined, IsChainEnd, HasTwoOthers, IsHeavy, Excluded, same, said_no, first_full, second_full, closes, heavy, IsDetermined}
use Rattle.decision_chains.specs.Laws.{ExcludedIsSymmetric, YesPairsJoin}
use Rattle.decision_chains.specs.declared.decision.Decision.{Decision}
use Rattle.decision_chains.specs.declared.decision.Decision.TheVariants.{Yes, No, Low, High}
use Rattle.branch_rules.specs.Decisions.{highest, is_yes_pair, lowest, lower_of, rules_of, to_parity}
use Rattle.branch_rules.specs.Bonds.{GroupWeight}
use Rattle.branch_rules.specs.Laws.{FitsBranch}
use Rattle.branch_rules.specs.Prices.{PaysAtLeast, Prices, crossing_prices, signed_sum, task_adds, value_of, weigh, weight_value}
use Rattle.branch_rules.specs.declared.weight.Weight.{Weight}
use Rattle.grown_trees.specs.Laws.{IsKept, IsOpenDecision}

-- What one more decision leaves as it was.

module _ (branch : List Decision) (d : Decision) where
  abbrev longer : List Decision
  longer = branch ++ d ∷ []

  yes_old : (a b : ℕ) → IsYes branch a b → IsYes longer a b
  yes_old a b is = list_any-append (says_yes a b) branch (d ∷ []) ∙ or_left (list_any (says_yes a b) branch) _ is

  no_old : (a b : ℕ) → IsNo branch a b → IsNo longer a b
  no_old a b is = list_any-append (says_no a b) branch (d ∷ []) ∙ or_left (list_any (says_no a b) branch) _ is

  one_or : (b : Bool) → (b || false) ≡ true → b ≡ true
  one_or true is = refl
  one_or false is = is

  yes_cases : (a b : ℕ) → IsYes longer a b → IsYes branch a b ⊎ (says_yes a b d ≡ true)
  yes_cases a b is = elim (or_cases (list_any (says_yes a b) branch) (list_any (says_yes a b) (d ∷ [])) (sym (list_any-append (says_yes a b) branch (d ∷ [])) ∙ is)) [
    | inl old ↦ inl old
    | inr new ↦ inr (one_or (says_yes a b d) new)
  ]

  path_old : (a b : ℕ) (path : List ℕ) → YesPath branch a path b → YesPath longer a path b
  path_old a b [] steps = steps
  path_old a b (z ∷ path) steps = (yes_old a z steps.0, path_old z b path steps.1)

  joined_old : (a b : ℕ) → AreJoined branch a b → AreJoined longer a b
  joined_old a b joined = (joined.0, path_old a b joined.0 joined.1)

  two_old : (a b : ℕ) → HasTwoOthers branch a b → HasTwoOthers longer a b
  two_old a b two = record {
    x = two.x;
    y = two.y;
    x_yes = yes_old a two.x two.x_yes;
    y_yes = yes_old a two.y two.y_yes;
    apart = two.apart;
    x_other = two.x_other;
    y_other = two.y_other;
  }

  each_old : (p : Problem) (a b : ℕ) (es : List ℕ) → AllByRecursion (λ e. IsRequired p e × (AreJoined branch a e ⊎ AreJoined branch b e)) es →
      AllByRecursion (λ e. IsRequired p e × (AreJoined longer a e ⊎ AreJoined longer b e)) es
  each_old p a b [] all = tt
  each_old p a b (e ∷ es) all = ((all.0.0, elim all.0.1 [ inl one ↦ inl (joined_old a e one) | inr other ↦ inr (joined_old b e other) ]), each_old p a b es all.1)

  heavy_old : (p : Problem) (a b : ℕ) → IsHeavy p branch a b → IsHeavy p longer a b
  heavy_old p a b over = record { edges = over.edges; distinct = over.distinct; joined = each_old p a b over.edges over.joined; over = over.over }

  -- A decision that says yes to no other pair.

  module _ (p : Problem) (back : (a b : ℕ) → IsYes longer a b → IsYes branch a b) where
    pub path_back : (a b : ℕ) (path : List ℕ) → YesPath longer a path b → YesPath branch a path b
    path_back a b [] steps = steps
    path_back a b (z ∷ path) steps = (back a z steps.0, path_back z b path steps.1)

    end_back : (a : ℕ) → IsChainEnd branch a → IsChainEnd longer a
    end_back a end = λ x y one other. end x y (back a x one) (back a y other)

    excluded_plain : (a b : ℕ) → Excluded p branch a b → Excluded p longer a b
    excluded_plain a b (same is) = same is
    excluded_plain a b (said_no is) = said_no (no_old a b is)
    excluded_plain a b (first_full two) = first_full (two_old a b two)
    excluded_plain a b (second_full two) = second_full (two_old b a two)
    excluded_plain a b (closes joined end_a end_b apart) = closes (joined_old a b joined) (end_back a end_a) (end_back b end_b) (λ yes. apart (back a b yes))
    excluded_plain a b (heavy apart over) = heavy (λ joined. apart (joined.0, path_back a b joined.0 joined.1)) (heavy_old p a b over)

-- A yes to a pair that is not determined.

pair_is : (a b c d : ℕ) → (((c == a) && (d == b)) || ((c == b) && (d == a))) ≡ true → ((a ≡ c) × (b ≡ d)) ⊎ ((a ≡ d) × (b ≡ c))
pair_is a b c d is = elim (or_cases ((c == a) && (d == b)) ((c == b) && (d == a)) is) [
  | inl straight ↦ let both = and_parts (c == a) (d == b) straight in inl (sym (eqb-true c a both.0), sym (eqb-true d b both.1))
  | inr turned ↦ let both = and_parts (c == b) (d == a) turned in inr (sym (eqb-true d a both.1), sym (eqb-true c b both.0))
]

module _ (laws : YesPairsJoin) (turn : ExcludedIsSymmetric) (p : Problem) (branch : List Decision) (m n : ℕ) (undetermined : ¬ (IsDetermined p branch m n)) where
  abbrev said : List Decision
  said = branch ++ Yes m n ∷ []

  pub turned_too : ¬ (IsDetermined p branch n m)
  turned_too (inl is) = undetermined (inl (laws.yes_turned branch n m is))
  turned_too (inr excluded) = undetermined (inr (turn p branch n m excluded))

  new_pair : (a b : ℕ) → IsYes said a b → IsYes branch a b ⊎ (((a ≡ m) × (b ≡ n)) ⊎ ((a ≡ n) × (b ≡ m)))
  new_pair a b is = elim (yes_cases branch (Yes m n) a b is) [ inl old ↦ inl old | inr new ↦ inr (pair_is a b m n new) ]

  yes_m : IsYes said m n
  yes_m = list_any-append (says_yes m n) branch (Yes m n ∷ []) ∙ or_right (list_any (says_yes m n) branch) _ (or_left _ false (grind arith))

  yes_n : IsYes said n m
  yes_n = laws.yes_turned said m n yes_m

  -- a chain's end that gains a neighbour has an old one besides
  gains : (a v b : ℕ) (path : List ℕ) → IsYes said a v → ¬ (IsDetermined p branch a v) → Excluded p branch a b → ¬ (IsYes branch a b) → YesPath branch a path b → Excluded p said a b
  gains a v b [] new not_yet excluded apart steps = same steps
  gains a v b (z ∷ path) new not_yet excluded apart steps = first_full (record {
    x = z;
    y = v;
    x_yes = yes_old branch (Yes m n) a z steps.0;
    y_yes = new;
    apart = λ is. not_yet (inl (subst (λ u. IsYes branch a u) is steps.0));
    x_other = λ is. apart (subst (λ u. IsYes branch a u) is steps.0);
    y_other = λ is. not_yet (inr (subst (λ u. Excluded p branch a u) (sym is) excluded));
  })

  -- an edge of the pair, in a pair that was the two ends of a chain
  touched : (a b : ℕ) → (a ≡ m) ⊎ (a ≡ n) → Excluded p branch a b → ¬ (IsYes branch a b) → AreJoined branch a b → Excluded p said a b
  touched a b (inl is) excluded apart joined =
      gains a n b joined.0 (subst (λ u. IsYes said u n) (sym is) yes_m) (subst (λ u. ¬ (IsDetermined p branch u n)) (sym is) undetermined) excluded apart joined.1
  touched a b (inr is) excluded apart joined =
      gains a m b joined.0 (subst (λ u. IsYes said u m) (sym is) yes_n) (subst (λ u. ¬ (IsDetermined p branch u m)) (sym is) turned_too) excluded apart joined.1

  beside : (a : ℕ) → (((a ≡ m) ⊎ (a ≡ n)) ⊎ ((a ≢ m) × (a ≢ n)))
  beside a = elim (cases_eq a m) [
    | inl one ↦ inl (inl one)
    | inr off ↦ elim (cases_eq a n) [ inl other ↦ inl (inr other) | inr none ↦ inr (off, none) ]
  ]

  untouched : (a b : ℕ) → (a ≢ m) × (a ≢ n) → IsYes said a b → IsYes branch a b
  untouched a b apart is = elim (new_pair a b is) [ inl old ↦ old | inr new ↦ elim new [ inl one ↦ absurd (apart.0 one.0) | inr other ↦ absurd (apart.1 other.0) ] ]

  end_kept : (a : ℕ) → (a ≢ m) × (a ≢ n) → IsChainEnd branch a → IsChainEnd said a
  end_kept a apart end = λ x y one other. end x y (untouched a x apart one) (untouched a y apart other)

  closes_kept : (a b : ℕ) → AreJoined branch a b → IsChainEnd branch a → IsChainEnd branch b → ¬ (IsYes branch a b) → Excluded p said a b
  closes_kept a b joined end_a end_b apart =
      let excluded : Excluded p branch a b = closes joined end_a end_b apart in
      elim (beside a) [
        | inl at_a ↦ touched a b at_a excluded apart joined
        | inr off_a ↦ elim (beside b) [
          | inl at_b ↦
              turn p said b a
              (touched b a at_b (turn p branch a b excluded) (λ yes. apart (laws.yes_turned branch b a yes)) (laws.turned branch a b joined))
          | inr off_b ↦ closes (joined_old branch (Yes m n) a b joined) (end_kept a off_a end_a) (end_kept b off_b end_b) (λ yes. apart (untouched a b off_a yes))
        ]
      ]

  -- what is joined was joined before, or the pair joins two chains
  abbrev Link : ℕ → ℕ → Type 0
  Link a b = AreJoined branch a b ⊎ ((AreJoined branch a m × AreJoined branch n b) ⊎ (AreJoined branch a n × AreJoined branch m b))

  here : (a b : ℕ) → a ≡ b → AreJoined branch a b
  here a b is = ([], is)

  one_step : (a z : ℕ) → IsYes branch a z → AreJoined branch a z
  one_step a z is = (z ∷ [], (is, refl))

  link_old : (a z b : ℕ) → AreJoined branch a z → Link z b → Link a b
  link_old a z b first (inl rest) = inl (laws.on branch a z b first rest)
  link_old a z b first (inr (inl rest)) = inr (inl (laws.on branch a z m first rest.0, rest.1))
  link_old a z b first (inr (inr rest)) = inr (inr (laws.on branch a z n first rest.0, rest.1))

  link_over : (b : ℕ) → Link n b → Link m b
  link_over b (inl rest) = inr (inl (here m m refl, rest))
  link_over b (inr (inl rest)) = inr (inl (here m m refl, rest.1))
  link_over b (inr (inr rest)) = inl rest.1

  link_back : (b : ℕ) → Link m b → Link n b
  link_back b (inl rest) = inr (inr (here n n refl, rest))
  link_back b (inr (inl rest)) = inl rest.1
  link_back b (inr (inr rest)) = inr (inr (here n n refl, rest.1))

  link_step : (a z b : ℕ) → IsYes branch a z ⊎ (((a ≡ m) × (z ≡ n)) ⊎ ((a ≡ n) × (z ≡ m))) → Link z b → Link a b
  link_step a z b (inl old) rest = link_old a z b (one_step a z old) rest
  link_step a z b (inr (inl new)) rest = subst (λ u. Link u b) (sym new.0) (link_over b (subst (λ u. Link u b) new.1 rest))
  link_step a z b (inr (inr new)) rest = subst (λ u. Link u b) (sym new.0) (link_back b (subst (λ u. Link u b) new.1 rest))

  pub links : (a b : ℕ) (path : List ℕ) → YesPath said a path b → Link a b
  links a b [] steps = inl (here a b steps)
  links a b (z ∷ path) steps = link_step a z b (new_pair a z steps.0) (links z b path steps.1)

  -- two chains that are too heavy together are so whichever of their edges name them
  each_moved : (a b u v : ℕ) → AreJoined branch u a → AreJoined branch v b → (es : List ℕ) → AllByRecursion (λ e. IsRequired p e × (AreJoined branch a e ⊎ AreJoined branch b e)) es →
      AllByRecursion (λ e. IsRequired p e × (AreJoined branch u e ⊎ AreJoined branch v e)) es
  each_moved a b u v to_a to_b [] all = tt
  each_moved a b u v to_a to_b (e ∷ es) all =
      ((all.0.0, elim all.0.1 [ inl one ↦ inl (laws.on branch u a e to_a one) | inr other ↦ inr (laws.on branch v b e to_b other) ]), each_moved a b u v to_a to_b es all.1)

  moved : (a b u v : ℕ) → AreJoined branch a u → AreJoined branch v b → ¬ (AreJoined branch a b) → IsHeavy p branch a b → Excluded p branch u v
  moved a b u v to_u from_v apart over =
      heavy (λ joined. apart (laws.on branch a u b to_u (laws.on branch u v b joined from_v)))
      (record { edges = over.edges; distinct = over.distinct; joined = each_moved a b u v (laws.turned branch a u to_u) from_v over.edges over.joined; over = over.over })

  apart_yet : (a b : ℕ) → ¬ (AreJoined branch a b) → IsHeavy p branch a b → Link a b → ⊥
  apart_yet a b apart over (inl joined) = apart joined
  apart_yet a b apart over (inr (inl both)) = undetermined (inr (moved a b m n both.0 both.1 apart over))
  apart_yet a b apart over (inr (inr both)) = turned_too (inr (moved a b n m both.0 both.1 apart over))

  excluded_said : (a b : ℕ) → Excluded p branch a b → Excluded p said a b
  excluded_said a b (same is) = same is
  excluded_said a b (said_no is) = said_no (no_old branch (Yes m n) a b is)
  excluded_said a b (first_full two) = first_full (two_old branch (Yes m n) a b two)
  excluded_said a b (second_full two) = second_full (two_old branch (Yes m n) b a two)
  excluded_said a b (closes joined end_a end_b apart) = closes_kept a b joined end_a end_b apart
  excluded_said a b (heavy apart over) = heavy (λ joined. apart_yet a b apart over (links a b joined.0 joined.1)) (heavy_old branch (Yes m n) p a b over)

-- no decision says yes but a yes
pub no_yes : (a b : ℕ) (branch : List Decision) (d : Decision) → says_yes a b d ≡ false → IsYes (branch ++ d ∷ []) a b → IsYes branch a b
no_yes a b branch d none is = elim (yes_cases branch d a b is) [ inl old ↦ old | inr new ↦ absurd (cc) ]

pub excluded_kept : (laws : YesPairsJoin) (turn : ExcludedIsSymmetric) (p : Problem) (branch : List Decision) (d : Decision) → IsOpenDecision p branch d → (a b : ℕ) →
    Excluded p branch a b → Excluded p (branch ++ d ∷ []) a b
excluded_kept laws turn p branch (Yes m n) undetermined a b is = excluded_said laws turn p branch m n undetermined a b is
excluded_kept laws turn p branch (No m n) undetermined a b is = excluded_plain branch (No m n) p (λ x y yes. no_yes x y branch (No m n) refl yes) a b is
excluded_kept laws turn p branch (Low shore k) undetermined a b is = excluded_plain branch (Low shore k) p (λ x y yes. no_yes x y branch (Low shore k) refl yes) a b is
excluded_kept laws turn p branch (High shore k) undetermined a b is = excluded_plain branch (High shore k) p (λ x y yes. no_yes x y branch (High shore k) refl yes) a b is

-- The numbers of shores.

-- where there was an upper number, there is one that is no higher
abbrev IsNoHigher : Option ℕ → Option ℕ → Type 0
IsNoHigher None new = Unit {0}
IsNoHigher (Some k) None = ⊥
IsNoHigher (Some k) (Some j) = j ≤ k

lower_step : (b : Bool) (k : ℕ) (old new : Option ℕ) → IsNoHigher old new → IsNoHigher (if b then smaller (Some k) old else old) (if b then smaller (Some k) new else new)
lower_step true k None None less = omega arith
lower_step true k None (Some j) less = omega arith
lower_step true k (Some i) None less = absurd less
lower_step true k (Some i) (Some j) less = omega (arith, less)
lower_step false k old new less = less

upper_falls : (shore : ℕ) (branch : List Decision) (d : Decision) → IsNoHigher (lowest shore branch) (lowest shore (branch ++ d ∷ []))
upper_falls shore [] d = tt
upper_falls shore (Yes a b ∷ branch) d = upper_falls shore branch d
upper_falls shore (No a b ∷ branch) d = upper_falls shore branch d
upper_falls shore (Low s k ∷ branch) d = lower_step (s == shore) k (lowest shore branch) (lowest shore (branch ++ d ∷ [])) (upper_falls shore branch d)
upper_falls shore (High s k ∷ branch) d = upper_falls shore branch d

higher_step : (b : Bool) (k old new : ℕ) → old ≤ new → (if b then max (k + 1) old else old) ≤ (if b then max (k + 1) new else new)
higher_step true k old new more = omega (arith, more)
higher_step false k old new more = more

highest_rises : (shore : ℕ) (branch : List Decision) (d : Decision) → highest shore branch ≤ highest shore (branch ++ d ∷ [])
highest_rises shore [] d = omega arith
highest_rises shore (Yes a b ∷ branch) d = highest_rises shore branch d
highest_rises shore (No a b ∷ branch) d = highest_rises shore branch d
highest_rises shore (Low s k ∷ branch) d = highest_rises shore branch d
highest_rises shore (High s k ∷ branch) d = higher_step (s == shore) k (highest shore branch) (highest shore (branch ++ d ∷ [])) (highest_rises shore branch d)

parity_rises : (r m n : ℕ) → m ≤ n → to_parity r m ≤ to_parity r n
parity_rises r m n more = omega (arith, more)

lower_rises : (p : Problem) (pool : List (List ℕ)) (branch : List Decision) (d : Decision) (shore : ℕ) → lower_of p pool branch shore ≤ lower_of p pool (branch ++ d ∷ []) shore
lower_rises p pool branch d shore =
    let inside = is_in (shore_at pool shore) in
    parity_rises (required_crossings p inside) (max (need p inside) (highest shore branch)) (max (need p inside) (highest shore (branch ++ d ∷ [])))
    (omega (arith, highest_rises shore branch d))

-- Values.

some_kept : (old new : Option ℕ) → IsNoHigher old new → IsSome old → IsSome new
some_kept None new less some = cc
some_kept (Some k) None less some = absurd less
some_kept (Some k) (Some j) less some = some

weighs_more : (w : ℤ) (low more : ℕ) (old new : Option ℕ) → low ≤ more → IsNoHigher old new → (w <ℤ pos 0 → IsSome old) → weigh w low (unwrap_or old 0) ≤ℤ weigh w more (unwrap_or new 0)
weighs_more (pos w) low more old new rises falls some = omega (arith, ints, mul-le-mul_left w rises)
weighs_more (negsuc w) low more None new rises falls some = let none : IsSome {T = ℕ} None = some (omega (arith, ints)) in cc
weighs_more (negsuc w) low more (Some k) None rises falls some = absurd falls
weighs_more (negsuc w) low more (Some k) (Some j) rises falls some = omega (arith, ints, mul-le-mul_left (suc w) falls)

sum_rises : (f g : Weight → ℤ) (ws : List Weight) → AllByRecursion (λ (w : Weight). f w ≤ℤ g w) ws → signed_sum f ws ≤ℤ signed_sum g ws
sum_rises f g [] all = omega (arith, ints)
sum_rises f g (w ∷ ws) all = omega (arith, ints, all.0, sum_rises f g ws all.1)

module _ (p : Problem) (pool : List (List ℕ)) (branch : List Decision) (d : Decision) where
  abbrev next : List Decision
  next = branch ++ d ∷ []

  each_upper : (ws : List Weight) → AllByRecursion (λ (w : Weight). w.weight <ℤ pos 0 → IsSome (lowest w.shore branch)) ws →
      AllByRecursion (λ (w : Weight). w.weight <ℤ pos 0 → IsSome (lowest w.shore next)) ws
  each_upper [] all = tt
  each_upper (w ∷ ws) all = ((λ negative. some_kept (lowest w.shore branch) (lowest w.shore next) (upper_falls w.shore branch d) (all.0 negative)), each_upper ws all.1)

  -- what the branch says yes to it says yes to with one decision more
  pair_stays : (group : List ℕ) → IsTrue (is_yes_pair branch group) → IsTrue (is_yes_pair next group)
  pair_stays [] is = cc
  pair_stays (a ∷ []) is = cc
  pair_stays (a ∷ b ∷ []) is = yes_old branch d a b is
  pair_stays (a ∷ b ∷ c ∷ rest) is = cc

  each_pair : (groups : List GroupWeight) → AllByRecursion (λ (w : GroupWeight). w.weight <ℤ pos 0 → IsTrue (is_yes_pair branch w.edges)) groups →
      AllByRecursion (λ (w : GroupWeight). w.weight <ℤ pos 0 → IsTrue (is_yes_pair next w.edges)) groups
  each_pair [] all = tt
  each_pair (w ∷ groups) all = ((λ negative. pair_stays w.edges (all.0 negative)), each_pair groups all.1)

  each_rises : (ws : List Weight) → AllByRecursion (λ (w : Weight). w.weight <ℤ pos 0 → IsSome (lowest w.shore branch)) ws →
      AllByRecursion (λ (w : Weight). weight_value (rules_of p pool branch) w ≤ℤ weight_value (rules_of p pool next) w) ws
  each_rises [] all = tt
  each_rises (w ∷ ws) all = (
    weighs_more w.weight (lower_of p pool branch w.shore) (lower_of p pool next w.shore) (lowest w.shore branch) (lowest w.shore next)
        (lower_rises p pool branch d w.shore) (upper_falls w.shore branch d) all.0,
    each_rises ws all.1,
  )

  value_rises : (set : Prices) → AllByRecursion (λ (w : Weight). w.weight <ℤ pos 0 → IsSome (lowest w.shore branch)) set.weights →
      value_of (rules_of p pool branch) set ≤ℤ value_of (rules_of p pool next) set
  value_rises set all = omega (arith, ints, sum_rises (weight_value (rules_of p pool branch)) (weight_value (rules_of p pool next)) set.weights (each_rises set.weights all))

  -- each relaxed tour was one before
  tours_kept : (set : Prices) → ((a b : ℕ) → Excluded p branch a b → Excluded p next a b) →
      PaysAtLeast p (λ a b. ¬ (Excluded p branch a b)) (task_adds p set) (price_of (crossing_prices p pool set)) set.groups →
      PaysAtLeast p (λ a b. ¬ (Excluded p next a b)) (task_adds p set) (price_of (crossing_prices p pool set)) set.groups
  tours_kept set kept pays = λ tasks n tour least. pays tasks n (record {
    some = tour.some;
    required = tour.required;
    load = tour.load;
    each_allowed = λ a b followed excluded. tour.each_allowed a b followed (kept a b excluded);
  }) least

pub decisions_keep : (laws : YesPairsJoin) (turn : ExcludedIsSymmetric) (p : Problem) (pool : List (List ℕ)) (branch : List Decision) (d : Decision) (set : Prices) →
    IsOpenDecision p branch d → FitsBranch p pool branch set → IsKept p pool branch d set
decisions_keep laws turn p pool branch d set undetermined is = record {
  fits = record {
    one_each = is.one_each;
    fits = record {
      not_negative = is.fits.not_negative;
      has_upper = each_upper p pool branch d set.weights is.fits.has_upper;
      has_yes = each_pair p pool branch d set.groups is.fits.has_yes;
      tours = tours_kept p pool branch d set (excluded_kept laws turn p branch d undetermined) is.fits.tours;
    };
  };
  no_lower = value_rises p pool branch d set is.fits.has_upper;
}
