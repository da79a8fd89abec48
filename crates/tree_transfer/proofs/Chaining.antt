-- Yes pairs, chains and excluded pairs under a branch and under the one that it is carried over to.
use Rattle.std.proofs.Common.{◌≡◌, ℕ, ◌<◌, ◌≤◌, ◌==◌, Bool, true, false, ◌||◌, not, List, [], ◌∷◌, ◌++◌, refl, sym, subst, ◌∙◌, arith, inl, inr, ◌⊎◌}
use Rattle.std.specs.Prelude.{sum_by}
use Rattle.std.specs.List.{AllByRecursion, list_any}
use Rattle.std.proofs.lemmas.Bool.{eq-eqb, or_cases, or_left, or_right}
use Rattle.std.proofs.lemmas.List.Folds.{list_any-append}
use Rattle.std.proofs.lemmas.List.Sums.{sum_by-cons}
use Rattle.carp_base.specs.Problem.{Problem, IsEdgeNumber, IsRequired, IsValid, edge_at}
use Rattle.decision_chains.specs.Exclusions.{says_yes, says_no, IsYes, IsNo, YesPath, AreJoined, Detour, IsChainEnd, HasTwoOthers, AreDistinct, IsHeavy, Excluded, same, said_no, first_full, second_full, closes, heavy}
use Rattle.decision_chains.specs.declared.decision.Decision.{Decision}
use Rattle.grown_trees.specs.Laws.{DecisionsKeepChainsLight, DecisionsKeepExclusions, IsOpenDecision}
use Rattle.tree_transfer.specs.Raised.{IsRaised}

-- Where yes pairs of one branch are yes pairs of another one.

module _ (from to : List Decision) (across : (a b : ℕ) → IsYes from a b → IsYes to a b) where
  path_over : (a b : ℕ) (path : List ℕ) → YesPath from a path b → YesPath to a path b
  path_over a b [] steps = steps
  path_over a b (z ∷ path) steps = (across a z steps.0, path_over z b path steps.1)

  pub joined_over : (a b : ℕ) → AreJoined from a b → AreJoined to a b
  joined_over a b joined = (joined.0, path_over a b joined.0 joined.1)

  pub two_over : (a b : ℕ) → HasTwoOthers from a b → HasTwoOthers to a b
  two_over a b two = record {
    x = two.x;
    y = two.y;
    x_yes = across a two.x two.x_yes;
    y_yes = across a two.y two.y_yes;
    apart = two.apart;
    x_other = two.x_other;
    y_other = two.y_other;
  }

  pub detour_over : (a b x : ℕ) (path : List ℕ) (y : ℕ) → Detour from a b x path y → Detour to a b x path y
  detour_over a b x [] y detour = detour
  detour_over a b x (z ∷ path) y detour = (across x z detour.0, detour.1, detour.2, detour_over a b z path y detour.3)

  end_over : (a : ℕ) → IsChainEnd to a → IsChainEnd from a
  end_over a end x y one other = end x y (across a x one) (across a y other)

-- The demands of an instance that was raised.

module _ (p q : Problem) (valid : IsValid q) (rise : IsRaised p q) where
  pub required_now : (e : ℕ) → IsRequired p e → IsRequired q e
  required_now e is = record { from_one = is.from_one; in_range = subst (λ m. e ≤ m) (sym rise.required) is.in_range }

  demand_rises : (e : ℕ) → IsRequired p e → (edge_at p e).demand ≤ (edge_at q e).demand
  demand_rises e is =
      let required : IsRequired q e = required_now e is in
      let number : IsEdgeNumber q e = record { from_one = is.from_one; in_range = omega (arith, required.in_range, valid.required_in) } in
      subst (λ n. (edge_at p n).demand ≤ (edge_at q e).demand) (rise.same e required) (rise.edges e number).demand

  -- each edge is required, and of the chain of one of two others
  abbrev OfChains : Problem → List Decision → (a b : ℕ) → List ℕ → Type 0
  OfChains r branch a b es = AllByRecursion (λ e. IsRequired r e × (AreJoined branch a e ⊎ AreJoined branch b e)) es

  abbrev old_demand : ℕ → ℕ
  old_demand e = (edge_at p e).demand

  abbrev new_demand : ℕ → ℕ
  new_demand e = (edge_at q e).demand

  load_rises : (branch : List Decision) (a b : ℕ) (es : List ℕ) → OfChains p branch a b es → sum_by old_demand es ≤ sum_by new_demand es
  load_rises branch a b [] all = omega arith
  load_rises branch a b (e ∷ es) all =
      omega (arith, sum_by-cons old_demand e es, sum_by-cons new_demand e es, demand_rises e all.0.0, load_rises branch a b es all.1)

  module _ (from to : List Decision) (across : (a b : ℕ) → IsYes from a b → IsYes to a b) where
    each_over : (a b : ℕ) (es : List ℕ) → OfChains p from a b es → OfChains q to a b es
    each_over a b [] all = tt
    each_over a b (e ∷ es) all = (
      (required_now e all.0.0, elim all.0.1 [ inl one ↦ inl (joined_over from to across a e one) | inr other ↦ inr (joined_over from to across b e other) ]),
      each_over a b es all.1,
    )

    pub heavy_over : (a b : ℕ) → IsHeavy p from a b → IsHeavy q to a b
    heavy_over a b over = record {
      edges = over.edges;
      distinct = over.distinct;
      joined = each_over a b over.edges over.joined;
      over = subst (λ m. m < sum_by new_demand over.edges) (sym rise.capacity) (omega (arith, over.over, load_rises from a b over.edges over.joined));
    }

    module _ (back : (a b : ℕ) → IsYes to a b → IsYes from a b) (nos : (a b : ℕ) → IsNo from a b → Excluded q to a b) where
      excluded_over : (a b : ℕ) → Excluded p from a b → Excluded q to a b
      excluded_over a b (same is) = same is
      excluded_over a b (said_no is) = nos a b is
      excluded_over a b (first_full two) = first_full (two_over from to across a b two)
      excluded_over a b (second_full two) = second_full (two_over from to across b a two)
      excluded_over a b (closes joined end_a end_b apart) =
          closes (joined_over from to across a b joined) (end_over to from back a end_a) (end_over to from back b end_b) (λ is. apart (back a b is))
      excluded_over a b (heavy apart over) = heavy (λ joined. apart (joined_over to from back a b joined)) (heavy_over a b over)

-- the yes pairs stay, and are of required edges; what was excluded is so, and no chain is too heavy
pub record ChainsFollow (p q : Problem) (old new : List Decision) : Type 0 where
  pub yes_to : (a b : ℕ) → IsYes old a b → IsYes new a b
  pub yes_from : (a b : ℕ) → IsYes new a b → IsYes old a b
  pub required : (a b : ℕ) → IsYes new a b → IsRequired q b
  pub excluded : (a b : ℕ) → Excluded p old a b → Excluded q new a b
  pub light : (c : ℕ) → ¬ (IsHeavy q new c c)

-- One decision more.

one_or : (b : Bool) → (b || false) ≡ true → b ≡ true
one_or true is = refl
one_or false is = is

module _ (branch : List Decision) (d : Decision) where
  yes_old : (a b : ℕ) → IsYes branch a b → IsYes (branch ++ d ∷ []) a b
  yes_old a b is = list_any-append (says_yes a b) branch (d ∷ []) ∙ or_left (list_any (says_yes a b) branch) _ is

  yes_here : (a b : ℕ) → says_yes a b d ≡ true → IsYes (branch ++ d ∷ []) a b
  yes_here a b is = list_any-append (says_yes a b) branch (d ∷ []) ∙ or_right (list_any (says_yes a b) branch) _ (or_left (says_yes a b d) false is)

  no_here : (a b : ℕ) → says_no a b d ≡ true → IsNo (branch ++ d ∷ []) a b
  no_here a b is = list_any-append (says_no a b) branch (d ∷ []) ∙ or_right (list_any (says_no a b) branch) _ (or_left (says_no a b d) false is)

  yes_cases : (a b : ℕ) → IsYes (branch ++ d ∷ []) a b → IsYes branch a b ⊎ (says_yes a b d ≡ true)
  yes_cases a b is = elim (or_cases (list_any (says_yes a b) branch) (list_any (says_yes a b) (d ∷ [])) (sym (list_any-append (says_yes a b) branch (d ∷ [])) ∙ is)) [
    | inl old ↦ inl old
    | inr new ↦ inr (one_or (says_yes a b d) new)
  ]

  no_cases : (a b : ℕ) → IsNo (branch ++ d ∷ []) a b → IsNo branch a b ⊎ (says_no a b d ≡ true)
  no_cases a b is = elim (or_cases (list_any (says_no a b) branch) (list_any (says_no a b) (d ∷ [])) (sym (list_any-append (says_no a b) branch (d ∷ [])) ∙ is)) [
    | inl old ↦ inl old
    | inr new ↦ inr (one_or (says_no a b d) new)
  ]

module _ (p q : Problem) (valid : IsValid q) (rise : IsRaised p q) (old new : List Decision) (chains : ChainsFollow p q old new) (d : Decision) where
  -- both branches gain the decision
  module _ (kept : DecisionsKeepExclusions) (light : DecisionsKeepChainsLight) (undetermined : IsOpenDecision q new d) (of_required : (a b : ℕ) → says_yes a b d ≡ true → IsRequired q b) where
    both_to : (a b : ℕ) → IsYes (old ++ d ∷ []) a b → IsYes (new ++ d ∷ []) a b
    both_to a b is = elim (yes_cases old d a b is) [ inl before ↦ yes_old new d a b (chains.yes_to a b before) | inr says ↦ yes_here new d a b says ]

    both_from : (a b : ℕ) → IsYes (new ++ d ∷ []) a b → IsYes (old ++ d ∷ []) a b
    both_from a b is = elim (yes_cases new d a b is) [ inl before ↦ yes_old old d a b (chains.yes_from a b before) | inr says ↦ yes_here old d a b says ]

    both_no : (a b : ℕ) → IsNo (old ++ d ∷ []) a b → Excluded q (new ++ d ∷ []) a b
    both_no a b is = elim (no_cases old d a b is) [
      | inl before ↦ kept q new d undetermined a b (chains.excluded a b (said_no before))
      | inr says ↦ said_no (no_here new d a b says)
    ]

    pub chains_both : ChainsFollow p q (old ++ d ∷ []) (new ++ d ∷ [])
    chains_both = record {
      yes_to = both_to;
      yes_from = both_from;
      required = λ a b is. elim (yes_cases new d a b is) [ inl before ↦ chains.required a b before | inr says ↦ of_required a b says ];
      excluded = excluded_over p q valid rise (old ++ d ∷ []) (new ++ d ∷ []) both_to both_from both_no;
      light = light q new d undetermined chains.light;
    }

  -- the old one gains a decision that says no yes, and no to none but excluded pairs
  module _ (never : (a b : ℕ) → says_yes a b d ≡ true → ⊥) (nos : (a b : ℕ) → says_no a b d ≡ true → Excluded q new a b) where
    old_to : (a b : ℕ) → IsYes (old ++ d ∷ []) a b → IsYes new a b
    old_to a b is = elim (yes_cases old d a b is) [ inl before ↦ chains.yes_to a b before | inr says ↦ absurd (never a b says) ]

    old_from : (a b : ℕ) → IsYes new a b → IsYes (old ++ d ∷ []) a b
    old_from a b is = yes_old old d a b (chains.yes_from a b is)

    old_no : (a b : ℕ) → IsNo (old ++ d ∷ []) a b → Excluded q new a b
    old_no a b is = elim (no_cases old d a b is) [ inl before ↦ chains.excluded a b (said_no before) | inr says ↦ nos a b says ]

    pub chains_old : ChainsFollow p q (old ++ d ∷ []) new
    chains_old = record {
      yes_to = old_to;
      yes_from = old_from;
      required = chains.required;
      excluded = excluded_over p q valid rise (old ++ d ∷ []) new old_to old_from old_no;
      light = chains.light;
    }

-- At the root: each edge is a chain by itself, which a vehicle carries.

pub alone : (c e : ℕ) (path : List ℕ) → YesPath [] c path e → c ≡ e
alone c e [] steps = steps
alone c e (z ∷ path) steps = let never : false ≡ true = steps.0 in cc

alone_in : (c e : ℕ) → AreJoined [] c e ⊎ AreJoined [] c e → c ≡ e
alone_in c e (inl joined) = alone c e joined.0 joined.1
alone_in c e (inr joined) = alone c e joined.0 joined.1

twice : (e f : ℕ) (es : List ℕ) → f ≡ e → AreDistinct (e ∷ f ∷ es) → ⊥
twice e f es is distinct = let told : not ((f == e) || list_any (λ x. x == e) es) ≡ true = distinct.0 in let never : false ≡ true = rw (eq-eqb f e is) at told in cc

carried_alone : (q : Problem) → IsValid q → (c : ℕ) (es : List ℕ) → AreDistinct es →
    AllByRecursion (λ e. IsRequired q e × (AreJoined [] c e ⊎ AreJoined [] c e)) es → q.capacity < sum_by (λ e. (edge_at q e).demand) es → ⊥
carried_alone q valid c [] distinct all over = omega (arith, over)
carried_alone q valid c (e ∷ []) distinct all over = omega (arith, over, (valid.tasks e all.0.0).demand_fits)
carried_alone q valid c (e ∷ f ∷ es) distinct all over = twice e f es (sym (alone_in c f all.1.0.1) ∙ alone_in c e all.0.1) distinct

pub chains_root : (p q : Problem) → IsValid q → IsRaised p q → ChainsFollow p q [] []
chains_root p q valid rise = record {
  yes_to = λ a b is. is;
  yes_from = λ a b is. is;
  required = λ a b is. cc;
  excluded = excluded_over p q valid rise [] [] (λ a b is. is) (λ a b is. is) (λ a b is. cc);
  light = λ c over. carried_alone q valid c over.edges over.distinct over.joined over.over;
}
