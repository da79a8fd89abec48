-- The sum over the chains of a branch does not depend on the edges by which they are named.
use Rattle.std.proofs.Common.{◌≡◌, ◌≢◌, ℕ, zero, suc, ◌+◌, ◌≤◌, ◌<◌, ◌==◌, Bool, true, false, IsTrue, if◌then◌else◌, refl, sym, ap, subst, arith, inl, inr, ◌⊎◌, ◌↔◌, List, [], ◌∷◌}
use Rattle.std.proofs.lemmas.Bool.{cases_eq}
use Rattle.std.proofs.lemmas.Bool.Decides.{nat_tests}
use Rattle.carp_base.specs.Problem.{Problem, IsRequired}
use Rattle.plan_model.specs.Sums.{sum_to}
use Rattle.plan_model.specs.declared.step.Step.{Step}
use Rattle.decision_chains.specs.declared.decision.Decision.{Decision}
use Rattle.decision_chains.specs.Exclusions.{IsYes, YesPath, AreJoined}
use Rattle.decision_chains.specs.Laws.{YesPairsJoin}
use Rattle.decision_chains.specs.FixedValue.{ServesChain, HasChainCost, HasFixedValue}
use Rattle.decision_chains.specs.PlanLaws.{ChainsCostLess, FixedValuesCompare, FixedValueIsUnique}

-- a number is left out
abbrev without : ℕ → (ℕ → ℕ) → ℕ → ℕ
without f h x = if x == f then 0 else h x

out_same : (f : ℕ) (h : ℕ → ℕ) → without f h f ≡ 0
out_same f h = grind (arith, nat_tests)

out_other : (f x : ℕ) (h : ℕ → ℕ) → x ≢ f → without f h x ≡ h x
out_other f x h other = grind (arith, nat_tests)

out_after : (m f : ℕ) (h : ℕ → ℕ) → m < f → sum_to m (without f h) ≡ sum_to m h
out_after zero f h after = refl
out_after (suc m) f h after = omega (arith, out_after m f h (omega (arith, after)), out_other f (suc m) h (λ same. omega (arith, same, after)))

taken_out : (m f : ℕ) (h : ℕ → ℕ) → 1 ≤ f → f ≤ m → sum_to m h ≡ sum_to m (without f h) + h f
taken_out zero f h some within = absurd (omega (arith, some, within))
taken_out (suc m) f h some within = elim (cases_eq (suc m) f) [
  | inl same ↦ omega (arith, out_after m f h (omega (arith, same)), subst (λ x. without f h x ≡ 0) (sym same) (out_same f h), ap h same)
  | inr other ↦ omega (arith, taken_out m f h some (omega (arith, within, other)), out_other f (suc m) h other)
]

-- the number is matched with one of the first m that costs no less
record IsMatched (R : ℕ → ℕ → Type 0) (h : ℕ → ℕ) (m e cost : ℕ) : Type 0 where
  pub with' : ℕ
  pub some : 1 ≤ with'
  pub within : with' ≤ m
  pub matched : R e with'
  pub enough : cost ≤ h with'

if_true : (b : Bool) (x : ℕ) → b ≡ true → (if b then x else 0) ≡ x
if_true b x is = rw is refl

if_false : (b : Bool) (x : ℕ) → b ≡ false → (if b then x else 0) ≡ 0
if_false b x is = rw is refl

either : (b : Bool) → (b ≡ true) ⊎ (b ≡ false)
either true = inl refl
either false = inr refl

sum_le : (R : ℕ → ℕ → Type 0) (first : ℕ → Bool) (cost : ℕ → ℕ) (n m : ℕ) (h : ℕ → ℕ) →
    ((e : ℕ) → 1 ≤ e → e ≤ n → first e ≡ true → IsMatched R h m e (cost e)) → ((e d f : ℕ) → R e f → R d f → first e ≡ true → first d ≡ true → e ≡ d) →
    sum_to n (λ e. if first e then cost e else 0) ≤ sum_to m h
sum_le R first cost zero m h total once = omega arith
sum_le R first cost (suc n) m h total once = elim (either (first (suc n))) [
  | inr none ↦
      omega (arith, if_false (first (suc n)) (cost (suc n)) none, sum_le R first cost n m h (λ e some within. total e some (omega (arith, within))) once)
  | inl is ↦
      let here = total (suc n) (omega arith) (omega arith) is in
      let f = here.with' in
      let rest : sum_to n (λ e. if first e then cost e else 0) ≤ sum_to m (without f h) =
      sum_le R first cost n m (without f h)
      (λ e some within named.
      let there = total e some (omega (arith, within)) named in
      let apart : there.with' ≢ f = λ same. omega (arith, within, once e (suc n) f (subst (R e) same there.matched) here.matched named is) in
      record { with' = there.with'; some = there.some; within = there.within; matched = there.matched; enough = omega (arith, there.enough, out_other f there.with' h apart) })
      once in
      omega (arith, rest, if_true (first (suc n)) (cost (suc n)) is, taken_out m f h here.some here.within, here.enough)
]

module _ (laws : YesPairsJoin) where
  serves_also : (p : Problem) (branch : List Decision) (e f : ℕ) (walk : List Step) → AreJoined branch e f → ServesChain p branch e walk → ServesChain p branch f walk
  serves_also p branch e f walk joined serves = record {
    leads = serves.leads;
    just = λ g some. laws.on branch f e g (laws.turned branch e f joined) (serves.just g some);
    each = λ g from_f. serves.each g (laws.on branch e f g joined from_f);
    order = serves.order;
  }

  module _ (less more : Problem) (branch other : List Decision) (same : more.required ≡ less.required) (as_yes : (a b : ℕ) → IsYes other a b ↔ IsYes branch a b)
      (cheaper : ChainsCostLess less more branch other) where
    path_also : (a : ℕ) (path : List ℕ) (b : ℕ) → YesPath other a path b → YesPath branch a path b
    path_also a [] b leads = leads
    path_also a (x ∷ xs) b leads = ((as_yes a x).0 leads.0, path_also x xs b leads.1)

    joined_also : (a b : ℕ) → AreJoined other a b → AreJoined branch a b
    joined_also a b joined = (joined.0, path_also a joined.0 b joined.1)

    cost_le : (e f a b : ℕ) → IsRequired more f → AreJoined branch e f → HasChainCost less branch e a → HasChainCost more other f b → a ≤ b
    cost_le e f a b required joined has there =
        let found = cheaper f there.walk required there.serves in
        omega (arith, there.costs, found.within, has.least found.walk (serves_also less branch f e found.walk (laws.turned branch e f joined) found.serves))

    value_le : (v w : ℕ) → HasFixedValue less branch v → HasFixedValue more other w → v ≤ w
    value_le v w one two =
        let R : ℕ → ℕ → Type 0 = λ e f. AreJoined branch e f × IsTrue (two.first f) in
        let le : sum_to less.required (λ e. if one.first e then one.cost e else 0) ≤ sum_to more.required (λ e. if two.first e then two.cost e else 0) =
        sum_le R one.first one.cost less.required more.required (λ e. if two.first e then two.cost e else 0)
        (λ e some within named.
        let required : IsRequired less e = record { from_one = some; in_range = within } in
        let there = two.some_first e (record { from_one = some; in_range = omega (arith, within, same) }) in
        let joined = joined_also e there.0 there.2 in
        record {
          with' = there.0;
          some = there.1.from_one;
          within = there.1.in_range;
          matched = (joined, there.3);
          enough = omega (
            arith,
            if_true (two.first there.0) (two.cost there.0) there.3,
            cost_le e there.0 (one.cost e) (two.cost there.0) there.1 joined (one.costs e required named) (two.costs there.0 there.1 there.3),
          );
        })
        (λ e d f to_f from_d named also. one.one_first e d (laws.on branch e f d to_f.0 (laws.turned branch d f from_d.0)) named also) in
        omega (arith, le, one.sum_is, two.sum_is)

  pub values_compare : FixedValuesCompare
  values_compare less more branch other value most same as_yes cheaper one two = value_le less more branch other same as_yes cheaper value most one two

  pub value_unique : FixedValueIsUnique
  value_unique p branch value other one two =
      omega (
        arith,
        value_le p p branch branch refl (λ a b. (λ is. is, λ is. is)) itself value other one two,
        value_le p p branch branch refl (λ a b. (λ is. is, λ is. is)) itself other value two one,
      )
    where
      itself : ChainsCostLess p p branch branch
      itself e walk required serves = record { walk = walk; serves = serves; within = omega arith }
