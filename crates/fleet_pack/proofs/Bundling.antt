-- What one more choice does to the bundles.
use Rattle.std.proofs.Common.{◌≡◌, ℕ, zero, suc, ◌+◌, ◌≤◌, ◌<◌, ◌==◌, if◌then◌else◌, min, max, List, [], ◌∷◌, ◌++◌, refl, sym, ap, ◌∙◌, subst, arith, inl, inr}
use Rattle.std.specs.List.{All}
use Rattle.std.proofs.lemmas.List.Elements.{All-append, All-cons, All-nil}
use Rattle.std.proofs.lemmas.Bool.{cases_eq, cases_lt, eq-eqb, ne_eqb}
use Rattle.carp_base.specs.Problem.{Problem, IsValid}
use Rattle.plan_model.specs.Sums.{sum_to}
use Rattle.packing_trees.specs.declared.node.PackChoice.{PackChoice}
use Rattle.packing_trees.specs.declared.node.PackChoice.TheVariants.{Together, Apart}
use Rattle.packing_trees.specs.Bundles.{IsPair, IsChoice, IsClosedPair, joined, bundles_after, bundle_of}
use Rattle.fleet_pack.specs.declared.share.Share.{Share}
use Rattle.fleet_pack.specs.FirstFit.{demand_of}
use Rattle.fleet_pack.specs.States.{IsLeaf, IsLight}

after_append : (before : ℕ → ℕ) (branch more : List PackChoice) → bundles_after before (branch ++ more) ≡ bundles_after (bundles_after before branch) more
after_append before [] more = refl
after_append before (Together a b ∷ branch) more = after_append (joined before a b) branch more
after_append before (Apart a b ∷ branch) more = after_append before branch more

pub of_apart : (branch : List PackChoice) (a b : ℕ) → bundle_of (branch ++ Apart a b ∷ []) ≡ bundle_of branch
of_apart branch a b = after_append (λ e. e) branch (Apart a b ∷ [])

pub of_together : (branch : List PackChoice) (a b : ℕ) → bundle_of (branch ++ Together a b ∷ []) ≡ joined (bundle_of branch) a b
of_together branch a b = after_append (λ e. e) branch (Together a b ∷ [])

-- Sums.

pub sum_le : (m : ℕ) (f g : ℕ → ℕ) → ((e : ℕ) → f e ≤ g e) → sum_to m f ≤ sum_to m g
sum_le zero f g le = omega arith
sum_le (suc m) f g le = omega (arith, sum_le m f g le, le (suc m))

sum_plus : (m : ℕ) (f g : ℕ → ℕ) → sum_to m (λ e. f e + g e) ≡ sum_to m f + sum_to m g
sum_plus zero f g = refl
sum_plus (suc m) f g = omega (arith, sum_plus m f g)

-- Weights, read off the numbers of the bundles.

share_of : (p : Problem) (names : ℕ → ℕ) (bundle : ℕ) → ℕ → ℕ
share_of p names bundle e = if names e == bundle then demand_of p e else 0

in_it : (p : Problem) (names : ℕ → ℕ) (bundle e : ℕ) → names e ≡ bundle → share_of p names bundle e ≡ demand_of p e
unfolding share_of
in_it p names bundle e is = rw (eq-eqb (names e) bundle is) refl

not_in_it : (p : Problem) (names : ℕ → ℕ) (bundle e : ℕ) → (names e ≡ bundle → ⊥) → share_of p names bundle e ≡ 0
unfolding share_of
not_in_it p names bundle e other = rw (ne_eqb (names e) bundle other) refl

joins_at : (names : ℕ → ℕ) (a b e : ℕ) → names e ≡ max (names a) (names b) → joined names a b e ≡ min (names a) (names b)
joins_at names a b e is = rw (eq-eqb (names e) (max (names a) (names b)) is) refl

stays_at : (names : ℕ → ℕ) (a b e : ℕ) → (names e ≡ max (names a) (names b) → ⊥) → joined names a b e ≡ names e
stays_at names a b e other = rw (ne_eqb (names e) (max (names a) (names b)) other) refl

-- the joined bundle is as heavy as both at most
share_of_both : (p : Problem) (names : ℕ → ℕ) (a b e : ℕ) →
    share_of p (joined names a b) (min (names a) (names b)) e ≤ share_of p names (names a) e + share_of p names (names b) e
share_of_both p names a b e = elim (cases_eq (names e) (names a)) [
  | inl is ↦ omega (arith, in_it p names (names a) e is, at_most p (joined names a b) (min (names a) (names b)) e)
  | inr not_a ↦ elim (cases_eq (names e) (names b)) [
    | inl is ↦ omega (arith, in_it p names (names b) e is, at_most p (joined names a b) (min (names a) (names b)) e)
    | inr not_b ↦
        let stays : joined names a b e ≡ names e = stays_at names a b e (λ is. absurd (omega (arith, is, not_a, not_b))) in
        omega (arith, not_in_it p (joined names a b) (min (names a) (names b)) e (λ is. absurd (omega (arith, is, stays, not_a, not_b))))
  ]
] where
  at_most : (p : Problem) (names : ℕ → ℕ) (bundle e : ℕ) → share_of p names bundle e ≤ demand_of p e
  at_most p names bundle e = elim (cases_eq (names e) bundle) [
    | inl is ↦ omega (arith, in_it p names bundle e is)
    | inr other ↦ omega (arith, not_in_it p names bundle e other)
  ]

-- and no other bundle is heavier
share_of_other : (p : Problem) (names : ℕ → ℕ) (a b bundle e : ℕ) → (bundle ≡ min (names a) (names b) → ⊥) → share_of p (joined names a b) bundle e ≤ share_of p names bundle e
share_of_other p names a b bundle e other = elim (cases_eq (names e) (max (names a) (names b))) [
  | inl is ↦ omega (arith, not_in_it p (joined names a b) bundle e (λ at. other (sym at ∙ joins_at names a b e is)))
  | inr stays ↦ elim (cases_eq (names e) bundle) [
    | inl at ↦ omega (arith, in_it p names bundle e at, in_it p (joined names a b) bundle e (stays_at names a b e stays ∙ at))
    | inr away ↦ omega (arith, not_in_it p (joined names a b) bundle e (λ at. away (sym (stays_at names a b e stays) ∙ at)))
  ]
]

light_names : (p : Problem) (names : ℕ → ℕ) (a b : ℕ) → ((bundle : ℕ) → sum_to p.required (share_of p names bundle) ≤ p.capacity) →
    sum_to p.required (share_of p names (names a)) + sum_to p.required (share_of p names (names b)) ≤ p.capacity →
    (bundle : ℕ) → sum_to p.required (share_of p (joined names a b) bundle) ≤ p.capacity
light_names p names a b light fit bundle = elim (cases_eq bundle (min (names a) (names b))) [
  | inl is ↦
      let less = sum_le p.required (share_of p (joined names a b) (min (names a) (names b))) (λ e. share_of p names (names a) e + share_of p names (names b) e) (share_of_both p names a b) in
      let here : sum_to p.required (share_of p (joined names a b) bundle) ≡ sum_to p.required (share_of p (joined names a b) (min (names a) (names b))) =
      ap (λ g. sum_to p.required (share_of p (joined names a b) g)) is in
      omega (arith, here, less, fit, sum_plus p.required (share_of p names (names a)) (share_of p names (names b)))
  | inr other ↦ omega (arith, light bundle, sum_le p.required (share_of p (joined names a b) bundle) (share_of p names bundle) (λ e. share_of_other p names a b bundle e other))
]

pub light_together : (p : Problem) (branch : List PackChoice) (a b : ℕ) → IsLight p branch → ¬ (IsClosedPair p branch a b) → IsLight p (branch ++ Together a b ∷ [])
unfolding share_of
light_together p branch a b light stays_open = λ bundle.
    let fit : sum_to p.required (share_of p (bundle_of branch) (bundle_of branch a)) + sum_to p.required (share_of p (bundle_of branch) (bundle_of branch b)) ≤ p.capacity =
    elim (cases_lt p.capacity (sum_to p.required (share_of p (bundle_of branch) (bundle_of branch a)) + sum_to p.required (share_of p (bundle_of branch) (bundle_of branch b)))) [
      | inl heavy ↦ absurd (stays_open (inr (inr heavy)))
      | inr fits ↦ fits
    ] in
    subst (λ (names : ℕ → ℕ). sum_to p.required (share_of p names bundle) ≤ p.capacity) (sym (of_together branch a b)) (light_names p (bundle_of branch) a b light fit bundle)

pub choice_more : (p : Problem) (branch : List PackChoice) (choice : PackChoice) → All (IsChoice p) branch → IsChoice p choice → All (IsChoice p) (branch ++ choice ∷ [])
choice_more p branch choice all one = All-append (IsChoice p) branch (choice ∷ []) all (All-cons (IsChoice p) choice [] one (All-nil (IsChoice p)))

-- a leaf in which a pair is apart has the bundles of its parent
pub leaf_apart : (p : Problem) (branch : List PackChoice) (share : Share) (a b : ℕ) → IsLeaf p branch share → IsPair p a b → IsLeaf p (branch ++ Apart a b ∷ []) share
leaf_apart p branch share a b leaf pair = record {
  choices = choice_more p branch (Apart a b) leaf.choices pair;
  light = λ bundle. rw (of_apart branch a b) (leaf.light bundle);
  share = record { fits = leaf.share.fits; value_is = rw (of_apart branch a b) leaf.share.value_is };
}

-- at first each edge is a bundle of its own
alone_none : (p : Problem) (n bundle : ℕ) → n < bundle → sum_to n (share_of p (λ e. e) bundle) ≡ 0
alone_none p zero bundle less = refl
alone_none p (suc n) bundle less =
    omega (arith, alone_none p n bundle (omega (arith, less)), not_in_it p (λ e. e) bundle (suc n) (λ is. absurd (omega (arith, is, less))))

alone_one : (p : Problem) (n bundle : ℕ) → ((e : ℕ) → 1 ≤ e → e ≤ n → demand_of p e ≤ p.capacity) → sum_to n (share_of p (λ e. e) bundle) ≤ p.capacity
alone_one p zero bundle fine = omega arith
alone_one p (suc n) bundle fine = elim (cases_eq (suc n) bundle) [
  | inl is ↦ omega (arith, alone_none p n bundle (omega (arith, is)), in_it p (λ e. e) bundle (suc n) is, fine (suc n) (omega arith) (omega arith))
  | inr other ↦ omega (arith, alone_one p n bundle (λ e low high. fine e low (omega (arith, high))), not_in_it p (λ e. e) bundle (suc n) other)
]

pub light_alone : (p : Problem) → IsValid p → IsLight p []
unfolding share_of
light_alone p valid bundle = alone_one p p.required bundle (λ e low high. (valid.tasks e (record { from_one = low; in_range = high })).demand_fits)

-- Names of bundles.

-- the name of a bundle is in it, and is its least edge
pub record AreNames (names : ℕ → ℕ) : Type 0 where
  pub least : (e : ℕ) → names e ≤ e
  pub itself : (e : ℕ) → names (names e) ≡ names e

names_joined : (names : ℕ → ℕ) (a b : ℕ) → AreNames names → AreNames (joined names a b)
names_joined names a b are = record {
  least = λ e. elim (cases_eq (names e) (max (names a) (names b))) [
    | inl is ↦ omega (arith, joins_at names a b e is, is, are.least e)
    | inr other ↦ omega (arith, stays_at names a b e other, are.least e)
  ];
  itself = λ e. elim (cases_eq (names e) (max (names a) (names b))) [
    | inl is ↦ rw (joins_at names a b e is) (of_least names a b are)
    | inr other ↦ rw (stays_at names a b e other) (stays_at names a b (names e) (λ is. other (sym (are.itself e) ∙ is)) ∙ are.itself e)
  ];
} where
  least_itself : (names : ℕ → ℕ) (a b : ℕ) → AreNames names → names (min (names a) (names b)) ≡ min (names a) (names b)
  least_itself names a b are = elim (cases_lt (names a) (names b)) [
    | inl less ↦ let is : min (names a) (names b) ≡ names a = omega arith in rw is (are.itself a)
    | inr more ↦ let is : min (names a) (names b) ≡ names b = omega arith in rw is (are.itself b)
  ]

  of_least : (names : ℕ → ℕ) (a b : ℕ) → AreNames names → joined names a b (min (names a) (names b)) ≡ min (names a) (names b)
  of_least names a b are = elim (cases_eq (names (min (names a) (names b))) (max (names a) (names b))) [
    | inl is ↦ joins_at names a b (min (names a) (names b)) is
    | inr other ↦ stays_at names a b (min (names a) (names b)) other ∙ least_itself names a b are
  ]

names_after : (names : ℕ → ℕ) (branch : List PackChoice) → AreNames names → AreNames (bundles_after names branch)
names_after names [] are = are
names_after names (Together a b ∷ branch) are = names_after (joined names a b) branch (names_joined names a b are)
names_after names (Apart a b ∷ branch) are = names_after names branch are

pub names_of : (branch : List PackChoice) → AreNames (bundle_of branch)
names_of branch = names_after (λ e. e) branch (record { least = λ e. omega arith; itself = λ e. refl })

-- Pairs that were put together.

same_after : (names : ℕ → ℕ) (branch : List PackChoice) (a b : ℕ) → names a ≡ names b → bundles_after names branch a ≡ bundles_after names branch b
same_after names [] a b same = same
same_after names (Together c d ∷ branch) a b same =
    same_after (joined names c d) branch a b (ap (λ n. if n == max (names c) (names d) then min (names c) (names d) else n) same)
same_after names (Apart c d ∷ branch) a b same = same_after names branch a b same

joined_same : (names : ℕ → ℕ) (a b : ℕ) → joined names a b a ≡ joined names a b b
joined_same names a b = elim (cases_eq (names a) (names b)) [
  | inl same ↦ ap (λ n. if n == max (names a) (names b) then min (names a) (names b) else n) same
  | inr other ↦ elim (cases_lt (names a) (names b)) [
    | inl less ↦ stays_at names a b a (λ is. absurd (omega (arith, is, less))) ∙ sym (joins_at names a b b (omega (arith, less)) ∙ (omega (arith, less)))
    | inr more ↦ joins_at names a b a (omega (arith, more)) ∙ sym (stays_at names a b b (λ is. absurd (omega (arith, is, more, other))) ∙ (omega (arith, more)))
  ]
]

pub together_same : (names : ℕ → ℕ) (branch : List PackChoice) (a b : ℕ) → bundles_after names (Together a b ∷ branch) a ≡ bundles_after names (Together a b ∷ branch) b
together_same names branch a b = same_after (joined names a b) branch a b (joined_same names a b)
