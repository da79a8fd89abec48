-- The bundles of a branch are a packing, where each fits into a group.
use Rattle.std.proofs.Common.{◌≡◌, ℕ, zero, suc, ◌+◌, ◌-◌, ◌≤◌, ◌<◌, ◌==◌, if◌then◌else◌, min, max, List, [], ◌∷◌, length, refl, sym, ap, ◌∙◌, subst, arith, inl, inr}
use Rattle.std.specs.Prelude.{slice_index}
use Rattle.std.specs.List.{All}
use Rattle.std.proofs.lemmas.List.Elements.{All-head, All-tail}
use Rattle.std.proofs.lemmas.Bool.{cases_eq, cases_lt, cases_order, eq-eqb, ne_eqb}
use Rattle.carp_base.specs.Problem.{Problem, IsRequired, IsValid}
use Rattle.carp_base.specs.Packings.{IsGroup, IsPacking, group_of, group_load, demand_in}
use Rattle.plan_model.specs.Sums.{sum_to}
use Rattle.packing_trees.specs.declared.node.PackChoice.{PackChoice}
use Rattle.packing_trees.specs.declared.node.PackChoice.TheVariants.{Together, Apart}
use Rattle.packing_trees.specs.Bundles.{AreBundles, IsChoice, joined, bundles_after, bundle_of, bundle_count}
use Rattle.fleet_pack.specs.FirstFit.{demand_of}
use Rattle.fleet_pack.specs.Ranks.{rank}
use Rattle.fleet_pack.specs.States.{IsLight}
use Rattle.fleet_pack.proofs.Bundling.{names_of}

-- No bundle has the number 0.

some_joined : (names : ℕ → ℕ) (a b : ℕ) → 1 ≤ a → 1 ≤ b → ((e : ℕ) → 1 ≤ e → 1 ≤ names e) → (e : ℕ) → 1 ≤ e → 1 ≤ joined names a b e
some_joined names a b low_a low_b some e low = elim (cases_eq (names e) (max (names a) (names b))) [
  | inl is ↦ let here : joined names a b e ≡ min (names a) (names b) = rw (eq-eqb (names e) (max (names a) (names b)) is) refl in omega (arith, here, some a low_a, some b low_b)
  | inr other ↦ let here : joined names a b e ≡ names e = rw (ne_eqb (names e) (max (names a) (names b)) other) refl in omega (arith, here, some e low)
]

some_after : (p : Problem) (names : ℕ → ℕ) (branch : List PackChoice) → All (IsChoice p) branch → ((e : ℕ) → 1 ≤ e → 1 ≤ names e) → (e : ℕ) → 1 ≤ e → 1 ≤ bundles_after names branch e
some_after p names [] choices some = some
some_after p names (Together a b ∷ branch) choices some =
    let pair = All-head (IsChoice p) (Together a b) branch choices in
    some_after p (joined names a b) branch (All-tail (IsChoice p) (Together a b) branch choices) (some_joined names a b pair.0 (omega (arith, pair.0, pair.1)) some)
some_after p names (Apart a b ∷ branch) choices some = some_after p names branch (All-tail (IsChoice p) (Apart a b) branch choices) some

pub some_name : (p : Problem) (branch : List PackChoice) → All (IsChoice p) branch → (e : ℕ) → 1 ≤ e → 1 ≤ bundle_of branch e
some_name p branch choices = some_after p (λ e. e) branch choices (λ e low. low)

pub name_within : (p : Problem) (branch : List PackChoice) (labels weights : List ℕ) → AreBundles p branch labels weights → (e : ℕ) → 1 ≤ e → e < length labels → slice_index labels e < length labels
name_within p branch labels weights are e low high =
    omega (arith, are.labelled e (record { from_one = low; in_range = omega (arith, high, are.label_each) }), (names_of branch).least e, high)

-- Ranks.

module _ (labels : List ℕ) where
  pub here : ℕ → ℕ
  here e = if slice_index labels e == e then 1 else 0

  here_most : (e : ℕ) → here e ≤ 1
  unfolding here
  here_most e = elim (cases_eq (slice_index labels e) e) [
    | inl is ↦ rw (eq-eqb (slice_index labels e) e is) (omega arith)
    | inr other ↦ rw (ne_eqb (slice_index labels e) e other) (omega arith)
  ]

  here_name : (e : ℕ) → slice_index labels e ≡ e → here e ≡ 1
  unfolding here
  here_name e is = rw (eq-eqb (slice_index labels e) e is) refl

  here_none : (e : ℕ) → (slice_index labels e ≡ e → ⊥) → here e ≡ 0
  unfolding here
  here_none e other = rw (ne_eqb (slice_index labels e) e other) refl

  rises : (k n : ℕ) → k ≤ n → sum_to k here ≤ sum_to n here
  rises k zero le = let none : k ≡ 0 = omega (arith, le) in rw none (omega arith)
  rises k (suc n) le = elim (cases_eq k (suc n)) [
    | inl same ↦ rw same (omega arith)
    | inr other ↦ omega (arith, rises k n (omega (arith, le, other)))
  ]

  steps : (x : ℕ) → 1 ≤ x → slice_index labels x ≡ x → sum_to (x - 1) here + 1 ≡ sum_to x here
  steps zero low name = absurd (omega (arith, low))
  steps (suc k) low name = let back : suc k - 1 ≡ k = omega arith in rw back (omega (arith, here_name (suc k) name))

  below : (x y : ℕ) → x < y → slice_index labels y ≡ y → sum_to x here < sum_to y here
  below x y less name = omega (arith, rises x (y - 1) (omega (arith, less)), steps y (omega (arith, less)) name)

  one_name : (x y : ℕ) → slice_index labels x ≡ x → slice_index labels y ≡ y → sum_to x here ≡ sum_to y here → x ≡ y
  one_name x y first second same = elim (cases_order x y) [
    | inl is ↦ is
    | inr apart ↦ elim apart [
      | inl less ↦ absurd (omega (arith, same, below x y less second))
      | inr more ↦ absurd (omega (arith, same, below y x more first))
    ]
  ]

  -- each number up to the rank of n is the rank of a bundle
  named : (g n : ℕ) → 1 ≤ g → g ≤ sum_to n here → (x : ℕ) × (1 ≤ x) × (x ≤ n) × (slice_index labels x ≡ x) × (sum_to x here ≡ g)
  named g zero low high = absurd (omega (arith, low, high))
  named g (suc n) low high = elim (cases_lt (sum_to n here) g) [
    | inl less ↦ elim (cases_eq (slice_index labels (suc n)) (suc n)) [
      | inl is ↦ (suc n, omega arith, omega arith, is, omega (arith, high, less, here_name (suc n) is))
      | inr other ↦ absurd (omega (arith, high, less, here_none (suc n) other))
    ]
    | inr more ↦ let found = named g n low more in (found.0, found.1, omega (arith, found.2), found.3, found.4)
  ]

  pub rank_most : (n : ℕ) → rank labels n ≤ n
  unfolding here
  rank_most zero = omega arith
  rank_most (suc n) = omega (arith, rank_most n, here_most (suc n))

-- The packing.

one_part : (x g d : ℕ) → (if x == g then d else 0) ≤ d
one_part x g d = elim (cases_eq x g) [
  | inl is ↦ rw (eq-eqb x g is) (omega arith)
  | inr other ↦ rw (ne_eqb x g other) (omega arith)
]

module _ (p : Problem) (branch : List PackChoice) (labels weights groups : List ℕ)
    (valid : IsValid p) (are : AreBundles p branch labels weights) (choices : All (IsChoice p) branch) (light : IsLight p branch)
    (long : length groups ≡ p.required) (by_rank : (k : ℕ) → k < length groups → slice_index groups k ≡ sum_to (slice_index labels (k + 1)) (here labels)) where
  name_is : (e : ℕ) → IsRequired p e → slice_index labels e ≡ bundle_of branch e
  name_is = are.labelled

  group_is : (e : ℕ) → IsRequired p e → group_of groups e ≡ sum_to (slice_index labels e) (here labels)
  group_is zero required = absurd (omega (arith, required.from_one))
  group_is (suc k) required =
      by_rank k (omega (arith, long, required.in_range)) ∙ ap (λ n. sum_to (slice_index labels n) (here labels)) (omega arith)

  -- the bundle of an edge is one of the edges
  name_required : (e : ℕ) → IsRequired p e → IsRequired p (slice_index labels e)
  name_required e required = record {
    from_one = omega (arith, name_is e required, some_name p branch choices e required.from_one);
    in_range = omega (arith, name_is e required, (names_of branch).least e, required.in_range);
  }

  name_itself : (e : ℕ) → IsRequired p e → slice_index labels (slice_index labels e) ≡ slice_index labels e
  name_itself e required =
      name_is (slice_index labels e) (name_required e required) ∙ ap (bundle_of branch) (name_is e required) ∙ (names_of branch).itself e ∙ sym (name_is e required)

  group_in : (e : ℕ) → IsRequired p e → IsGroup (sum_to p.required (here labels)) (group_of groups e)
  group_in e required =
      let name = name_required e required in record {
        from_one = omega (arith, group_is e required, steps labels (slice_index labels e) name.from_one (name_itself e required));
        in_range = omega (arith, group_is e required, rises labels (slice_index labels e) p.required name.in_range);
      }

  has_edge : (g : ℕ) → IsGroup (sum_to p.required (here labels)) g → (e : ℕ) × IsRequired p e × (group_of groups e ≡ g)
  has_edge g group =
      let found = named labels g p.required group.from_one group.in_range in
      let required : IsRequired p found.0 = record { from_one = found.1; in_range = found.2 } in
      (found.0, required, group_is found.0 required ∙ ap (λ n. sum_to n (here labels)) found.3 ∙ found.4)

  in_bundle : (x g n : ℕ) → slice_index labels x ≡ x → sum_to x (here labels) ≡ g → n ≤ p.required →
      demand_in p groups g n ≤ sum_to n (λ e. if bundle_of branch e == x then demand_of p e else 0)
  in_bundle x g zero name is within = omega arith
  in_bundle x g (suc n) name is within =
      let required : IsRequired p (suc n) = record { from_one = omega arith; in_range = within } in
      elim (cases_eq (bundle_of branch (suc n)) x) [
        | inl same ↦
            let there : (if bundle_of branch (suc n) == x then demand_of p (suc n) else 0) ≡ demand_of p (suc n) = rw (eq-eqb (bundle_of branch (suc n)) x same) refl in
            omega (arith, in_bundle x g n name is (omega (arith, within)), there, one_part (group_of groups (suc n)) g (demand_of p (suc n)))
        | inr other ↦
            let away : group_of groups (suc n) ≡ g → ⊥ = λ at. other (sym (name_is (suc n) required)
            ∙ one_name labels (slice_index labels (suc n)) x (name_itself (suc n) required) name (sym (group_is (suc n) required) ∙ at ∙ sym is)) in
            let none : (if group_of groups (suc n) == g then demand_of p (suc n) else 0) ≡ 0 = rw (ne_eqb (group_of groups (suc n)) g away) refl in
            omega (arith, in_bundle x g n name is (omega (arith, within)), none)
      ]

  load_fits : (g : ℕ) → IsGroup (sum_to p.required (here labels)) g → group_load p groups g ≤ p.capacity
  load_fits g group =
      let found = named labels g p.required group.from_one group.in_range in
      omega (arith, in_bundle found.0 g p.required found.3 found.4 (omega arith), light found.0)

  pub bundles_pack : IsPacking p groups (sum_to p.required (here labels))
  bundles_pack = record { one_each = long; placed = group_in; none_empty = has_edge; loads = load_fits }

  count_to : (n : ℕ) → n ≤ p.required → sum_to n (here labels) ≡ sum_to n (λ e. if bundle_of branch e == e then 1 else 0)
  unfolding here
  count_to zero within = refl
  count_to (suc n) within =
      let same : (if slice_index labels (suc n) == suc n then 1 else 0) ≡ (if bundle_of branch (suc n) == suc n then 1 else 0) =
      ap {B = ℕ} (λ x. if x == suc n then 1 else 0) (name_is (suc n) (record { from_one = omega arith; in_range = within })) in
      omega (arith, count_to n (omega (arith, within)), same)

pub by_groups : (p : Problem) (branch : List PackChoice) (labels weights groups : List ℕ) (count : ℕ) →
    IsValid p → AreBundles p branch labels weights → All (IsChoice p) branch → IsLight p branch → length groups ≡ p.required → count ≡ rank labels p.required →
    ((k : ℕ) → k < length groups → slice_index groups k ≡ rank labels (slice_index labels (k + 1))) → IsPacking p groups count × (count ≡ bundle_count p branch)
unfolding here
by_groups p branch labels weights groups count valid are choices light long is by_rank = (
  subst (IsPacking p groups) (sym is) (bundles_pack p branch labels weights groups valid are choices light long by_rank),
  is ∙ count_to p branch labels weights groups valid are choices light long by_rank p.required (omega arith),
)
