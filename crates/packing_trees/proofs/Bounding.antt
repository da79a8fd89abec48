-- Packings that meet a branch: each bundle lies in one group, and what is summed over bundles is summed over groups.
use Rattle.std.proofs.Common.{◌≡◌, ℕ, ◌+◌, ◌-◌, ◌*◌, ◌≤◌, ◌<◌, ◌==◌, ◌&&◌, Bool, true, false, cond, List, [], ◌∷◌, ◌++◌, refl, sym, ap, ◌∙◌, subst, arith, inl, inr, ◌⊎◌}
use Rattle.std.specs.List.{All, Contains}
use Rattle.std.proofs.lemmas.Bool.{cases_eq, eq-eqb, eqb-true, ne_eqb, and_parts}
use Rattle.std.proofs.lemmas.List.Elements.{All-append, All-cons, All-nil}
use Rattle.carp_base.specs.Problem.{Problem, IsRequired, IsValid, edge_at}
use Rattle.carp_base.specs.Packings.{IsGroup, IsPacking, group_load, group_of}
use Rattle.plan_model.specs.Sums.{sum_to}
use Rattle.packing_trees.specs.declared.node.PackChoice.{PackChoice}
use Rattle.packing_trees.specs.declared.node.PackChoice.TheVariants as choices
use Rattle.packing_trees.specs.Bundles.{AreAllClosed, IsChoice, IsTied, MeetsBranch, MeetsChoice, TiesLead, bundle_count, bundle_of, bundle_weight, over_bundles, share_value}
use Rattle.packing_trees.specs.Trees.{PackTree, pair, share, settled, PairsIn, Shows}
use Rattle.packing_trees.proofs.Naming.{named_bundles, bundle_required}
use Rattle.packing_trees.proofs.Weighing.{alone_of, large_of, large_weight_of, middle_weight_of}
use Rattle.packing_trees.proofs.Loading.{demand_sum}
use Rattle.packing_trees.proofs.Classes.{weighs, group_alone, group_full, share_bound}
use Rattle.packing_trees.proofs.Sums.{sum_to-zero, sum_to-one, sum_to-add, sum_to-times, sum_to-same, sum_to-more, sum_to-most, sum_to-two, sum_to-single, sum_to-swap, all_or_nothing, at_most_one}

cond_same : (b : Bool) → ◌≡◌ {A = ℕ} (cond b 0 0) 0
cond_same true = refl
cond_same false = refl

cond_sum : (b : Bool) (m : ℕ) (f : ℕ → ℕ) → cond b (sum_to m f) 0 ≡ sum_to m (λ e. cond b (f e) 0)
cond_sum true m f = refl
cond_sum false m f = sym (sum_to-zero m)

module _ (p : Problem) (branch : List PackChoice) (groups : List ℕ) (count : ℕ) (valid : IsValid p) (fits : All (IsChoice p) branch) (packing : IsPacking p groups count) (meets : MeetsBranch groups branch) where
  abbrev bundle : ℕ → ℕ
  bundle = bundle_of branch

  abbrev group : ℕ → ℕ
  group = group_of groups

  abbrev weight : ℕ → ℕ
  weight = bundle_weight p branch

  met : (x : PackChoice) → Contains branch x → MeetsChoice groups x
  met x stands = let P : PackChoice → Type 0 = MeetsChoice groups in subst P stands.2 (meets stands.0 x stands.1)

  tied_group : (a b : ℕ) → IsTied branch a b → group a ≡ group b
  tied_group a b (inl one) = met (choices.Together a b) one
  tied_group a b (inr other) = sym (met (choices.Together b a) other)

  way_group : (a b : ℕ) (way : List ℕ) → TiesLead branch a way b → group a ≡ group b
  way_group a b [] leads = ap group leads
  way_group a b (c ∷ way) leads = tied_group a c leads.0 ∙ way_group c b way leads.1

  -- an edge lies in the group of the edge that names its bundle
  bundle_group : (e : ℕ) → group e ≡ group (bundle e)
  bundle_group e =
      let bundled = ((named_bundles branch).tells e (bundle e)).0 (sym ((named_bundles branch).itself e)) in
      way_group e (bundle e) bundled.way bundled.leads

  -- a bundle of this number lies in the group
  abbrev is_in : (g r : ℕ) → Bool
  is_in g r = (bundle r == r) && (group r == g)

  abbrev in_group : (ℕ → ℕ) → ℕ → ℕ
  in_group h g = sum_to p.required (λ r. cond (is_in g r) (h (weight r)) 0)

  over_one : (r x : ℕ) → IsRequired p r → (b : Bool) → sum_to count (λ g. cond (b && (group r == g)) x 0) ≡ cond b x 0
  over_one r x required true = let in_one = packing.placed r required in sum_to-single count (group r) (λ _. x) in_one.from_one in_one.in_range
  over_one r x required false = sum_to-zero count

  over_groups : (h : ℕ → ℕ) → over_bundles p branch h ≡ sum_to count (in_group h)
  over_groups h =
      sum_to-same p.required _ _ (λ r one below. sym (over_one r (h (weight r)) (record { from_one = one; in_range = below }) (bundle r == r)))
      ∙ sum_to-swap p.required count (λ r g. cond (is_in g r) (h (weight r)) 0)

  point : (g r e d : ℕ) → cond (is_in g r) (cond (bundle e == r) d 0) 0 ≡ cond (bundle e == r) (cond (group e == g) d 0) 0
  point g r e d = elim (cases_eq (bundle e) r) [
    | inl is ↦
        let root : bundle r ≡ r = sym (ap bundle is) ∙ (named_bundles branch).itself e ∙ is in
        let same : group r ≡ group e = sym (ap group is) ∙ sym (bundle_group e) in
        let here = eq-eqb (bundle e) r is in
        ap (λ t. cond (is_in g r) (cond t d 0) 0) here ∙ ap (λ t. cond (t && (group r == g)) d 0) (eq-eqb (bundle r) r root) ∙ ap (λ k. cond (k == g) d 0) same
        ∙ sym (ap (λ t. cond t (cond (group e == g) d 0) 0) here)
    | inr unlike ↦
        let off = ne_eqb (bundle e) r unlike in
        ap (λ t. cond (is_in g r) (cond t d 0) 0) off ∙ cond_same (is_in g r) ∙ sym (ap (λ t. cond t (cond (group e == g) d 0) 0) off)
  ]

  load_of_bundles : (g : ℕ) → in_group (λ w. w) g ≡ group_load p groups g
  load_of_bundles g =
      sum_to-same p.required _ _ (λ r _ _. cond_sum (is_in g r) p.required (λ e. cond (bundle e == r) (edge_at p e).demand 0)
      ∙ sum_to-same p.required _ _ (λ e _ _. point g r e (edge_at p e).demand))
      ∙ sum_to-swap p.required p.required (λ r e. cond (bundle e == r) (cond (group e == g) (edge_at p e).demand 0) 0)
      ∙ sum_to-same p.required _ _ (λ e one below.
      let named = bundle_required p branch e fits (record { from_one = one; in_range = below }) in
      sum_to-single p.required (bundle e) (λ _. cond (group e == g) (edge_at p e).demand 0) named.from_one named.in_range)
      ∙ demand_sum p groups g p.required

  light : (g : ℕ) → IsGroup count g → in_group (λ w. w) g ≤ p.capacity
  light g is = omega (arith, load_of_bundles g, packing.loads g is)

  -- The bound of a share.
  module _ (s : ℕ) (half : 2 * s ≤ p.capacity) where
    abbrev q : ℕ
    q = p.capacity

    gate_pays : (b : Bool) (w : ℕ) → (q + 1) * (cond b (alone_of q s w) 0 + cond b (large_of q s w) 0) ≤ 2 * cond b w 0
    gate_pays true w = (weighs q s w half).pays
    gate_pays false w = omega arith

    gate_fills : (b : Bool) (w : ℕ) → (q + 1 - s) * cond b (alone_of q s w) 0 + (cond b (large_weight_of q s w) 0 + cond b (middle_weight_of q s w) 0) ≤ cond b w 0
    gate_fills true w = (weighs q s w half).fills
    gate_fills false w = omega arith

    gate_whole : (b : Bool) (w : ℕ) → (cond b (large_weight_of q s w) 0 + cond b (middle_weight_of q s w) 0 ≡ 0) ⊎ (s ≤ cond b (large_weight_of q s w) 0 + cond b (middle_weight_of q s w) 0)
    gate_whole true w = (weighs q s w half).whole
    gate_whole false w = inl refl

    abbrev term : (ℕ → ℕ) → (g r : ℕ) → ℕ
    term h g r = cond (is_in g r) (h (weight r)) 0

    pays : (g : ℕ) → (q + 1) * (in_group (alone_of q s) g + in_group (large_of q s) g) ≤ 2 * in_group (λ w. w) g
    pays g =
        let sums = sum_to-add p.required (term (alone_of q s) g) (term (large_of q s) g) in
        let times = sum_to-times p.required (q + 1) (λ r. term (alone_of q s) g r + term (large_of q s) g r) in
        let twice = sum_to-times p.required 2 (term (λ w. w) g) in
        let more = sum_to-more p.required (λ r. (q + 1) * (term (alone_of q s) g r + term (large_of q s) g r)) (λ r. 2 * term (λ w. w) g r) (λ r _ _. gate_pays (is_in g r) (weight r)) in
        rw (← sums) (rw (← times) (rw (← twice) more))

    abbrev rest : ℕ → ℕ
    rest g = in_group (large_weight_of q s) g + in_group (middle_weight_of q s) g

    rest_is : (g : ℕ) → sum_to p.required (λ r. term (large_weight_of q s) g r + term (middle_weight_of q s) g r) ≡ rest g
    rest_is g = sum_to-add p.required (term (large_weight_of q s) g) (term (middle_weight_of q s) g)

    fills : (g : ℕ) → (q + 1 - s) * in_group (alone_of q s) g + rest g ≤ in_group (λ w. w) g
    fills g =
        let times = sum_to-times p.required (q + 1 - s) (term (alone_of q s) g) in
        let sums = sum_to-add p.required (λ r. (q + 1 - s) * term (alone_of q s) g r) (λ r. term (large_weight_of q s) g r + term (middle_weight_of q s) g r) in
        let more = sum_to-more p.required (λ r. (q + 1 - s) * term (alone_of q s) g r + (term (large_weight_of q s) g r + term (middle_weight_of q s) g r)) (term (λ w. w) g)
        (λ r _ _. gate_fills (is_in g r) (weight r)) in
        rw (← times) (rw (← rest_is g) (rw (← sums) more))

    whole : (g : ℕ) → rest g < s → rest g ≡ 0
    whole g less =
        sym (rest_is g) ∙ all_or_nothing p.required s (λ r. term (large_weight_of q s) g r + term (middle_weight_of q s) g r) (λ r. gate_whole (is_in g r) (weight r)) (rw (rest_is g) less)

    few : (g : ℕ) → IsGroup count g → in_group (alone_of q s) g + in_group (large_of q s) g ≤ 1
    few g is = group_alone q (in_group (alone_of q s) g) (in_group (large_of q s) g) (in_group (λ w. w) g) (pays g) (light g is)

    full : (g : ℕ) → IsGroup count g → q * in_group (alone_of q s) g + rest g ≤ q
    full g is = group_full q s (in_group (alone_of q s) g) (in_group (large_of q s) g) (rest g) (in_group (λ w. w) g) half (few g is) (fills g) (whole g) (light g is)

    abbrev all : (ℕ → ℕ) → ℕ
    all h = sum_to count (in_group h)

    all_few : all (alone_of q s) + all (large_of q s) ≤ count
    all_few =
        let sums = sum_to-add count (in_group (alone_of q s)) (in_group (large_of q s)) in
        let more = sum_to-more count (λ g. in_group (alone_of q s) g + in_group (large_of q s) g) (λ _. 1) (λ g one below. few g (record { from_one = one; in_range = below })) in
        omega (arith, sums, more, sum_to-one count)

    all_full : q * all (alone_of q s) + (all (large_weight_of q s) + all (middle_weight_of q s)) ≤ q * count
    all_full =
        let times = sum_to-times count q (in_group (alone_of q s)) in
        let sums = sum_to-add count (in_group (large_weight_of q s)) (in_group (middle_weight_of q s)) in
        let both = sum_to-add count (λ g. q * in_group (alone_of q s) g) rest in
        let most = sum_to-most count q (λ g. q * in_group (alone_of q s) g + rest g) (λ g one below. full g (record { from_one = one; in_range = below })) in
        rw (← times) (rw (← sums) (rw (← both) most))

    pub share_bounds : share_value p branch s ≤ count
    share_bounds =
        rw (over_groups (alone_of q s), over_groups (large_of q s), over_groups (middle_weight_of q s), over_groups (large_weight_of q s))
        (share_bound q (all (alone_of q s)) (all (large_of q s)) (all (large_weight_of q s)) (all (middle_weight_of q s)) count valid.some_capacity all_few all_full)

  -- The bundles where each pair is closed.
  term_of : (g r : ℕ) → is_in g r ≡ true → cond (is_in g r) (weight r) 0 ≡ weight r
  term_of g r is = ap (λ t. cond t (weight r) 0) is

  no_two : AreAllClosed p branch → (g r n : ℕ) → IsGroup count g → 1 ≤ r → r < n → n ≤ p.required → is_in g r ≡ true → is_in g n ≡ true → ⊥
  no_two closed g r n group_is one less below r_in n_in =
      let r_parts = and_parts (bundle r == r) (group r == g) r_in in
      let n_parts = and_parts (bundle n == n) (group n == g) n_in in
      let r_root = eqb-true (bundle r) r r_parts.0 in
      let n_root = eqb-true (bundle n) n n_parts.0 in
      let r_group = eqb-true (group r) g r_parts.1 in
      let n_group = eqb-true (group n) g n_parts.1 in
      elim (closed r n (one, less, below)) [
        | inl same ↦ omega (arith, same, r_root, n_root, less)
        | inr more ↦ elim more [
          | inl parted ↦ met (choices.Apart parted.c parted.d) parted.apart (elim parted.between [
            | inl straight ↦ bundle_group parted.c ∙ ap group (straight.0 ∙ r_root) ∙ r_group ∙ sym n_group ∙ sym (ap group (straight.1 ∙ n_root)) ∙ sym (bundle_group parted.d)
            | inr turned ↦ bundle_group parted.c ∙ ap group (turned.0 ∙ n_root) ∙ n_group ∙ sym r_group ∙ sym (ap group (turned.1 ∙ r_root)) ∙ sym (bundle_group parted.d)
          ])
          | inr heavy ↦ omega (
            arith,
            heavy,
            ap weight r_root,
            ap weight n_root,
            sum_to-two p.required r n (λ k. cond (is_in g k) (weight k) 0) one less below,
            term_of g r r_in,
            term_of g n n_in,
            light g group_is,
          )
        ]
      ]

  pub count_bounds : AreAllClosed p branch → bundle_count p branch ≤ count
  count_bounds closed =
      let each = sum_to-more count (in_group (λ w. 1)) (λ _. 1) (λ g one below. at_most_one p.required (is_in g) (λ r n from_one less most. no_two closed g r n (record { from_one = one; in_range = below }) from_one less most)) in
      omega (arith, over_groups (λ w. 1), each, sum_to-one count)

-- Trees.
module _ (p : Problem) (groups : List ℕ) (count : ℕ) (bound : ℕ) (valid : IsValid p) (packing : IsPacking p groups count) where
  chosen_more : (branch : List PackChoice) (x : PackChoice) → All (IsChoice p) branch → IsChoice p x → All (IsChoice p) (branch ++ x ∷ [])
  chosen_more branch x fits is = All-append (IsChoice p) branch (x ∷ []) fits (All-cons (IsChoice p) x [] is (All-nil (IsChoice p)))

  met_more : (branch : List PackChoice) (x : PackChoice) → MeetsBranch groups branch → MeetsChoice groups x → MeetsBranch groups (branch ++ x ∷ [])
  met_more branch x meets is = All-append (MeetsChoice groups) branch (x ∷ []) meets (All-cons (MeetsChoice groups) x [] is (All-nil (MeetsChoice groups)))

  pub tree_bounds : (tree : PackTree) (branch : List PackChoice) → All (IsChoice p) branch → PairsIn p tree → Shows p branch bound tree → MeetsBranch groups branch → bound ≤ count
  tree_bounds (pair a b together apart) branch fits pairs shows meets = elim (cases_eq (group_of groups a) (group_of groups b)) [
    | inl same ↦ tree_bounds together (branch ++ choices.Together a b ∷ []) (chosen_more branch (choices.Together a b) fits pairs.0) pairs.1 shows.0 (met_more branch (choices.Together a b) meets same)
    | inr unlike ↦ tree_bounds apart (branch ++ choices.Apart a b ∷ []) (chosen_more branch (choices.Apart a b) fits pairs.0) pairs.2 shows.1 (met_more branch (choices.Apart a b) meets unlike)
  ]
  tree_bounds (share s) branch fits pairs shows meets = omega (arith, shows.1, share_bounds p branch groups count valid fits packing meets s shows.0)
  tree_bounds settled branch fits pairs shows meets = omega (arith, shows.1, count_bounds p branch groups count valid fits packing meets shows.0)
