-- The lists of labels and weights are those of the bundles.
use Rattle.std.proofs.Common.{◌≡◌, ◌≢◌, ℕ, zero, suc, ◌+◌, ◌-◌, ◌*◌, ◌≤◌, ◌<◌, ◌==◌, ◌&&◌, Bool, true, false, List, [], ◌∷◌, ◌++◌, length, get_or, slice_index, take, refl, sym, ap, ◌∙◌, arith, inl, inr}
use Rattle.std.specs.Prelude.{if◌then◌else◌, max, min, nat_lt, nat_le}
use Rattle.std.specs.Int.{div_ceil}
use Rattle.std.specs.List.{All}
use Rattle.std.proofs.Math.ListN.{set, length-set}
use Rattle.std.proofs.lemmas.List.{get_or-set_same, get_or-set_other, take_more}
use Rattle.std.proofs.lemmas.Bool.{cases_eq, eq-eqb, ne_eqb}
use Rattle.carp_base.specs.Problem.{Problem, IsRequired, IsValid, edge_at}
use Rattle.plan_model.specs.Sums.{sum_to}
use Rattle.packing_trees.specs.declared.node.PackChoice.{PackChoice}
use Rattle.packing_trees.specs.declared.node.PackChoice.TheVariants.{Together, Apart}
use Rattle.packing_trees.specs.declared.shares.Shares.{Shares}
use Rattle.packing_trees.specs.Bundles.{AreBundles, IsChoice, bundle_of, bundle_weight, over_bundles, is_large, share_value}
use Rattle.packing_trees.specs.Tables.{AddsBundle, AreLabels, AreMerged, AreShares, AreSmallShares, IsBelow, IsSmallTable, merged, over_labels, value_of, weight_to}
use Rattle.packing_trees.proofs.Naming.{bundle_required, named_bundles, after_together, after_apart}
use Rattle.packing_trees.proofs.Sums.{sum_to-same, sum_to-most, sum_to-zero}

-- One choice more in the labels.
pub labels_joined : (branch : List PackChoice) (a b : ℕ) (old new : List ℕ) → a < length old → b < length old → AreLabels branch old →
    AreMerged (min (slice_index old a) (slice_index old b)) (max (slice_index old a) (slice_index old b)) old new → AreLabels (branch ++ Together a b ∷ []) new
labels_joined branch a b old new a_in b_in own is e less =
    let e_in : e < length old = omega (arith, is.long) in
    is.each e e_in ∙ ap (λ l. merged (min (slice_index old a) (slice_index old b)) (max (slice_index old a) (slice_index old b)) l) (own e e_in)
    ∙ ap (λ l. merged (min l (slice_index old b)) (max l (slice_index old b)) (bundle_of branch e)) (own a a_in)
    ∙ ap (λ l. merged (min (bundle_of branch a) l) (max (bundle_of branch a) l) (bundle_of branch e)) (own b b_in)
    ∙ sym (after_together branch (λ d. d) a b e)

pub labels_kept : (branch : List PackChoice) (a b : ℕ) (labels : List ℕ) → AreLabels branch labels → AreLabels (branch ++ Apart a b ∷ []) labels
labels_kept branch a b labels own e less = own e less ∙ sym (after_apart branch (λ d. d) a b e)

pub labels_more : (branch : List PackChoice) (i : ℕ) (d : PackChoice) (old new : List ℕ) → i < length branch → AreLabels (take i branch) old →
    ((done : List PackChoice) → AreLabels done old → AreLabels (done ++ get_or branch i d ∷ []) new) → AreLabels (take (i + 1) branch) new
labels_more branch i d old new less own step = rw (take_more branch i d less) (step (take i branch) own)

pub choices_below : (p : Problem) (n : ℕ) (branch : List PackChoice) → n ≡ p.required + 1 → All (IsChoice p) branch → All (IsBelow n) branch
choices_below p n branch long fits k d less = go (get_or branch k d) (fits k d less)
  where
    go : (x : PackChoice) → IsChoice p x → IsBelow n x
    go (Together a b) pair = (pair.0, pair.1, omega (arith, pair.2, long))
    go (Apart a b) pair = (pair.0, pair.1, omega (arith, pair.2, long))

pub labels_within : (branch : List PackChoice) (labels : List ℕ) → AreLabels branch labels → (e : ℕ) → e < length labels → slice_index labels e < length labels
labels_within branch labels own e less = omega (arith, own e less, (named_bundles branch).below e)

-- One edge more in the weights.
module _ (p : Problem) (labels : List ℕ) where
  abbrev counted_as : ℕ → ℕ → ℕ
  counted_as l e = if slice_index labels e == l then (edge_at p e).demand else 0

  counts : (l e : ℕ) → slice_index labels e ≡ l → counted_as l e ≡ (edge_at p e).demand
  counts l e same = ap (λ b. if b then (edge_at p e).demand else 0) (eq-eqb (slice_index labels e) l same)

  counts_not : (l e : ℕ) → slice_index labels e ≢ l → counted_as l e ≡ 0
  counts_not l e other = ap (λ b. if b then (edge_at p e).demand else 0) (ne_eqb (slice_index labels e) l other)

  pub add_step : (weights : List ℕ) (edge demand : ℕ) → 1 ≤ edge → slice_index labels edge < length weights → demand ≡ (edge_at p edge).demand →
      ((k : ℕ) → k < length weights → slice_index weights k ≡ weight_to p labels (edge - 1) k) →
      (k : ℕ) → k < length (set weights (slice_index labels edge) (slice_index weights (slice_index labels edge) + demand)) →
      slice_index (set weights (slice_index labels edge) (slice_index weights (slice_index labels edge) + demand)) k ≡ weight_to p labels (edge + 1 - 1) k
  add_step weights zero demand from_one lab_in demand_is before k less = absurd (omega arith)
  add_step weights (suc j) demand from_one lab_in demand_is before k less =
      let lab = slice_index labels (suc j) in
      let e : suc j + 1 - 1 ≡ suc j = omega arith in
      let e' : suc j - 1 ≡ j = omega arith in
      let less' : k < length weights = omega (arith, less, length-set weights lab (slice_index weights lab + demand)) in
      let old : get_or weights k 0 ≡ sum_to j (counted_as k) = before k less' ∙ ap (λ n. sum_to n (counted_as k)) e' in
      elim (cases_eq k lab) [
        | inl here ↦
            let now : get_or (set weights lab (get_or weights lab 0 + demand)) k 0 ≡ get_or weights k 0 + demand = ap (λ i. get_or (set weights lab (get_or weights lab 0 + demand)) i 0) here ∙ get_or-set_same weights lab (get_or weights lab 0 + demand) 0 lab_in ∙ ap (λ i. get_or weights i 0 + demand) (sym here) in
            now ∙ omega (arith, old, demand_is, counts k (suc j) (sym here))
        | inr there ↦
            get_or-set_other weights lab k (get_or weights lab 0 + demand) 0 there
            ∙ omega (arith, old, counts_not k (suc j) (λ same. there (sym same)))
      ]
      ∙ ap (λ n. sum_to n (counted_as k)) (sym e)

  pub small_step : (weights : List ℕ) (edge place demand : ℕ) → 1 ≤ edge → place < length weights → demand ≤ 30000 →
      ((k : ℕ) → k < length weights → slice_index weights k ≤ 30000 * (edge - 1)) →
      (k : ℕ) → k < length (set weights place (slice_index weights place + demand)) → slice_index (set weights place (slice_index weights place + demand)) k ≤ 30000 * (edge + 1 - 1)
  small_step weights edge place demand from_one in_range few before k less =
      let less' : k < length weights = omega (arith, less, length-set weights place (get_or weights place 0 + demand)) in
      elim (cases_eq k place) [
        | inl here ↦ rw here (omega (arith, get_or-set_same weights place (get_or weights place 0 + demand) 0 in_range, before place in_range, few, from_one))
        | inr there ↦ omega (arith, get_or-set_other weights place k (get_or weights place 0 + demand) 0 there, before k less', from_one)
      ]

demand_small : (p : Problem) (e : ℕ) → IsValid p → IsRequired p e → (edge_at p e).demand ≤ 30000
demand_small p e valid required = omega (arith, (valid.tasks e required).demand_fits, valid.capacity_in)

pub bundle_small : (p : Problem) (branch : List PackChoice) (l : ℕ) → IsValid p → bundle_weight p branch l ≤ 18000000
bundle_small p branch l valid =
    omega (
      arith,
      sum_to-most p.required 30000 (λ e. if bundle_of branch e == l then (edge_at p e).demand else 0)
          (λ e one below. most (bundle_of branch e == l) e (record { from_one = one; in_range = below })),
      valid.few_required,
    )
  where
    most : (b : Bool) (e : ℕ) → IsRequired p e → (if b then (edge_at p e).demand else 0) ≤ 30000
    most true e required = demand_small p e valid required
    most false e required = omega arith

-- The lists are of the bundles.
pub are_bundles : (p : Problem) (branch : List PackChoice) (labels weights : List ℕ) → All (IsChoice p) branch → length labels ≡ p.required + 1 → AreLabels branch labels → length weights ≡ p.required + 1 →
    ((l : ℕ) → l < length weights → slice_index weights l ≡ weight_to p labels p.required l) → AreBundles p branch labels weights
are_bundles p branch labels weights choices label_each own weight_each each = record {
  label_each = label_each;
  weight_each = weight_each;
  labelled = λ e required. own e (omega (arith, required.in_range, label_each));
  weighed = λ e required. each e (omega (arith, required.in_range, weight_each)) ∙ sum_to-same p.required _ _
      (λ d one below. ap (λ l. if l == e then (edge_at p d).demand else 0) (own d (omega (arith, below, label_each))));
  none_at_0 = each 0 (omega (arith, weight_each)) ∙ sum_to-same p.required (λ e. if slice_index labels e == 0 then (edge_at p e).demand else 0) (λ _. 0) (λ d one below.
      let number = bundle_required p branch d choices (record { from_one = one; in_range = below }) in
      ap {B = ℕ} (λ b. if b then (edge_at p d).demand else 0) (ne_eqb (slice_index labels d) 0 (λ none. omega (arith, none, own d (omega (arith, below, label_each)), number.from_one))))
      ∙ sum_to-zero p.required;
}

pub small_table : (p : Problem) (branch : List PackChoice) (labels weights : List ℕ) → IsValid p → AreBundles p branch labels weights → IsSmallTable labels weights
small_table p branch labels weights valid are = record {
  some = omega (arith, are.label_each);
  few = omega (arith, are.label_each, valid.few_required);
  same = omega (arith, are.label_each, are.weight_each);
  small = λ e one below. rw (are.weighed e (record { from_one = one; in_range = omega (arith, below, are.label_each) })) (bundle_small p branch e valid);
}

pub over_same : (p : Problem) (branch : List PackChoice) (labels weights : List ℕ) (n : ℕ) → n ≡ p.required → AreBundles p branch labels weights → (h : ℕ → ℕ) →
    over_labels labels weights n h ≡ over_bundles p branch h
over_same p branch labels weights n all are h =
    ap (λ k. over_labels labels weights k h) all
    ∙ sum_to-same p.required _ _ (λ e one below.
    let required : IsRequired p e = record { from_one = one; in_range = below } in
    ap (λ l. if l == e then h (slice_index weights e) else 0) (are.labelled e required) ∙ ap (λ w. if bundle_of branch e == e then h w else 0) (are.weighed e required))

abbrev pub alone_of : (capacity s w : ℕ) → ℕ
alone_of capacity s w = if nat_lt (capacity - s) w then 1 else 0

abbrev pub large_of : (capacity s w : ℕ) → ℕ
large_of capacity s w = if is_large capacity s w then 1 else 0

abbrev pub large_weight_of : (capacity s w : ℕ) → ℕ
large_weight_of capacity s w = if is_large capacity s w then w else 0

abbrev pub middle_weight_of : (capacity s w : ℕ) → ℕ
middle_weight_of capacity s w = if nat_le (2 * w) capacity && nat_le s w then w else 0

value_same : (a b x y a' b' x' y' q : ℕ) → a ≡ a' → b ≡ b' → x ≡ x' → y ≡ y' → a + b + div_ceil (x - (b * q - y)) q ≡ a' + b' + div_ceil (x' - (b' * q - y')) q
value_same a b x y a' b' x' y' q ea eb ex ey = rw (ea, eb, ex, ey) refl

pub value_is : (p : Problem) (branch : List PackChoice) (labels weights : List ℕ) (n s : ℕ) (shares : Shares) → n ≡ p.required → AreBundles p branch labels weights →
    AreShares p.capacity s labels weights n shares → value_of p.capacity shares ≡ share_value p branch s
value_is p branch labels weights n s shares all are is =
    value_same shares.alone shares.large shares.middle_weight shares.large_weight _ _ _ _ p.capacity
    (is.alone ∙ over_same p branch labels weights n all are (alone_of p.capacity s)) (is.large ∙ over_same p branch labels weights n all are (large_of p.capacity s))
    (is.middle_weight ∙ over_same p branch labels weights n all are (middle_weight_of p.capacity s)) (is.large_weight ∙ over_same p branch labels weights n all are (large_weight_of p.capacity s))

-- One bundle more in a share.
module _ (labels weights : List ℕ) (h : ℕ → ℕ) where
  pub over_more : (edge : ℕ) → 1 ≤ edge → slice_index labels edge ≡ edge → over_labels labels weights (edge + 1 - 1) h ≡ over_labels labels weights (edge - 1) h + h (slice_index weights edge)
  over_more zero from_one is = absurd (omega arith)
  over_more (suc j) from_one is =
      let e : suc j + 1 - 1 ≡ suc j = omega arith in
      let e' : suc j - 1 ≡ j = omega arith in
      ap (λ n. over_labels labels weights n h) e
      ∙ ap (λ t. over_labels labels weights j h + (if t then h (slice_index weights (suc j)) else 0)) (eq-eqb _ _ is)
      ∙ ap (λ n. over_labels labels weights n h + h (slice_index weights (suc j))) (sym e')

  pub over_skip : (edge : ℕ) → 1 ≤ edge → slice_index labels edge ≢ edge → over_labels labels weights (edge + 1 - 1) h ≡ over_labels labels weights (edge - 1) h
  over_skip zero from_one unlike = absurd (omega arith)
  over_skip (suc j) from_one unlike =
      let e : suc j + 1 - 1 ≡ suc j = omega arith in
      let e' : suc j - 1 ≡ j = omega arith in
      ap (λ n. over_labels labels weights n h) e
      ∙ ap (λ t. over_labels labels weights j h + (if t then h (slice_index weights (suc j)) else 0)) (ne_eqb _ _ unlike)
      ∙ omega arith
      ∙ ap (λ n. over_labels labels weights n h) (sym e')

module _ (capacity s : ℕ) (labels weights : List ℕ) (edge : ℕ) (from_one : 1 ≤ edge) where
  more : (h : ℕ → ℕ) (old new : ℕ) → slice_index labels edge ≡ edge → old ≡ over_labels labels weights (edge - 1) h → new ≡ old + h (slice_index weights edge) → new ≡ over_labels labels weights (edge + 1 - 1) h
  more h old new is before now = omega (arith, before, now, over_more labels weights h edge from_one is)

  pub shares_more : (old new : Shares) → slice_index labels edge ≡ edge → AreShares capacity s labels weights (edge - 1) old → AddsBundle capacity s (slice_index weights edge) old new →
      AreShares capacity s labels weights (edge + 1 - 1) new
  shares_more old new is before adds = record {
    alone = more (alone_of capacity s) old.alone new.alone is before.alone adds.alone;
    large = more (large_of capacity s) old.large new.large is before.large adds.large;
    large_weight = more (large_weight_of capacity s) old.large_weight new.large_weight is before.large_weight adds.large_weight;
    middle_weight = more (middle_weight_of capacity s) old.middle_weight new.middle_weight is before.middle_weight adds.middle_weight;
  }

  pub shares_kept : (shares : Shares) → slice_index labels edge ≢ edge → AreShares capacity s labels weights (edge - 1) shares → AreShares capacity s labels weights (edge + 1 - 1) shares
  shares_kept shares unlike before = record {
    alone = before.alone ∙ sym (over_skip labels weights (alone_of capacity s) edge from_one unlike);
    large = before.large ∙ sym (over_skip labels weights (large_of capacity s) edge from_one unlike);
    large_weight = before.large_weight ∙ sym (over_skip labels weights (large_weight_of capacity s) edge from_one unlike);
    middle_weight = before.middle_weight ∙ sym (over_skip labels weights (middle_weight_of capacity s) edge from_one unlike);
  }

one_most : (b : Bool) (w : ℕ) → (if b then 1 else 0) ≤ 1
one_most true w = omega arith
one_most false w = omega arith

weight_most : (b : Bool) (w : ℕ) → (if b then w else 0) ≤ w
weight_most true w = omega arith
weight_most false w = omega arith

pub small_more : (capacity s w edge : ℕ) (old new : Shares) → 1 ≤ edge → w ≤ 18000000 → AreSmallShares (edge - 1) old → AddsBundle capacity s w old new → AreSmallShares (edge + 1 - 1) new
small_more capacity s w edge old new from_one light small adds = record {
  alone = omega (arith, small.alone, adds.alone, one_most (nat_lt (capacity - s) w) w);
  large = omega (arith, small.large, adds.large, one_most (is_large capacity s w) w);
  large_weight = omega (arith, small.large_weight, adds.large_weight, weight_most (is_large capacity s w) w);
  middle_weight = omega (arith, small.middle_weight, adds.middle_weight, weight_most (nat_le (2 * w) capacity && nat_le s w) w);
}

pub small_on : (edge : ℕ) (shares : Shares) → AreSmallShares (edge - 1) shares → AreSmallShares (edge + 1 - 1) shares
small_on edge shares small = record {
  alone = omega (arith, small.alone);
  large = omega (arith, small.large);
  large_weight = omega (arith, small.large_weight);
  middle_weight = omega (arith, small.middle_weight);
}
