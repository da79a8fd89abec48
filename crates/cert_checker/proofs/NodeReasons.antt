-- A node that is as it should be has no reason, and every other has just one.
use Rattle.std.proofs.Common.{◌≡◌, ℕ, ◌+◌, ◌-◌, List, [], ◌∷◌, sym, ap, ◌∙◌, subst, arith, inl, inr, ◌⊎◌, ℤ, pos, ◌≤ℤ◌, ◌<ℤ◌}
use Rattle.std.specs.List.{All}
use Rattle.std.proofs.lemmas.Int.{ints}
use Rattle.std.proofs.lemmas.Bool.{cases_lt}
use Rattle.std.proofs.lemmas.List.Elements.{All-from_recursion}
use Rattle.decision_chains.specs.declared.decision.Decision.{Decision}
use Rattle.decision_chains.specs.Exclusions.{IsDetermined}
use Rattle.decision_chains.specs.PlanLaws.{FixedValueIsUnique}
use Rattle.decision_chains.specs.Pairs.{IsPairWithin}
use Rattle.branch_rules.specs.Decisions.{IsFixed, IsVoid, cuts_of}
use Rattle.branch_rules.specs.Prices.{Prices, group_at, no_group, no_weight, weight_at}
use Rattle.branch_rules.specs.Refusals.{HasUpper, HasYes, IsWithoutUpper, IsWithoutYes}
use Rattle.branch_rules.specs.declared.branch.NoUpper.{NoUpper}
use Rattle.branch_rules.specs.declared.yes_pairs.NoYes.{NoYes}
use Rattle.branch_rules.specs.Trees.{Support, set_at, IsLeanNode}
use Rattle.branch_rules.specs.declared.node.Node.{Node}
use Rattle.branch_rules.specs.declared.node.Node.TheVariants as nodes
use Rattle.cert_checker.specs.declared.reason.Part.TheVariants as parts
use Rattle.cert_checker.specs.declared.reason.Reason.{Reason}
use Rattle.cert_checker.specs.declared.reason.Reason.TheVariants.{Misfit, NotLean, NotVoid, NotFixed, MissingUpper, MissingYes, TourTooCheap, LeafLow}
use Rattle.cert_checker.specs.Nodes.{IsLeastTour, ToursPay, IsFixedLow, IsPairMissing, IsTourTooCheap, IsPriceLow, NodeFails, NodeStands, NodesStand, FirstNodeFails}
use Rattle.branch_rules.specs.Waiting.{waiting_after}

-- What the reasons of each kind of node are.

abbrev PairFails : Support → ℕ → List Decision → ℕ → ℕ → Reason → Type 0
PairFails s at branch a b r = ((r ≡ Misfit (parts.Node at)) × ¬ (IsPairWithin s.problem.required a b)) ⊎ ((r ≡ NotLean at) × IsPairWithin s.problem.required a b × IsDetermined s.problem branch a b)

pair_fails : (s : Support) (bound at : ℕ) (branch : List Decision) (a b : ℕ) (r : Reason) → NodeFails s bound at branch (nodes.Pair a b) r → PairFails s at branch a b r
pair_fails s bound at branch a b (Misfit (parts.Node n)) fails = inl (ap (λ k. Misfit (parts.Node k)) fails.0, fails.1)
pair_fails s bound at branch a b (NotLean n) fails = inr (ap NotLean fails.0, fails.1, fails.2)
pair_fails s bound at branch a b _ fails = absurd fails

abbrev CutFails : Support → ℕ → List Decision → ℕ → ℕ → Reason → Type 0
CutFails s at branch border k r = (r ≡ NotLean at) × ¬ (IsLeanNode s.problem s.pool branch (4 - cuts_of branch) (nodes.Cut border k))

cut_fails : (s : Support) (bound at : ℕ) (branch : List Decision) (border k : ℕ) (r : Reason) → NodeFails s bound at branch (nodes.Cut border k) r → CutFails s at branch border k r
cut_fails s bound at branch border k (NotLean n) fails = (ap NotLean fails.0, fails.1)
cut_fails s bound at branch border k _ fails = absurd fails

abbrev VoidFails : Support → ℕ → List Decision → Reason → Type 0
VoidFails s at branch r = (r ≡ NotVoid at) × ¬ (IsVoid s.problem s.pool branch)

void_fails : (s : Support) (bound at : ℕ) (branch : List Decision) (r : Reason) → NodeFails s bound at branch nodes.Void r → VoidFails s at branch r
void_fails s bound at branch (NotVoid n) fails = (ap NotVoid fails.0, fails.1)
void_fails s bound at branch _ fails = absurd fails

record FixedLow (s : Support) (bound at : ℕ) (branch : List Decision) (r : Reason) : Type 0 where
  pub value : ℤ
  pub limit : ℤ
  pub is : r ≡ LeafLow at value limit
  pub low : IsFixedLow s bound branch value limit

abbrev FixedFails : Support → (bound at : ℕ) → List Decision → Reason → Type 0
FixedFails s bound at branch r = ((r ≡ NotFixed at) × ¬ (IsFixed s.problem s.pool branch)) ⊎ FixedLow s bound at branch r

fixed_fails : (s : Support) (bound at : ℕ) (branch : List Decision) (r : Reason) → NodeFails s bound at branch nodes.Fixed r → FixedFails s bound at branch r
fixed_fails s bound at branch (NotFixed n) fails = inl (ap NotFixed fails.0, fails.1)
fixed_fails s bound at branch (LeafLow n value limit) fails = inr (record { value = value; limit = limit; is = ap (λ k. LeafLow k value limit) fails.0; low = fails.1 })
fixed_fails s bound at branch _ fails = absurd fails

record Missing (s : Support) (at : ℕ) (branch : List Decision) (set : ℕ) (r : Reason) : Type 0 where
  pub border : ℕ
  pub is : r ≡ MissingUpper set at border
  pub lacks : IsWithoutUpper branch (set_at s set) (record { shore = border })

record Unpaired (s : Support) (at : ℕ) (branch : List Decision) (set : ℕ) (r : Reason) : Type 0 where
  pub a : ℕ
  pub b : ℕ
  pub is : r ≡ MissingYes set at a b
  pub missing : IsPairMissing branch (set_at s set) a b

record Cheap (s : Support) (at : ℕ) (branch : List Decision) (set : ℕ) (r : Reason) : Type 0 where
  pub value : ℤ
  pub is : r ≡ TourTooCheap set at value
  pub cheap : IsTourTooCheap s branch (set_at s set) value

record Low (s : Support) (bound at : ℕ) (branch : List Decision) (set : ℕ) (r : Reason) : Type 0 where
  pub value : ℤ
  pub limit : ℤ
  pub is : r ≡ LeafLow at value limit
  pub low : IsPriceLow s bound branch (set_at s set) value limit

data PriceFails (s : Support) (bound at : ℕ) (branch : List Decision) (set : ℕ) (r : Reason) : Type 0 where
  by_upper : Missing s at branch set r → PriceFails s bound at branch set r
  by_yes : Unpaired s at branch set r → PriceFails s bound at branch set r
  by_tour : Cheap s at branch set r → PriceFails s bound at branch set r
  by_value : Low s bound at branch set r → PriceFails s bound at branch set r

price_fails : (s : Support) (bound at : ℕ) (branch : List Decision) (set : ℕ) (r : Reason) → NodeFails s bound at branch (nodes.Price set) r → PriceFails s bound at branch set r
price_fails s bound at branch set (MissingUpper number n border) fails =
    by_upper (record { border = border; is = ap (λ i. MissingUpper i n border) fails.1 ∙ ap (λ k. MissingUpper set k border) fails.0; lacks = fails.2 })
price_fails s bound at branch set (MissingYes number n a b) fails =
    by_yes (record { a = a; b = b; is = ap (λ i. MissingYes i n a b) fails.1 ∙ ap (λ k. MissingYes set k a b) fails.0; missing = fails.2 })
price_fails s bound at branch set (TourTooCheap number n value) fails =
    by_tour (record { value = value; is = ap (λ i. TourTooCheap i n value) fails.1 ∙ ap (λ k. TourTooCheap set k value) fails.0; cheap = fails.2 })
price_fails s bound at branch set (LeafLow n value limit) fails = by_value (record { value = value; limit = limit; is = ap (λ k. LeafLow k value limit) fails.0; low = fails.1 })
price_fails s bound at branch set _ fails = absurd fails

-- Facts on leaves.

upper_or_not : (branch : List Decision) (set : Prices) (named : NoUpper) → All (HasUpper branch) set.weights → IsWithoutUpper branch set named → ⊥
upper_or_not branch set named all without = without.lacks (all without.place no_weight without.in_range)

one_border : (branch : List Decision) (set : Prices) (one other : NoUpper) → IsWithoutUpper branch set one → IsWithoutUpper branch set other → one.shore ≡ other.shore
one_border branch set one other is was = elim (cases_lt is.place was.place) [
  | inl less ↦ absurd (is.lacks (was.before is.place less))
  | inr more ↦ elim (cases_lt was.place is.place) [
    | inl less ↦ absurd (was.lacks (is.before was.place less))
    | inr same ↦
        let place : is.place ≡ was.place = omega (arith, more, same) in
        is.shore ∙ ap (λ k. (weight_at set k).shore) place ∙ sym was.shore
  ]
]

yes_or_not : (branch : List Decision) (set : Prices) (named : NoYes) → All (HasYes branch) set.groups → IsWithoutYes branch set named → ⊥
yes_or_not branch set named all without = without.lacks (all without.place no_group without.in_range)

-- two lists of two numbers that are the same have the same numbers
record SamePair (a b c d : ℕ) : Type 0 where
  first : a ≡ c
  second : b ≡ d

same_pair : (a b c d : ℕ) → a ∷ b ∷ [] ≡ c ∷ d ∷ [] → SamePair a b c d
same_pair a b c d same = record { first = cc; second = cc }

one_pair : (branch : List Decision) (set : Prices) (one other : NoYes) → IsWithoutYes branch set one → IsWithoutYes branch set other → SamePair one.a one.b other.a other.b
one_pair branch set one other is was = elim (cases_lt is.place was.place) [
  | inl less ↦ absurd (is.lacks (was.before is.place less))
  | inr more ↦ elim (cases_lt was.place is.place) [
    | inl less ↦ absurd (was.lacks (is.before was.place less))
    | inr same ↦
        let place : is.place ≡ was.place = omega (arith, more, same) in
        same_pair one.a one.b other.a other.b (sym is.edges ∙ ap (λ k. (group_at set k).edges) place ∙ was.edges)
  ]
]

pay_or_not : (s : Support) (branch : List Decision) (set : Prices) (value : ℤ) → ToursPay s branch set → IsLeastTour s branch set value → value <ℤ pos 0 → ⊥
pay_or_not s branch set value pays least negative =
    let enough = pays least.tasks least.attained.deadhead least.attained.tour least.attained.deadheads in
    let same : pos 0 ≤ℤ value = subst (λ z. pos 0 ≤ℤ z) (sym least.attained.sum) enough in
    omega (arith, ints, same, negative)

one_least : (s : Support) (branch : List Decision) (set : Prices) (v w : ℤ) → IsLeastTour s branch set v → IsLeastTour s branch set w → v ≡ w
one_least s branch set v w one other =
    let le = one.least other.tasks w other.attained in
    let ge = other.least one.tasks v one.attained in
    omega (arith, ints, le, ge)

-- No node both fails and is as it should be.

module _ (unique : FixedValueIsUnique) (s : Support) (bound : ℕ) where
  fixed_low_once : (at : ℕ) (branch : List Decision) (v l w m : ℤ) → IsFixedLow s bound branch v l → IsFixedLow s bound branch w m → LeafLow at v l ≡ LeafLow at w m
  fixed_low_once at branch v l w m one other =
      let same : v ≡ w = one.is_value ∙ ap pos (unique s.problem branch one.cost other.cost one.fixed other.fixed) ∙ sym other.is_value in
      let limits : l ≡ m = one.is_limit ∙ sym other.is_limit in
      ap (λ z. LeafLow at z l) same ∙ ap (λ z. LeafLow at w z) limits

  pub fails_or_stands : (at : ℕ) (branch : List Decision) (node : Node) (r : Reason) → NodeFails s bound at branch node r → NodeStands s bound branch node → ⊥
  fails_or_stands at branch (nodes.Pair a b) r fails stands = elim (pair_fails s bound at branch a b r fails) [
    | inl misfit ↦ misfit.1 stands.0
    | inr settled ↦ stands.1 settled.2
  ]
  fails_or_stands at branch (nodes.Cut border k) r fails stands = (cut_fails s bound at branch border k r fails).1 stands
  fails_or_stands at branch nodes.Void r fails stands = (void_fails s bound at branch r fails).1 stands
  fails_or_stands at branch nodes.Fixed r fails stands = elim (fixed_fails s bound at branch r fails) [
    | inl not ↦ not.1 stands.settled
    | inr low ↦ omega (arith, low.low.low, stands.enough, unique s.problem branch low.low.cost stands.value low.low.fixed stands.fixed)
  ]
  fails_or_stands at branch (nodes.Price set) r fails stands =
      let uppers = All-from_recursion (HasUpper branch) (set_at s set).weights stands.2.fits.has_upper in
      let yeses = All-from_recursion (HasYes branch) (set_at s set).groups stands.2.fits.has_yes in
      elim (price_fails s bound at branch set r fails) [
        | by_upper m ↦ upper_or_not branch (set_at s set) (record { shore = m.border }) uppers m.lacks
        | by_yes m ↦ yes_or_not branch (set_at s set) (record { a = m.a; b = m.b }) yeses m.missing.lacks
        | by_tour c ↦ pay_or_not s branch (set_at s set) c.value stands.2.fits.tours c.cheap.least c.cheap.negative
        | by_value l ↦
            let le = subst (λ z. z ≤ℤ l.limit) l.low.is_value l.low.low in
            let is = l.low.is_limit in
            let above = stands.2.above in
            omega (arith, ints, subst (λ z. _ ≤ℤ z) is le, above)
      ]

  pub one_reason : (at : ℕ) (branch : List Decision) (node : Node) (r q : Reason) → NodeFails s bound at branch node r → NodeFails s bound at branch node q → r ≡ q
  one_reason at branch (nodes.Pair a b) r q fails other = elim (pair_fails s bound at branch a b r fails) [
    | inl misfit ↦ elim (pair_fails s bound at branch a b q other) [
      | inl also ↦ misfit.0 ∙ sym also.0
      | inr settled ↦ absurd (misfit.1 settled.1)
    ]
    | inr settled ↦ elim (pair_fails s bound at branch a b q other) [
      | inl misfit ↦ absurd (misfit.1 settled.1)
      | inr also ↦ settled.0 ∙ sym also.0
    ]
  ]
  one_reason at branch (nodes.Cut border k) r q fails other = (cut_fails s bound at branch border k r fails).0 ∙ sym (cut_fails s bound at branch border k q other).0
  one_reason at branch nodes.Void r q fails other = (void_fails s bound at branch r fails).0 ∙ sym (void_fails s bound at branch q other).0
  one_reason at branch nodes.Fixed r q fails other = elim (fixed_fails s bound at branch r fails) [
    | inl not ↦ elim (fixed_fails s bound at branch q other) [
      | inl also ↦ not.0 ∙ sym also.0
      | inr low ↦ absurd (not.1 low.low.settled)
    ]
    | inr low ↦ elim (fixed_fails s bound at branch q other) [
      | inl not ↦ absurd (not.1 low.low.settled)
      | inr also ↦ low.is ∙ fixed_low_once at branch low.value low.limit also.value also.limit low.low also.low ∙ sym also.is
    ]
  ]
  one_reason at branch (nodes.Price set) r q fails other = both (price_fails s bound at branch set r fails) (price_fails s bound at branch set q other)
    where
      both : PriceFails s bound at branch set r → PriceFails s bound at branch set q → r ≡ q
      both (by_upper m) (by_upper n) =
          m.is ∙ ap (λ k. MissingUpper set at k) (one_border branch (set_at s set) (record { shore = m.border }) (record { shore = n.border }) m.lacks n.lacks) ∙ sym n.is
      both (by_upper m) (by_yes u) = absurd (upper_or_not branch (set_at s set) (record { shore = m.border }) u.missing.has_upper m.lacks)
      both (by_upper m) (by_tour c) = absurd (upper_or_not branch (set_at s set) (record { shore = m.border }) c.cheap.needs.has_upper m.lacks)
      both (by_upper m) (by_value l) = absurd (upper_or_not branch (set_at s set) (record { shore = m.border }) l.low.needs.has_upper m.lacks)
      both (by_yes u) (by_upper m) = absurd (upper_or_not branch (set_at s set) (record { shore = m.border }) u.missing.has_upper m.lacks)
      both (by_yes u) (by_yes v) =
          let same = one_pair branch (set_at s set) (record { a = u.a; b = u.b }) (record { a = v.a; b = v.b }) u.missing.lacks v.missing.lacks in
          u.is ∙ ap (λ k. MissingYes set at k u.b) same.first ∙ ap (λ k. MissingYes set at v.a k) same.second ∙ sym v.is
      both (by_yes u) (by_tour c) = absurd (yes_or_not branch (set_at s set) (record { a = u.a; b = u.b }) c.cheap.needs.has_yes u.missing.lacks)
      both (by_yes u) (by_value l) = absurd (yes_or_not branch (set_at s set) (record { a = u.a; b = u.b }) l.low.needs.has_yes u.missing.lacks)
      both (by_tour c) (by_upper m) = absurd (upper_or_not branch (set_at s set) (record { shore = m.border }) c.cheap.needs.has_upper m.lacks)
      both (by_tour c) (by_yes u) = absurd (yes_or_not branch (set_at s set) (record { a = u.a; b = u.b }) c.cheap.needs.has_yes u.missing.lacks)
      both (by_tour c) (by_tour d) = c.is ∙ ap (λ z. TourTooCheap set at z) (one_least s branch (set_at s set) c.value d.value c.cheap.least d.cheap.least) ∙ sym d.is
      both (by_tour c) (by_value l) = absurd (pay_or_not s branch (set_at s set) c.value l.low.pays c.cheap.least c.cheap.negative)
      both (by_value l) (by_upper m) = absurd (upper_or_not branch (set_at s set) (record { shore = m.border }) l.low.needs.has_upper m.lacks)
      both (by_value l) (by_yes u) = absurd (yes_or_not branch (set_at s set) (record { a = u.a; b = u.b }) l.low.needs.has_yes u.missing.lacks)
      both (by_value l) (by_tour c) = absurd (pay_or_not s branch (set_at s set) c.value l.low.pays c.cheap.least c.cheap.negative)
      both (by_value l) (by_value k) =
          l.is ∙ ap (λ z. LeafLow at z l.limit) (l.low.is_value ∙ sym k.low.is_value) ∙ ap (λ z. LeafLow at k.value z) (l.low.is_limit ∙ sym k.low.is_limit) ∙ sym k.is

  pub first_or_stand : (at : ℕ) (all : List Node) (waiting : List (List Decision)) (r : Reason) → FirstNodeFails s bound at all waiting r → NodesStand s bound all waiting → ⊥
  first_or_stand at [] waiting r fails stand = fails
  first_or_stand at (node ∷ all) [] r fails stand = fails
  first_or_stand at (node ∷ all) (branch ∷ waiting) r (inl here) stand = fails_or_stands at branch node r here stand.0
  first_or_stand at (node ∷ all) (branch ∷ waiting) r (inr later) stand = first_or_stand (at + 1) all (waiting_after branch node waiting) r later.1 stand.1

  pub one_first : (at : ℕ) (all : List Node) (waiting : List (List Decision)) (r q : Reason) → FirstNodeFails s bound at all waiting r → FirstNodeFails s bound at all waiting q → r ≡ q
  one_first at [] waiting r q fails other = absurd fails
  one_first at (node ∷ all) [] r q fails other = absurd fails
  one_first at (node ∷ all) (branch ∷ waiting) r q (inl here) (inl there) = one_reason at branch node r q here there
  one_first at (node ∷ all) (branch ∷ waiting) r q (inl here) (inr later) = absurd (fails_or_stands at branch node r here later.0)
  one_first at (node ∷ all) (branch ∷ waiting) r q (inr later) (inl here) = absurd (fails_or_stands at branch node q here later.0)
  one_first at (node ∷ all) (branch ∷ waiting) r q (inr later) (inr also) = one_first (at + 1) all (waiting_after branch node waiting) r q later.1 also.1
