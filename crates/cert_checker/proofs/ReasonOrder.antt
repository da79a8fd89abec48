-- The reasons in their order: each stands where all before it is right, and what it names is not.
use Rattle.std.proofs.Common.{◌≡◌, ◌≢◌, ℕ, ◌+◌, List, [], ◌∷◌, length, refl, sym, ap, ◌∙◌, subst, arith, inl, inr, ◌⊎◌, pos, ◌≤ℤ◌, Option, Some, None, IfSome, IsSomeAnd}
use Rattle.std.specs.List.{All}
use Rattle.std.proofs.lemmas.Int.{ints}
use Rattle.std.proofs.lemmas.Bool.{cases_lt}
use Rattle.carp_base.specs.Problem.{Problem, edge_at}
use Rattle.plan_model.specs.Plans.{IsLawful, plan_cost}
use Rattle.plan_model.specs.Laws.{FailuresAreComplete, VerdictIsUnique}
use Rattle.plan_model.specs.Verdicts.{IsVerdict, IsFailing}
use Rattle.plan_model.specs.declared.verdict.Verdict.{Verdict}
use Rattle.cut_pool.specs.Pools.{shore_at}
use Rattle.cut_pool.specs.Shores.{Belongs}
use Rattle.decision_chains.specs.PlanLaws.{FixedValueIsUnique}
use Rattle.branch_rules.specs.Prices.{deadhead_price}
use Rattle.branch_rules.specs.Refusals.{IsTooHeavy, NoneTooHeavy}
use Rattle.branch_rules.specs.Trees.{set_at}
use Rattle.branch_rules.specs.declared.price_set.TooHeavy.{TooHeavy}
use Rattle.cert_lines.specs.declared.counts.Counts.{Counts}
use Rattle.cert_lines.specs.Certificates.{Certificate}
use Rattle.cert_format.specs.Good.{IsGood, counts_in, support_of, HasPriceEach}
use Rattle.cert_checker.specs.declared.reason.Part.TheVariants as parts
use Rattle.cert_checker.specs.declared.reason.Reason.{Reason}
use Rattle.cert_checker.specs.declared.reason.Reason.TheVariants.{PlanUnlawful, CostDiffers, Misfit, WeightTooLarge, CountsDiffer, NotLean, NotVoid, NotFixed, MissingUpper, MissingYes, TourTooCheap, LeafLow}
use Rattle.cert_checker.specs.Nodes.{FirstNodeFails}
use Rattle.cert_checker.specs.Reasons.{five, FirstDiffers, IsFirstWithout, IsFirstHeavy, CountsAgree, HeadIsRight, IsFirstReason}
use Rattle.cert_checker.proofs.Backing.{at_set, at_shore, none_and_heavy}
use Rattle.cert_checker.proofs.NodeReasons.{first_or_stand, one_first}
use Rattle.cert_checker.proofs.Standing.{good_stands}

-- what each kind of reason says by itself

record CountsFail (p : Problem) (c : Certificate) (r : Reason) : Type 0 where
  pub place : ℕ
  pub stated : ℕ
  pub found : ℕ
  pub is : r ≡ CountsDiffer place stated found
  pub differs : IsSomeAnd c.counts (λ k. FirstDiffers 1 (five k) (five (counts_in p)) place stated found)

record PlanFails (p : Problem) (c : Certificate) (r : Reason) : Type 0 where
  pub verdict : Verdict
  pub is : r ≡ PlanUnlawful verdict
  pub says : IsVerdict p c.plan verdict
  pub fails : IsFailing verdict

record CostFails (p : Problem) (c : Certificate) (r : Reason) : Type 0 where
  pub stated : ℕ
  pub found : ℕ
  pub is : r ≡ CostDiffers stated found
  pub stated_is : stated ≡ c.cost
  pub found_is : found ≡ plan_cost p c.plan
  pub differs : stated ≢ found

record ShoreFails (p : Problem) (c : Certificate) (r : Reason) : Type 0 where
  pub number : ℕ
  pub is : r ≡ Misfit (parts.Shore number)
  pub first : IsFirstWithout (Belongs p) (shore_at c.shores) (length c.shores) number

record PricesFail (p : Problem) (c : Certificate) (r : Reason) : Type 0 where
  pub number : ℕ
  pub is : r ≡ Misfit (parts.Prices number)
  pub first : IsFirstWithout (HasPriceEach p) (set_at (support_of p c)) (length c.sets) number

record DeadheadFails (p : Problem) (c : Certificate) (r : Reason) : Type 0 where
  pub set : ℕ
  pub named : TooHeavy
  pub is : r ≡ WeightTooLarge set named.edge named.price
  pub first : IsFirstHeavy p c set named

abbrev Nodes : Problem → Certificate → Reason → Type 0
Nodes p c r = FirstNodeFails (support_of p c) c.bound 1 c.nodes ([] ∷ []) r

abbrev Then : (F : Reason → Type 0) (Right : Type 0) (More : Reason → Type 0) → Reason → Type 0
Then F Right More r = F r ⊎ (Right × More r)

abbrev Order6 : Problem → Certificate → Reason → Type 0
Order6 p c = Then (DeadheadFails p c) (All (NoneTooHeavy p c.shores) c.sets) (Nodes p c)

abbrev Order5 : Problem → Certificate → Reason → Type 0
Order5 p c = Then (PricesFail p c) (All (HasPriceEach p) c.sets) (Order6 p c)

abbrev Order4 : Problem → Certificate → Reason → Type 0
Order4 p c = Then (ShoreFails p c) (All (Belongs p) c.shores) (Order5 p c)

abbrev Order3 : Problem → Certificate → Reason → Type 0
Order3 p c = Then (CostFails p c) (c.cost ≡ plan_cost p c.plan) (Order4 p c)

abbrev Order2 : Problem → Certificate → Reason → Type 0
Order2 p c = Then (PlanFails p c) (IsLawful p c.plan) (Order3 p c)

abbrev Order1 : Problem → Certificate → Reason → Type 0
Order1 p c = Then (CountsFail p c) (CountsAgree p c) (Order2 p c)

at_nodes : (p : Problem) (c : Certificate) (r : Reason) → HeadIsRight p c → Nodes p c r → Order1 p c r
at_nodes p c r h fails =
    inr (h.prices.shores.plan.plan.counts, inr (h.prices.shores.plan.plan.lawful, inr (h.prices.shores.plan.cost, inr (h.prices.shores.shores, inr (h.prices.prices, inr (h.deadheads, fails))))))

in_order : (p : Problem) (c : Certificate) (r : Reason) → IsFirstReason p c r → Order1 p c r
in_order p c (CountsDiffer place stated found) h = inl (record { place = place; stated = stated; found = found; is = refl; differs = h })
in_order p c (PlanUnlawful v) h = inr (h.0, inl (record { verdict = v; is = refl; says = h.1; fails = h.2 }))
in_order p c (CostDiffers stated found) h =
    inr (h.0.counts, inr (h.0.lawful, inl (record { stated = stated; found = found; is = refl; stated_is = h.1; found_is = h.2; differs = h.3 })))
in_order p c (Misfit (parts.Shore n)) h =
    inr (h.0.plan.counts, inr (h.0.plan.lawful, inr (h.0.cost, inl (record { number = n; is = refl; first = h.1 }))))
in_order p c (Misfit (parts.Prices n)) h =
    inr (h.0.plan.plan.counts, inr (h.0.plan.plan.lawful, inr (h.0.plan.cost, inr (h.0.shores, inl (record { number = n; is = refl; first = h.1 })))))
in_order p c (WeightTooLarge set edge price) h =
    inr (
      h.0.shores.plan.plan.counts,
      inr (
        h.0.shores.plan.plan.lawful,
        inr (
          h.0.shores.plan.cost,
          inr (
            h.0.shores.shores,
            inr (
              h.0.prices,
              inl (record { set = set; named = record { edge = edge; price = price }; is = refl; first = h.1 }),
            ),
          ),
        ),
      ),
    )
in_order p c (Misfit (parts.Node n)) h = at_nodes p c (Misfit (parts.Node n)) h.0 h.1
in_order p c (NotLean n) h = at_nodes p c (NotLean n) h.0 h.1
in_order p c (NotVoid n) h = at_nodes p c (NotVoid n) h.0 h.1
in_order p c (NotFixed n) h = at_nodes p c (NotFixed n) h.0 h.1
in_order p c (MissingUpper set n border) h = at_nodes p c (MissingUpper set n border) h.0 h.1
in_order p c (MissingYes set n a b) h = at_nodes p c (MissingYes set n a b) h.0 h.1
in_order p c (TourTooCheap set n value) h = at_nodes p c (TourTooCheap set n value) h.0 h.1
in_order p c (LeafLow n value limit) h = at_nodes p c (LeafLow n value limit) h.0 h.1

-- one reason at most in an order, where its first kind has one at most, and none where its part is right
one_of : (F : Reason → Type 0) (Right : Type 0) (More : Reason → Type 0) → ((r : Reason) → F r → Right → ⊥) → ((r q : Reason) → F r → F q → r ≡ q) → ((r q : Reason) → More r → More q → r ≡ q) →
    (r q : Reason) → Then F Right More r → Then F Right More q → r ≡ q
one_of F Right More apart once more r q (inl here) (inl there) = once r q here there
one_of F Right More apart once more r q (inl here) (inr later) = absurd (apart r here later.0)
one_of F Right More apart once more r q (inr later) (inl here) = absurd (apart q here later.0)
one_of F Right More apart once more r q (inr later) (inr also) = more r q later.1 also.1

none_of : (F : Reason → Type 0) (Right : Type 0) (More : Reason → Type 0) → ((r : Reason) → F r → Right → ⊥) → Right → ((r : Reason) → More r → ⊥) → (r : Reason) → Then F Right More r → ⊥
none_of F Right More apart right none r (inl here) = apart r here right
none_of F Right More apart right none r (inr later) = none r later.1

-- The numbers of the instance.

differs_not : (at : ℕ) (xs : List ℕ) (place x y : ℕ) → FirstDiffers at xs xs place x y → ⊥
differs_not at [] place x y differs = differs
differs_not at (s ∷ xs) place x y (inl here) = here.0 refl
differs_not at (s ∷ xs) place x y (inr later) = differs_not (at + 1) xs place x y later.1

record SameDifference (a x y b z w : ℕ) : Type 0 where
  pub place : a ≡ b
  pub stated : x ≡ z
  pub found : y ≡ w

differs_once : (at : ℕ) (xs ys : List ℕ) (a x y b z w : ℕ) → FirstDiffers at xs ys a x y → FirstDiffers at xs ys b z w → SameDifference a x y b z w
differs_once at [] ys a x y b z w one other = absurd one
differs_once at (s ∷ xs) [] a x y b z w one other = absurd one
differs_once at (s ∷ xs) (f ∷ ys) a x y b z w (inl one) (inl other) = record { place = one.1 ∙ sym other.1; stated = one.2 ∙ sym other.2; found = one.3 ∙ sym other.3 }
differs_once at (s ∷ xs) (f ∷ ys) a x y b z w (inl one) (inr other) = absurd (one.0 other.0)
differs_once at (s ∷ xs) (f ∷ ys) a x y b z w (inr one) (inl other) = absurd (other.0 one.0)
differs_once at (s ∷ xs) (f ∷ ys) a x y b z w (inr one) (inr other) = differs_once (at + 1) xs ys a x y b z w one.1 other.1

counts_or : (counts : Option Counts) (found : Counts) (a x y : ℕ) → IsSomeAnd counts (λ k. FirstDiffers 1 (five k) (five found) a x y) → IfSome counts (λ k. k ≡ found) → ⊥
counts_or None found a x y differs agree = differs
counts_or (Some k) found a x y differs agree = differs_not 1 (five found) a x y (subst (λ (j : Counts). FirstDiffers 1 (five j) (five found) a x y) agree differs)

counts_once : (counts : Option Counts) (found : Counts) (a x y b z w : ℕ) → IsSomeAnd counts (λ k. FirstDiffers 1 (five k) (five found) a x y) → IsSomeAnd counts (λ k. FirstDiffers 1 (five k) (five found) b z w) →
    SameDifference a x y b z w
counts_once None found a x y b z w one other = absurd one
counts_once (Some k) found a x y b z w one other = differs_once 1 (five k) (five found) a x y b z w one other

-- The first item that lacks something.

first_once : {X : Type 0} (P : X → Type 0) (at : ℕ → X) (count n m : ℕ) → IsFirstWithout P at count n → IsFirstWithout P at count m → n ≡ m
first_once P at count n m one other = elim (cases_lt n m) [
  | inl less ↦ absurd (one.lacks (other.before n one.from_one less))
  | inr more ↦ elim (cases_lt m n) [
    | inl less ↦ absurd (other.lacks (one.before m other.from_one less))
    | inr same ↦ omega (arith, more, same)
  ]
]

module _ (p : Problem) (c : Certificate) where
  heavy_set_once : (n m : ℕ) (h g : TooHeavy) → IsFirstHeavy p c n h → IsFirstHeavy p c m g → n ≡ m
  heavy_set_once n m h g one other = elim (cases_lt n m) [
    | inl less ↦ absurd (none_and_heavy p c.shores (set_at (support_of p c) n) h (other.before n one.from_one less) one.heavy)
    | inr more ↦ elim (cases_lt m n) [
      | inl less ↦ absurd (none_and_heavy p c.shores (set_at (support_of p c) m) g (one.before m other.from_one less) other.heavy)
      | inr same ↦ omega (arith, more, same)
    ]
  ]

  heavy_edge_once : (n : ℕ) (h g : TooHeavy) → IsTooHeavy p c.shores (set_at (support_of p c) n) h → IsTooHeavy p c.shores (set_at (support_of p c) n) g → h.edge ≡ g.edge
  heavy_edge_once n h g one other = elim (cases_lt h.edge g.edge) [
    | inl less ↦ absurd (negative_or h (other.before h.edge one.edge less) one)
    | inr more ↦ elim (cases_lt g.edge h.edge) [
      | inl less ↦ absurd (negative_or g (one.before g.edge other.edge less) other)
      | inr same ↦ omega (arith, more, same)
    ]
  ]
    where
      negative_or : (k : TooHeavy) → pos 0 ≤ℤ deadhead_price c.shores (set_at (support_of p c) n) (edge_at p k.edge) → IsTooHeavy p c.shores (set_at (support_of p c) n) k → ⊥
      negative_or k enough heavy =
          let at : pos 0 ≤ℤ k.price = subst (λ z. pos 0 ≤ℤ z) (sym heavy.price) enough in
          omega (arith, ints, at, heavy.negative)

  heavy_once : (r q : Reason) → DeadheadFails p c r → DeadheadFails p c q → r ≡ q
  heavy_once r q one other =
      let sets : one.set ≡ other.set = heavy_set_once one.set other.set one.named other.named one.first other.first in
      let also : IsTooHeavy p c.shores (set_at (support_of p c) other.set) one.named = subst (λ n. IsTooHeavy p c.shores (set_at (support_of p c) n) one.named) sets one.first.heavy in
      let edges : one.named.edge ≡ other.named.edge = heavy_edge_once other.set one.named other.named also other.first.heavy in
      let prices : one.named.price ≡ other.named.price =
      also.price ∙ ap (λ e. deadhead_price c.shores (set_at (support_of p c) other.set) (edge_at p e)) edges ∙ sym other.first.heavy.price in
      one.is ∙ ap (λ n. WeightTooLarge n one.named.edge one.named.price) sets ∙ ap (λ e. WeightTooLarge other.set e one.named.price) edges
      ∙ ap (λ z. WeightTooLarge other.set other.named.edge z) prices ∙ sym other.is

  counts_apart : (r : Reason) → CountsFail p c r → CountsAgree p c → ⊥
  counts_apart r one agree = counts_or c.counts (counts_in p) one.place one.stated one.found one.differs agree

  counts_same : (r q : Reason) → CountsFail p c r → CountsFail p c q → r ≡ q
  counts_same r q one other =
      let same = counts_once c.counts (counts_in p) one.place one.stated one.found other.place other.stated other.found one.differs other.differs in
      one.is ∙ ap (λ n. CountsDiffer n one.stated one.found) same.place ∙ ap (λ n. CountsDiffer other.place n one.found) same.stated
      ∙ ap (λ n. CountsDiffer other.place other.stated n) same.found ∙ sym other.is

  plan_apart : FailuresAreComplete → (r : Reason) → PlanFails p c r → IsLawful p c.plan → ⊥
  plan_apart complete r one lawful = (complete p c.plan).0 lawful one.verdict one.fails one.says.applies

  plan_same : VerdictIsUnique → (r q : Reason) → PlanFails p c r → PlanFails p c q → r ≡ q
  plan_same unique r q one other = one.is ∙ ap PlanUnlawful (unique p c.plan one.verdict other.verdict one.says other.says) ∙ sym other.is

  cost_apart : (r : Reason) → CostFails p c r → c.cost ≡ plan_cost p c.plan → ⊥
  cost_apart r one right = one.differs (one.stated_is ∙ right ∙ sym one.found_is)

  cost_same : (r q : Reason) → CostFails p c r → CostFails p c q → r ≡ q
  cost_same r q one other =
      one.is ∙ ap (λ n. CostDiffers n one.found) (one.stated_is ∙ sym other.stated_is) ∙ ap (λ n. CostDiffers other.stated n) (one.found_is ∙ sym other.found_is) ∙ sym other.is

  shore_apart : (r : Reason) → ShoreFails p c r → All (Belongs p) c.shores → ⊥
  shore_apart r one all = one.first.lacks (at_shore (Belongs p) c.shores one.number all (record { from_one = one.first.from_one; in_range = one.first.in_range }))

  shore_same : (r q : Reason) → ShoreFails p c r → ShoreFails p c q → r ≡ q
  shore_same r q one other = one.is ∙ ap (λ n. Misfit (parts.Shore n)) (first_once (Belongs p) (shore_at c.shores) (length c.shores) one.number other.number one.first other.first) ∙ sym other.is

  prices_apart : (r : Reason) → PricesFail p c r → All (HasPriceEach p) c.sets → ⊥
  prices_apart r one all = one.first.lacks (at_set (HasPriceEach p) (support_of p c) one.number all (record { from_one = one.first.from_one; in_range = one.first.in_range }))

  prices_same : (r q : Reason) → PricesFail p c r → PricesFail p c q → r ≡ q
  prices_same r q one other =
      one.is ∙ ap (λ n. Misfit (parts.Prices n)) (first_once (HasPriceEach p) (set_at (support_of p c)) (length c.sets) one.number other.number one.first other.first) ∙ sym other.is

  deadhead_apart : (r : Reason) → DeadheadFails p c r → All (NoneTooHeavy p c.shores) c.sets → ⊥
  deadhead_apart r one all =
      none_and_heavy p c.shores (set_at (support_of p c) one.set) one.named
      (at_set (NoneTooHeavy p c.shores) (support_of p c) one.set all (record { from_one = one.first.from_one; in_range = one.first.in_range })) one.first.heavy

-- what is known of verdicts and of fixed values
pub record Known : Type 0 where
  pub unique : VerdictIsUnique
  pub complete : FailuresAreComplete
  pub fixed_once : FixedValueIsUnique

pub unique_law : Known → (p : Problem) (c : Certificate) (r q : Reason) → IsFirstReason p c r → IsFirstReason p c q → r ≡ q
unique_law known p c r q one other =
    one_of (CountsFail p c) (CountsAgree p c) (Order2 p c) (counts_apart p c) (counts_same p c)
    (one_of (PlanFails p c) (IsLawful p c.plan) (Order3 p c) (plan_apart p c known.complete) (plan_same p c known.unique)
    (one_of (CostFails p c) (c.cost ≡ plan_cost p c.plan) (Order4 p c) (cost_apart p c) (cost_same p c)
    (one_of (ShoreFails p c) (All (Belongs p) c.shores) (Order5 p c) (shore_apart p c) (shore_same p c)
    (one_of (PricesFail p c) (All (HasPriceEach p) c.sets) (Order6 p c) (prices_apart p c) (prices_same p c)
    (one_of (DeadheadFails p c) (All (NoneTooHeavy p c.shores) c.sets) (Nodes p c) (deadhead_apart p c) (heavy_once p c)
    (one_first known.fixed_once (support_of p c) c.bound 1 c.nodes ([] ∷ [])))))))
    r q (in_order p c r one) (in_order p c q other)

pub none_law : Known → (p : Problem) (c : Certificate) (r : Reason) → IsGood p c → IsFirstReason p c r → ⊥
none_law known p c r good first =
    none_of (CountsFail p c) (CountsAgree p c) (Order2 p c) (counts_apart p c) good.counts
    (none_of (PlanFails p c) (IsLawful p c.plan) (Order3 p c) (plan_apart p c known.complete) good.lawful
    (none_of (CostFails p c) (c.cost ≡ plan_cost p c.plan) (Order4 p c) (cost_apart p c) good.cost
    (none_of (ShoreFails p c) (All (Belongs p) c.shores) (Order5 p c) (shore_apart p c) good.shores
    (none_of (PricesFail p c) (All (HasPriceEach p) c.sets) (Order6 p c) (prices_apart p c) good.prices
    (none_of (DeadheadFails p c) (All (NoneTooHeavy p c.shores) c.sets) (Nodes p c) (deadhead_apart p c) good.deadheads
    (λ q fails. first_or_stand known.fixed_once (support_of p c) c.bound 1 c.nodes ([] ∷ []) q fails (good_stands p c good)))))))
    r (in_order p c r first)
