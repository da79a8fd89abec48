-- The first reason why a certificate is not good for an instance.
use Rattle.std.specs.Prelude.{◌≡◌, ◌≢◌, ℕ, ◌+◌, ◌<◌, ◌≤◌, List, [], ◌∷◌, length, ◌⊎◌, IfSome, IsSomeAnd}
use Rattle.std.specs.List.{All}
use Rattle.carp_base.specs.Problem.{Problem}
use Rattle.plan_model.specs.Plans.{IsLawful, plan_cost}
use Rattle.plan_model.specs.Verdicts.{IsVerdict, IsFailing}
use Rattle.cut_pool.specs.Shores.{Belongs}
use Rattle.cut_pool.specs.Pools.{shore_at}
use Rattle.branch_rules.specs.declared.price_set.TooHeavy.{TooHeavy}
use Rattle.branch_rules.specs.Refusals.{NoneTooHeavy, IsTooHeavy}
use Rattle.branch_rules.specs.Trees.{set_at}
use Rattle.cert_lines.specs.declared.counts.Counts.{Counts}
use Rattle.cert_lines.specs.Certificates.{Certificate}
use Rattle.cert_format.specs.Good.{IsGood, IsProof, counts_in, support_of, HasPriceEach}
use Rattle.cert_checker.specs.declared.reason.Answer.{Answer}
use Rattle.cert_checker.specs.declared.reason.Answer.TheVariants.{Accepted, Rejected}
use Rattle.cert_checker.specs.declared.reason.Part.TheVariants as parts
use Rattle.cert_checker.specs.declared.reason.Reason.{Reason}
use Rattle.cert_checker.specs.declared.reason.Reason.TheVariants.{PlanUnlawful, CostDiffers, Misfit, WeightTooLarge, CountsDiffer, NotLean, NotVoid, NotFixed, MissingUpper, MissingYes, TourTooCheap, LeafLow}
use Rattle.cert_checker.specs.Nodes.{FirstNodeFails}

-- the five numbers of an instance, in their order
abbrev pub five : Counts → List ℕ
five k = k.vertices ∷ k.edges ∷ k.required ∷ k.capacity ∷ k.demand ∷ []

-- the first of two lists of numbers in which they differ: its place, from this one on, and the two numbers
abbrev pub FirstDiffers : (at : ℕ) → (stated found : List ℕ) → (place x y : ℕ) → Type 0
FirstDiffers at (s ∷ stated) (f ∷ found) place x y =
    ((s ≢ f) × (place ≡ at) × (x ≡ s) × (y ≡ f)) ⊎ ((s ≡ f) × FirstDiffers (at + 1) stated found place x y)
FirstDiffers at stated found place x y = ⊥

-- the item of this number is the first that has not the property; items are counted from 1
pub record IsFirstWithout {X : Type 0} (P : X → Type 0) (at : ℕ → X) (count number : ℕ) : Type 0 where
  pub from_one : 1 ≤ number
  pub in_range : number ≤ count
  pub lacks : ¬ (P (at number))
  pub before : (k : ℕ) → 1 ≤ k → k < number → P (at k)

-- the numbers of the instance, if they are stated, are right
abbrev pub CountsAgree : Problem → Certificate → Type 0
CountsAgree p c = IfSome c.counts (λ k. k ≡ counts_in p)

-- and the plan is lawful
pub record PlanIsLawful (p : Problem) (c : Certificate) : Type 0 where
  pub counts : CountsAgree p c
  pub lawful : IsLawful p c.plan

-- and its cost is as stated
pub record PlanIsRight (p : Problem) (c : Certificate) : Type 0 where
  pub plan : PlanIsLawful p c
  pub cost : c.cost ≡ plan_cost p c.plan

-- and each shore belongs to the instance
pub record ShoresAreRight (p : Problem) (c : Certificate) : Type 0 where
  pub plan : PlanIsRight p c
  pub shores : All (Belongs p) c.shores

-- and each price set has its prices
pub record PricesAreRight (p : Problem) (c : Certificate) : Type 0 where
  pub shores : ShoresAreRight p c
  pub prices : All (HasPriceEach p) c.sets

-- and no price of a deadhead is negative
pub record HeadIsRight (p : Problem) (c : Certificate) : Type 0 where
  pub prices : PricesAreRight p c
  pub deadheads : All (NoneTooHeavy p c.shores) c.sets

-- the first price set with a negative price of a deadhead, and its first such edge
pub record IsFirstHeavy (p : Problem) (c : Certificate) (set : ℕ) (named : TooHeavy) : Type 0 where
  pub from_one : 1 ≤ set
  pub in_range : set ≤ length c.sets
  pub heavy : IsTooHeavy p c.shores (set_at (support_of p c) set) named
  pub before : (k : ℕ) → 1 ≤ k → k < set → NoneTooHeavy p c.shores (set_at (support_of p c) k)

-- all that stands before the nodes is right, and this is the reason of the first node that fails
abbrev pub NodesFail : Problem → Certificate → Reason → Type 0
NodesFail p c reason = HeadIsRight p c × FirstNodeFails (support_of p c) c.bound 1 c.nodes ([] ∷ []) reason

-- the first reason, in this order: counts, plan, cost, shores, numbers of prices, prices of deadheads, nodes
abbrev pub IsFirstReason : Problem → Certificate → Reason → Type 0
IsFirstReason p c (CountsDiffer place stated found) = IsSomeAnd c.counts (λ k. FirstDiffers 1 (five k) (five (counts_in p)) place stated found)
IsFirstReason p c (PlanUnlawful verdict) = CountsAgree p c × IsVerdict p c.plan verdict × IsFailing verdict
IsFirstReason p c (CostDiffers stated found) = PlanIsLawful p c × (stated ≡ c.cost) × (found ≡ plan_cost p c.plan) × (stated ≢ found)
IsFirstReason p c (Misfit (parts.Shore n)) = PlanIsRight p c × IsFirstWithout (Belongs p) (shore_at c.shores) (length c.shores) n
IsFirstReason p c (Misfit (parts.Prices n)) = ShoresAreRight p c × IsFirstWithout (HasPriceEach p) (set_at (support_of p c)) (length c.sets) n
IsFirstReason p c (WeightTooLarge set edge price) = PricesAreRight p c × IsFirstHeavy p c set (record { edge = edge; price = price })
IsFirstReason p c (Misfit (parts.Node n)) = NodesFail p c (Misfit (parts.Node n))
IsFirstReason p c (NotLean n) = NodesFail p c (NotLean n)
IsFirstReason p c (NotVoid n) = NodesFail p c (NotVoid n)
IsFirstReason p c (NotFixed n) = NodesFail p c (NotFixed n)
IsFirstReason p c (MissingUpper set n border) = NodesFail p c (MissingUpper set n border)
IsFirstReason p c (MissingYes set n a b) = NodesFail p c (MissingYes set n a b)
IsFirstReason p c (TourTooCheap set n value) = NodesFail p c (TourTooCheap set n value)
IsFirstReason p c (LeafLow n value limit) = NodesFail p c (LeafLow n value limit)

-- the answer: a good certificate is accepted, and one that is not has its first reason
abbrev pub IsAnswer : Problem → Certificate → Answer → Type 0
IsAnswer p c Accepted = IsGood p c
IsAnswer p c (Rejected reason) = IsFirstReason p c reason

-- what is accepted is a proof
abbrev pub Proves : Problem → Certificate → Answer → Type 0
Proves p c Accepted = IsProof p c
Proves p c (Rejected reason) = Unit {0}

-- no good certificate has a reason
abbrev pub GoodHasNoReason : Type 0
GoodHasNoReason = (p : Problem) (c : Certificate) (reason : Reason) → IsGood p c → ¬ (IsFirstReason p c reason)

-- a certificate has at most one first reason
abbrev pub ReasonIsUnique : Type 0
ReasonIsUnique = (p : Problem) (c : Certificate) (reason other : Reason) → IsFirstReason p c reason → IsFirstReason p c other → reason ≡ other
