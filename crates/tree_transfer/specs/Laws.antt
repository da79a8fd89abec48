-- What holds in an instance and stays when its numbers rise.
use Rattle.std.specs.Prelude.{◌≡◌, ℕ, ◌≤◌, ◌≤ℤ◌, ◌↔◌, Bool, [], List}
use Rattle.carp_base.specs.Problem.{Problem, IsValid, IsRequired}
use Rattle.cut_pool.specs.Shores.{need, required_crossings}
use Rattle.decision_chains.specs.declared.decision.Decision.{Decision}
use Rattle.decision_chains.specs.Exclusions.{IsYes, Excluded}
use Rattle.decision_chains.specs.FixedValue.{HasFixedValue}
use Rattle.branch_rules.specs.Bonds.{GroupWeight, room}
use Rattle.branch_rules.specs.Prices.{Prices, Fits, room_weight}
use Rattle.branch_rules.specs.Decisions.{lowest, rules_of}
use Rattle.branch_rules.specs.Refusals.{NoneTooHeavy}
use Rattle.instance_edits.specs.declared.edit.Edit.{Edit}
use Rattle.instance_edits.specs.Edits.{AreKnown, edited}
use Rattle.tree_transfer.specs.Raised.{IsRaised}

-- edits raise an instance
abbrev pub EditsRaise : Type 0
EditsRaise = (p : Problem) (edits : List Edit) → IsValid p → AreKnown p [] edits → IsRaised p (edited p edits)

-- a set of vertices needs no fewer deadheads than it did, and as many required edges cross it
pub record IsNoLessNeeded (old new : Problem) (inside : ℕ → Bool) : Type 0 where
  pub crossings : required_crossings new inside ≡ required_crossings old inside
  pub needs : need old inside ≤ need new inside

abbrev pub NeedsRise : Type 0
NeedsRise = (old new : Problem) → IsValid old → IsValid new → IsRaised old new → (inside : ℕ → Bool) → IsNoLessNeeded old new inside

-- a group has no more room than it had; so it is of any list of edges
abbrev pub RoomsFall : Type 0
RoomsFall = (old new : Problem) → IsValid old → IsValid new → IsRaised old new → (group : List ℕ) → room new group ≤ room old group

-- the bonds of a price set can weigh no more than they could, so that its value is no lower on their account
abbrev pub RoomWeightsFall : Type 0
RoomWeightsFall = (old new : Problem) (pool : List (List ℕ)) (before after : List Decision) → IsValid old → IsValid new → IsRaised old new →
    (groups : List GroupWeight) → room_weight (rules_of new pool after) groups ≤ℤ room_weight (rules_of old pool before) groups

-- no deadhead price that was not negative becomes so
abbrev pub DeadheadsStayLight : Type 0
DeadheadsStayLight = (old new : Problem) (pool : List (List ℕ)) (set : Prices) → IsRaised old new → NoneTooHeavy old pool set → NoneTooHeavy new pool set

-- a price set that fits under a branch fits under one with the same upper numbers that says yes to the pairs that it did and excludes what it did
abbrev pub SetsStayFit : Type 0
SetsStayFit = (old new : Problem) (pool : List (List ℕ)) (before after : List Decision) (set : Prices) → IsValid old → IsValid new → IsRaised old new →
    ((shore : ℕ) → lowest shore after ≡ lowest shore before) → ((a b : ℕ) → IsYes before a b → IsYes after a b) →
    ((a b : ℕ) → Excluded old before a b → Excluded new after a b) →
    Fits old pool (rules_of old pool before) (λ a b. ¬ (Excluded old before a b)) set → Fits new pool (rules_of new pool after) (λ a b. ¬ (Excluded new after a b)) set

-- with the same yes pairs, which are of required edges, chains cost no less than they did
abbrev pub FixedValuesRise : Type 0
FixedValuesRise = (old new : Problem) (before after : List Decision) (value risen : ℕ) → IsRaised old new → ((a b : ℕ) → IsYes after a b ↔ IsYes before a b) →
    ((a b : ℕ) → IsYes after a b → IsRequired new b) → HasFixedValue old before value → HasFixedValue new after risen → value ≤ risen
