-- What is found of a price leaf whose tours pay.
use Rattle.std.proofs.Common.{◌≡◌, ℕ, zero, suc, List, refl, sym, subst, arith, ℤ, ◌<ℤ◌, Option, Some, None}
use Rattle.std.proofs.lemmas.List.Elements.{recursion_from_All}
use Rattle.decision_chains.specs.declared.decision.Decision.{Decision}
use Rattle.branch_rules.specs.Decisions.{rules_of}
use Rattle.branch_rules.specs.Prices.{value_of}
use Rattle.branch_rules.specs.Refusals.{HasUpper, HasYes, NoneTooHeavy}
use Rattle.branch_rules.specs.Trees.{Support, no_prices, set_at}
use Rattle.branch_rules.specs.declared.node.Node.TheVariants as nodes
use Rattle.cert_checker.specs.Claims.{IsBacked, IsSetNumber}
use Rattle.cert_checker.specs.Leaves.{NodeSays, ValueSays}
use Rattle.cert_checker.specs.Nodes.{HasWhatItNeeds, NodeFails, ToursPay, limit_of}
use Rattle.cert_checker.specs.declared.reason.Reason.{Reason}

-- a set of a number has no negative price of a deadhead
light_at : (s : Support) (set : ℕ) → IsBacked s → IsSetNumber s set → NoneTooHeavy s.problem s.pool (set_at s set)
light_at s zero backed number = absurd (omega (arith, number.from_one))
light_at s (suc k) backed number = backed.deadheads k no_prices (omega (arith, number.in_range))

-- the value decides whether the leaf shows the bound
pub price_says : (s : Support) (bound at : ℕ) (branch : List Decision) (set : ℕ) (value limit : ℤ) (reason : Option Reason) → IsBacked s → IsSetNumber s set →
    HasWhatItNeeds branch (set_at s set) → value ≡ value_of (rules_of s.problem s.pool branch) (set_at s set) → limit ≡ limit_of (set_at s set).unit bound →
    ToursPay s branch (set_at s set) → ValueSays at value limit reason → NodeSays s bound at branch (nodes.Price set) reason
price_says s bound at branch set value limit None backed number needs is_value is_limit pays says = (
  number.from_one,
  number.in_range,
  record {
    fits = record {
      not_negative = light_at s set backed number;
      has_upper = recursion_from_All (HasUpper branch) (set_at s set).weights needs.has_upper;
      has_yes = recursion_from_All (HasYes branch) (set_at s set).groups needs.has_yes;
      tours = pays;
    };
    above = subst (λ z. z <ℤ value_of (rules_of s.problem s.pool branch) (set_at s set)) is_limit (subst (λ z. limit <ℤ z) is_value says);
  },
)
price_says s bound at branch set value limit (Some reason) backed number needs is_value is_limit pays says =
    subst (NodeFails s bound at branch (nodes.Price set)) (sym says.0) (refl, record { needs = needs; pays = pays; is_value = is_value; is_limit = is_limit; low = says.1 })
