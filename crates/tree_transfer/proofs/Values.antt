-- What a price leaf and a fixed leaf show.
use Rattle.std.proofs.Common.{◌≡◌, ℕ, zero, suc, ◌*◌, ◌≤◌, List, min, ap, arith, length, ℤ, pos, ◌-ℤ◌, ◌*ℤ◌}
use Rattle.std.specs.List.{All}
use Rattle.std.proofs.lemmas.Int.{ints}
use Rattle.std.proofs.lemmas.List.Elements.{All-get_or}
use Rattle.decision_chains.specs.declared.decision.Decision.{Decision}
use Rattle.decision_chains.specs.FixedValue.{HasFixedValue}
use Rattle.decision_chains.specs.PlanLaws.{FixedValueIsUnique}
use Rattle.branch_rules.specs.Decisions.{IsFixed, rules_of}
use Rattle.branch_rules.specs.Limits.{IsShoreOf}
use Rattle.branch_rules.specs.Prices.{Prices, value_of}
use Rattle.branch_rules.specs.Trees.{Support, no_prices, set_at}
use Rattle.grown_trees.specs.Values.{IsMostShown, IsShown}
use Rattle.tree_transfer.specs.Bounding.{FixedShowsUpTo, PriceShowsSome, PriceShowsUpTo}
use Rattle.tree_transfer.specs.Shown.{HasShores}

-- a value that shows some bound shows 0
pub shows_none : (unit bound : ℕ) (value : ℤ) → IsShown unit value bound → IsShown unit value 0
shows_none unit zero value above = above
shows_none unit (suc b) value above =
    let one_less : (pos (suc b) -ℤ pos 1) ≡ pos b = omega (arith, ints) in
    let whole : (pos unit *ℤ (pos (suc b) -ℤ pos 1)) ≡ pos (unit * b) = ap (λ (z : ℤ). pos unit *ℤ z) one_less in
    omega (arith, ints, above, whole)

-- the shores of the weights of a set
pub set_shores : (c : Support) (set : ℕ) → HasShores c → 1 ≤ set → set ≤ length c.sets → All (λ w. IsShoreOf c.problem c.pool w.shore) (set_at c set).weights
set_shores c zero has from_one within = absurd (omega (arith, from_one))
set_shores c (suc k) has from_one within = All-get_or (λ (s : Prices). All (λ w. IsShoreOf c.problem c.pool w.shore) s.weights) c.sets k no_prices (omega (arith, within)) has

pub price_up_to : (c : Support) (branch : List Decision) (set most : ℕ) → PriceShowsSome c branch set → IsMostShown (set_at c set).unit (value_of (rules_of c.problem c.pool branch) (set_at c set)) most →
    PriceShowsUpTo c branch set most
price_up_to c branch set most some is = λ bound small. (
  λ shows. (is.shown bound small).0 shows.2.above,
  λ within. (some.1.0, some.1.1, record { fits = some.1.2.fits; above = (is.shown bound small).1 within }),
)

pub fixed_up_to : FixedValueIsUnique → (c : Support) (branch : List Decision) (value most : ℕ) → IsFixed c.problem c.pool branch → HasFixedValue c.problem branch value →
    most ≡ min value 18446744073709551615 → FixedShowsUpTo c branch most
fixed_up_to unique c branch value most settled has most_is = λ bound small. (
  λ shows. omega (arith, most_is, small, shows.enough, unique c.problem branch shows.value value shows.fixed has),
  λ within. record { settled = settled; value = value; fixed = has; enough = omega (arith, most_is, within) },
)
