-- What a claim has at the number of a price set or of a shore.
use Rattle.std.proofs.Common.{ℕ, zero, suc, List, arith, subst, sym, pos, ◌≤ℤ◌}
use Rattle.std.specs.List.{All}
use Rattle.std.proofs.lemmas.Int.{ints}
use Rattle.std.proofs.lemmas.List.Elements.{All-weaker}
use Rattle.cut_pool.specs.Pools.{IsShoreNumber, shore_at}
use Rattle.cut_pool.specs.Shores.{Belongs}
use Rattle.carp_base.specs.Problem.{Problem}
use Rattle.branch_rules.specs.Limits.{IsShoreOf, IsPriceNumber}
use Rattle.branch_rules.specs.Prices.{Prices}
use Rattle.branch_rules.specs.Refusals.{NoneTooHeavy, IsTooHeavy}
use Rattle.branch_rules.specs.declared.price_set.TooHeavy.{TooHeavy}
use Rattle.branch_rules.specs.Trees.{Support, set_at, no_prices}
use Rattle.route_pricing.specs.Tables.{IsServicePrice}
use Rattle.cert_checker.specs.Claims.{IsSetNumber, IsSetRead}

-- what each price set has, the set of a number has
pub at_set : (P : Prices → Type 0) (s : Support) (set : ℕ) → All P s.sets → IsSetNumber s set → P (set_at s set)
at_set P s zero all number = absurd (omega (arith, number.from_one))
at_set P s (suc k) all number = all k no_prices (omega (arith, number.in_range))

-- what each shore has, the shore of a number has
pub at_shore : (P : List ℕ → Type 0) (pool : List (List ℕ)) (shore : ℕ) → All P pool → IsShoreNumber pool shore → P (shore_at pool shore)
at_shore P pool zero all number = absurd (omega (arith, number.from_one))
at_shore P pool (suc k) all number = all k _ (omega (arith, number.in_range))

pub shore_of : (p : Problem) (pool : List (List ℕ)) (shore : ℕ) → All (Belongs p) pool → IsShoreNumber pool shore → IsShoreOf p pool shore
shore_of p pool shore belong number = record { number = number; belongs = at_shore (Belongs p) pool shore belong number }

pub shores_of : (s : Support) (set : Prices) → All (Belongs s.problem) s.pool → IsSetRead s set → All (λ w. IsShoreOf s.problem s.pool w.shore) set.weights
shores_of s set belong read k d less = shore_of s.problem s.pool _ belong (read k d less)

pub none_and_heavy : (p : Problem) (pool : List (List ℕ)) (set : Prices) (named : TooHeavy) → NoneTooHeavy p pool set → IsTooHeavy p pool set named → ⊥
none_and_heavy p pool set named none heavy =
    let least : pos 0 ≤ℤ named.price = subst (λ z. pos 0 ≤ℤ z) (sym heavy.price) (none named.edge heavy.edge) in
    omega (arith, ints, least, heavy.negative)

pub as_service : (xs : List _) → All IsPriceNumber xs → All IsServicePrice xs
as_service xs all = All-weaker IsPriceNumber IsServicePrice (λ z h. record { low = h.low; high = h.high }) xs all
