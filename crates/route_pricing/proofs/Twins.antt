-- Tours of two streets side by side.
use Rattle.std.proofs.Common.{◌≡◌, ℕ, zero, suc, pos, ◌≤◌, List, [], ◌∷◌, ◌++◌, length, ap, refl, arith}
use Rattle.std.proofs.lemmas.List.Sums.{sum_by-cons}
use Rattle.std.proofs.lemmas.List.{length-append}
use Rattle.plan_model.specs.declared.step.Step.{Step}
use Rattle.deadhead_paths.specs.Prices.{Deadheads, IsLeastPrice, price_of}
use Rattle.deadhead_paths.specs.Tours.{IsFollowed, LeastDeadhead}
use Rattle.route_pricing.specs.Pricing.{IsAllowed, service_adds}
use Rattle.route_pricing.specs.Examples.{outward, paid_twins, twin_streets, twins_at}

-- each street has the price 5
pub price_of_twin : (e : ℕ) → 1 ≤ e → e ≤ 2 → price_of (5 ∷ 5 ∷ []) e ≡ 5
price_of_twin zero from_one in_range = omega (arith, from_one)
price_of_twin (suc zero) from_one in_range = refl
price_of_twin (suc (suc zero)) from_one in_range = refl
price_of_twin (suc (suc (suc e))) from_one in_range = omega (arith, in_range)

-- who is there need not go
pub stays : (a : ℕ) → IsLeastPrice twin_streets (price_of (5 ∷ 5 ∷ [])) a a 0
stays a = record { steps = []; reached = record { unserved = tt; leads = refl; costs = refl }; least = λ n other d. omega arith }

-- who goes from one end to the other pays
pub crossing_pays : (n : ℕ) (steps : List Step) → Deadheads twin_streets (price_of (5 ∷ 5 ∷ [])) 2 1 n steps → 5 ≤ n
crossing_pays n [] d = omega (arith, d.leads)
crossing_pays n (s ∷ steps) d =
    omega (arith, d.costs, price_of_twin s.edge d.leads.0.from_one d.leads.0.in_range, sum_by-cons (λ t. price_of (5 ∷ 5 ∷ []) t.edge) s steps)

-- and so does who serves both out of the depot
pub one_way_pays : (n : ℕ) → LeastDeadhead twin_streets (price_of (5 ∷ 5 ∷ [])) 1 (outward 1 ∷ outward 2 ∷ []) 1 n → 5 ≤ n
one_way_pays n (k, m, first, (l, o, second, last, inner), outer) = omega (arith, outer, inner, crossing_pays l second.steps second.reached)

-- of two edges the second alone follows, and the first alone is followed
pub followed_of_two : (a b : ℕ) → IsFollowed (1 ∷ 2 ∷ []) a b → (a ≡ 1) × (b ≡ 2)
followed_of_two a b f = of_two a b f.before f.after f.joined
  where
    of_two : (a b : ℕ) (before after : List ℕ) → (1 ∷ 2 ∷ []) ≡ before ++ (a ∷ (b ∷ after)) → (a ≡ 1) × (b ≡ 2)
    of_two a b [] after is = (cc, cc)
    of_two a b (c ∷ before) after is = omega (arith, ap length is, length-append before (a ∷ (b ∷ after)))

-- with prices of twice the service costs, each service adds nothing
pub adds_nothing : (e : ℕ) → 1 ≤ e → e ≤ 2 → service_adds (twins_at (pos 14 ∷ pos 8 ∷ [])) e ≡ pos 0
adds_nothing zero from_one in_range = absurd (omega (arith, from_one))
adds_nothing (suc zero) from_one in_range = refl
adds_nothing (suc (suc zero)) from_one in_range = refl
adds_nothing (suc (suc (suc e))) from_one in_range = absurd (omega (arith, in_range))

-- the first of the two may be followed by the second
pub allowed : (a b : ℕ) → (a ≡ 1) × (b ≡ 2) → IsAllowed paid_twins a b
allowed a b is = cc
