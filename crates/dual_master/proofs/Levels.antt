-- There are level sets.
use Rattle.std.proofs.Common.{◌≡◌, ℕ, ◌<◌, Bool, false, ltb, subst, arith, inl, inr, ◌⊎◌, ◌↔◌, IsTrue}
use Rattle.std.proofs.lemmas.Bool.{lt-ltb, ltb-true, false≢true}
use Rattle.carp_base.specs.Problem.{Problem}
use Rattle.deadhead_paths.specs.Laws.{LeastPriceOrNone}
use Rattle.deadhead_paths.specs.Prices.{NoneLead, costs_of, price_of}
use Rattle.capacity_cuts.specs.Levels.{AreLevelSets, IsBeyond, IsDistance}
use Rattle.dual_master.specs.Laws.{LevelSetsAreThere}

same_distance : (p : Problem) (v n m : ℕ) → IsDistance p v n → IsDistance p v m → n ≡ m
same_distance p v n m one other = omega (arith, one.least m other.steps other.reached, other.least n one.steps one.reached)

is_beyond : (p : Problem) (t v : ℕ) → NoneLead p p.depot v ⊎ ((n : ℕ) × IsDistance p v n) → Bool
is_beyond p t v (inl none) = false
is_beyond p t v (inr found) = ltb t found.0

level_set : (p : Problem) (far : (v : ℕ) → NoneLead p p.depot v ⊎ ((n : ℕ) × IsDistance p v n)) → AreLevelSets p (λ t v. is_beyond p t v (far v))
unfolding is_beyond
level_set p far t v vertex = by (far v) where
  by : (found : NoneLead p p.depot v ⊎ ((n : ℕ) × IsDistance p v n)) → IsTrue (is_beyond p t v found) ↔ IsBeyond p t v
  by (inl none) = ((λ no. absurd (false≢true no)), (λ beyond. absurd (none beyond.is.steps beyond.is.reached.leads)))
  by (inr found) = (
    (λ yes. record { distance = found.0; is = found.1; above = ltb-true t found.0 yes }),
    (λ beyond. lt-ltb t found.0 (subst (λ n. t < n) (same_distance p v beyond.distance found.0 beyond.is found.1) beyond.above)),
  )

pub levels_law : LeastPriceOrNone → LevelSetsAreThere
levels_law least p valid =
    let far : (v : ℕ) → NoneLead p p.depot v ⊎ ((n : ℕ) × IsDistance p v n) = λ v. least p valid (price_of (costs_of p)) p.depot v in
    ((λ t v. is_beyond p t v (far v)), level_set p far)
