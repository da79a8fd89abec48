-- A town of one street, its pool, and the shore of its other vertex; and a depot alone.
use Rattle.std.proofs.Common.{◌≡◌, ℕ, zero, suc, ◌+◌, ◌*◌, ◌≤◌, false, List, [], ◌∷◌, length, ap, sym, subst, refl, arith, inl, inr, pos}
use Rattle.std.proofs.lemmas.Bool.{false≢true}
use Rattle.std.proofs.lemmas.Int.{ints}
use Rattle.std.proofs.lemmas.List.{length-append}
use Rattle.cut_pool.specs.Pools.{Holds}
use Rattle.deadhead_paths.specs.Examples.{town}
use Rattle.branch_rules.specs.Examples.{town_pool}
use Rattle.carp_base.specs.declared.edge.Task.{Task}
use Rattle.carp_base.specs.Problem.{IsVertex}
use Rattle.cut_pool.specs.Shores.{need}
use Rattle.cut_pool.specs.declared.shore.Weighted.{Weighted}
use Rattle.capacity_cuts.specs.Levels.{AreLevelSets, IsBeyond, needs_below, weighted_needs}
use Rattle.dual_master.specs.Examples.{bare_prices, no_town}
use Rattle.dual_master.specs.Floors.{IsFreeTour, ShowsShell, shores_of}
use Rattle.dual_master.specs.Sets.{empty_set}
use Rattle.dual_master.specs.Candidates.{IsFloorBase}
use Rattle.dual_master.proofs.Chosen.{none_weighed}
use Rattle.dual_master.specs.Singles.{HasSingles, IsFloorPool, IsTried, IsWanted, one_more, as_before}

none_held : Holds [] (2 ∷ []) → ⊥
none_held holds = omega (arith, holds.1.number.from_one, holds.1.number.in_range)

pub wanted : IsWanted town [] 2
wanted = record {
  no_depot = λ same. omega (arith, same);
  needed = omega arith;
  room = omega arith;
  new = none_held;
}

pub held : IsWanted town town_pool 2 → ⊥
held is = is.new (1, record { number = record { from_one = omega arith; in_range = omega arith }; same = refl })

pub depot : IsWanted town [] 1 → ⊥
depot is = is.no_depot refl

first : (pool : List (List ℕ)) → IsTried town [] 1 pool → pool ≡ []
first pool (one_more is placed) = absurd (depot is)
first pool (as_before not same) = same

pub placed : HasSingles town [] 2 town_pool
placed = ([], ([], refl, as_before depot refl), one_more wanted refl)

second : (before : List (List ℕ)) → before ≡ [] → IsTried town before 2 [] → ⊥
second before is (one_more wants grown) = absurd (omega (arith, ap length grown, length-append before ((2 ∷ []) ∷ [])))
second before is (as_before not same) = not (subst (λ pool. IsWanted town pool 2) (sym is) wanted)

pub left_out : HasSingles town [] 2 [] → ⊥
left_out (before, (none, start, tried), then') = second before (first before (subst (λ pool. IsTried town pool 1 before) start tried)) then'

pub not_first : HasSingles town [] 1 town_pool → ⊥
not_first (none, start, tried) = omega (arith, ap length (first town_pool (subst (λ pool. IsTried town pool 1 town_pool) start tried)))

-- The depot alone: no vertex lies beyond a level, no tour serves, and no shore belongs.

only_depot : (t v : ℕ) → IsVertex no_town v → IsBeyond no_town t v → ⊥
only_depot t v vertex beyond =
    let at_depot : v ≡ 1 = omega (arith, vertex.from_one, vertex.in_range) in
    let most : beyond.distance ≤ 0 = beyond.is.least 0 [] (record { unserved = tt; leads = sym at_depot; costs = refl }) in
    omega (arith, most, beyond.above)

no_levels : AreLevelSets no_town (λ t v. false)
no_levels t v vertex = ((λ there. absurd (false≢true there)), (λ beyond. absurd (only_depot t v vertex beyond)))

no_needs : (k : ℕ) → needs_below no_town (λ t v. false) k ≡ 0
no_needs zero = refl
no_needs (suc k) =
    let none : need no_town (λ v. false) ≡ 0 = refl in
    omega (arith, no_needs k, none)

no_ratio : (a b : ℕ) (tasks : List Task) → IsFreeTour no_town tasks → ⊥
no_ratio a b [] tour = absurd (tour.some refl)
no_ratio a b (t ∷ tasks) tour = omega (arith, tour.required.0.from_one, tour.required.0.in_range)

pub pool : IsFloorPool no_town [] empty_set
pool = record {
  base = [];
  of_floor = inr (inr (refl, record { ratio = λ a b least. absurd (no_ratio a b least.tasks least.tour); nothing = λ _. refl }));
  weighed = none_weighed [] empty_set refl refl;
  singles = ([], refl, as_before (λ is. is.no_depot refl) refl);
  value = refl;
}

no_shores : (shores : List Weighted) → [] ≡ shores_of shores → weighted_needs no_town shores ≡ 0
no_shores [] none = refl
no_shores (s ∷ shores) none = absurd (omega (arith, ap length none))

shell_at : (k : ℕ) → 1000000000 ≤ k → ShowsShell no_town [] bare_prices → ⊥
shell_at k far shows =
    let value : pos 7 ≡ pos (1 * (0 + needs_below no_town (λ t v. false) k)) = shows (λ t v. false) k no_levels far in
    omega (arith, ints, value, no_needs k)

pub overvalued : IsFloorBase no_town [] bare_prices → ⊥
overvalued (inl (held, shows)) = shell_at 1000000000 (omega arith) shows
overvalued (inr (inl shows)) =
    let value : pos 14 ≡ pos (1 * (0 + weighted_needs no_town shows.shores.shores)) = shows.needs in
    omega (arith, ints, value, no_shores shows.shores.shores shows.shores.held)
overvalued (inr (inr (none, shows))) =
    let value : pos 7 ≡ pos 0 = shows.nothing refl in
    omega (arith, ints, value)
