-- The least value of the table is the least value of the relaxed tours of a leaf.
use Rattle.std.proofs.Common.{◌≡◌, ℕ, zero, suc, ◌+◌, ◌-◌, ◌≤◌, Bool, true, false, List, [], ◌∷◌, ◌++◌, map, refl, sym, ap, ◌∙◌, subst, arith, ℤ, pos, ◌+ℤ◌, ◌≤ℤ◌, Option, Some, None, MatchOption}
use Rattle.std.specs.List.{All, AllByRecursion}
use Rattle.std.proofs.lemmas.Int.{ints}
use Rattle.std.proofs.lemmas.List.Elements.{All-weaker}
use Rattle.carp_base.specs.Problem.{Problem, IsRequired}
use Rattle.carp_base.specs.Allowed.{Relation, allows}
use Rattle.carp_base.specs.declared.edge.Task.{Task}
use Rattle.deadhead_paths.specs.Tours.{IsFollowed, IsTaskTour}
use Rattle.decision_chains.specs.declared.decision.Decision.{Decision}
use Rattle.decision_chains.specs.Exclusions.{Excluded, PermitsUnexcluded}
use Rattle.branch_rules.specs.Bonds.{GroupWeight, IsSurchargeTable, bond_weight, surcharge, surcharges_after}
use Rattle.branch_rules.specs.Laws.{SurchargeIsSymmetric, SurchargesAreBondWeights}
use Rattle.branch_rules.specs.Prices.{Prices, signed_sum, task_adds}
use Rattle.branch_rules.specs.Trees.{Support, set_at}
use Rattle.route_pricing.specs.Pricing.{AreSurcharges, IsSurcharge}
use Rattle.branch_rules.specs.Limits as limits
use Rattle.route_pricing.specs.Values as pricing
use Rattle.route_pricing.specs.Values.{IsAllowed, IsPriced, IsLeastValue, service_adds, services_add, tour_surcharge}
use Rattle.cert_checker.specs.Nodes.{HasValue, IsLeastTour, ToursPay}
use Rattle.cert_checker.specs.Leaves.{pricing_of, IsIfNegative, PermitSame, TourSays}

all_edges : (Q : ℕ → Type 0) (tasks : List Task) → AllByRecursion (λ t. Q t.edge) tasks → AllByRecursion Q (map (λ t. t.edge) tasks)
all_edges Q [] all = tt
all_edges Q (t ∷ tasks) all = (all.0, all_edges Q tasks all.1)

both_in : (Q : ℕ → Type 0) (before : List ℕ) (a b : ℕ) (after : List ℕ) → AllByRecursion Q (before ++ (a ∷ (b ∷ after))) → Q a × Q b
both_in Q [] a b after all = (all.0, all.1.0)
both_in Q (x ∷ before) a b after all = both_in Q before a b after all.1

-- tasks that follow each other are on edges that have what all have
followed_have : (Q : ℕ → Type 0) (tasks : List Task) (a b : ℕ) → AllByRecursion (λ t. Q t.edge) tasks → IsFollowed (map (λ t. t.edge) tasks) a b → Q a × Q b
followed_have Q tasks a b all follows = both_in Q follows.before a b follows.after (subst (AllByRecursion Q) follows.joined (all_edges Q tasks all))

not_false : (b : Bool) → (b ≡ false → ⊥) → b ≡ true
not_false true not = refl
not_false false not = absurd (not refl)

-- where a relation permits just the pairs that are not excluded, so does one that permits the same pairs
pub permits_same : (p : Problem) (branch : List Decision) (one other : Relation) → one.size ≡ p.required → PermitSame p.required one other → PermitsUnexcluded p branch other → PermitsUnexcluded p branch one
permits_same p branch one other on same permits = record {
  on = on;
  permitted = λ a b a_in b_in is. permits.permitted a b a_in b_in (sym (same a b a_in.from_one a_in.in_range b_in.from_one b_in.in_range) ∙ is);
  refused = λ a b a_in b_in is. permits.refused a b a_in b_in (sym (same a b a_in.from_one a_in.in_range b_in.from_one b_in.in_range) ∙ is);
}

module _ (s : Support) (branch : List Decision) (set : ℕ) (relation : Relation) (permits : PermitsUnexcluded s.problem branch relation)
    (charges : List ℤ) (charged : IsSurchargeTable s.problem.required (set_at s set).groups charges) (law : SurchargesAreBondWeights) where
  one_adds : (e : ℕ) → service_adds (pricing_of s set relation charges) e ≡ task_adds s.problem (set_at s set) e
  one_adds zero = refl
  one_adds (suc k) = refl

  all_add : (tasks : List Task) → services_add (pricing_of s set relation charges) tasks ≡ signed_sum (λ t. task_adds s.problem (set_at s set) t.edge) tasks
  all_add [] = refl
  all_add (t ∷ tasks) =
      ap (λ z. z +ℤ services_add (pricing_of s set relation charges) tasks) (one_adds t.edge) ∙ ap (λ z. task_adds s.problem (set_at s set) t.edge +ℤ z) (all_add tasks)

  -- the surcharges of tasks in the pricing are what their bonds weigh
  after_are : (t : Task) (tasks : List Task) → IsRequired s.problem t.edge → AllByRecursion (λ u. IsRequired s.problem u.edge) tasks →
      pricing.surcharges_after (pricing_of s set relation charges) t tasks ≡ surcharges_after (surcharge (set_at s set).groups) t.edge (map (λ u. u.edge) tasks)
  after_are t [] t_in required = refl
  after_are t (u ∷ tasks) t_in required =
      omega (
        arith,
        ints,
        charged.same t.edge u.edge t_in.from_one t_in.in_range required.0.from_one required.0.in_range,
        after_are u tasks required.0 required.1,
      )

  bonds_are : (tasks : List Task) → AllByRecursion (λ t. IsRequired s.problem t.edge) tasks →
      tour_surcharge (pricing_of s set relation charges) tasks ≡ bond_weight (set_at s set).groups (map (λ t. t.edge) tasks)
  bonds_are [] required = sym (law (set_at s set).groups [])
  bonds_are (t ∷ tasks) required = after_are t tasks required.0 required.1 ∙ sym (law (set_at s set).groups (map (λ u. u.edge) (t ∷ tasks)))

  tour_to : (tasks : List Task) → IsTaskTour s.problem (IsAllowed (pricing_of s set relation charges)) tasks → IsTaskTour s.problem (λ a b. ¬ (Excluded s.problem branch a b)) tasks
  tour_to tasks tour = record {
    some = tour.some;
    required = tour.required;
    load = tour.load;
    each_allowed = λ a b follows.
        let have : IsRequired s.problem a × IsRequired s.problem b = followed_have (IsRequired s.problem) tasks a b tour.required follows in
        permits.permitted a b have.0 have.1 (tour.each_allowed a b follows);
  }

  tour_from : (tasks : List Task) → IsTaskTour s.problem (λ a b. ¬ (Excluded s.problem branch a b)) tasks → IsTaskTour s.problem (IsAllowed (pricing_of s set relation charges)) tasks
  tour_from tasks tour = record {
    some = tour.some;
    required = tour.required;
    load = tour.load;
    each_allowed = λ a b follows.
        let have : IsRequired s.problem a × IsRequired s.problem b = followed_have (IsRequired s.problem) tasks a b tour.required follows in
        not_false (allows relation a b) (λ is. tour.each_allowed a b follows (permits.refused a b have.0 have.1 is));
  }

  value_to : (tasks : List Task) (deadhead : ℕ) (value : ℤ) → IsPriced (pricing_of s set relation charges) tasks deadhead value → HasValue s branch (set_at s set) tasks value
  value_to tasks deadhead value is = record {
    deadhead = deadhead;
    tour = tour_to tasks is.tour;
    deadheads = is.deadheads;
    sum = omega (arith, ints, is.sum, all_add tasks, bonds_are tasks is.tour.required);
  }

  value_from : (tasks : List Task) (value : ℤ) → (is : HasValue s branch (set_at s set) tasks value) → IsPriced (pricing_of s set relation charges) tasks is.deadhead value
  value_from tasks value is = record {
    tour = tour_from tasks is.tour;
    deadheads = is.deadheads;
    sum = omega (arith, ints, is.sum, all_add tasks, bonds_are tasks is.tour.required);
  }

  pub least_to : (value : ℤ) → IsLeastValue (pricing_of s set relation charges) value → IsLeastTour s branch (set_at s set) value
  least_to value is = record {
    tasks = is.tasks;
    attained = value_to is.tasks is.deadhead value is.attained;
    least = λ other v has. is.least other has.deadhead v (value_from other v has);
  }

-- where the least value is not negative, each tour pays
pub all_pay : (s : Support) (branch : List Decision) (set : Prices) (value : ℤ) → IsLeastTour s branch set value → pos 0 ≤ℤ value → ToursPay s branch set
all_pay s branch set value is enough tasks n tour deadheads =
    let least = is.least tasks (signed_sum (λ t. task_adds s.problem set t.edge) tasks +ℤ (pos n +ℤ bond_weight set.groups (map (λ t. t.edge) tasks))) (record { deadhead = n; tour = tour; deadheads = deadheads; sum = refl }) in
    omega (arith, ints, least, enough)

-- where no edge is required, there is no tour
pub none_pay : (s : Support) (branch : List Decision) (set : Prices) → s.problem.required ≡ 0 → ToursPay s branch set
none_pay s branch set none [] n tour deadheads = absurd (tour.some refl)
none_pay s branch set none (t ∷ tasks) n tour deadheads = absurd (omega (arith, tour.required.0.from_one, tour.required.0.in_range, none))

-- what the least value says, where it is kept if it is negative
pub tours_say : (s : Support) (branch : List Decision) (set : Prices) (least found : Option ℤ) →
    MatchOption least (s.problem.required ≡ 0) (IsLeastTour s branch set) → IsIfNegative least found → TourSays s branch set found
tours_say s branch set None None is kept = none_pay s branch set is
tours_say s branch set None (Some found) is kept = absurd (cc (kept.0))
tours_say s branch set (Some value) None is kept = all_pay s branch set value is kept
tours_say s branch set (Some value) (Some found) is kept =
    let same : value ≡ found = cc (kept.0) in
    (subst (IsLeastTour s branch set) same is, kept.1)

pub least_of : SurchargesAreBondWeights → (s : Support) (branch : List Decision) (set : ℕ) (relation : Relation) → PermitsUnexcluded s.problem branch relation →
    (charges : List ℤ) → IsSurchargeTable s.problem.required (set_at s set).groups charges → (least : Option ℤ) →
    MatchOption least (s.problem.required ≡ 0) (IsLeastValue (pricing_of s set relation charges)) → MatchOption least (s.problem.required ≡ 0) (IsLeastTour s branch (set_at s set))
least_of law s branch set relation permits charges charged None is = is
least_of law s branch set relation permits charges charged (Some value) is = least_to s branch set relation permits charges charged law value is

-- the table of the surcharges of groups is one of surcharges
pub are_surcharges : SurchargeIsSymmetric → (m : ℕ) (groups : List GroupWeight) (table : List ℤ) → IsSurchargeTable m groups table → All limits.IsSurcharge table → AreSurcharges m table
are_surcharges symmetric m groups table charged small = record {
  long = charged.long;
  both_orders = λ e f e_from e_in f_from f_in. charged.same e f e_from e_in f_from f_in ∙ symmetric groups e f ∙ sym (charged.same f e f_from f_in e_from e_in);
  small = All-weaker limits.IsSurcharge IsSurcharge (λ s is. record { low = omega (arith, ints, is.low); high = omega (arith, ints, is.high) }) table small;
}
