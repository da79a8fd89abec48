-- What the table says of the tours of a set.
use Rattle.std.proofs.Common.{◌≡◌, ℕ, zero, suc, ◌+◌, ◌-◌, ◌*◌, ◌≤◌, Bool, true, false, List, [], ◌∷◌, ◌++◌, length, map, refl, sym, ap, ◌∙◌, subst, arith, inl, inr, ◌⊎◌, ℤ, pos, ◌+ℤ◌, ◌-ℤ◌, ◌*ℤ◌, ◌≤ℤ◌, ◌<ℤ◌, Option, Some, None, MatchOption}
use Rattle.std.specs.List.{All, AllByRecursion}
use Rattle.route_pricing.specs.Pricing.{AreSurcharges, IsSurcharge}
use Rattle.std.proofs.lemmas.Int.{ints}
use Rattle.std.proofs.lemmas.List.Elements.{All-weaker}
use Rattle.carp_base.specs.Problem.{Problem, IsRequired}
use Rattle.carp_base.specs.Allowed.{Relation, allows}
use Rattle.carp_base.specs.declared.edge.Task.{Task}
use Rattle.deadhead_paths.specs.Prices.{price_of}
use Rattle.deadhead_paths.specs.Tours.{IsFollowed, IsTaskTour}
use Rattle.decision_chains.specs.declared.decision.Decision.{Decision}
use Rattle.decision_chains.specs.Exclusions.{Excluded, PermitsUnexcluded}
use Rattle.branch_rules.specs.Laws.{FitsBranch, SurchargeIsSymmetric, SurchargesAreBondWeights}
use Rattle.branch_rules.specs.Limits as limits
use Rattle.branch_rules.specs.Bonds.{GroupWeight, IsSurchargeTable, bond_weight, surcharge, surcharges_after}
use Rattle.branch_rules.specs.Prices.{Prices, PaysAtLeast, crossing_prices, signed_sum, task_adds}
use Rattle.branch_rules.specs.Refusals.{NoneTooHeavy}
use Rattle.route_pricing.specs.Tables.{IsFilled}
use Rattle.route_pricing.specs.declared.table.Table.{Table}
use Rattle.route_pricing.specs.Values as pricing
use Rattle.route_pricing.specs.Values.{tour_surcharge, IsAllowed, IsLeastThrough, IsLeastValue, IsServed, Pricing, load_of, service_adds, services_add}
use Rattle.tight_prices.specs.Fillings.{IsFilledFor, pricing_of}
use Rattle.tight_prices.specs.Probes.{Ground, IsOutcome, ProbeSays}
use Rattle.tight_prices.specs.Places.{number_at}
use Rattle.tight_prices.specs.Searches.{IsEdgeOf, IsMost}
use Rattle.tight_prices.specs.Tight.{with_price}
use Rattle.tight_prices.specs.declared.place.Place.{Place}
use Rattle.tight_prices.specs.declared.place.Place.TheVariants as places
use Rattle.tight_prices.specs.declared.probe.Probe.{Probe}
use Rattle.tight_prices.specs.declared.probe.Probe.TheVariants.{Pays, Lacks, TooHeavy}
use Rattle.tight_prices.proofs.Adding.{price_grows, price_there}

all_edges : (Q : ℕ → Type 0) (tasks : List Task) → AllByRecursion (λ t. Q t.edge) tasks → AllByRecursion Q (map (λ t. t.edge) tasks)
all_edges Q [] all = tt
all_edges Q (t ∷ tasks) all = (all.0, all_edges Q tasks all.1)

both_in : (Q : ℕ → Type 0) (before : List ℕ) (a b : ℕ) (after : List ℕ) → AllByRecursion Q (before ++ (a ∷ (b ∷ after))) → Q a × Q b
both_in Q [] a b after all = (all.0, all.1.0)
both_in Q (x ∷ before) a b after all = both_in Q before a b after all.1

-- tasks that follow each other are on edges that have what all have
followed_have : (Q : ℕ → Type 0) (tasks : List Task) (a b : ℕ) → AllByRecursion (λ t. Q t.edge) tasks → IsFollowed (map (λ t. t.edge) tasks) a b → Q a × Q b
followed_have Q tasks a b all follows = both_in Q follows.before a b follows.after (subst (AllByRecursion Q) follows.joined (all_edges Q tasks all))

not_false : (b : Bool) → (b ≡ false → ⊥) → b ≡ true
not_false true not = refl
not_false false not = absurd (not refl)

module _ (p : Problem) (pool : List (List ℕ)) (branch : List Decision) (set : Prices) (relation : Relation) (permits : PermitsUnexcluded p branch relation)
    (surcharges_now : List ℤ) (charged : IsSurchargeTable p.required set.groups surcharges_now) (law : SurchargesAreBondWeights) where
  one_adds : (e : ℕ) → service_adds (pricing_of p pool set relation surcharges_now) e ≡ task_adds p set e
  one_adds zero = refl
  one_adds (suc k) = refl

  all_add : (tasks : List Task) → services_add (pricing_of p pool set relation surcharges_now) tasks ≡ signed_sum (λ t. task_adds p set t.edge) tasks
  all_add [] = refl
  all_add (t ∷ tasks) = ap (λ z. z +ℤ services_add (pricing_of p pool set relation surcharges_now) tasks) (one_adds t.edge) ∙ ap (λ z. task_adds p set t.edge +ℤ z) (all_add tasks)

  -- the surcharges of tasks in the pricing are what their bonds weigh
  after_are : (t : Task) (tasks : List Task) → IsRequired p t.edge → AllByRecursion (λ u. IsRequired p u.edge) tasks →
      pricing.surcharges_after (pricing_of p pool set relation surcharges_now) t tasks ≡ surcharges_after (surcharge set.groups) t.edge (map (λ u. u.edge) tasks)
  after_are t [] t_in required = refl
  after_are t (u ∷ tasks) t_in required =
      omega (
        arith,
        ints,
        charged.same t.edge u.edge t_in.from_one t_in.in_range required.0.from_one required.0.in_range,
        after_are u tasks required.0 required.1,
      )

  bonds_are : (tasks : List Task) → AllByRecursion (λ t. IsRequired p t.edge) tasks →
      tour_surcharge (pricing_of p pool set relation surcharges_now) tasks ≡ bond_weight set.groups (map (λ t. t.edge) tasks)
  bonds_are [] required = sym (law set.groups [])
  bonds_are (t ∷ tasks) required = after_are t tasks required.0 required.1 ∙ sym (law set.groups (map (λ u. u.edge) (t ∷ tasks)))

  tour_to : (tasks : List Task) → IsTaskTour p (IsAllowed (pricing_of p pool set relation surcharges_now)) tasks → IsTaskTour p (λ a b. ¬ (Excluded p branch a b)) tasks
  tour_to tasks tour = record {
    some = tour.some;
    required = tour.required;
    load = tour.load;
    each_allowed = λ a b follows.
        let have : IsRequired p a × IsRequired p b = followed_have (IsRequired p) tasks a b tour.required follows in
        permits.permitted a b have.0 have.1 (tour.each_allowed a b follows);
  }

  tour_from : (tasks : List Task) → IsTaskTour p (λ a b. ¬ (Excluded p branch a b)) tasks → IsTaskTour p (IsAllowed (pricing_of p pool set relation surcharges_now)) tasks
  tour_from tasks tour = record {
    some = tour.some;
    required = tour.required;
    load = tour.load;
    each_allowed = λ a b follows.
        let have : IsRequired p a × IsRequired p b = followed_have (IsRequired p) tasks a b tour.required follows in
        not_false (allows relation a b) (λ is. tour.each_allowed a b follows (permits.refused a b have.0 have.1 is));
  }

  -- where the least value is not negative, each tour pays
  all_pay : (value : ℤ) → IsLeastValue (pricing_of p pool set relation surcharges_now) value → pos 0 ≤ℤ value → PaysAtLeast p (λ a b. ¬ (Excluded p branch a b)) (task_adds p set) (price_of (crossing_prices p pool set)) set.groups
  all_pay value is enough tasks n tour deadheads =
      let least = is.least tasks n (services_add (pricing_of p pool set relation surcharges_now) tasks +ℤ (pos n +ℤ tour_surcharge (pricing_of p pool set relation surcharges_now) tasks)) (record { tour = tour_from tasks tour; deadheads = deadheads; sum = refl }) in
      omega (arith, ints, least, enough, all_add tasks, bonds_are tasks tour.required)

  -- where it is negative, one does not
  one_lacks : (value : ℤ) → IsLeastValue (pricing_of p pool set relation surcharges_now) value → value <ℤ pos 0 →
      PaysAtLeast p (λ a b. ¬ (Excluded p branch a b)) (task_adds p set) (price_of (crossing_prices p pool set)) set.groups → ⊥
  one_lacks value is negative pays =
      let enough = pays is.tasks is.deadhead (tour_to is.tasks is.attained.tour) is.attained.deadheads in
      omega (arith, ints, enough, negative, is.attained.sum, all_add is.tasks, bonds_are is.tasks is.attained.tour.required)

  -- Raised by more than the least value of a tour through it, a price does not fit.

  less_each : (e d f : ℕ) → task_adds p (with_price set e d) f ≤ℤ task_adds p set f
  less_each e d f = omega (arith, ints, price_grows set e f d)

  less_all : (e d : ℕ) (tasks : List Task) → signed_sum (λ t. task_adds p (with_price set e d) t.edge) tasks ≤ℤ signed_sum (λ t. task_adds p set t.edge) tasks
  less_all e d [] = omega (arith, ints)
  less_all e d (t ∷ tasks) = omega (arith, ints, less_each e d t.edge, less_all e d tasks)

  less_there : (e d f : ℕ) → 1 ≤ e → e ≤ length set.services → f ≡ e → (task_adds p (with_price set e d) f +ℤ pos d) ≤ℤ task_adds p set f
  less_there e d f from_one in_range same = rw same (omega (arith, ints, price_there set e d from_one in_range))

  less_served : (e d : ℕ) (tasks : List Task) → 1 ≤ e → e ≤ length set.services → IsServed e tasks →
      (signed_sum (λ t. task_adds p (with_price set e d) t.edge) tasks +ℤ pos d) ≤ℤ signed_sum (λ t. task_adds p set t.edge) tasks
  less_served e d [] from_one in_range served = absurd served
  less_served e d (t ∷ tasks) from_one in_range (inl here) = omega (arith, ints, less_there e d t.edge from_one in_range here, less_all e d tasks)
  less_served e d (t ∷ tasks) from_one in_range (inr later) = omega (arith, ints, less_each e d t.edge, less_served e d tasks from_one in_range later)

  weighed_is : (value : ℤ) (load : ℕ) → (value *ℤ pos 1) -ℤ (pos 0 *ℤ pos load) ≡ value
  weighed_is value load = omega (arith, ints)

  through_blocks : (e n : ℕ) (weight : ℤ) → 1 ≤ e → e ≤ length set.services → IsLeastThrough (pricing_of p pool set relation surcharges_now) e (record { value = pos 0; load = 1 }) weight →
      weight ≤ℤ pos n → FitsBranch p pool branch (with_price set e (n + 1)) → ⊥
  through_blocks e n weight from_one in_range is less fits =
      let enough = fits.fits.tours is.tasks is.deadhead (tour_to is.tasks is.attained.tour) is.attained.deadheads in
      omega (
        arith,
        ints,
        enough,
        less,
        is.weight_is,
        weighed_is is.value (load_of (pricing_of p pool set relation surcharges_now) is.tasks),
        is.attained.sum,
        all_add is.tasks,
        bonds_are is.tasks is.attained.tour.required,
        less_served e (n + 1) is.tasks from_one in_range is.served,
      )

-- where no edge is required, there is no tour
none_pay : (p : Problem) (allowed : ℕ → ℕ → Type 0) (r : ℕ → ℤ) (q : ℕ → ℕ) (groups : List GroupWeight) → p.required ≡ 0 → PaysAtLeast p allowed r q groups
none_pay p allowed r q groups none [] n tour deadheads = absurd (tour.some refl)
none_pay p allowed r q groups none (t ∷ tasks) n tour deadheads = absurd (omega (arith, tour.required.0.from_one, tour.required.0.in_range, none))

-- what is said of a set by the least value of the table
pub probe_says : SurchargesAreBondWeights → (g : Ground) (set : Prices) (table : Table) → NoneTooHeavy g.problem g.pool set → IsFilledFor g.problem g.pool g.branch set table → (least : Option ℤ) →
    ((x : Pricing) → IsFilled x table → MatchOption least (x.problem.required ≡ 0) (IsLeastValue x)) → (found : Probe) → IsOutcome least found → ProbeSays g set table found
probe_says law g set table light filled None says Pays is =
    (record { light = light; tours = none_pay g.problem _ (task_adds g.problem set) _ set.groups (says (pricing_of g.problem g.pool set filled.relation filled.surcharges) filled.filled) }, filled)
probe_says law g set table light filled (Some value) says Pays is =
    let least = says (pricing_of g.problem g.pool set filled.relation filled.surcharges) filled.filled in
    (record { light = light; tours = all_pay g.problem g.pool g.branch set filled.relation filled.permits filled.surcharges filled.charged law value least is }, filled)
probe_says law g set table light filled None says (Lacks found) is = absurd (cc (is.0))
probe_says law g set table light filled (Some value) says (Lacks found) is =
    let same : value ≡ found = cc (is.0) in
    let least = says (pricing_of g.problem g.pool set filled.relation filled.surcharges) filled.filled in
    ((λ pays. one_lacks g.problem g.pool g.branch set filled.relation filled.permits filled.surcharges filled.charged law value least (omega (arith, ints, is.1, same)) pays.tours), filled)
probe_says law g set table light filled None says TooHeavy is = absurd is
probe_says law g set table light filled (Some value) says TooHeavy is = absurd is

-- an edge of the table is one of the instance
pub edge_in : (g : Ground) (set : Prices) (table : Table) (e : ℕ) → IsFilledFor g.problem g.pool g.branch set table → IsRequired table.grid.inst e → IsRequired g.problem e
edge_in g set table e filled is = subst (λ p. IsRequired p e) (sym filled.filled.of.problem) is

-- the lesser of a bound and of the least value of a tour through an edge is a bound
pub still_most : SurchargesAreBondWeights → (g : Ground) (set : Prices) (table : Table) (place : Place) (e most n : ℕ) (value : ℤ) → place ≡ places.Edge e → IsEdgeOf table place →
    ((x : Pricing) → IsFilled x table → IsLeastThrough x e (record { value = pos 0; load = 1 }) value) → n ≤ most → (n ≡ most) ⊎ (value ≤ℤ pos n) →
    IsFilledFor g.problem g.pool g.branch set table → length set.services ≡ g.problem.required → IsMost g set place most → IsMost g set place n
still_most law g set table place e most n value is edge says less (inl same) filled long was = subst (IsMost g set place) (sym same) was
still_most law g set table place e most n value is edge says less (inr bounded) filled long was =
    let required : IsRequired g.problem e = edge_in g set table e filled (subst (IsEdgeOf table) is edge) in
    let through = says (pricing_of g.problem g.pool set filled.relation filled.surcharges) filled.filled in
    let bound : IsMost g set (places.Edge e) n = record {
      within = omega (arith, ints, subst (λ q. (number_at set q +ℤ pos most) ≤ℤ pos 1000000000000000) is was.within, less);
      blocked = inr (through_blocks g.problem g.pool g.branch set filled.relation filled.permits filled.surcharges filled.charged law e n value required.from_one (omega (arith, required.in_range, long)) through bounded);
    } in
    subst (λ q. IsMost g set q n) (sym is) bound

-- the table is filled for a set by its parts
pub filled_for : (p : Problem) (pool : List (List ℕ)) (branch : List Decision) (set : Prices) (relation : Relation) (table : Table) (prices : List ℕ) (unit : ℕ) (services : List ℤ) (surcharges_now : List ℤ) →
    PermitsUnexcluded p branch relation → prices ≡ crossing_prices p pool set → unit ≡ set.unit → services ≡ set.services → IsSurchargeTable p.required set.groups surcharges_now →
    IsFilled (record { problem = p; prices = prices; unit = unit; services = services; relation = relation; surcharges = surcharges_now }) table → IsFilledFor p pool branch set table
filled_for p pool branch set relation table prices unit services surcharges_now permits prices_are unit_is services_are charged filled =
    let first = subst (λ xs. IsFilled (record { problem = p; prices = xs; unit = unit; services = services; relation = relation; surcharges = surcharges_now }) table) prices_are filled in
    let second = subst (λ n. IsFilled (record { problem = p; prices = crossing_prices p pool set; unit = n; services = services; relation = relation; surcharges = surcharges_now }) table) unit_is first in
    record {
      relation = relation;
      permits = permits;
      surcharges = surcharges_now;
      charged = charged;
      filled = subst (λ zs. IsFilled (record { problem = p; prices = crossing_prices p pool set; unit = set.unit; services = zs; relation = relation; surcharges = surcharges_now }) table) services_are second;
    }

-- the table of the surcharges of groups is one of surcharges
pub are_surcharges : SurchargeIsSymmetric → (m : ℕ) (groups : List GroupWeight) (table : List ℤ) → IsSurchargeTable m groups table → All limits.IsSurcharge table → AreSurcharges m table
are_surcharges symmetric m groups table charged small = record {
  long = charged.long;
  both_orders = λ e f e_from e_in f_from f_in. charged.same e f e_from e_in f_from f_in ∙ symmetric groups e f ∙ sym (charged.same f e f_from f_in e_from e_in);
  small = All-weaker limits.IsSurcharge IsSurcharge (λ s is. record { low = omega (arith, ints, is.low); high = omega (arith, ints, is.high) }) table small;
}
