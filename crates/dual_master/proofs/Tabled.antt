-- What the table of least relaxed tours says where services are at cost and all pairs are allowed.
use Rattle.std.proofs.Common.{◌≡◌, ◌≢◌, ℕ, zero, suc, true, not, Option, Some, None, All, List, [], ◌∷◌, ◌++◌, map, length, refl, sym, ap, ◌∙◌, subst, arith, ℤ, pos, ◌+ℤ◌}
use Rattle.std.specs.List.{AllByRecursion}
use Rattle.std.specs.Option.{MatchOption}
use Rattle.std.proofs.lemmas.Bool.{false≢true, eq-eqb, ne_eqb}
use Rattle.std.proofs.lemmas.Int.{ints}
use Rattle.std.proofs.lemmas.List.{length-append}
use Rattle.std.proofs.lemmas.List.Elements.{All-weaker}
use Rattle.carp_base.specs.Allowed.{Relation, AllowsAll, IsOf, allows}
use Rattle.carp_base.specs.declared.edge.Task.{Task}
use Rattle.carp_base.specs.Problem.{Problem, IsValid, IsRequired}
use Rattle.deadhead_paths.specs.Prices.{costs_of}
use Rattle.deadhead_paths.specs.Tours.{IsTaskTour}
use Rattle.route_pricing.specs.Pricing.{AreSurcharges, IsSurcharge, Pricing, IsAllowed, IsServicePrice, service_adds}
use Rattle.branch_rules.specs.Bonds.{IsSurchargeTable}
use Rattle.branch_rules.specs.Limits as limits
use Rattle.route_pricing.specs.Tables.{IsFilled}
use Rattle.route_pricing.specs.declared.table.Ratio.{Ratio}
use Rattle.route_pricing.specs.declared.table.Table.{Table}
use Rattle.route_pricing.specs.Values.{IsFree, IsLeastRatio, services_add, tour_surcharge}
use Rattle.dual_master.specs.Floors.{IsFreeTour, IsLeastCostRatio}
use Rattle.dual_master.specs.Pieces.{prices_at, ratio_set}
use Rattle.dual_master.proofs.Packed.{costs_small}
use Rattle.dual_master.proofs.Sums.{price_at, prices_small}

-- edges that follow each other are those of tasks
hd : List ℕ → ℕ
hd [] = 0
hd (x ∷ xs) = x

tl : List ℕ → List ℕ
tl [] = []
tl (x ∷ xs) = xs

followed_required : (p : Problem) (tasks : List Task) (a b : ℕ) (before after : List ℕ) → map (λ t. t.edge) tasks ≡ before ++ (a ∷ (b ∷ after)) →
    AllByRecursion (λ t. IsRequired p t.edge) tasks → IsRequired p a × IsRequired p b
unfolding hd tl
followed_required p [] a b before after is all = absurd (omega (arith, ap length is, length-append before (a ∷ (b ∷ after))))
followed_required p (t ∷ []) a b [] after is all = absurd (omega (arith, ap length is))
followed_required p (t ∷ (u ∷ tasks)) a b [] after is all =
    (subst (IsRequired p) (ap hd is) all.0, subst (IsRequired p) (ap (λ es. hd (tl es)) is) all.1.0)
followed_required p (t ∷ tasks) a b (c ∷ before) after is all = followed_required p tasks a b before after (ap tl is) all.1

module _ (p : Problem) (r : Relation) (all : AllowsAll p.required r) (surcharges : List ℤ) (charged : IsSurchargeTable p.required [] surcharges) where
  of : (e : ℕ) → IsRequired p e → IsOf r e
  of e is = record { from_one = is.from_one; in_range = omega (arith, is.in_range, all.on) }

  allowed_from : (a b : ℕ) → IsRequired p a → IsRequired p b → a ≢ b → allows r a b ≡ true
  allowed_from a b a_is b_is apart = all.each a b (of a a_is) (of b b_is) ∙ ap not (ne_eqb a b apart)

  apart_from : (a b : ℕ) → IsRequired p a → IsRequired p b → allows r a b ≡ true → a ≢ b
  apart_from a b a_is b_is may same = false≢true (sym (sym may ∙ all.each a b (of a a_is) (of b b_is) ∙ ap not (eq-eqb a b same)))

  abbrev cost_pricing : Pricing
  cost_pricing = record { problem = p; prices = costs_of p; unit = 1; services = prices_at p 1 0; relation = r; surcharges = surcharges }

  free_from : (tasks : List Task) → IsTaskTour p (IsAllowed cost_pricing) tasks → IsFreeTour p tasks
  free_from tasks tour = record {
    some = tour.some;
    required = tour.required;
    load = tour.load;
    each_allowed = λ a b follows.
        let both = followed_required p tasks a b follows.before follows.after follows.joined tour.required in
        apart_from a b both.0 both.1 (tour.each_allowed a b follows);
  }

  free_to : (tasks : List Task) → IsFreeTour p tasks → IsTaskTour p (IsAllowed cost_pricing) tasks
  free_to tasks tour = record {
    some = tour.some;
    required = tour.required;
    load = tour.load;
    each_allowed = λ a b follows.
        let both = followed_required p tasks a b follows.before follows.after follows.joined tour.required in
        allowed_from a b both.0 both.1 (tour.each_allowed a b follows);
  }

  pub cost_is_free : IsValid p → IsFree cost_pricing
  cost_is_free valid = record { services = serves; pairs = λ e f e_is f_is. charged.same e f e_is.from_one e_is.in_range f_is.from_one f_is.in_range }
    where
      serves : (e : ℕ) → IsRequired p e → service_adds cost_pricing e ≡ pos 0
      serves zero is = absurd (omega (arith, is.from_one))
      serves (suc k) is = omega (arith, ints, price_at p (ratio_set p 0 1) 1 0 (suc k) valid refl is)

  pub ratio_from_table : (a b : ℕ) → IsLeastRatio cost_pricing a b → IsLeastCostRatio p a b
  ratio_from_table a b least = record {
    tasks = least.tasks;
    tour = free_from least.tasks least.attained.tour;
    joined = least.attained.deadheads;
    loaded = least.loaded;
    least = λ other n tour joined.
        least.least other n (services_add cost_pricing other +ℤ (pos n +ℤ tour_surcharge cost_pricing other)) (record { tour = free_to other tour; deadheads = joined; sum = refl });
  }

  found_from_table : (found : Option Ratio) → MatchOption found (p.required ≡ 0) (λ q. IsLeastRatio cost_pricing q.deadhead q.load) → MatchOption found (p.required ≡ 0) (λ q. IsLeastCostRatio p q.deadhead q.load)
  found_from_table None is = is
  found_from_table (Some q) is = ratio_from_table q.deadhead q.load is

  -- what a table says that was filled with costs
  pub ratio_from_filled : IsValid p → (prices : List ℕ) (services : List ℤ) → prices ≡ costs_of p → services ≡ prices_at p 1 0 → (table : Table) →
      IsFilled (record { problem = p; prices = prices; unit = 1; services = services; relation = r; surcharges = surcharges }) table → (found : Option Ratio) →
      ((x : Pricing) → IsFilled x table → IsFree x → MatchOption found (x.problem.required ≡ 0) (λ q. IsLeastRatio x q.deadhead q.load)) →
      MatchOption found (p.required ≡ 0) (λ q. IsLeastCostRatio p q.deadhead q.load)
  ratio_from_filled valid prices services prices_are services_are table filled found says =
      let first = subst (λ xs. IsFilled (record { problem = p; prices = xs; unit = 1; services = services; relation = r; surcharges = surcharges }) table) prices_are filled in
      let second = subst (λ zs. IsFilled (record { problem = p; prices = costs_of p; unit = 1; services = zs; relation = r; surcharges = surcharges }) table) services_are first in
      found_from_table found (says cost_pricing second (cost_is_free valid))

-- the table without groups is one of surcharges
pub none_charged : (m : ℕ) (surcharges : List ℤ) → IsSurchargeTable m [] surcharges → All limits.IsSurcharge surcharges → AreSurcharges m surcharges
none_charged m surcharges charged small = record {
  long = charged.long;
  both_orders = λ e f e_from e_in f_from f_in. charged.same e f e_from e_in f_from f_in ∙ sym (charged.same f e f_from f_in e_from e_in);
  small = All-weaker limits.IsSurcharge IsSurcharge (λ s is. record { low = omega (arith, ints, is.low); high = omega (arith, ints, is.high) }) surcharges small;
}

-- services at cost are within the limits of the table
pub costs_servable : (p : Problem) → IsValid p → All IsServicePrice (prices_at p 1 0)
costs_servable p valid k d below = let is = prices_small p 1 0 valid (costs_small p 1 valid (omega arith)) k d below in record { low = is.low; high = is.high }
