-- The passes over the numbers, and what is said of a set by its parts.
use Rattle.std.proofs.Common.{◌≡◌, ℕ, suc, ◌+◌, ◌<◌, ◌≤◌, ◌↔◌, Bool, true, List, length, get_or, refl, ap, ◌∙◌, subst, arith, inl, inr, ◌⊎◌, pos, ◌+ℤ◌, IfOk}
use Rattle.std.specs.Prelude.{IsTrue, OnOk, IfErr, is_ok, Result, Ok, Err}
use Rattle.std.specs.List.{All}
use Rattle.std.proofs.lemmas.Int.{ints}
use Rattle.std.proofs.lemmas.Bool.{cases_lt, false≢true}
use Rattle.std.proofs.lemmas.List.Elements.{All-from_recursion, recursion_from_All}
use Rattle.std.proofs.lemmas.List.{get_or_default}
use Rattle.carp_base.specs.declared.edge.Edge.{Edge}
use Rattle.carp_base.specs.Problem.{Problem, IsRequired, IsValid, no_edge}
use Rattle.plan_model.specs.Plans.{crosses}
use Rattle.cut_pool.specs.Shores.{is_in}
use Rattle.deadhead_paths.specs.Laws.{LeastDeadheadIsThere}
use Rattle.decision_chains.specs.declared.decision.Decision.{Decision}
use Rattle.branch_rules.specs.Laws.{FitsBranch}
use Rattle.branch_rules.specs.Limits.{IsPriceSet}
use Rattle.branch_rules.specs.Prices.{Prices, no_group, no_weight}
use Rattle.branch_rules.specs.Refusals.{HasUpper, HasYes, IsWithoutUpper, IsWithoutYes, NoneTooHeavy}
use Rattle.branch_rules.specs.declared.branch.NoUpper.{NoUpper}
use Rattle.branch_rules.specs.declared.yes_pairs.NoYes.{NoYes}
use Rattle.route_pricing.specs.declared.table.Table.{Table}
use Rattle.tight_prices.specs.Fillings.{IsFilledFor}
use Rattle.tight_prices.specs.Probes.{Ground, IsPaying, ProbeSays}
use Rattle.tight_prices.specs.Places.{Rises, number_at, raised}
use Rattle.tight_prices.specs.Searches.{IsFitting, IsMost, IsOver, IsShoreTight}
use Rattle.tight_prices.specs.Tight.{IsPriceTight, IsTight}
use Rattle.tight_prices.specs.declared.place.Place.{Place}
use Rattle.tight_prices.specs.declared.place.Place.TheVariants as places
use Rattle.tight_prices.specs.declared.probe.Probe.{Probe}
use Rattle.tight_prices.specs.declared.probe.Probe.TheVariants.{Pays, Lacks, TooHeavy}
use Rattle.tight_prices.proofs.Climbing.{place_on}
use Rattle.tight_prices.proofs.Rising.{IsStuck, paying_of, stuck_stays}

-- where nothing is left of the way, the number cannot be raised
pub stuck_from : (g : Ground) (set : Prices) (place : Place) (n : ℕ) → IsMost g set place n → n ≡ 0 → IsStuck g.problem g.pool g.branch set place
stuck_from g set place n is none = from is.blocked
  where
    from : ((number_at set place +ℤ pos n) ≡ pos 1000000000000000) ⊎ ¬ (FitsBranch g.problem g.pool g.branch (raised set place (n + 1))) → IsStuck g.problem g.pool g.branch set place
    from (inl most) = inl (omega (arith, ints, most, none))
    from (inr not) = let one : n + 1 ≡ 1 = omega (arith, none) in inr (subst (λ k. ¬ (FitsBranch g.problem g.pool g.branch (raised set place k))) one not)

module _ (there : LeastDeadheadIsThere) (g : Ground) (valid : IsValid g.problem) (set other : Prices) (fitting : IsFitting g set) (rises : Rises g.problem g.pool g.branch set other) (fine : IsPriceSet other) where
  -- one price more that cannot be raised
  pub next_prices : (e : ℕ) → IsPriceTight g.problem g.pool g.branch other e → ((f : ℕ) → IsRequired g.problem f → f < e → IsPriceTight g.problem g.pool g.branch set f) →
      (f : ℕ) → IsRequired g.problem f → f < e + 1 → IsPriceTight g.problem g.pool g.branch other f
  next_prices e last before f required less = elim (cases_lt f e) [
    | inl earlier ↦
        stuck_stays there g.problem valid g.pool g.branch set other (places.Edge f) fitting.fits rises fine (place_on g set (places.Edge f) fitting required) (before f required earlier)
    | inr not ↦
        let same : e ≡ f = omega (arith, not, less) in
        subst (IsPriceTight g.problem g.pool g.branch other) same last
  ]

  pub shore_stays : (s : ℕ) → IsShoreTight g set s → IsShoreTight g other s
  shore_stays s is needed = stuck_stays there g.problem valid g.pool g.branch set other (places.Shore s) fitting.fits rises fine tt (is needed)

  -- one shore more
  pub next_shores : (e : ℕ) → IsShoreTight g other e → ((s : ℕ) → s < e → IsShoreTight g set s) → (s : ℕ) → s < e + 1 → IsShoreTight g other s
  next_shores e last before s less = elim (cases_lt s e) [
    | inl earlier ↦ shore_stays s (before s earlier)
    | inr not ↦
        let same : e ≡ s = omega (arith, not, less) in
        subst (IsShoreTight g other) same last
  ]

  -- what was tight of the shores stays, and with the prices all is
  pub tightened : (known : ℕ) → ((s : ℕ) → s ≤ known → IsShoreTight g set s) → IsFitting g other → ((e : ℕ) → IsRequired g.problem e → IsPriceTight g.problem g.pool g.branch other e) →
      IsTight g.problem g.pool known g.branch other
  tightened known shores after prices = record {
    fits = after.fits;
    prices = prices;
    weights = λ s within needed. shore_stays s (shores s within) needed;
  }

pub three_ok : {X E : Type 0} (r : Result X E) (P Q S R : X → Type 0) → ((x : X) → P x → Q x → S x → R x) → IfOk r P → IfOk r Q → IfOk r S → IfOk r R
three_ok (Ok x) P Q S R join first second third = join x first second third
three_ok (Err e) P Q S R join first second third = tt

-- Whether a set fits.

pub uppers_say : {X : Type 0} (branch : List Decision) (set : Prices) (r : Result X NoUpper) → OnOk r (All (HasUpper branch) set.weights) → IfErr r (IsWithoutUpper branch set) →
    (IsTrue (is_ok r) ↔ All (HasUpper branch) set.weights)
uppers_say branch set (Ok x) all without = ((λ so. all), (λ so. refl))
uppers_say branch set (Err e) all without = ((λ so. absurd (false≢true so)), (λ every. absurd (without.lacks (every without.place no_weight without.in_range))))

pub yes_say : {X : Type 0} (branch : List Decision) (set : Prices) (r : Result X NoYes) → OnOk r (All (HasYes branch) set.groups) → IfErr r (IsWithoutYes branch set) →
    (IsTrue (is_ok r) ↔ All (HasYes branch) set.groups)
yes_say branch set (Ok x) all without = ((λ so. all), (λ so. refl))
yes_say branch set (Err e) all without = ((λ so. absurd (false≢true so)), (λ every. absurd (without.lacks (every without.place no_group without.in_range))))

pub filled_by : (g : Ground) (set : Prices) (table : Table) (found : Probe) → ProbeSays g set table found → NoneTooHeavy g.problem g.pool set → IsFilledFor g.problem g.pool g.branch set table
filled_by g set table Pays says light = says.1
filled_by g set table (Lacks value) says light = says.1
filled_by g set table TooHeavy says light = absurd (says light)

pays_found : (g : Ground) (set : Prices) (table : Table) (found : Probe) → ProbeSays g set table found → IsPaying g.problem g.pool g.branch set → found ≡ Pays
pays_found g set table Pays says pays = refl
pays_found g set table (Lacks value) says pays = absurd (says.0 pays)
pays_found g set table TooHeavy says pays = absurd (says pays.light)

pub fits_by : (g : Ground) (set : Prices) (table : Table) (found : Probe) (uppers pairs answer : Bool) → ProbeSays g set table found → (IsTrue uppers ↔ All (HasUpper g.branch) set.weights) →
    (IsTrue pairs ↔ All (HasYes g.branch) set.groups) → (IsTrue answer → IsTrue uppers × IsTrue pairs × (found ≡ Pays)) → (IsTrue uppers → IsTrue pairs → found ≡ Pays → IsTrue answer) → length set.services ≡ g.problem.required → (IsTrue answer ↔ FitsBranch g.problem g.pool g.branch set)
fits_by g set table found uppers pairs answer says upper said yes' no' long = (to, back)
  where
    to : IsTrue answer → FitsBranch g.problem g.pool g.branch set
    to so =
        let parts = yes' so in
        let pays : IsPaying g.problem g.pool g.branch set = (subst (ProbeSays g set table) parts.2 says).0 in
        record {
          one_each = long;
          fits = record {
            not_negative = pays.light;
            has_upper = recursion_from_All (HasUpper g.branch) set.weights (upper.0 parts.0);
            has_yes = recursion_from_All (HasYes g.branch) set.groups (said.0 parts.1);
            tours = pays.tours;
          };
        }

    back : FitsBranch g.problem g.pool g.branch set → IsTrue answer
    back is =
        no' (upper.1 (All-from_recursion (HasUpper g.branch) set.weights is.fits.has_upper)) (said.1 (All-from_recursion (HasYes g.branch) set.groups is.fits.has_yes)) (pays_found g set table found says (paying_of g.problem g.pool g.branch set is))

-- The least price over a shore.

pub step_over : (p : Problem) (shore prices : List ℕ) (edges : List Edge) (i most least n : ℕ) (d : Edge) (e : ℕ) → edges ≡ p.edges → i < length edges → (least ≡ most) ⊎ IsOver p shore prices least → n ≤ least →
    (n ≡ least) ⊎ ((crosses (is_in shore) (get_or edges i d) ≡ true) × (get_or prices i e ≤ n)) → length prices ≡ length p.edges → (n ≡ most) ⊎ IsOver p shore prices n
step_over p shore prices edges i most least n d e are inside (inl was) less (inl same) long = inl (same ∙ was)
step_over p shore prices edges i most least n d e are inside (inr over) less (inl same) long =
    inr (record { e = over.e; number = over.number; crossed = over.crossed; price = omega (arith, over.price, same) })
step_over p shore prices edges i most least n d e are inside was less (inr here) long =
    let within : i < length p.edges = omega (arith, inside, ap length are) in
    let at : get_or edges i d ≡ get_or p.edges i no_edge = ap (λ (xs : List Edge). get_or xs i d) are ∙ get_or_default p.edges i d no_edge within in
    inr (record {
      e = suc i;
      number = record { from_one = omega arith; in_range = omega (arith, within) };
      crossed = subst (λ x. crosses (is_in shore) x ≡ true) at here.0;
      price = omega (arith, here.1, get_or_default prices i e 0 (omega (arith, within, long)));
    })
