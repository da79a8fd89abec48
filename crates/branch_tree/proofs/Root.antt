-- A search that has just begun holds its tree of one leaf.
use Rattle.std.proofs.Common.{◌≡◌, ℕ, suc, ◌*◌, ◌^◌, ◌<◌, List, [], ◌∷◌, refl, sym, subst, ap, ◌∙◌, arith, inl, inr, pos, ◌≤ℤ◌}
use Rattle.std.specs.List.{All}
use Rattle.std.proofs.lemmas.Bool.{cases_lt}
use Rattle.std.proofs.lemmas.Int.{ints}
use Rattle.std.proofs.lemmas.List.Elements.{All-nil, All-cons}
use Rattle.carp_base.specs.Problem.{Problem}
use Rattle.plan_model.specs.Plans.{plan_cost}
use Rattle.plan_model.specs.declared.step.Step.{Step}
use Rattle.cut_pool.specs.Shores.{Belongs}
use Rattle.decision_chains.specs.Pairs.{HasPairWithin}
use Rattle.branch_rules.specs.Laws.{NoDepot}
use Rattle.branch_rules.specs.Limits.{HasShoreOf}
use Rattle.branch_rules.specs.Trees.{price}
use Rattle.branch_rules.specs.declared.node.Node.TheVariants.{Price}
use Rattle.dual_master.specs.Floors.{plain_value}
use Rattle.branch_rules.specs.Prices.{Prices}
use Rattle.grown_trees.specs.Growth.{AreSound, Fraction, Growth, turns_in}
use Rattle.grown_trees.specs.Stands.{stands}
use Rattle.grown_trees.specs.declared.growing.GrowingNode.{GrowingNode}
use Rattle.branch_tree.specs.Beginnings.{IsFloor, IsRoot, fraction_of}
use Rattle.task_tours.specs.ShortLaws.{ShortPlansCostLittle}
use Rattle.task_tours.specs.Shorts.{IsAllowedPlan}
use Rattle.branch_tree.specs.Searches.{IsHeld, IsHeldSet, State, support_in}
use Rattle.grown_trees.specs.Values.{IsMostShown, IsShown}
use Rattle.branch_tree.specs.declared.beginning.Floor.{Floor}
use Rattle.branch_tree.specs.Values.{IsFloored}
use Rattle.branch_tree.specs.declared.search.Base.{Base}
use Rattle.branch_tree.proofs.Groups.{none_in_range}
use Rattle.branch_tree.proofs.Numbers.{shown_within}

pub no_depot : (p : Problem) (pool : List (List ℕ)) → All (Belongs p) pool → NoDepot p pool
no_depot p [] all = tt
no_depot p (shore ∷ pool) all = ((all 0 shore (omega arith)).no_depot, no_depot p pool (λ k d less. all (suc k) d (omega (arith, less))))

module _ (costs : ShortPlansCostLittle) (p : Problem) (floor : Floor) (is : IsFloor p floor) (plan : List (List Step)) (allowed : IsAllowedPlan p plan) (shows : ℕ)
    (shown : IsMostShown floor.set.unit (plain_value p floor.pool floor.set) shows) where
  abbrev leaf : GrowingNode
  leaf = record { node = Price 1; shows = shows }

  abbrev pub at_root : State
  at_root = record { pool = floor.pool; sets = floor.set ∷ []; nodes = leaf ∷ []; plan = plan; cost = plan_cost p plan; done = turns_in (plan_cost p plan) (leaf ∷ []); least = shows; base = fraction_of p floor }

  -- it is below all bounds
  in_range : shows < 10 ^ 18
  in_range = elim (cases_lt shows (10 ^ 18)) [
    | inl less ↦ less
    | inr most ↦
        let little = shown_within floor.set.unit 999999999999999999 (plan_cost p plan) (plain_value p floor.pool floor.set) ((shown.shown 999999999999999999 (omega arith)).1 (omega (arith, most))) (is.floors.below plan allowed.lawful) in
        absurd (omega (arith, little, costs p plan is.valid allowed.lawful allowed.few_steps))
  ]

  is_shown : IsShown floor.set.unit (plain_value p floor.pool floor.set) shows
  is_shown = (shown.shown shows in_range).1 (omega arith)

  pub covered : (fraction_of p floor).value ≤ℤ pos ((fraction_of p floor).unit * shows)
  covered = elim shown.covers [
    | inl is_covered ↦ is_covered
    | inr above ↦ absurd (omega (arith, above, in_range))
  ]

  root_sound : AreSound (support_in p at_root) (fraction_of p floor) (stands [] (price 1)) (leaf ∷ [])
  root_sound = (
    record {
      same = refl;
      pairs = All-nil (HasPairWithin p.required);
      shores = All-nil (HasShoreOf p floor.pool);
      inside = tt;
      fine = tt;
      spelled = (omega arith, omega arith);
      lean = tt;
      fits = (omega arith, omega arith, is.fits []);
      reaches = omega (arith, ints);
      shows = λ bound small. (
        λ shows_it. (shown.shown bound small).0 shows_it.2.above,
        λ within. (omega arith, omega arith, record { fits = (is.fits []).fits; above = (shown.shown bound small).1 within }),
      );
      enough = covered;
    },
    tt,
  )

  pub root_held : IsHeld p at_root
  root_held = record {
    valid = is.valid;
    below = λ other lawful. shown_within floor.set.unit shows (plan_cost p other) (plain_value p floor.pool floor.set) is_shown (is.floors.below other lawful);
    some_unit = is.floors.some_unit;
    shown = is_shown;
    beneath = is.floors.below;
    tree = price 1;
    sound = root_sound;
    sets = All-cons (IsHeldSet p floor.pool) floor.set [] (record { one_each = (is.fits []).one_each; not_negative = (is.fits []).fits.not_negative; shores = is.shores; groups = none_in_range floor.set is.no_groups }) (All-nil (IsHeldSet p floor.pool));
    few_sets = omega arith;
    belong = is.belong;
    allowed = allowed;
    cost_is = refl;
    done_is = refl;
    few_nodes = omega arith;
  }

-- the base is what the first set is worth
pub base_is : (p : Problem) (floor : Floor) (base : Base) → base.unit ≡ floor.set.unit → base.value ≡ plain_value p floor.pool floor.set →
    ◌≡◌ {A = Fraction} (record { unit = base.unit; value = base.value }) (fraction_of p floor)
base_is p floor base unit value = λ i. record { unit = unit i; value = value i }

-- the parts of a search that has just begun
pub begun_held : ShortPlansCostLittle → (p : Problem) (floor : Floor) → IsFloor p floor → (plan : List (List Step)) → IsAllowedPlan p plan → (turns : ℕ) (tree : Growth) (root : IsRoot p turns floor tree) →
    (sets : List Prices) → sets ≡ floor.set ∷ [] → (cost : ℕ) → cost ≡ plan_cost p plan → (done : ℕ) → done ≡ turns_in cost tree.nodes → (least : ℕ) → least ≡ root.shows →
    (base : Fraction) → base ≡ fraction_of p floor → IsHeld p (record { pool = floor.pool; sets = sets; nodes = tree.nodes; plan = plan; cost = cost; done = done; least = least; base = base })
begun_held costs p floor is plan allowed turns tree root sets sets_are cost cost_is done done_is least least_is base base_is =
    let nodes : tree.nodes ≡ record { node = Price 1; shows = root.shows } ∷ [] = ap (λ (t : Growth). t.nodes) root.leaf in
    let s : State = at_root costs p floor is plan allowed root.shows root.shown in
    let same : s ≡ record { pool = floor.pool; sets = sets; nodes = tree.nodes; plan = plan; cost = cost; done = done; least = least; base = base } =
    λ i. record { pool = floor.pool; sets = sym sets_are i; nodes = sym nodes i; plan = plan; cost = sym cost_is i; done = sym (done_is ∙ ap (λ (n : ℕ). turns_in n tree.nodes) cost_is ∙ ap (turns_in (plan_cost p plan)) nodes) i; least = sym least_is i; base = sym base_is i } in
    subst (IsHeld p) same (root_held costs p floor is plan allowed root.shows root.shown)

-- the bound that the leaf shows is at least each floor
pub begun_floored : ShortPlansCostLittle → (p : Problem) (floor : Floor) → IsFloor p floor → (plan : List (List Step)) → IsAllowedPlan p plan → (turns : ℕ) (tree : Growth) (root : IsRoot p turns floor tree) →
    (least : ℕ) → least ≡ root.shows → IsFloored p least
begun_floored costs p floor is plan allowed turns tree root least least_is =
    subst (IsFloored p) (sym least_is)
    (record { base = fraction_of p floor; floors = is.floors; above = covered costs p floor is plan allowed root.shows root.shown })
