-- The fixed value as a sum over chains, and that no plan that meets a fixed branch costs less.
use Rattle.std.proofs.Common.{◌≡◌, ℕ, ◌+◌, ◌≤◌, Bool, true, false, cond, List, [], ◌∷◌, refl, sym, ap, ◌∙◌, arith, inl, inr, subst}
use Rattle.std.specs.Prelude.{if◌then◌else◌, IsTrue, filter}
use Rattle.std.specs.List.{AllByRecursion, sum_by}
use Rattle.std.proofs.lemmas.List.Sums.{sum_by-cons, sum_by-append}
use Rattle.std.proofs.lemmas.Bool.{cases_Bool, cases_eq, cases_lt, ne_eqb, false_from_ne_true}
use Rattle.carp_base.specs.Problem.{Problem, IsRequired}
use Rattle.plan_model.specs.Plans.{IsLawful, IsLawfulWalk, steps_of, walk_cost, step_cost, plan_cost}
use Rattle.plan_model.specs.declared.step.Step.{Step}
use Rattle.plan_model.specs.Laws.{ServedOnceByNumber}
use Rattle.decision_chains.specs.Neighbours.{served_edges, times, AreNeighbours}
use Rattle.deadhead_paths.specs.Tours.{IsFollowed}
use Rattle.decision_chains.specs.Exclusions.{IsYes, AreJoined}
use Rattle.branch_rules.specs.Decisions.{Spells}
use Rattle.decision_chains.specs.FixedValue.{ServesChain, HasFixedValue}
use Rattle.decision_chains.specs.declared.decision.Decision.{Decision}
use Rattle.branch_rules.proofs.Services.{map-cond, all_required}
use Rattle.branch_rules.proofs.Line.{times-cons, times-same}
use Rattle.branch_rules.proofs.Heavy.{IsWalkOf, walk_services, path_stays}
use Rattle.branch_rules.proofs.ChainLaws.{ChainLaws}

followed_later : (x : ℕ) (es : List ℕ) (a b : ℕ) → IsFollowed es a b → IsFollowed (x ∷ es) a b
followed_later x es a b follows = record { before = x ∷ follows.before; after = follows.after; joined = ap (λ ys. x ∷ ys) follows.joined }

from_head : (branch : List Decision) (e : ℕ) (es : List ℕ) → ((a b : ℕ) → IsFollowed (e ∷ es) a b → IsYes branch a b) → (f : ℕ) → 1 ≤ times f (e ∷ es) → AreJoined branch e f
from_head branch e [] order f in_it = elim (cases_eq e f) [
  | inl is ↦ ([], is)
  | inr other ↦ absurd (omega (arith, in_it, times-cons f e [], ap {B = ℕ} (λ b. cond b 1 0) (ne_eqb e f other)))
]
from_head branch e (x ∷ es) order f in_it = elim (cases_eq e f) [
  | inl is ↦ ([], is)
  | inr other ↦
      let rest = from_head branch x es (λ a b follows. order a b (followed_later e (x ∷ es) a b follows)) f
      (omega (arith, in_it, times-cons f e (x ∷ es), ap {B = ℕ} (λ b. cond b 1 0) (ne_eqb e f other))) in
      (x ∷ rest.0, (order e x (record { before = []; after = es; joined = refl }), rest.1))
]

all_joined : (laws : ChainLaws) (branch : List Decision) (es : List ℕ) → ((a b : ℕ) → IsFollowed es a b → IsYes branch a b) → (e f : ℕ) → 1 ≤ times e es → 1 ≤ times f es → AreJoined branch e f
all_joined laws branch [] order e f e_in f_in = absurd (omega (arith, e_in))
all_joined laws branch (x ∷ es) order e f e_in f_in =
    let to_e = from_head branch x es order e e_in in
    let to_f = from_head branch x es order f f_in in
    laws.joins.on branch e x f (laws.joins.turned branch x e to_e) to_f

-- a sum over edges of which at most one counts
module _ (first : ℕ → Bool) (least : ℕ → ℕ) (cost : ℕ) where
  abbrev pub counted : ℕ → ℕ
  counted e = if first e then least e else 0

  in_later : (f e : ℕ) (es : List ℕ) → 1 ≤ times f es → 1 ≤ times f (e ∷ es)
  in_later f e es in_it = omega (arith, in_it, times-cons f e es)

  none_counted : (es : List ℕ) → ((f : ℕ) → 1 ≤ times f es → first f ≡ false) → sum_by counted es ≡ 0
  none_counted [] none = refl
  none_counted (e ∷ es) none =
      omega (
        arith,
        sum_by-cons counted e es,
        none_counted es (λ f in_it. none f (in_later f e es in_it)),
        ap (λ b. if b then least e else 0) (none e (omega (arith, times-same e es))),
      )

  one_counted : (es : List ℕ) → ((f : ℕ) → times f es ≤ 1) →
      ((f h : ℕ) → 1 ≤ times f es → 1 ≤ times h es → IsTrue (first f) → IsTrue (first h) → f ≡ h) →
      ((f : ℕ) → 1 ≤ times f es → IsTrue (first f) → least f ≤ cost) → sum_by counted es ≤ cost
  one_counted [] once one small = omega arith
  one_counted (e ∷ es) once one small =
      let e_in : 1 ≤ times e (e ∷ es) = omega (arith, times-same e es) in
      elim (cases_Bool (first e)) [
        | inl is ↦
            let rest = none_counted es (λ f in_it. false_from_ne_true (first f) (λ f_first.
            let same = one e f e_in (in_later f e es in_it) is f_first in
            absurd (omega (arith, once e, times-same e es, in_it, ap (λ x. times x es) same)))) in
            omega (arith, sum_by-cons counted e es, rest, small e e_in is, ap (λ b. if b then least e else 0) is)
        | inr not_first ↦
            let rest = one_counted es (λ f. omega (arith, once f, times-cons f e es)) (λ f h f_in h_in. one f h (in_later f e es f_in) (in_later h e es h_in))
            (λ f in_it. small f (in_later f e es in_it)) in
            omega (arith, sum_by-cons counted e es, rest, ap (λ b. if b then least e else 0) not_first)
      ]

-- what is summed over services is summed over the edges that are served
served_part : (f : ℕ → ℕ) (b : Bool) (e n : ℕ) (es : List ℕ) → n ≡ sum_by f es → (if b then f e else 0) + n ≡ sum_by f (cond b (e ∷ es) es)
served_part f true e n es same = omega (arith, same, sum_by-cons f e es)
served_part f false e n es same = omega (arith, same)

served_total : (f : ℕ → ℕ) (walk : List Step) → sum_by (λ s. if s.served then f s.edge else 0) walk ≡ sum_by f (served_edges walk)
served_total f [] = refl
served_total f (s ∷ walk) =
    sum_by-cons (λ x. if x.served then f x.edge else 0) s walk
    ∙ served_part f s.served s.edge _ (served_edges walk) (served_total f walk)
    ∙ ap (sum_by f) (sym (map-cond (λ x. x.edge) s.served s (filter (λ x. x.served) walk)))

member_all : (P : ℕ → Type 0) (es : List ℕ) → AllByRecursion P es → (f : ℕ) → 1 ≤ times f es → P f
member_all P [] all f in_it = absurd (omega (arith, in_it))
member_all P (e ∷ es) all f in_it = elim (cases_eq e f) [
  | inl is ↦ subst P is all.0
  | inr other ↦ member_all P es all.1 f (omega (arith, in_it, times-cons f e es, ap {B = ℕ} (λ b. cond b 1 0) (ne_eqb e f other)))
]

module _ (laws : ChainLaws) (p : Problem) (plan : List (List Step)) (branch : List Decision) (lawful : IsLawful p plan) (spells : Spells branch plan) (value : ℕ) (fixed : HasFixedValue p branch value) where
  walk_once : (walk : List Step) → IsWalkOf walk plan → IsLawfulWalk p walk → (f : ℕ) → 1 ≤ times f (served_edges walk) → times f (served_edges walk) ≤ 1
  walk_once walk is own f f_in =
      let required = member_all (IsRequired p) (served_edges walk) (all_required p walk own.serves_required) f f_in in
      omega (arith, walk_services f walk plan is, lawful.once f required)

  walk_order : (walk : List Step) → ((a b : ℕ) → IsFollowed (served_edges walk) a b → AreNeighbours plan a b) → (a b : ℕ) → IsFollowed (served_edges walk) a b → IsYes branch a b
  walk_order walk near a b follows = spells.only_yes a b (near a b follows)

  walk_serves : (walk : List Step) → IsWalkOf walk plan → IsLawfulWalk p walk → ((a b : ℕ) → IsFollowed (served_edges walk) a b → AreNeighbours plan a b) →
      (e : ℕ) → 1 ≤ times e (served_edges walk) → ServesChain p branch e walk
  walk_serves walk is own near e e_in = record {
    leads = own.leads;
    just = λ f f_in. all_joined laws branch (served_edges walk) (walk_order walk near) e f e_in f_in;
    each = λ f joined.
        let f_in = path_stays laws p plan branch lawful spells.each_yes walk e f joined.0 is joined.1 e_in in
        omega (arith, f_in, walk_once walk is own f f_in);
    order = walk_order walk near;
  }

  walk_pays : (walk : List Step) → IsWalkOf walk plan → IsLawfulWalk p walk → ((a b : ℕ) → IsFollowed (served_edges walk) a b → AreNeighbours plan a b) →
      sum_by (λ s. if s.served then counted fixed.first fixed.cost 0 s.edge else 0) walk ≤ walk_cost p walk
  walk_pays walk is own near =
      let paid = one_counted fixed.first fixed.cost (walk_cost p walk) (served_edges walk)
      (λ f. elim (cases_lt 0 (times f (served_edges walk))) [ inl some ↦ walk_once walk is own f some | inr none ↦ omega (arith, none) ])
      (λ f h f_in h_in f_first h_first. fixed.one_first f h (all_joined laws branch (served_edges walk) (walk_order walk near) f h f_in h_in) f_first h_first)
      (λ f f_in f_first. (fixed.costs f (member_all (IsRequired p) (served_edges walk) (all_required p walk own.serves_required) f f_in) f_first).least walk (walk_serves walk is own near f f_in)) in
      omega (arith, paid, served_total (λ e. if fixed.first e then fixed.cost e else 0) walk)

  walks_pay : (walks : List (List Step)) → ((w : List Step) → IsWalkOf w walks → IsWalkOf w plan) → AllByRecursion (IsLawfulWalk p) walks →
      ((a b : ℕ) → AreNeighbours walks a b → AreNeighbours plan a b) →
      sum_by (λ s. if s.served then counted fixed.first fixed.cost 0 s.edge else 0) (steps_of walks) ≤ sum_by (step_cost p) (steps_of walks)
  walks_pay [] inside own near = omega arith
  walks_pay (walk ∷ walks) inside own near =
      omega (
        arith,
        walk_pays walk (inside walk (inl refl)) own.0 (λ a b follows. near a b (inl (inl follows))),
        walks_pay walks (λ w is. inside w (inr is)) own.1 (λ a b it. near a b (inr it)),
        sum_by-append (λ s. if s.served then (if fixed.first s.edge then fixed.cost s.edge else 0) else 0) walk (steps_of walks),
        sum_by-append (step_cost p) walk (steps_of walks),
      )

  pub fixed_value_law : ServedOnceByNumber → value ≤ plan_cost p plan
  fixed_value_law served_once =
      omega (
        arith,
        fixed.sum_is,
        served_once p plan (λ e. if fixed.first e then fixed.cost e else 0) lawful,
        walks_pay plan (λ w is. is) lawful.walks (λ a b near. near),
      )
