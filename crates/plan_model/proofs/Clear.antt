-- A plan is lawful exactly where no pass over it finds anything.
use Rattle.std.proofs.Common.{◌≡◌, ℕ, suc, ◌+◌, ◌-◌, ◌<◌, ◌≤◌, ◌==◌, Bool, true, false, ◌&&◌, cond, List, [], ◌∷◌, length, get_or, refl, ap, ◌∙◌, subst, arith, rules, inl, inr, eq-eqb}
use Rattle.std.specs.Prelude.{IsTrue}
use Rattle.std.specs.List.{count_by, AllByRecursion}
use Rattle.std.proofs.lemmas.List.Elements.{All-from_recursion}
use Rattle.std.proofs.lemmas.List.Sums.{sum_by-cons, sum_by-append}
use Rattle.carp_base.specs.Problem.{Problem, IsRequired}
use Rattle.plan_model.specs.declared.step.Step.{Step}
use Rattle.plan_model.specs.Plans.{IsLawful, IsLawfulWalk, serves, services_of, steps_of, walk_at, walk_load}
use Rattle.plan_model.specs.Passes.{Continues, IsAtDepot, ServesOtherIn}
use Rattle.plan_model.proofs.Chains.{is_walk, walk_continues, walk_at_depot, required_or_not}

-- nothing is found
pub record IsClear (p : Problem) (plan : List (List Step)) : Type 0 where
  pub continues : (k : ℕ) → k < length plan → Continues p (walk_at plan k)
  pub depot : (k : ℕ) → k < length plan → IsAtDepot p (walk_at plan k)
  pub no_other : (e : ℕ) → ¬ (ServesOtherIn p (steps_of plan) e)
  pub at_most_once : (k : ℕ) → k < p.required → services_of (suc k) plan ≤ 1
  pub at_least_once : (k : ℕ) → k < p.required → 1 ≤ services_of (suc k) plan
  pub loads : (k : ℕ) → k < length plan → walk_load p (walk_at plan k) ≤ p.capacity

all_from_places : {X : Type 0} (P : X → Type 0) (d : X) (xs : List X) → ((k : ℕ) → k < length xs → P (get_or xs k d)) → AllByRecursion P xs
all_from_places P d [] each = tt
all_from_places P d (x ∷ xs) each = (each 0 (omega arith), all_from_places P d xs (λ k below. each (suc k) (omega arith)))

-- the number of steps that serve an edge, over one more step
count_cons : (e : ℕ) (s : Step) (steps : List Step) → count_by (serves e) (s ∷ steps) ≡ cond (serves e s) 1 0 + count_by (serves e) steps
count_cons e s steps = sum_by-cons (λ x. cond (serves e x) 1 0) s steps

pub services_cons : (e : ℕ) (walk : List Step) (plan : List (List Step)) → services_of e (walk ∷ plan) ≡ count_by (serves e) walk + services_of e plan
services_cons e walk plan = sum_by-append (λ x. cond (serves e x) 1 0) walk (steps_of plan)

serves_own : (s : Step) → IsTrue s.served → serves s.edge s ≡ true
serves_own s served = rw (served, eq-eqb s.edge s.edge refl) refl

-- where no other edge is served, each served step is on a required edge
required_steps : (p : Problem) (steps : List Step) → ((e : ℕ) → ¬ (ServesOtherIn p steps e)) → AllByRecursion (λ s. IsTrue s.served → IsRequired p s.edge) steps
required_steps p [] none = tt
required_steps p (s ∷ steps) none = (
  λ served. elim (required_or_not p s.edge) [
    | inl required ↦ required
    | inr other ↦ absurd (none s.edge (other, let own = ap {B = ℕ} (λ b. cond b 1 0) (serves_own s served) in omega (arith, own, count_cons s.edge s steps)))
  ],
  required_steps p steps (λ e found. none e (found.0, omega (arith, found.1, count_cons e s steps))),
)

required_walks : (p : Problem) (plan : List (List Step)) → ((e : ℕ) → ¬ (ServesOtherIn p (steps_of plan) e)) →
    AllByRecursion (λ walk. AllByRecursion (λ s. IsTrue s.served → IsRequired p s.edge) walk) plan
required_walks p [] none = tt
required_walks p (walk ∷ plan) none = (
  required_steps p walk (λ e found. none e (found.0, omega (arith, found.1, services_cons e walk plan))),
  required_walks p plan (λ e found. none e (found.0, omega (arith, found.1, services_cons e walk plan))),
)

pub lawful_where_clear : (p : Problem) (plan : List (List Step)) → IsClear p plan → IsLawful p plan
lawful_where_clear p plan clear = record {
  walks = all_from_places (IsLawfulWalk p) [] plan (λ k below. record {
    leads = is_walk p (walk_at plan k) (clear.continues k below) (clear.depot k below);
    serves_required = All-from_recursion _ plan (required_walks p plan clear.no_other) k [] below;
    load = clear.loads k below;
  });
  once = λ e required.
      let place : suc (e - 1) ≡ e = omega (arith, required.from_one) in
      let most = clear.at_most_once (e - 1) (omega (arith, required.from_one, required.in_range)) in
      let least = clear.at_least_once (e - 1) (omega (arith, required.from_one, required.in_range)) in
      let most' = rw place at most in
      let least' = rw place at least in
      omega (arith, most', least');
}

-- steps that serve required edges alone serve no other edge
serves_is : (e : ℕ) (s : Step) → IsTrue (serves e s) → IsTrue s.served × (s.edge ≡ e)
serves_is e s = by s.served (s.edge == e) (search rules) where
  by : (b c : Bool) → (IsTrue c → s.edge ≡ e) → IsTrue (b && c) → IsTrue b × (s.edge ≡ e)
  by true c same both = (refl, same both)
  by false c same both = absurd (cc)

none_other : (p : Problem) (e : ℕ) (steps : List Step) → AllByRecursion (λ s. IsTrue s.served → IsRequired p s.edge) steps → ¬ (IsRequired p e) → count_by (serves e) steps ≡ 0
none_other p e [] all other = refl
none_other p e (s ∷ steps) all other =
    count_cons e s steps ∙ by (serves e s) refl (none_other p e steps all.1 other) where
      by : (b : Bool) → serves e s ≡ b → count_by (serves e) steps ≡ 0 → cond b 1 0 + count_by (serves e) steps ≡ 0
      by true is rest = let own = serves_is e s is in absurd (other (subst (λ (n : ℕ). IsRequired p n) own.1 (all.0 own.0)))
      by false is rest = omega (arith, rest)

pub none_other_served : (p : Problem) (plan : List (List Step)) → AllByRecursion (IsLawfulWalk p) plan → (e : ℕ) → ¬ (ServesOtherIn p (steps_of plan) e)
none_other_served p [] all e found = absurd (omega (arith, found.1))
none_other_served p (walk ∷ plan) all e found =
    none_other_served p plan all.1 e (found.0, omega (arith, found.1, services_cons e walk plan, none_other p e walk all.0.serves_required found.0))

pub clear_where_lawful : (p : Problem) (plan : List (List Step)) → IsLawful p plan → IsClear p plan
clear_where_lawful p plan lawful = record {
  continues = λ k below. walk_continues p (walk_at plan k) (All-from_recursion (IsLawfulWalk p) plan lawful.walks k [] below).leads;
  depot = λ k below. walk_at_depot p (walk_at plan k) (All-from_recursion (IsLawfulWalk p) plan lawful.walks k [] below).leads;
  no_other = none_other_served p plan lawful.walks;
  at_most_once = λ k below. omega (arith, lawful.once (suc k) (record { from_one = omega arith; in_range = omega arith }));
  at_least_once = λ k below. omega (arith, lawful.once (suc k) (record { from_one = omega arith; in_range = omega arith }));
  loads = λ k below. (All-from_recursion (IsLawfulWalk p) plan lawful.walks k [] below).load;
}
