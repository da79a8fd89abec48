use Rattle.std.proofs.Common.{◌≡◌, ◌≤◌, ◌⊎◌, sym, ap, ◌∙◌, arith, inl, inr, subst, ℕ}
use Rattle.std.specs.Prelude.{OnOk}
use Rattle.plan_model.specs.Plans.{plan_cost}
use Rattle.task_tours.specs.Shorts.{IsShortPlan}
use Rattle.branch_tree.specs.Founds.{IsFound, findings_of}
use Rattle.branch_tree.specs.Searches.{state_of}
use Rattle.branch_tree.specs.Steps.{AreClosed}
use Rattle.carp_engine.proofs.Terse.{terse_found}
use Rattle.carp_engine.proofs.searching.sum_up.Goals as goal

ended_by : {Closed : Type 0} (bound least cost budget done turns : ℕ) → (Closed → bound ≡ least) → cost ≡ least → turns ≡ done → Closed ⊎ (budget ≤ done) → (bound ≡ cost) ⊎ (budget ≤ turns)
ended_by bound least cost budget done turns whole is done_is (inl closed) = inl (whole closed ∙ sym is)
ended_by bound least cost budget done turns whole is done_is (inr spent) = inr (omega (arith, spent, done_is))

pub returns-clause-searched : goal.returns-clause-searched
returns-clause-searched c =
    let p = c.args.inst.now in
    let s = c.args.search in
    let found = c.in_ok-found.found in
    let solved = c.in_ok-solved.ensures in
    let turns = solved.turns ∙ c.done-done.ensures in
    let same : plan_cost p found.plan ≡ plan_cost p s.best = ap (plan_cost p) c.in_ok-found.ensures.plan in
    let cost : plan_cost p found.plan ≡ s.cost = same ∙ sym c.requires.search.held.cost_is in
    let ended : AreClosed (state_of s) ⊎ (s.turns ≤ s.done) = subst (λ r. OnOk r (AreClosed (state_of s) ⊎ (s.turns ≤ s.done))) c.in_ok-taken.was c.requires.ended in
    record {
      found = findings_of found;
      is_found = subst (IsFound p (findings_of found)) (sym turns) c.in_ok-found.ensures.found;
      certified = solved.certified;
      no_dearer = omega (arith, same);
      short = λ short. subst (IsShortPlan p) (sym c.in_ok-found.ensures.plan) short;
      no_lower = c.in_ok-found.ensures.least;
      ended = ended_by found.bound s.cost (plan_cost p found.plan) s.turns s.done c.in_ok-solved.solved.turns c.in_ok-found.ensures.closed cost turns ended;
    }

pub returns-clause-terse : goal.returns-clause-terse
returns-clause-terse c = λ light.
    let found = c.in_ok-found.found in
    terse_found c.args.inst.now (state_of c.args.search) (findings_of found) _ c.in_ok-solved.ensures.certified c.in_ok-found.ensures.sets c.in_ok-found.ensures.tree light
