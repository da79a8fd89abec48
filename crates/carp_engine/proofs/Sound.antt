-- What is found is sound.
use Rattle.std.proofs.Common.{◌≡◌, ℕ, ◌+◌, ◌-◌, ◌*◌, ◌/◌, ◌^◌, ◌≤◌, ◌⊎◌, List, refl, sym, subst, arith, inl, inr}
use Rattle.carp_base.specs.Problem.{Problem, required_cost}
use Rattle.plan_model.specs.declared.step.Step.{Step}
use Rattle.plan_model.specs.Plans.{plan_cost}
use Rattle.branch_rules.specs.Laws.{LeanIsSmall}
use Rattle.branch_tree.specs.Founds.{support_found}
use Rattle.task_tours.specs.Shorts.{IsShortPlan}
use Rattle.cert_lines.specs.Certificates.{Certificate}
use Rattle.branch_tree.specs.Values.{IsFloored}
use Rattle.carp_engine.specs.Certifying.{IsSearched, IsSearchedAnew, IsTerse, certificate_by}
use Rattle.carp_engine.specs.Solutions.{IsAtMostSingles, IsSound}
use Rattle.carp_engine.specs.Known.{Known}
use Rattle.carp_engine.proofs.Certified.{above_floors, bounds, floored_more, is_fine, is_good, reached}
use Rattle.carp_engine.proofs.Terse.{short_text}

module _ (laws : Known) (p : Problem) (budget : ℕ) (plan : List (List Step)) (short : IsShortPlan p plan) (cheap : IsAtMostSingles p (plan_cost p plan)) (c : Certificate) (turns : ℕ)
    (anew : IsSearchedAnew p budget plan c turns) where
  abbrev s : IsSearched p anew.least budget plan c turns
  s = anew.searched

  floored : IsFloored p s.found.bound
  floored = floored_more p anew.least s.found.bound s.no_lower anew.floored

  cheaper : IsAtMostSingles p (plan_cost p s.found.plan)
  cheaper = record { singles = cheap.singles; tours = cheap.tours; lawful = cheap.lawful; at_most = omega (arith, cheap.at_most, s.no_dearer) }

  sound_by : IsSound p (certificate_by p s.found) turns
  unfolding is_good
  sound_by = record {
    good = is_good laws p s.found turns s.is_found;
    bounds = bounds laws p s.found turns s.is_found;
    spellable = laws.spelled (certificate_by p s.found) (is_fine laws p s.found turns s.is_found s.certified.limits);
    counts = refl;
    plan = s.short short;
    no_dearer = cheaper;
    not_above = s.is_found.at_most;
    greatest = λ other most shows. s.is_found.greatest other most shows;
    services = reached p s.found floored (required_cost p) floored.floors.floors.services;
    floors = above_floors p s.found floored;
    turns_are = s.is_found.turns_are;
    small = short_text laws p s.found turns s.is_found s.certified.limits (s.short short) (subst IsTerse s.certified.certificate anew.terse);
  }

  pub sound : IsSound p c turns
  sound = subst (λ (d : Certificate). IsSound p d turns) (sym s.certified.certificate) sound_by

-- the bound is below the cost only where the turns are at least the budget
module _ (p : Problem) (least budget : ℕ) (plan : List (List Step)) (c : Certificate) (turns : ℕ) (s : IsSearched p least budget plan c turns) where
  pub ended : (c.bound ≡ c.cost) ⊎ (budget ≤ turns)
  ended = subst (λ (d : Certificate). (d.bound ≡ d.cost) ⊎ (budget ≤ turns)) (sym s.certified.certificate) s.ended

  pub whole : LeanIsSmall → 2 ^ (p.required * (p.required - 1) / 2 + 5) ≤ budget → c.bound ≡ c.cost
  whole law enough =
      let few = law (support_found p s.found) (plan_cost p s.found.plan) s.is_found.tree turns s.is_found.lean s.is_found.pairs s.is_found.turns_are in
      elim ended [
        | inl same ↦ same
        | inr spent ↦ absurd (omega (arith, few, spent, enough))
      ]

-- the certificate costs no more than the plan that the search began with
pub no_dearer : (p : Problem) (least budget : ℕ) (plan : List (List Step)) (c : Certificate) (turns : ℕ) → IsSearched p least budget plan c turns → c.cost ≤ plan_cost p plan
no_dearer p least budget plan c turns s = subst (λ (d : Certificate). d.cost ≤ plan_cost p plan) (sym s.certified.certificate) s.no_dearer
