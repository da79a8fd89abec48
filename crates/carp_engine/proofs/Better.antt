-- What is found from a certificate on improves it.
use Rattle.std.proofs.Common.{◌≡◌, ◌⊎◌, ℕ, ◌+◌, ◌≤◌, cond, min, List, refl, sym, subst, arith, inl, inr}
use Rattle.std.specs.Prelude.{nat_le}
use Rattle.std.proofs.lemmas.Bool.Decides.{nat_tests}
use Rattle.std.proofs.lemmas.List.Sums.{sum_by-le-sum_by}
use Rattle.carp_base.specs.Problem.{Problem}
use Rattle.plan_model.specs.declared.step.Step.{Step}
use Rattle.plan_model.specs.Plans.{plan_cost}
use Rattle.grown_trees.specs.Growth.{turns_in}
use Rattle.grown_trees.specs.declared.growing.GrowingNode.{GrowingNode}
use Rattle.task_tours.specs.Shorts.{IsShortPlan}
use Rattle.cert_lines.specs.Certificates.{Certificate}
use Rattle.cert_format.specs.Good.{support_of}
use Rattle.carp_engine.specs.Certifying.{IsSearched, certificate_by}
use Rattle.carp_engine.specs.Improved.{HaveTurns, IsImproved}
use Rattle.carp_engine.specs.Known.{Known}
use Rattle.carp_engine.proofs.Certified.{bounds, is_fine, is_good}

one_more : (less more shows : ℕ) → less ≤ more → cond (nat_le more shows) 1 0 ≤ cond (nat_le less shows) 1 0
one_more less more shows within = grind (arith, nat_tests)

-- for a lower cost no fewer nodes count
no_fewer : (less more : ℕ) (entries : List GrowingNode) → less ≤ more → turns_in more entries ≤ turns_in less entries
no_fewer less more entries within =
    sum_by-le-sum_by (λ (entry : GrowingNode). cond (nat_le more entry.shows) 1 0) (λ (entry : GrowingNode). cond (nat_le less entry.shows) 1 0) entries (λ entry. one_more less more entry.shows within)

module _ (laws : Known) (p : Problem) (old : Certificate) (entries : List GrowingNode) (asked : ℕ) (plan : List (List Step)) (short : IsShortPlan p plan) (cheap : plan_cost p plan ≤ old.cost)
    (had : HaveTurns (support_of p old) old.nodes old.cost (turns_in old.cost entries)) (c : Certificate) (turns : ℕ)
    (s : IsSearched p old.bound (min (turns_in (plan_cost p plan) entries + asked) 1048576) plan c turns) where
  went_on : (s.found.bound ≡ plan_cost p s.found.plan) ⊎ (min (turns_in old.cost entries + asked) 1048576 ≤ turns)
  went_on = elim s.ended [
    | inl closed ↦ inl closed
    | inr spent ↦ inr (omega (arith, spent, no_fewer (plan_cost p plan) old.cost entries cheap))
  ]

  improved_by : IsImproved p old (certificate_by p s.found) asked turns
  unfolding is_good
  improved_by = record {
    good = is_good laws p s.found turns s.is_found;
    bounds = bounds laws p s.found turns s.is_found;
    spellable = laws.spelled (certificate_by p s.found) (is_fine laws p s.found turns s.is_found s.certified.limits);
    counts = refl;
    plan = s.short short;
    no_dearer = omega (arith, cheap, s.no_dearer);
    no_lower = s.no_lower;
    not_above = s.is_found.at_most;
    greatest = λ other most shows. s.is_found.greatest other most shows;
    turns_are = s.is_found.turns_are;
    before = turns_in old.cost entries;
    had = had;
    went_on = went_on;
  }

  pub improved : IsImproved p old c asked turns
  improved = subst (λ (d : Certificate). IsImproved p old d asked turns) (sym s.certified.certificate) improved_by

-- as many turns as were asked for are taken, unless the bound is the cost
pub asked_or_closed : (p : Problem) (old new : Certificate) (asked turns : ℕ) → asked ≤ 1048576 → IsImproved p old new asked turns → (new.bound ≡ new.cost) ⊎ (asked ≤ turns)
asked_or_closed p old new asked turns few is = elim is.went_on [
  | inl closed ↦ inl closed
  | inr spent ↦ inr (omega (arith, spent, few))
]
