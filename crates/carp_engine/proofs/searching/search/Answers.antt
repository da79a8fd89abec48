use Rattle.std.proofs.Common.{ℕ, List, subst}
use Rattle.plan_model.specs.declared.step.Step.{Step}
use Rattle.cert_format.specs.Certs.{certificate_in}
use Rattle.carp_engine.specs.Certifying.{IsSearched}
use Rattle.branch_tree.specs.Searches.{state_of}
use Rattle.carp_engine.proofs.Terse.{both_ok}
use Rattle.carp_engine.proofs.searching.search.Goals as goal

pub returns : goal.returns
returns g c =
    let p = c.args.inst.now in
    let s = c.in_ok-search.search in
    let begun = c.in_ok-search.ensures in
    let light = c.searches_stay_light.ensures.begun p c.args.plan (state_of s) begun.begun in
    both_ok c.go_on.result _ _ _
    (λ solved searched terse. record {
      least = s.least;
      floored = begun.begun.floored;
      searched =
          subst (λ (n : ℕ). IsSearched p s.least n c.args.plan (certificate_in solved.cert) solved.turns) begun.turns
          (subst (λ (plan : List (List Step)). IsSearched p s.least s.turns plan (certificate_in solved.cert) solved.turns) begun.begun.best searched);
      terse = terse;
    }) c.go_on.ensures.searched (c.go_on.ensures.terse light)
