use Rattle.std.proofs.Common.{◌≡◌, ◌+◌, ℕ, List, ap, ◌∙◌, min, subst}
use Rattle.std.proofs.lemmas.Result.{IfOk-weaker}
use Rattle.plan_model.specs.declared.step.Step.{Step}
use Rattle.plan_model.specs.Plans.{plan_cost}
use Rattle.grown_trees.specs.Growth.{turns_in}
use Rattle.cert_format.specs.Certs.{certificate_in}
use Rattle.carp_engine.specs.Certifying.{IsSearched}
use Rattle.carp_engine.proofs.searching.search_on.Goals as goal

pub returns : goal.returns
returns g c =
    let p = c.args.inst.now in
    let s = c.in_ok-search.search in
    let resumed = c.in_ok-search.ensures.resumed in
    let budget : s.turns ≡ min (turns_in (plan_cost p c.args.plan) c.args.nodes.now + c.args.turns) 1048576 =
    c.in_ok-search.ensures.turns ∙ ap (λ (n : ℕ). min (n + c.args.turns) 1048576) resumed.done_is in
    IfOk-weaker c.go_on.result _ _
    (λ solved searched. subst (λ (n : ℕ). IsSearched p c.args.least n c.args.plan (certificate_in solved.cert) solved.turns) budget
    (subst (λ (n : ℕ). IsSearched p n s.turns c.args.plan (certificate_in solved.cert) solved.turns) resumed.least_is
    (subst (λ (plan : List (List Step)). IsSearched p s.least s.turns plan (certificate_in solved.cert) solved.turns) resumed.best searched))) c.go_on.ensures.searched
