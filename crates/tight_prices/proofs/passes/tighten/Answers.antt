use Rattle.std.proofs.Common.{ℕ, ◌∙◌, ◌≤ℤ◌, subst}
use Rattle.std.proofs.lemmas.Result.{IfOk-weaker}
use Rattle.carp_base.specs.Problem.{IsRequired}
use Rattle.branch_rules.specs.Decisions.{rules_of}
use Rattle.branch_rules.specs.Prices.{Prices, value_of}
use Rattle.tight_prices.specs.Probes.{Ground}
use Rattle.tight_prices.specs.Places.{Rises}
use Rattle.tight_prices.specs.Searches.{HaveSameWeights, IsFitting, IsKnownSingle}
use Rattle.tight_prices.specs.Tight.{AreKept, IsNoHigher, IsPriceTight, IsTight}
use Rattle.tight_prices.proofs.Passing.{three_ok, tightened}
use Rattle.tight_prices.proofs.Rising.{no_higher, rises_on}
use Rattle.tight_prices.proofs.passes.tighten.Goals as goal

abbrev ground : (c : goal.After-drop-allowed-inside-2) → Ground
ground c = record { problem = c.args.inst.now; pool = c.args.pool.now; branch = c.args.branch.now }

pub returns-clause-tight : goal.returns-clause-tight
returns-clause-tight c =
    let g = ground c in
    let heavier = c.in_ok-heavier.heavier in
    three_ok c.tighten_prices.result (IsFitting g) (Rises g.problem g.pool g.branch heavier)
    (λ (set : Prices). (e : ℕ) → IsRequired g.problem e → IsPriceTight g.problem g.pool g.branch set e) (IsTight g.problem g.pool c.args.known g.branch)
    (λ set fitting rises prices.
    tightened c.least_prices_are_there.ensures.tasks g c.validity.ensures heavier set c.in_ok-heavier.ensures.fitting rises fitting.fine c.args.known c.in_ok-heavier.ensures.tight fitting prices)
    c.tighten_prices.ensures.fitting c.tighten_prices.ensures.rises c.tighten_prices.ensures.tight

pub returns-clause-no_lower : goal.returns-clause-no_lower
returns-clause-no_lower c =
    let g = ground c in
    let heavier = c.in_ok-heavier.heavier in
    let first : Rises g.problem g.pool g.branch c.args.start.now heavier = subst (λ (s : Prices). Rises g.problem g.pool g.branch s heavier) c.in_ok-set.ensures c.in_ok-heavier.ensures.rises in
    IfOk-weaker c.tighten_prices.result (Rises g.problem g.pool g.branch heavier) (IsNoHigher c.args.start.now) (λ set rises. no_higher (rises_on first rises)) c.tighten_prices.ensures.rises

pub returns-clause-others : goal.returns-clause-others
returns-clause-others c =
    let g = ground c in
    let heavier = c.in_ok-heavier.heavier in
    let first : AreKept (IsKnownSingle g c.args.known) c.args.start.now heavier =
    subst (λ (s : Prices). AreKept (IsKnownSingle g c.args.known) s heavier) c.in_ok-set.ensures c.in_ok-heavier.ensures.kept in
    IfOk-weaker c.tighten_prices.result (HaveSameWeights heavier) (AreKept (IsKnownSingle g c.args.known) c.args.start.now) (λ set same shore not. same shore ∙ first shore not)
    c.tighten_prices.ensures.weights

pub returns-clause-value : goal.returns-clause-value
returns-clause-value c =
    let g = ground c in
    let heavier = c.in_ok-heavier.heavier in
    let first : Rises g.problem g.pool g.branch c.args.start.now heavier = subst (λ (s : Prices). Rises g.problem g.pool g.branch s heavier) c.in_ok-set.ensures c.in_ok-heavier.ensures.rises in
    IfOk-weaker c.tighten_prices.result (Rises g.problem g.pool g.branch heavier)
    (λ (set : Prices). value_of (rules_of g.problem g.pool g.branch) c.args.start.now ≤ℤ value_of (rules_of g.problem g.pool g.branch) set) (λ set rises. (rises_on first rises).value)
    c.tighten_prices.ensures.rises
