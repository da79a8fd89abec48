use Rattle.std.proofs.lemmas.Bool.{false_from_ne_true}
use Rattle.branch_rules.specs.Decisions.{heavy_chain}
use Rattle.branch_rules.proofs.Voiding.{tangle_void}
use Rattle.branch_rules.proofs.branch.Branch.fixed_plan.Goals as goal

pub plan-requires-clause-untangled : goal.plan-requires-clause-untangled
plan-requires-clause-untangled c =
    let chains = c.in_ok-chains.ensures in
    false_from_ne_true _ (λ tangled. c.requires.fixed.open_yet (rw (chains.inst, chains.decisions, c.decisions.ensures) at (tangle_void c.in_ok-chains.chains chains.table c.args.pool.now tangled)))

pub plan-requires-clause-light : goal.plan-requires-clause-light
plan-requires-clause-light c = λ e heavy.
    let chains = c.in_ok-chains.ensures in
    c.requires.fixed.open_yet (heavy_chain e (rw (chains.inst, chains.decisions, c.decisions.ensures) at heavy))
