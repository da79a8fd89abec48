use Rattle.std.proofs.Common.{◌≡◌, ℕ, ◌+◌, ◌<◌, Bool, List, [], ◌∷◌, ◌++◌, length, get_or, take, sym, subst}
use Rattle.std.proofs.lemmas.List.{take_more}
use Rattle.decision_chains.specs.ChainTables.{AreChains}
use Rattle.decision_chains.specs.declared.near.Near.{Near}
use Rattle.decision_chains.specs.declared.decision.Decision.{Decision}
use Rattle.decision_chains.proofs.chains.sweep.Goals as goal

one_more : (n m i : ℕ) (decisions : List Decision) (d : Decision) (labels labels' : List ℕ) (near near' : List Near) (tangled tangled' : Bool) → n ≡ m → i < length decisions →
    AreChains m (take i decisions) labels near tangled → (AreChains n (take i decisions) labels near tangled → AreChains n (take i decisions ++ get_or decisions i d ∷ []) labels' near' tangled') →
    AreChains m (take (i + 1) decisions) labels' near' tangled'
one_more n m i decisions d labels labels' near near' tangled tangled' same less before after =
    rw (take_more decisions i d less)
    (subst (λ k. AreChains k (take i decisions ++ get_or decisions i d ∷ []) labels' near' tangled') same (after (subst (λ k. AreChains k (take i decisions) labels near tangled) (sym same) before)))

pub loop-decision-preserved : goal.loop-decision-preserved
loop-decision-preserved c =
    one_more _ _ c.loop-decision.decision-index c.args.decisions.now _ _ _ _ _ _ _ c.loop-decision.auto.labels c.loop-decision-test.true c.loop-decision.invariant (c.follow-tangled.ensures _ c.loop-decision.tangled)
