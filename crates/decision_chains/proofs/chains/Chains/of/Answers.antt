use Rattle.std.proofs.Common.{◌≡◌, ap, ◌∙◌, refl, sym, arith, length}
use Rattle.std.specs.Prelude.{replicate}
use Rattle.decision_chains.specs.declared.near.Near.TheVariants.{Free}
use Rattle.decision_chains.proofs.Linking.{first_chains}
use Rattle.decision_chains.proofs.chains.Chains.of.Goals as goal

pub sweep-tangled-requires-clause-start : goal.sweep-tangled-requires-clause-start
sweep-tangled-requires-clause-start c =
    let labels = c.in_ok-labels.labels.items in
    let near = c.in_ok-near.near.items in
    let long : length labels ≡ c.args.inst.now.required = c.in_ok-labels.ensures.long in
    let start = first_chains (length labels) labels near refl (λ k d less. c.in_ok-labels.ensures.each k d (omega (arith, less, long))) (c.in_ok-near.ensures ∙ ap (λ n. replicate n Free) (sym long)) in
    rw (c.deref_mut.ensures.value, c.deref_mut-2.ensures.value) start
