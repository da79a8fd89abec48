use Rattle.std.proofs.Common.{suc, ◌+◌, ap, ◌∙◌, replicate, rules}
use Rattle.postman.proofs.Laid.{cheap_round, starts}
use Rattle.postman.proofs.circuit.lay_circuit.Goals as goal

pub add_services-requires-clause-bits : goal.add_services-requires-clause-bits
add_services-requires-clause-bits c = λ k. c.requires.once (suc k)

pub close-requires-clause-start : goal.close-requires-clause-start
close-requires-clause-start c =
    starts c.args.inst.now c.vertices.ensures.valid c.args.deadheads.now c.add_services.new.counts c.requires.makes_even c.requires.once c.add_services.auto.counts c.add_services.ensures
    c.deref_mut.result.now (c.deref_mut.ensures.value ∙ c.in_ok-next.ensures.items_if_clones_equal (λ y is. is) ∙ ap (λ n. replicate n 0) (ap (λ n. n + 1) c.vertices.ensures.value))

pub returns : goal.returns
returns c =
    cheap_round c.args.inst.now c.vertices.ensures.valid c.args.deadheads.now c.add_services.new.counts c.requires.makes_even c.requires.once c.add_services.auto.counts c.add_services.ensures
    c.close.new.left c.close.new.walk c.in_ok-close.ensures c.requires.joined (search rules)
