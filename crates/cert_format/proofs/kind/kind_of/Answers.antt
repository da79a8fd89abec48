use Rattle.std.proofs.Common.{List, get_or, sym, ◌∙◌, subst, rules}
use Rattle.cert_format.specs.declared.kind.Kind.{Kind}
use Rattle.cert_format.specs.declared.kind.Kind.TheVariants.{Version}
use Rattle.cert_format.specs.Kinds.{IsOneOf, IsNoneOf}
use Rattle.cert_format.proofs.FirstWords.{one_at, none_more, none_all}
use Rattle.cert_format.proofs.kind.kind_of.Goals as goal

pub returns-then-is : goal.returns-then-is
returns-then-is c = λ text held. record {
  expected = subst (λ (ks : List Kind). IsOneOf ks (get_or c.expected-kind-items.result.now c.loop-kind.kind-index Version)) c.expected-kind-items.ensures (one_at c.expected-kind-items.result.now c.loop-kind.kind-index (search rules));
  word = (c.is.ensures text held).0 c.if-is.true ∙ c.keyword.ensures;
}

pub loop-kind-preserved : goal.loop-kind-preserved
loop-kind-preserved c = λ text held.
    none_more c.expected-kind-items.result.now c.loop-kind.kind-index text (search rules) (c.loop-kind.invariant text held)
    (λ same. (let yes = (c.is.ensures text held).1 (same ∙ sym c.keyword.ensures) in let fails = c.if-is.false in cc))

pub returns : goal.returns
returns c = λ text held. subst (λ (ks : List Kind). IsNoneOf ks text) c.expected-kind-items.ensures (none_all c.expected-kind-items.result.now c.loop-kind.kind-index text (search rules) (c.loop-kind.invariant text held))
