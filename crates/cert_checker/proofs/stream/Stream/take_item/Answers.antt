use Rattle.std.proofs.Common.{inl, inr, subst}
use Rattle.cert_lines.specs.declared.item.Item.{Item}
use Rattle.cert_checker.specs.Streams.{ItemComes}
use Rattle.cert_checker.proofs.Taking.{quiet_on, whole_on}
use Rattle.cert_checker.proofs.stream.Stream.take_item.Goals as goal

pub returns-in-Quiet-clause-stage : goal.returns-in-Quiet-clause-stage
returns-in-Quiet-clause-stage c = λ before said x. elim c.in-Quiet.is [
  | inl quiet ↦ quiet_on (subst (λ (i : Item). ItemComes c.args.inst.now c.args.self.now i before said) quiet x)
  | inr whole ↦ whole_on (subst (λ (i : Item). ItemComes c.args.inst.now c.args.self.now i before said) whole x)
]

pub returns-in-Head-clause-stage : goal.returns-in-Head-clause-stage
returns-in-Head-clause-stage c = λ before said x. c.take_head.ensures.stage before said (subst (λ (i : Item). ItemComes c.args.inst.now c.args.self.now i before said) c.in-Head.is x)

pub returns-in-Node-clause-stage : goal.returns-in-Node-clause-stage
returns-in-Node-clause-stage c = λ before said x. c.take_node.ensures.stage before said (subst (λ (i : Item). ItemComes c.args.inst.now c.args.self.now i before said) c.in-Node.is x)
