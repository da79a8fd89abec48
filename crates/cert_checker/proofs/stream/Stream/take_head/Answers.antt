use Rattle.std.proofs.Common.{◌≡◌, [], sym, subst, arith}
use Rattle.std.specs.List.{All}
use Rattle.carp_base.specs.Problem.{Problem}
use Rattle.branch_rules.specs.Trees.{Support}
use Rattle.cert_lines.specs.Certificates.{Certificate}
use Rattle.cert_format.specs.Certs.{stated_nodes}
use Rattle.cert_checker.specs.Claims.{IsSetRead}
use Rattle.cert_checker.specs.Streams.{StageSays, head_with}
use Rattle.cert_checker.proofs.Taking.{head_heads, head_on, head_sets, says_so_far}
use Rattle.cert_checker.proofs.stream.Stream.take_head.Goals as goal

pub unreachable-requires : goal.unreachable-requires
unreachable-requires c =
    let x = c.requires.comes in
    let none : stated_nodes c.requires.said ≡ 0 = c.in_default.ensures.there x.bytes c.requires.said x.taken (says_so_far x) in
    omega (arith, none, x.sound.stated (head_heads x).0)

pub stage_of-requires : goal.stage_of-requires
stage_of-requires c =
    let x = c.requires.comes in
    let h = (c.in-Some.ensures.there x.bytes c.requires.said x.taken (says_so_far x)).1 in
    subst (λ (s : Support). All (IsSetRead s) s.sets) (sym (c.claim_of.ensures.support [])) (head_sets c.in-Some.head.now h x)

pub returns-clause-stage : goal.returns-clause-stage
returns-clause-stage c = λ before said x.
    let head = c.in-Some.head.now in
    let stage = c.in_ok-self.field-0 in
    let h = (c.in-Some.ensures.there x.bytes said x.taken (says_so_far x)).1 in
    let says = subst (λ (k : Certificate). StageSays c.claim_of.result.inst.now k stage) (c.claim_of.ensures.claimed []) c.in_ok-self.ensures.says in
    head_on head stage h x c.in_ok-self.ensures.heads (subst (λ (q : Problem). StageSays q (head_with head []) stage) c.claim_of.ensures.inst says)
