use Rattle.std.proofs.Common.{◌≡◌, refl, arith}
use Rattle.std.proofs.lemmas.Result.{on_ok_weaker}
use Rattle.cert_lines.specs.Certificates.{nodes_of}
use Rattle.cert_format.specs.Certs.{stated_nodes}
use Rattle.cert_checker.proofs.Taking.{may_walk, node_on, node_stated, node_walks, not_walking, says_so_far}
use Rattle.cert_checker.proofs.stream.Stream.take_node.Goals as goal

pub returns-in_default : goal.returns-in_default
returns-in_default c = record { reader = refl; stage = λ before said x. not_walking c.args.node c.args.self.now.stage refl c.in_default.not-Walking x }

pub unreachable-requires : goal.unreachable-requires
unreachable-requires c =
    let x = c.requires.comes in
    let none : stated_nodes c.requires.said ≡ 0 = c.in_default-head.ensures.there x.bytes c.requires.said x.taken (says_so_far x) in
    omega (arith, none, x.sound.stated (node_stated c.args.node c.in-Walking.checker c.in-Walking.is x))

pub walk_on-requires : goal.walk_on-requires
walk_on-requires c =
    let x = c.requires.comes in
    may_walk c.args.node c.in-Walking.checker c.in-Some.head.now c.in-Walking.is (c.in-Some.ensures.there x.bytes c.requires.said x.taken (says_so_far x)).1 x

pub returns-clause-stage : goal.returns-clause-stage
returns-clause-stage c = λ before said x.
    let node = c.args.node in
    let checker = c.in-Walking.checker in
    let head = c.in-Some.head.now in
    let is = c.in-Walking.is in
    let h = (c.in-Some.ensures.there x.bytes said x.taken (says_so_far x)).1 in
    on_ok_weaker c.walk_on.result (λ walks. node_on node checker c.walk_on.new.checker head is h x walks) (c.walk_on.ensures (nodes_of before) (node_walks node checker head is h x))
