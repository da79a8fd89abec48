use Rattle.std.proofs.Common.{subst, arith}
use Rattle.decision_chains.specs.Exclusions.{LeadsOn}
use Rattle.decision_chains.proofs.Walking.{first_on_way, walk_ends, walk_goes_on, shorter, none_of}
use Rattle.decision_chains.proofs.ordering.walk.Goals as goal

pub loop-edges-init : goal.loop-edges-init
loop-edges-init c =
    rw c.new-edges.ensures.items
    (first_on_way c.yes_pairs_join.ensures c.args.chains.now c.requires.table c.requires.untangled c.args.start c.args.marks.now c.requires.start c.requires.long c.requires.free)

pub loop-edges-preserved : goal.loop-edges-preserved
loop-edges-preserved c =
    let loop = c.loop-edges in
    let found = subst (LeadsOn c.args.chains.now.decisions.now loop.at loop.before) c.in-Some.is c.next.ensures in
    rw c.in_ok-push.ensures.items
    (walk_goes_on c.yes_pairs_join.ensures c.args.chains.now c.requires.table c.requires.untangled c.args.start c.args.marks.now loop.edges.items loop.marks loop.before loop.at loop.invariant c.in-Some.next found c.requires.closed)

pub loop-edges-smaller : goal.loop-edges-smaller
loop-edges-smaller c =
    let loop = c.loop-edges in
    omega (arith, shorter c.yes_pairs_join.ensures c.args.chains.now c.requires.table c.requires.untangled c.args.start c.args.marks.now loop.edges.items loop.marks loop.before loop.at loop.invariant)

pub returns-in_default : goal.returns-in_default
returns-in_default c =
    let loop = c.loop-edges in
    let none = subst (LeadsOn c.args.chains.now.decisions.now loop.at loop.before) (none_of c.next.result c.in_default.not-Some) c.next.ensures in
    rw c.in_ok-push.ensures.items
    (walk_ends c.yes_pairs_join.ensures c.args.chains.now c.requires.table c.requires.untangled c.args.start c.args.marks.now loop.edges.items loop.marks loop.before loop.at loop.invariant none)
