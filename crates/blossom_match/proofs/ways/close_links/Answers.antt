use Rattle.std.proofs.Common.{refl, arith, length, slice_index}
use Rattle.blossom_match.proofs.Climbing.{closed_by}
use Rattle.blossom_match.proofs.ways.close_links.Goals as goal

pub returns : goal.returns
returns c =
    closed_by c.args.top.now c.args.entry.now (length c.args.next.now) c.args.u c.args.v (slice_index c.args.top.now c.args.u) (slice_index c.args.top.now c.args.v) c.args.join.one c.args.join.other
    c.args.next.now c.link_down.new.next c.link_up.new.next c.args.link.now c.link_down.new.link c.link_up.new.link _ c.requires.fork refl
    (omega (arith, c.link_down.auto.next)) (omega (arith, c.link_down.auto.link, c.requires.links)) c.link_down.ensures c.link_up.ensures
