use Rattle.std.proofs.Common.{◌≡◌, ◌<◌, length, arith}
use Rattle.std.proofs.lemmas.List.{get_or_read}
use Rattle.flow_cut.specs.Residual.{residual_tail, left_on}
use Rattle.flow_cut.specs.Adjacency.{no_residual, residual_at}
use Rattle.flow_cut.proofs.Ways.{fits_back, reached_in}
use Rattle.flow_cut.proofs.paths.bottleneck.Goals as goal

pub loop-v-preserved : goal.loop-v-preserved
loop-v-preserved c =
    let arcs = c.args.arcs.now in
    let flows = c.args.flows.now in
    let level = c.args.layers.now.level.items in
    let via = c.args.layers.now.via.items in
    let v = c.loop-v.v in
    let below : v < length via = omega (arith, reached_in level v c.loop-v.invariant.reached, c.requires.layered.level_len, c.requires.layered.via_len) in
    let item = get_or_read via v c.index-r.result.now below c.index-r.ensures no_residual in
    let here = c.requires.layered.reached v c.loop-v-test.true c.loop-v.invariant.reached in
    let before : c.tail-v.result ≡ residual_tail arcs (residual_at via v) = rw item at c.tail-v.ensures in
    let left : c.left.result ≡ left_on arcs flows (residual_at via v) = rw item at c.left.ensures in
    record {
      reached = rw before here.begins;
      fits = λ x small on. c.loop-v.invariant.fits x (omega (arith, small, c.min-least.ensures)) (fits_back arcs flows level via x v here (omega (arith, small, c.min-least.ensures, left)) (rw before at on));
      some = λ each. omega (arith, c.loop-v.invariant.some each, each v c.loop-v-test.true c.loop-v.invariant.reached, left, c.min-least.ensures);
    }
