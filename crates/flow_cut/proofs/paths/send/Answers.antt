use Rattle.std.proofs.Common.{◌≡◌, ◌<◌, ◌≤◌, length, arith}
use Rattle.std.proofs.lemmas.List.{get_or_read}
use Rattle.flow_cut.specs.Residual.{IsPushed, residual_tail, left_on}
use Rattle.flow_cut.specs.Adjacency.{no_residual, residual_at}
use Rattle.flow_cut.proofs.Ways.{carries_last, carries_on, fits_on, reached_in}
use Rattle.flow_cut.proofs.paths.send.Goals as goal
use Rattle.flow_cut.proofs.paths.send.Goals.{then-left-eq0, else-left-eq0}

pub push-requires-clause-fits : goal.push-requires-clause-fits
push-requires-clause-fits c =
    let level = c.args.layers.now.level.items in
    let via = c.args.layers.now.via.items in
    let v = c.loop-v.v in
    let below : v < length via = omega (arith, reached_in level v c.loop-v.invariant.reached, c.requires.layered.level_len, c.requires.layered.via_len) in
    let item = get_or_read via v c.index-r.result.now below c.index-r.ensures no_residual in
    let here = c.requires.layered.reached v c.loop-v-test.true c.loop-v.invariant.reached in
    let fits : c.args.amount ≤ left_on c.args.arcs.now c.loop-v.flows (residual_at via v) = c.loop-v.invariant.fits 0 (omega (arith, here.nearer, here.begins)) in
    rw item fits

pub loop-v-preserved : goal.loop-v-preserved
loop-v-preserved c =
    let arcs = c.args.arcs.now in
    let s = c.args.ends.source in
    let t = c.args.ends.target in
    let level = c.args.layers.now.level.items in
    let via = c.args.layers.now.via.items in
    let v = c.loop-v.v in
    let below : v < length via = omega (arith, reached_in level v c.loop-v.invariant.reached, c.requires.layered.level_len, c.requires.layered.via_len) in
    let item = get_or_read via v c.index-r.result.now below c.index-r.ensures no_residual in
    let here = c.requires.layered.reached v c.loop-v-test.true c.loop-v.invariant.reached in
    let before : c.tail-v.result ≡ residual_tail arcs (residual_at via v) = rw item at c.tail-v.ensures in
    let pushed : IsPushed arcs (residual_at via v) c.args.amount c.loop-v.flows c.push.new.flows = rw item at c.push.ensures in
    record {
      rooms = c.push.ensures.rooms;
      reached = rw before here.begins;
      full = elim c.if-left-eq0.branch [
        | then-left-eq0 w ↦ rw w.full-is c.loop-v.invariant.reached
        | else-left-eq0 w ↦ rw w.full-is c.loop-v.invariant.full
      ];
      later = elim c.if-left-eq0.branch [
        | then-left-eq0 w ↦ rw w.full-is c.loop-v-test.true
        | else-left-eq0 w ↦ rw w.full-is c.loop-v.invariant.later
      ];
      fits = rw before (fits_on arcs c.args.ends.nodes s level via c.requires.layered c.loop-v.flows c.push.new.flows c.args.amount v c.loop-v-test.true
          c.loop-v.invariant.reached c.loop-v.invariant.fits pushed.others);
      carries = λ value brings. rw before (carries_on arcs s t v value c.args.amount (residual_at via v) c.loop-v.flows c.push.new.flows here.ends pushed
          (c.loop-v.invariant.carries value brings));
    }

pub returns-clause-brings : goal.returns-clause-brings
returns-clause-brings c = λ value brings.
    let carries = rw c.loop-v-test.false at (c.loop-v.invariant.carries value brings) in
    carries_last c.args.arcs.now c.args.ends.source c.args.ends.target value c.args.amount c.loop-v.flows carries
