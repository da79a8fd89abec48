use Rattle.std.proofs.Common.{◌≡◌, ◌<◌, ◌≤◌, ◌∙◌, arith, length}
use Rattle.std.proofs.lemmas.List.{get_or_read}
use Rattle.blossom_match.specs.Turns.{top_of}
use Rattle.blossom_match.proofs.unfold.open_around.Goals as goal

pub loop-state-preserved : goal.loop-state-preserved
loop-state-preserved c =
    let i = c.loop-state.invariant in
    let v_in : c.args.v < length c.loop-state.state.top.items = omega (arith, c.requires.v_in, i.size, i.so_far.shape.top_len) in
    let at : c.index.result.now ≡ top_of c.loop-state.state c.args.v = get_or_read c.loop-state.state.top.items c.args.v c.index.result.now v_in c.index.ensures 0 in
    record {
      so_far = c.open_set.ensures.so_far;
      size = c.open_set.ensures.size ∙ i.size;
      singles = λ w w_in low.
          let before : top_of c.loop-state.state w < c.args.state.now.size = i.singles w w_in low in
          let high : c.args.state.now.size ≤ top_of c.loop-state.state c.args.v = omega (arith, c.loop-state-test.true, at, i.size) in
          let same : top_of c.open_set.new.state w ≡ top_of c.loop-state.state w = c.open_set.ensures.others w (omega (arith, w_in, i.size)) (λ e. omega (arith, e, before, high)) in
          omega (arith, same, before);
    }
