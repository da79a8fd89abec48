use Rattle.std.proofs.Common.{◌<◌, length, arith, sym, ◌∙◌}
use Rattle.std.proofs.lemmas.Bool.{false≢true}
use Rattle.local_moves.proofs.Closing.{close_one, start, closed_removed, closed_next}
use Rattle.local_moves.proofs.settling.close_up.Goals as goal

pub loop-at-init : goal.loop-at-init
loop-at-init c = record {
  one = omega arith;
  no_dearer = start c.args.board.now c.args.sequence.items c.requires.sequence c.requires.fits;
  closed = λ k short below first second. omega (arith, below);
}

pub loop-at-preserved-then-ends_empty : goal.loop-at-preserved-then-ends_empty
loop-at-preserved-then-ends_empty c =
    let own = c.loop-at.invariant in
    let xs = c.loop-at.closed.items in
    let at = c.loop-at.at in
    let short : at < length xs = omega (arith, c.loop-at-test.true, c.len.ensures) in
    let empty = rw c.deref.ensures.value at (c.ends_empty.ensures.0 c.if-ends_empty.true) in
    record {
      one = own.one;
      no_dearer = rw c.remove.ensures.items (close_one c.args.board.now c.args.sequence.items xs at own.one short empty.0 empty.1 own.no_dearer);
      closed = rw c.remove.ensures.items (closed_removed xs at short own.closed);
    }

pub loop-at-preserved : goal.loop-at-preserved
loop-at-preserved c =
    let own = c.loop-at.invariant in
    record {
      one = omega arith;
      no_dearer = own.no_dearer;
      closed = closed_next c.loop-at.closed.items c.loop-at.at own.one own.closed
          (λ first second. false≢true (sym c.if-ends_empty.false ∙ c.ends_empty.ensures.1 (rw c.deref.ensures.value (first, second))));
    }
