use Rattle.std.proofs.Common.{◌∙◌, rules, arith}
use Rattle.blossom_match.proofs.Bounding.{rooms_none}
use Rattle.blossom_match.proofs.Turning.{keeps_trans, keeps_same, so_far_begin, so_far_on, so_far_end}
use Rattle.blossom_match.proofs.search.search.Goals as goal

pub loop-found-init : goal.loop-found-init
loop-found-init c = record {
  keeps = so_far_begin _ _ c.plant.ensures.keeps;
  goes_on = λ yet. c.plant.ensures.searching;
  between = search rules;
  matched = search rules;
  root = c.plant.ensures.root;
  rooms = λ yet. rooms_none c.args.costs.now c.plant.new.state c.forget_all.new.known c.forget_bounds.new.least
      (omega (arith, c.forget_all.auto.known, c.requires.known, c.plant.ensures.keeps.size)) (omega (arith, c.forget_bounds.auto.least, c.requires.least, c.plant.ensures.keeps.size)) c.forget_all.ensures;
}

pub loop-found-preserved : goal.loop-found-preserved
loop-found-preserved c = record {
  keeps = so_far_on _ _ _ c.loop-found.invariant.keeps c.turn-found.ensures.keeps;
  goes_on = λ yet. c.turn-found.ensures.searching yet;
  between = λ done. c.turn-found.ensures.between done;
  matched = λ done. rw c.loop-found.invariant.root at (c.turn-found.ensures.matched done);
  root = c.turn-found.ensures.root ∙ c.loop-found.invariant.root;
  rooms = λ yet. c.turn-found.ensures.rooms yet;
}

pub returns-clause-keeps : goal.returns-clause-keeps
returns-clause-keeps c =
    keeps_trans _ _ _ (so_far_end _ _ c.loop-found.invariant.keeps (rw c.loop-found.invariant.root (c.loop-found.invariant.matched c.loop-found-test.false)))
    (keeps_same _ _ c.clear.ensures.size c.clear.ensures.mate c.clear.ensures.top)
