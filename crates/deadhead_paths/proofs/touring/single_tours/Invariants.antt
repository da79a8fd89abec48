use Rattle.deadhead_paths.proofs.Singles.{AreSingles}
use Rattle.deadhead_paths.proofs.touring.single_tours.Given as goal

-- the tours of the edges so far
abbrev pub invariant-loop-e : goal.invariant-loop-e
invariant-loop-e l = AreSingles l.inst l.e l.plan
