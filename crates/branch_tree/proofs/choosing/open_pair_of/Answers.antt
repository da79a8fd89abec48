use Rattle.std.proofs.Common.{ℕ, arith, sym, subst, inl, inr}
use Rattle.std.proofs.lemmas.Bool.{cases_eq}
use Rattle.decision_chains.specs.Exclusions.{IsDetermined}
use Rattle.branch_tree.proofs.choosing.open_pair_of.Goals as goal

pub loop-b-preserved : goal.loop-b-preserved
loop-b-preserved c b required above below = elim (cases_eq b c.loop-b.b) [
  | inl equal ↦ subst (λ (n : ℕ). IsDetermined c.args.inst.now c.args.branch.now c.args.a n) (sym equal) (c.in_ok-free.ensures.no c.if-free.false)
  | inr other ↦ c.loop-b.invariant b required above (omega (arith, below, other))
]

pub returns : goal.returns
returns c b required above below = c.loop-b.invariant b required above (omega (arith, below, c.loop-b-test.false, c.required-last.ensures.value))
