use Rattle.std.proofs.Common.{ℕ, ◌+◌, ◌<◌, arith, sym, subst, inl, inr}
use Rattle.std.proofs.lemmas.Bool.{cases_eq}
use Rattle.decision_chains.specs.Exclusions.{IsDetermined}
use Rattle.branch_tree.specs.Splits.{IsSettledBelow}
use Rattle.branch_tree.proofs.choosing.open_pair.Goals as goal

pub loop-a-preserved : goal.loop-a-preserved
loop-a-preserved c a b required later below above =
    let settled : IsSettledBelow c.args.inst.now c.args.branch.now c.loop-a.a (c.args.inst.now.required + 1) = rw c.in_default.is at c.in_ok-found.ensures in
    elim (cases_eq a c.loop-a.a) [
      | inl equal ↦ subst (λ (n : ℕ). n < b → IsDetermined c.args.inst.now c.args.branch.now n b) (sym equal) (λ over. settled b later over (omega (arith, later.in_range))) above
      | inr other ↦ c.loop-a.invariant a b required later (omega (arith, below, other)) above
    ]
