use Rattle.std.proofs.Common.{refl}
use Rattle.std.proofs.lemmas.Bool.{true_from_ne_false}
use Rattle.branch_rules.proofs.Voiding.{tangle_void, overload_void, not_void, not_crossed, crossed_void}
use Rattle.branch_rules.proofs.branch.Branch.is_void_by.Goals as goal
use Rattle.branch_rules.proofs.branch.Branch.is_void_by.Goals.{then-chains-via-then-chains, then-chains-via-else-chains+then-is_overloaded}

pub returns-then-chains : goal.returns-then-chains
returns-then-chains c =
    let t = c.args.chains.now in
    let pool = c.args.pool.now in
    let table = c.requires.table in
    elim c.then-chains.branch [
      | then-chains-via-then-chains w ↦ ((λ is. rw (c.requires.inst, c.requires.decisions) at (tangle_void t table pool w.if-chains.true)), (λ void. refl))
      | then-chains-via-else-chains+then-is_overloaded w ↦ ((λ is. rw (c.requires.inst, c.requires.decisions) at (overload_void t table pool (w.is_overloaded.ensures.yes w.if-is_overloaded.true))), (λ void. refl))
    ]

pub returns : goal.returns
returns c =
    let p = c.args.inst.now in
    let pool = c.args.pool.now in
    let branch = c.args.self.now in (
      (λ is. crossed_void p pool branch (c.is_crossed.ensures.yes is)),
      (λ void. true_from_ne_false _ (λ uncrossed.
          not_void c.args.chains.now c.requires.table pool p branch c.requires.inst c.requires.decisions c.if-chains.false (c.is_overloaded.ensures.no c.if-is_overloaded.false)
          (not_crossed p pool branch (c.is_crossed.ensures.no uncrossed)) void)),
    )
