use Rattle.std.proofs.lemmas.Bool.{both_ways}
use Rattle.branch_rules.proofs.Voiding.{fixed_iff}
use Rattle.branch_rules.proofs.branch.Branch.fixed.Goals as goal

pub returns-then-is_void_by : goal.returns-then-is_void_by
returns-then-is_void_by c = ((λ is. cc), (λ fixed. absurd (fixed.open_yet (c.is_void_by.ensures.0 c.if-is_void_by.true))))

pub returns : goal.returns
returns c =
    let all = rw (c.in_ok-chains.ensures.inst, c.in_ok-chains.ensures.decisions, c.decisions.ensures) at c.determines_all.ensures in
    fixed_iff c.args.inst.now c.args.pool.now c.args.self.now _ (λ void. both_ways _ c.if-is_void_by.false (c.is_void_by.ensures.1 void)) all.yes all.no
