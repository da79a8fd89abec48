use Rattle.std.proofs.Common.{◌-◌, refl, arith}
use Rattle.blossom_match.proofs.Writing.{written, table_kept}
use Rattle.blossom_match.proofs.costs.Costs.set.Goals as goal

pub returns-clause-table : goal.returns-clause-table
returns-clause-table c =
    let a = c.requires.a_in in
    let b = c.requires.b_in in
    table_kept c.args.self.now _ (c.args.a - 1) (c.args.b - 1) c.args.value c.requires.table (omega (arith, a.0, a.1)) (omega (arith, b.0, b.1))
    (λ e. c.requires.apart (omega (arith, a.0, b.0, e))) c.requires.small refl refl

pub returns-clause-written : goal.returns-clause-written
returns-clause-written c =
    let a = c.requires.a_in in
    let b = c.requires.b_in in
    written c.args.self.now _ (c.args.a - 1) (c.args.b - 1) c.args.value c.requires.table (omega (arith, a.0, a.1)) (omega (arith, b.0, b.1))
    (λ e. c.requires.apart (omega (arith, a.0, b.0, e))) refl refl
