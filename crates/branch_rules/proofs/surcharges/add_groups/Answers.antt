use Rattle.std.proofs.Common.{◌≤◌, ◌∙◌, arith, pos, ◌*ℤ◌}
use Rattle.std.proofs.lemmas.Int.{ints}
use Rattle.branch_rules.specs.Bonds.{bond}
use Rattle.branch_rules.specs.Limits.{IsSurcharge}
use Rattle.branch_rules.specs.Tables.{IsAdded}
use Rattle.branch_rules.proofs.Adding.{all_placed, bond_within, surcharge_more}
use Rattle.branch_rules.proofs.surcharges.add_groups.Goals as goal

pub loop-group-preserved : goal.loop-group-preserved
loop-group-preserved c =
    let added : IsAdded c.args.required c.loop-group.table c.add_group.new.table (λ e f. c.group-item.result.weight *ℤ pos (bond c.group-item.result.edges e f)) = c.add_group.ensures.added in
    let before = c.loop-group.invariant in
    record {
      long = added.long ∙ before.long;
      same = λ e f there.
          let more = surcharge_more c.args.groups.now c.loop-group.group-index c.group-item.result e f c.loop-group-test.true c.group-item.is in
          omega (arith, ints, added.each e f there, before.same e f there, more);
      low = λ e f there.
          let small = bond_within c.group-item.result.weight c.group-item.result.edges e f c.add_group.ensures.weight in
          omega (arith, ints, added.each e f there, before.low e f there, small.low);
      high = λ e f there.
          let small = bond_within c.group-item.result.weight c.group-item.result.edges e f c.add_group.ensures.weight in
          omega (arith, ints, added.each e f there, before.high e f there, small.high);
    }

pub returns-clause-within : goal.returns-clause-within
returns-clause-within c =
    let before = c.loop-group.invariant in
    let few : c.loop-group.group-index ≤ 2000 = omega (arith, c.loop-group.auto.group-index-end, c.requires.groups) in
    all_placed IsSurcharge c.args.required c.loop-group.table before.long
    (λ e f there. record { low = omega (arith, ints, before.low e f there, few); high = omega (arith, ints, before.high e f there, few) })
