use Rattle.std.proofs.Common.{sym, subst, inl}
use Rattle.branch_rules.specs.Prices.{Prices}
use Rattle.dual_master.specs.Floors.{ReachesShell}
use Rattle.dual_master.proofs.candidate.shell_candidate.Goals as goal

pub with_value-requires : goal.with_value-requires
with_value-requires c = record {
  fits = c.in_ok-set.ensures.fits;
  no_groups = c.in_ok-set.ensures.no_groups;
  shores = c.in_ok-set.ensures.shores;
  belong = c.shell_prices.ensures.belong;
  base = inl (c.in_ok-set.ensures.held, c.in_ok-set.ensures.value);
  weighed = c.in_ok-set.ensures.weighed;
}

pub returns-clause-reaches : goal.returns-clause-reaches
returns-clause-reaches c =
    let p = c.args.inst.now in
    let made = c.with_value.ensures in
    subst (λ (s : Prices). ReachesShell p c.with_value.result.pool s) (sym made.set) (subst (λ pool. ReachesShell p pool c.in_ok-set.set) (sym made.pool) c.in_ok-set.ensures.reaches)
