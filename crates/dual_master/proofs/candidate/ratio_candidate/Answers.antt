use Rattle.std.proofs.Common.{List, sym, subst, inr}
use Rattle.std.specs.List.{All}
use Rattle.std.proofs.lemmas.List.Elements.{All-nil}
use Rattle.cut_pool.specs.Shores.{Belongs}
use Rattle.branch_rules.specs.Limits.{IsShoreOf}
use Rattle.branch_rules.specs.Prices.{Prices}
use Rattle.branch_rules.specs.declared.weight.Weight.{Weight}
use Rattle.dual_master.specs.Floors.{ReachesRatio}
use Rattle.dual_master.proofs.Chosen.{none_weighed}
use Rattle.dual_master.proofs.candidate.ratio_candidate.Goals as goal

pub with_value-requires : goal.with_value-requires
with_value-requires c =
    let p = c.args.inst.now in
    let pool = c.new.result in
    record {
      fits = c.in_ok-set.ensures.fits pool;
      no_groups = c.in_ok-set.ensures.no_groups;
      shores = subst (λ (ws : List Weight). All (λ (w : Weight). IsShoreOf p pool w.shore) ws) (sym c.in_ok-set.ensures.no_weights) (All-nil (λ (w : Weight). IsShoreOf p pool w.shore));
      belong = subst (All (Belongs p)) (sym c.new.ensures) (All-nil (Belongs p));
      base = inr (inr (c.new.ensures, c.in_ok-set.ensures.value pool));
      weighed = none_weighed pool c.in_ok-set.set c.new.ensures c.in_ok-set.ensures.no_weights;
    }

pub returns-clause-reaches : goal.returns-clause-reaches
returns-clause-reaches c =
    let p = c.args.inst.now in
    let made = c.with_value.ensures in
    subst (λ (s : Prices). ReachesRatio p c.with_value.result.pool s) (sym made.set) (subst (λ pool. ReachesRatio p pool c.in_ok-set.set) (sym made.pool) (c.in_ok-set.ensures.reaches c.new.result))
