use Rattle.std.proofs.Common.{subst}
use Rattle.std.proofs.lemmas.Result.{IfOk-weaker}
use Rattle.tight_prices.specs.Probes.{ground_of}
use Rattle.tight_prices.specs.Places.{IsOnShore}
use Rattle.tight_prices.specs.Searches.{IsShoreTight, IsThisSingle}
use Rattle.tight_prices.specs.Tight.{AreKept, IsNeededSingle, IsWeightTight}
use Rattle.tight_prices.specs.declared.passes.PricedSet.{PricedSet}
use Rattle.tight_prices.specs.declared.place.Place.TheVariants.{Shore}
use Rattle.tight_prices.proofs.passes.tighten_shore.Goals as goal

pub returns-then-is_needed_single-clause-kept : goal.returns-then-is_needed_single-clause-kept
returns-then-is_needed_single-clause-kept c =
    let g = ground_of c.args.setting.now in
    IfOk-weaker c.raise_weight.result (λ (next : PricedSet). AreKept (IsOnShore (Shore c.args.shore)) c.args.priced.set next.set)
    (λ (next : PricedSet). AreKept (IsThisSingle g c.args.shore) c.args.priced.set next.set) (λ next kept shore not. kept shore (λ on. not (on, subst (IsNeededSingle g.problem g.pool) on (c.is_needed_single.ensures.only c.if-is_needed_single.true)))) c.raise_weight.ensures.kept

pub returns-then-is_needed_single-clause-tight : goal.returns-then-is_needed_single-clause-tight
returns-then-is_needed_single-clause-tight c =
    let g = ground_of c.args.setting.now in
    IfOk-weaker c.raise_weight.result (λ (next : PricedSet). IsWeightTight g.problem g.pool g.branch next.set c.args.shore)
    (λ (next : PricedSet). IsShoreTight g next.set c.args.shore) (λ next tight needed. tight) c.raise_weight.ensures.tight
