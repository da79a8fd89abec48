use Rattle.std.proofs.Common.{◌≡◌, ℕ, List, sym, subst}
use Rattle.std.proofs.lemmas.Option.{MatchOption-at_none, MatchOption-at_some}
use Rattle.std.proofs.lemmas.Result.{IfOk-weaker}
use Rattle.route_pricing.specs.declared.table.Ratio.{Ratio}
use Rattle.dual_master.specs.Floors.{FitsAlways, IsLeastCostRatio, ReachesRatio, ShowsRatio}
use Rattle.dual_master.specs.Pieces.{ratio_set}
use Rattle.dual_master.specs.Sets.{IsRatioSet}
use Rattle.dual_master.proofs.Made.{nothing_made, ratio_made}
use Rattle.dual_master.proofs.Ratios.{nothing_in, plain_fits, plain_shows, ratio_in, ratio_fits, ratio_reaches, ratio_shows}
use Rattle.dual_master.proofs.ratio.ratio_prices.Goals as goal

pub prices_by-requires : goal.prices_by-requires
prices_by-requires c = nothing_in c.args.inst.now c.validity.ensures

pub prices_by-requires-in-Some : goal.prices_by-requires-in-Some
prices_by-requires-in-Some c =
    let p = c.args.inst.now in
    let least = MatchOption-at_some (p.required ≡ 0) (λ (r : Ratio). IsLeastCostRatio p r.deadhead r.load) c.in-Some.ratio c.in-Some.is c.in_ok-least_ratio.ensures.value in
    ratio_in c.least_prices_are_there.ensures.few_steps c.least_prices_are_there.ensures.tasks p c.validity.ensures c.in-Some.ratio.deadhead c.in-Some.ratio.load least

pub returns-in-None-clause-fits : goal.returns-in-None-clause-fits
returns-in-None-clause-fits c =
    let p = c.args.inst.now in
    IfOk-weaker c.prices_by.result (λ set. set ≡ ratio_set p 0 1) (λ set. (pool : List (List ℕ)) → FitsAlways p pool set)
    (λ set is pool. subst (FitsAlways p pool) (sym is) (plain_fits p pool c.validity.ensures)) c.prices_by.ensures

pub returns-in-Some-clause-fits : goal.returns-in-Some-clause-fits
returns-in-Some-clause-fits c =
    let p = c.args.inst.now in
    let a = c.in-Some.ratio.deadhead in
    let b = c.in-Some.ratio.load in
    let least = MatchOption-at_some (p.required ≡ 0) (λ (r : Ratio). IsLeastCostRatio p r.deadhead r.load) c.in-Some.ratio c.in-Some.is c.in_ok-least_ratio.ensures.value in
    IfOk-weaker c.prices_by-in-Some.result (λ set. set ≡ ratio_set p a b) (λ set. (pool : List (List ℕ)) → FitsAlways p pool set)
    (λ set is pool. subst (FitsAlways p pool) (sym is) (ratio_fits c.least_prices_are_there.ensures.few_steps c.least_prices_are_there.ensures.tasks p c.validity.ensures a b least pool))
    c.prices_by-in-Some.ensures

pub returns-in-Some-clause-reaches : goal.returns-in-Some-clause-reaches
returns-in-Some-clause-reaches c =
    let p = c.args.inst.now in
    let a = c.in-Some.ratio.deadhead in
    let b = c.in-Some.ratio.load in
    let least = MatchOption-at_some (p.required ≡ 0) (λ (r : Ratio). IsLeastCostRatio p r.deadhead r.load) c.in-Some.ratio c.in-Some.is c.in_ok-least_ratio.ensures.value in
    IfOk-weaker c.prices_by-in-Some.result (λ set. set ≡ ratio_set p a b) (λ set. (pool : List (List ℕ)) → ReachesRatio p pool set)
    (λ set is pool. subst (ReachesRatio p pool) (sym is) (ratio_reaches c.least_prices_are_there.ensures.few_steps c.least_prices_are_there.ensures.tasks p c.validity.ensures a b least pool))
    c.prices_by-in-Some.ensures

pub returns-in-None-clause-value : goal.returns-in-None-clause-value
returns-in-None-clause-value c =
    let p = c.args.inst.now in
    let none = MatchOption-at_none (p.required ≡ 0) (λ (r : Ratio). IsLeastCostRatio p r.deadhead r.load) c.in-None.is c.in_ok-least_ratio.ensures.value in
    IfOk-weaker c.prices_by.result (λ set. set ≡ ratio_set p 0 1) (λ set. (pool : List (List ℕ)) → ShowsRatio p pool set)
    (λ set is pool. subst (ShowsRatio p pool) (sym is) (plain_shows p pool none)) c.prices_by.ensures

pub returns-in-Some-clause-value : goal.returns-in-Some-clause-value
returns-in-Some-clause-value c =
    let p = c.args.inst.now in
    let a = c.in-Some.ratio.deadhead in
    let b = c.in-Some.ratio.load in
    let least = MatchOption-at_some (p.required ≡ 0) (λ (r : Ratio). IsLeastCostRatio p r.deadhead r.load) c.in-Some.ratio c.in-Some.is c.in_ok-least_ratio.ensures.value in
    IfOk-weaker c.prices_by-in-Some.result (λ set. set ≡ ratio_set p a b) (λ set. (pool : List (List ℕ)) → ShowsRatio p pool set)
    (λ set is pool. subst (ShowsRatio p pool) (sym is) (ratio_shows c.least_prices_are_there.ensures.few_steps c.least_prices_are_there.ensures.tasks p c.validity.ensures a b least pool))
    c.prices_by-in-Some.ensures

pub returns-in-None-clause-made : goal.returns-in-None-clause-made
returns-in-None-clause-made c =
    let p = c.args.inst.now in
    let none = MatchOption-at_none (p.required ≡ 0) (λ (r : Ratio). IsLeastCostRatio p r.deadhead r.load) c.in-None.is c.in_ok-least_ratio.ensures.value in
    IfOk-weaker c.prices_by.result (λ set. set ≡ ratio_set p 0 1) (IsRatioSet p) (λ set is. subst (IsRatioSet p) (sym is) (nothing_made p c.validity.ensures none)) c.prices_by.ensures

pub returns-in-Some-clause-made : goal.returns-in-Some-clause-made
returns-in-Some-clause-made c =
    let p = c.args.inst.now in
    let a = c.in-Some.ratio.deadhead in
    let b = c.in-Some.ratio.load in
    let least = MatchOption-at_some (p.required ≡ 0) (λ (r : Ratio). IsLeastCostRatio p r.deadhead r.load) c.in-Some.ratio c.in-Some.is c.in_ok-least_ratio.ensures.value in
    IfOk-weaker c.prices_by-in-Some.result (λ set. set ≡ ratio_set p a b) (IsRatioSet p) (λ set is. subst (IsRatioSet p) (sym is) (ratio_made p a b c.validity.ensures least))
    c.prices_by-in-Some.ensures
