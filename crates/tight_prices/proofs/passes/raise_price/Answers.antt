use Rattle.std.proofs.Common.{◌≡◌, subst, sym}
use Rattle.std.proofs.lemmas.Result.{IfOk-weaker}
use Rattle.tight_prices.specs.Probes.{ground_of}
use Rattle.tight_prices.specs.declared.place.Place.TheVariants.{Edge}
use Rattle.branch_rules.specs.Prices.{Prices}
use Rattle.tight_prices.specs.Tight.{IsPriceTight}
use Rattle.tight_prices.proofs.Climbing.{whole_most}
use Rattle.tight_prices.proofs.Passing.{stuck_from}
use Rattle.tight_prices.proofs.passes.raise_price.Goals as goal

pub highest-requires-clause-start : goal.highest-requires-clause-start
highest-requires-clause-start c =
    let g = ground_of c.args.setting.now in
    record {
      fitting = c.requires.fitting;
      most = c.left-most.ensures.most g c.args.set c.requires.filled c.requires.fitting.fits.one_each (whole_most g c.args.set (Edge c.args.e) c.room-below.result c.room-below.ensures.value);
      filled = λ so. c.requires.filled;
    }

pub returns-clause-tight : goal.returns-clause-tight
returns-clause-tight c =
    let g = ground_of c.args.setting.now in
    let found = c.in_ok-found.found in
    IfOk-weaker c.refill.result (λ (set : Prices). set ≡ found.set) (λ (higher : Prices). IsPriceTight g.problem g.pool g.branch higher c.args.e)
    (λ higher is. subst (λ (set : Prices). IsPriceTight g.problem g.pool g.branch set c.args.e) (sym is)
    (stuck_from g found.set (Edge c.args.e) found.most c.in_ok-found.ensures.search.most c.in_ok-found.ensures.done)) c.refill.ensures.set
