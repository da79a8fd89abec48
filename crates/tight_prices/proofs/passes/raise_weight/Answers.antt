use Rattle.std.proofs.Common.{◌∙◌}
use Rattle.std.proofs.lemmas.Bool.{false≢true}
use Rattle.tight_prices.specs.Probes.{ground_of}
use Rattle.tight_prices.specs.declared.place.Place.TheVariants.{Shore}
use Rattle.tight_prices.proofs.Climbing.{across_most}
use Rattle.tight_prices.proofs.Passing.{stuck_from}
use Rattle.tight_prices.proofs.passes.raise_weight.Goals as goal

pub returns-then-most-eq0-clause-tight : goal.returns-then-most-eq0-clause-tight
returns-then-most-eq0-clause-tight c =
    let g = ground_of c.args.setting.now in
    let set = c.args.priced.set in
    let s = c.args.shore in
    let n = c.least_across-most.result in
    stuck_from g set (Shore s) n
    (across_most g set s c.room-below.result n c.shore.result.now c.deref.result.now c.requires.priced.fitting c.shore.ensures (c.deref.ensures.value ∙ c.requires.priced.prices) c.room-below.ensures.value
    c.least_across-most.ensures.low c.least_across-most.ensures.either)
    c.if-most-eq0.true

pub highest-requires-clause-start : goal.highest-requires-clause-start
highest-requires-clause-start c =
    let g = ground_of c.args.setting.now in
    let set = c.args.priced.set in
    let s = c.args.shore in
    let n = c.least_across-most.result in
    record {
      fitting = c.requires.priced.fitting;
      most =
          across_most g set s c.room-below.result n c.shore.result.now c.deref.result.now c.requires.priced.fitting c.shore.ensures (c.deref.ensures.value ∙ c.requires.priced.prices) c.room-below.ensures.value
          c.least_across-most.ensures.low c.least_across-most.ensures.either;
      filled = λ so. absurd (false≢true so);
    }
