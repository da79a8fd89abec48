use Rattle.std.proofs.Common.{rules, ◌≤◌, ◌∙◌, length, ap, sym, subst}
use Rattle.std.specs.List.{All}
use Rattle.cut_pool.specs.Pools.{IsShoreNumber}
use Rattle.branch_rules.specs.Limits.{IsPriceSet}
use Rattle.branch_rules.specs.Prices.{Prices}
use Rattle.branch_rules.specs.declared.weight.Weight.{Weight}
use Rattle.tight_prices.specs.Probes.{ground_of}
use Rattle.tight_prices.specs.Places.{IsOnShore, Rises}
use Rattle.tight_prices.specs.Tight.{AreKept}
use Rattle.tight_prices.proofs.Climbing.{climbed, heavy_not, lacks_not, raised_long, raised_numbers, stayed}
use Rattle.tight_prices.proofs.Keeping.{kept_step}
use Rattle.tight_prices.proofs.Rising.{rises_step}
use Rattle.tight_prices.proofs.search.step.Goals as goal

pub try_set-requires-clause-shores : goal.try_set-requires-clause-shores
try_set-requires-clause-shores c =
    subst (λ (s : Prices). All (λ (w : Weight). IsShoreNumber c.args.setting.now.pool.now w.shore) s.weights) (sym c.in_ok-trial.ensures)
    (raised_numbers (ground_of c.args.setting.now) c.args.search.set c.args.place c.min-more.result c.requires.place c.requires.search.fitting)

pub try_set-requires-clause-one_each : goal.try_set-requires-clause-one_each
try_set-requires-clause-one_each c =
    ap (λ (s : Prices). length s.services) c.in_ok-trial.ensures ∙ raised_long (ground_of c.args.setting.now) c.args.search.set c.args.place c.min-more.result c.requires.search.fitting

pub returns-in-Pays-clause-search : goal.returns-in-Pays-clause-search
returns-in-Pays-clause-search c =
    let less : c.min-more.result ≤ c.args.search.most = search rules in
    let fine : IsPriceSet c.in_ok-trial.trial = search rules in
    climbed c.least_prices_are_there.ensures.tasks (ground_of c.args.setting.now) c.requires.setting.valid c.args.place c.args.table.now c.try_set.new.table c.args.search c.accepted.result
    c.in_ok-trial.trial c.min-more.result c.requires.place c.requires.search c.in_ok-trial.ensures less fine c.in_ok-try_set.field-0 c.in-Pays.is c.in_ok-try_set.ensures.says
    c.accepted.ensures.set c.accepted.ensures.most

pub returns-in-Pays-clause-rises : goal.returns-in-Pays-clause-rises
returns-in-Pays-clause-rises c =
    let g = ground_of c.args.setting.now in
    subst (Rises g.problem g.pool g.branch c.args.search.set) (sym (c.accepted.ensures.set ∙ c.in_ok-trial.ensures))
    (rises_step g.problem g.pool g.branch c.args.search.set c.args.place c.min-more.result c.requires.search.fitting.fine)

pub returns-in-Pays-clause-kept : goal.returns-in-Pays-clause-kept
returns-in-Pays-clause-kept c =
    subst (AreKept (IsOnShore c.args.place) c.args.search.set) (sym (c.accepted.ensures.set ∙ c.in_ok-trial.ensures)) (kept_step c.args.search.set c.args.place c.min-more.result)

pub returns-in_ok-guess-in-Lacks-clause-search : goal.returns-in_ok-guess-in-Lacks-clause-search
returns-in_ok-guess-in-Lacks-clause-search c =
    let g = ground_of c.args.setting.now in
    let less : c.min-more.result ≤ c.args.search.most = search rules in
    let some : 1 ≤ c.min-more.result = search rules in
    stayed c.least_prices_are_there.ensures.tasks g c.requires.setting.valid c.args.place c.args.table.now c.try_set.new.table c.args.search c.refused.result c.in_ok-trial.trial c.min-more.result
    c.requires.place c.requires.search c.in_ok-trial.ensures less some (lacks_not g c.in_ok-trial.trial c.try_set.new.table c.in_ok-try_set.field-0 c.in-Lacks.value c.in-Lacks.is c.in_ok-try_set.ensures.says)
    c.refused.ensures.set c.refused.ensures.most c.refused.ensures.filled

pub returns-in-TooHeavy-clause-search : goal.returns-in-TooHeavy-clause-search
returns-in-TooHeavy-clause-search c =
    let g = ground_of c.args.setting.now in
    let less : c.min-more.result ≤ c.args.search.most = search rules in
    let some : 1 ≤ c.min-more.result = search rules in
    stayed c.least_prices_are_there.ensures.tasks g c.requires.setting.valid c.args.place c.args.table.now c.try_set.new.table c.args.search c.refused-in-TooHeavy.result c.in_ok-trial.trial
    c.min-more.result c.requires.place c.requires.search c.in_ok-trial.ensures less some
    (heavy_not g c.in_ok-trial.trial c.try_set.new.table c.in_ok-try_set.field-0 c.in-TooHeavy.is c.in_ok-try_set.ensures.says) c.refused-in-TooHeavy.ensures.set c.refused-in-TooHeavy.ensures.most
    c.refused-in-TooHeavy.ensures.filled
