use Rattle.dual_master.proofs.Chosen.{IsBest, best_of_three, is_best}
use Rattle.dual_master.proofs.best.floors.Goals as goal

pub place_singles-requires : goal.place_singles-requires
place_singles-requires c =
    let best =
    is_best c.args.inst.now c.in_ok-shell.shell c.in_ok-ratio.ratio c.in_ok-join.join c.better-first.result c.better-best.result c.in_ok-shell.ensures.candidate c.in_ok-ratio.ensures.candidate
    c.in_ok-join.ensures.candidate c.better-first.ensures.either c.better-best.ensures.either in
    record { belong = best.floor.belong }

-- the set that is given and the pool that is left
found : (c : goal.In_ok-place_singles) → IsBest c.args.inst.now c.place_singles.new.pool c.better-best.result.set
found c =
    best_of_three c.args.inst.now c.in_ok-shell.shell c.in_ok-ratio.ratio c.in_ok-join.join c.better-first.result c.better-best.result c.in_ok-shell.ensures.candidate c.in_ok-ratio.ensures.candidate
    c.in_ok-join.ensures.candidate c.better-first.ensures.either c.better-best.ensures.either c.better_sets_reach_as_much.ensures c.growth_keeps_sets.ensures c.better-first.ensures.over_one
    c.better-first.ensures.over_other c.better-best.ensures.over_one c.better-best.ensures.over_other c.in_ok-shell.ensures.reaches c.in_ok-ratio.ensures.reaches c.in_ok-join.ensures.reaches
    c.place_singles.new.pool c.in_ok-place_singles.ensures.singles

pub returns-clause-fits : goal.returns-clause-fits
returns-clause-fits c = (found c).fits

pub returns-clause-shell : goal.returns-clause-shell
returns-clause-shell c = (found c).shell

pub returns-clause-ratio : goal.returns-clause-ratio
returns-clause-ratio c = (found c).ratio

pub returns-clause-join : goal.returns-clause-join
returns-clause-join c = (found c).join

pub returns-clause-no_groups : goal.returns-clause-no_groups
returns-clause-no_groups c = (found c).no_groups

pub returns-clause-shores : goal.returns-clause-shores
returns-clause-shores c = (found c).shores

pub returns-clause-held : goal.returns-clause-held
returns-clause-held c = (found c).held
