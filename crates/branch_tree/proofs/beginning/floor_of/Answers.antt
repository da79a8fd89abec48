use Rattle.std.proofs.Common.{[]}
use Rattle.branch_tree.proofs.Root.{no_depot}
use Rattle.branch_tree.proofs.Services.{services_reached}
use Rattle.branch_tree.proofs.beginning.floor_of.Goals as goal

pub returns-clause-floor : goal.returns-clause-floor
returns-clause-floor c =
    let p = c.args.inst.now in
    let pool = c.floors.new.pool in
    let set = c.in_ok-set.set in
    let fine = c.unit.ensures.fine in
    let shell = c.in_ok-set.ensures.shell in
    record {
      valid = c.validity.ensures;
      fine = fine;
      fits = c.in_ok-set.ensures.fits;
      floors = record {
        some_unit = fine.some_unit;
        floors = record {
          services = services_reached c.level_sets_are_there.ensures p c.validity.ensures pool set shell;
          shell = shell;
          ratio = c.in_ok-set.ensures.ratio;
          join = c.in_ok-set.ensures.join;
        };
        below = λ plan lawful.
            c.prices_bound.ensures.below p pool [] set plan (c.in_ok-set.ensures.fits [])
            (record { valid = c.validity.ensures; no_depot = no_depot p pool c.in_ok-set.ensures.belong; lawful = lawful; meets = tt });
      };
      shores = c.in_ok-set.ensures.shores;
      no_groups = c.in_ok-set.ensures.no_groups;
      held = c.in_ok-set.ensures.held;
      belong = c.in_ok-set.ensures.belong;
    }
