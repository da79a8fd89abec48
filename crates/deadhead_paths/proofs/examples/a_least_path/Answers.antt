use Rattle.std.proofs.Common.{[], ◌∷◌, refl, arith}
use Rattle.deadhead_paths.specs.Examples.{homeward}
use Rattle.deadhead_paths.proofs.Small.{back_again, some_step, way_back}
use Rattle.deadhead_paths.proofs.examples.a_least_path.Goals as goal

pub returns-clause-least : goal.returns-clause-least
returns-clause-least c = record { price = 5; least = way_back; deadheads = back_again; fewest = some_step; short = omega arith }

pub returns-clause-to_and_fro : goal.returns-clause-to_and_fro
returns-clause-to_and_fro c = λ path.
    omega (
      arith,
      path.fewest (homeward ∷ []) (record {
        unserved = (refl, tt);
        leads = (record { from_one = omega arith; in_range = omega arith }, refl, refl);
        costs = path.deadheads.costs;
      }),
    )
