use Rattle.std.proofs.Common.{ℕ, ◌≡◌, ◌+◌, ◌<◌, ◌∙◌, List, [], length, subst, add-one}
use Rattle.std.specs.Prelude.{slice_index_or}
use Rattle.std.proofs.lemmas.List.{get_or_default}
use Rattle.cut_pool.specs.Pools.{shore_at}
use Rattle.cut_pool.specs.Shores.{Belongs}
use Rattle.price_tests.proofs.tight_prices_tests.belongs_at.Goals as goal

-- the shore of the next number is the one at the place
at_place : (pool : List (List ℕ)) (place : ℕ) (d : List ℕ) → place < length pool → shore_at pool (place + 1) ≡ slice_index_or pool place d
at_place pool place d below = rw add-one (get_or_default pool place [] d below)

pub returns : goal.returns
returns c so d =
    subst (Belongs c.args.inst.now) (c.shore.ensures ∙ at_place c.args.pool.now c.args.place d c.requires.place) (c.belongs.ensures.0 so)
