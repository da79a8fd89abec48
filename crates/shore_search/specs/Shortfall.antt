-- Sets of vertices whose deadheads fall short of what every lawful plan has over them.
use Rattle.std.specs.Prelude.{ℕ, ◌-◌, ◌*◌, ◌<◌, ◌≤◌, List, length}
use Rattle.std.specs.List.{All}
use Rattle.carp_base.specs.Problem.{Problem}
use Rattle.cut_pool.specs.Shores.{Belongs, IsShore, is_in, need}
use Rattle.cut_pool.specs.Pools.{AreDifferent, IsShoreNumber, shore_at}
use Rattle.edge_components.specs.Parts.{parts_over}

-- one deadhead, in parts
abbrev pub unit : ℕ
unit = 1048576

-- by how many parts the deadheads over a set are less than it needs
abbrev pub shortfall : Problem → List ℕ → List ℕ → ℕ
shortfall p x shore = unit * need p (is_in shore) - parts_over p x (is_in shore)

-- a shore of the instance whose shortfall is above a thousandth of a deadhead
pub record FallsShort (p : Problem) (x : List ℕ) (shore : List ℕ) : Type 0 where
  pub set : IsShore shore
  pub belongs : Belongs p shore
  pub short : 1048 < shortfall p x shore

-- no shore has a greater shortfall than one before it
abbrev pub AreFalling : Problem → List ℕ → List (List ℕ) → Type 0
AreFalling p x shores =
    (i j : ℕ) → IsShoreNumber shores i → IsShoreNumber shores j → i ≤ j → shortfall p x (shore_at shores j) ≤ shortfall p x (shore_at shores i)

-- at most so many shores that fall short, all different, those of greatest shortfall first
pub record AreShort (p : Problem) (x : List ℕ) (most : ℕ) (shores : List (List ℕ)) : Type 0 where
  pub few : length shores ≤ most
  pub each : All (FallsShort p x) shores
  pub different : AreDifferent shores
  pub falling : AreFalling p x shores
