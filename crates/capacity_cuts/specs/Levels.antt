-- The vertices that the depot reaches beyond a distance by cost, and the shores of these sets with their numbers of levels.
use Rattle.std.specs.Prelude.{◌≡◌, ◌↔◌, ℕ, zero, suc, ◌+◌, ◌*◌, ◌<◌, ◌≤◌, Bool, pos, IsTrue, List, [], ◌∷◌, nat_abs, sum_by, if◌then◌else◌}
use Rattle.carp_base.specs.Problem.{Problem, IsVertex, edge_at}
use Rattle.plan_model.specs.Plans.{crosses}
use Rattle.cut_pool.specs.declared.shore.Weighted.{Weighted}
use Rattle.cut_pool.specs.Shores.{is_in, need, IsShore, Belongs}
use Rattle.deadhead_paths.specs.Prices.{IsLeastPrice, price_of, costs_of}

-- the distance of a vertex from the depot by cost
abbrev pub IsDistance : Problem → ℕ → ℕ → Type 0
IsDistance p v n = IsLeastPrice p (price_of (costs_of p)) p.depot v n

-- the depot reaches the vertex at a distance above t
pub record IsBeyond (p : Problem) (t v : ℕ) : Type 0 where
  pub distance : ℕ
  pub is : IsDistance p v distance
  pub above : t < distance

-- the set of the vertices beyond t
abbrev pub IsLevelSet : Problem → ℕ → (ℕ → Bool) → Type 0
IsLevelSet p t inside = (v : ℕ) → IsVertex p v → IsTrue (inside v) ↔ IsBeyond p t v

-- a shore with a number of levels: it is the level set of just so many levels from t on, and no longer of the next
pub record IsShell (p : Problem) (t levels : ℕ) (shell : Weighted) : Type 0 where
  pub is_shore : IsShore shell.shore
  pub belongs : Belongs p shell.shore
  pub weight : shell.weight ≡ pos levels
  pub some : 1 ≤ levels
  pub level : (s : ℕ) → t ≤ s → s < t + levels → IsLevelSet p s (is_in shell.shore)
  pub ends : ¬ (IsLevelSet p (t + levels) (is_in shell.shore))

-- the shells from level t on, nearest first: from the last one's levels on no vertex lies beyond
abbrev pub AreShellsFrom : Problem → ℕ → List Weighted → Type 0
AreShellsFrom p t [] = (v : ℕ) → IsVertex p v → ¬ (IsBeyond p t v)
AreShellsFrom p t (shell ∷ shells) = IsShell p t (nat_abs shell.weight) shell × AreShellsFrom p (t + nat_abs shell.weight) shells

-- the level sets from level 0 on, each with its number of levels
abbrev pub AreShells : Problem → List Weighted → Type 0
AreShells p shells = AreShellsFrom p 0 shells

-- the level sets of all levels
abbrev pub AreLevelSets : Problem → (ℕ → ℕ → Bool) → Type 0
AreLevelSets p level = (t : ℕ) → IsLevelSet p t (level t)

-- the sum of the needs of the level sets of the levels below k
abbrev pub needs_below : Problem → (ℕ → ℕ → Bool) → ℕ → ℕ
needs_below p level zero = 0
needs_below p level (suc k) = needs_below p level k + need p (level k)

-- the sum of the needs of shores, each times its weight
abbrev pub weighted_needs : Problem → List Weighted → ℕ
weighted_needs p shells = sum_by (λ s. nat_abs s.weight * need p (is_in s.shore)) shells

-- the weights of the shores that an edge crosses
abbrev pub weights_over : Problem → List Weighted → ℕ → ℕ
weights_over p shells e = sum_by (λ s. if crosses (is_in s.shore) (edge_at p e) then nat_abs s.weight else 0) shells
