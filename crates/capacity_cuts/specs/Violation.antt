-- By how much a set of vertices is violated (Belenguer and Benavent 1998).
use Rattle.std.specs.Prelude.{◌≡◌, ℕ, ◌+◌, ◌*◌, ◌<◌, ◌≤◌, Bool, false, List}
use Rattle.carp_base.specs.Problem.{Problem}
use Rattle.cut_pool.specs.Shores.{required_crossings, touched, is_in, IsShore, Belongs}
use Rattle.edge_components.specs.Parts.{parts_over}

-- the violation 2 t(S) / Q - r(S) - x(S) / unit is the gain less the loss, over Q times unit
abbrev pub gain : Problem → ℕ → (ℕ → Bool) → ℕ
gain p unit inside = 2 * (unit * touched p inside)

abbrev pub loss : Problem → ℕ → List ℕ → (ℕ → Bool) → ℕ
loss p unit x inside = p.capacity * (unit * required_crossings p inside + parts_over p x inside)

-- the set is violated
abbrev pub IsViolated : Problem → ℕ → List ℕ → (ℕ → Bool) → Type 0
IsViolated p unit x inside = loss p unit x inside < gain p unit inside

-- no set without the depot is violated
abbrev pub NoneIsViolated : Problem → ℕ → List ℕ → Type 0
NoneIsViolated p unit x = (other : ℕ → Bool) → other p.depot ≡ false → gain p unit other ≤ loss p unit x other

-- no set without the depot is violated more: the difference of gain and loss is at most this one's
pub record IsMostViolated (p : Problem) (unit : ℕ) (x : List ℕ) (inside : ℕ → Bool) : Type 0 where
  pub no_depot : inside p.depot ≡ false
  pub most : (other : ℕ → Bool) → other p.depot ≡ false → gain p unit other + loss p unit x inside ≤ gain p unit inside + loss p unit x other

-- a shore that is violated, and no set without the depot is violated more
pub record IsGreatestViolation (p : Problem) (unit : ℕ) (x shore : List ℕ) : Type 0 where
  pub is_shore : IsShore shore
  pub belongs : Belongs p shore
  pub violated : IsViolated p unit x (is_in shore)
  pub most : IsMostViolated p unit x (is_in shore)
