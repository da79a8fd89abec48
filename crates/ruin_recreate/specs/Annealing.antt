-- What an annealing keeps: only stops of the board. No public contract speaks of this.
use Rattle.std.specs.Prelude.{◌≡◌, ℕ, ◌+◌, ◌/◌, ◌<◌, List, length}
use Rattle.std.specs.List.{All}
use Rattle.ruin_recreate.specs.declared.sequences.Connection.{Connection}
use Rattle.ruin_recreate.specs.declared.sequences.Sequence.{Sequence}
use Rattle.ruin_recreate.specs.declared.regretting.Out.{Out}
use Rattle.ruin_recreate.specs.declared.ruining.Removed.{Removed}
use Rattle.ruin_recreate.specs.declared.ruining.Ruin.{Ruin}
use Rattle.ruin_recreate.specs.declared.annealing.Annealing.{Annealing}

-- a connection between stops below a width
pub record IsConnectionOn (width : ℕ) (g : Connection) : Type 0 where
  pub turned : g.turned < width
  pub to : g.to < width

-- a sequence of stops below a width
pub record IsSequenceOn (width : ℕ) (r : Sequence) : Type 0 where
  pub connections : All (IsConnectionOn width) r.connections.items
  pub last : r.last < width

-- services below a width
abbrev pub AreOn : ℕ → List Removed → Type 0
AreOn width removed = All (λ s. s.stop < width) removed

-- services below a width that are to be put back by regret
abbrev pub AreOut : ℕ → List Out → Type 0
AreOut width out = All (λ s. s.stop < width) out

-- a place and a mark for each edge, and services below a width
pub record IsRuinOn (width : ℕ) (r : Ruin) : Type 0 where
  pub places : length r.places.items ≡ width / 2 + 1
  pub gone : length r.gone.items ≡ width / 2 + 1
  pub removed : AreOn width r.removed.items

-- what an annealing keeps
pub record IsAnnealingOn (width : ℕ) (s : Annealing) : Type 0 where
  pub near : length s.near.items ≡ width / 2
  pub ruin : IsRuinOn width s.ruin
  pub current : IsSequenceOn width s.current
  pub trial : IsSequenceOn width s.trial
  pub top : All (λ x. x < width) s.top.items
