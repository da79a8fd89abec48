-- How the program is kept. No public contract speaks of this.
use Rattle.std.specs.Prelude.{◌≡◌, ℕ, ◌+◌, ◌*◌, ◌<◌, ◌≤◌, List, All, map, length, sum_by, pos, ◌≤ℤ◌, slice_index, slice_index_or, if◌then◌else◌}
use Rattle.std.specs.List.{Contains}
use Rattle.carp_base.specs.declared.edge.Edge.{Edge}
use Rattle.carp_base.specs.Problem.{Problem}
use Rattle.plan_model.specs.Plans.{crosses}
use Rattle.cut_pool.specs.Shores.{Belongs, is_in}
use Rattle.cut_pool.specs.declared.shore.Weighted.{Weighted}
use Rattle.shore_program.specs.Programs.{ShoreProgram, IsWeighted, weights_over}
use Rattle.shore_program.specs.declared.cuts.Cut.{Cut}
use Rattle.shore_program.specs.declared.tableau.Tableau.{Tableau}
use Rattle.shore_program.specs.declared.ratio.Ratio.{Ratio}
use Rattle.shore_program.specs.declared.trimming.Idle.{Idle}

-- a row for each edge, with room for 1,200 columns
pub record IsTableau (edges : ℕ) (t : Tableau) : Type 0 where
  pub rows : length t.rows.items ≡ edges
  pub entries : length t.entries.items ≡ edges * 1200
  pub columns : length t.columns.items ≤ 1200

-- a ratio of one of the first rows, by an entry above 0
pub record IsRatio (rows : ℕ) (x : Ratio) : Type 0 where
  pub row : x.row < rows
  pub pivot : pos 1 ≤ℤ x.pivot

-- the shores of cuts
abbrev pub shores_of : List Cut → List (List ℕ)
shores_of cuts = map (λ c. c.shore) cuts

-- weights of the shores of cuts
abbrev pub AreWeighted : Problem → List Cut → List Weighted → Type 0
AreWeighted p cuts shores = All (IsWeighted (record { problem = p; shores = shores_of cuts })) shores

-- a tableau with a column for each cut
pub record KeepsColumns (edges : ℕ) (cuts : List Cut) (t : Tableau) : Type 0 where
  pub tableau : IsTableau edges t
  pub one_each : length t.columns.items ≡ length cuts

-- cuts of an instance, with a column for each
pub record KeepsProgram (p : Problem) (cuts : List Cut) (t : Tableau) : Type 0 where
  pub columns : KeepsColumns (length p.edges) cuts t
  pub belong : All (λ c. Belongs p c.shore) cuts

-- a shore that has a column
pub record IsIdle (columns shores : ℕ) (x : Idle) : Type 0 where
  pub column : x.column < columns
  pub shore : x.shore < shores

-- at most so many cuts went, and none is there more often than before
pub record Shrinks (count : ℕ) (before after : List Cut) : Type 0 where
  pub few : length before ≤ length after + count
  pub held : All (Contains before) after
  pub no_more : (f : Cut → ℕ) → sum_by f after ≤ sum_by f before

-- none of at most 800 cuts went, of more at least 400 stay, and none is there more often than before
pub record AreTrimmed (before after : List Cut) : Type 0 where
  pub held : All (Contains before) after
  pub no_more : (f : Cut → ℕ) → sum_by f after ≤ sum_by f before
  pub few : length before ≤ 800 → after ≡ before
  pub enough : 800 < length before → 400 ≤ length after

-- over each edge that a shore crosses at least an amount is left
abbrev pub HasRoom : List Edge → List ℕ → ℕ → List ℕ → Type 0
HasRoom edges shore amount rooms =
    (e : ℕ) (d : Edge) → e < length edges → (if crosses (is_in shore) (slice_index_or edges e d) then amount else 0) ≤ slice_index rooms e

-- what is left over each edge that a shore crosses is less by an amount
pub record Takes (edges : List Edge) (shore : List ℕ) (amount : ℕ) (before after : List ℕ) : Type 0 where
  pub long : length after ≡ length before
  pub each : (e : ℕ) (d : Edge) → e < length edges →
      slice_index after e + (if crosses (is_in shore) (slice_index_or edges e d) then amount else 0) ≡ slice_index before e

-- a shore came once to weighted ones with what was taken for it, if that is above 0
pub record IsLaid (edges : List Edge) (shore : List ℕ) (rooms rooms' : List ℕ) (shores shores' : List Weighted) : Type 0 where
  pub long : length rooms' ≡ length rooms
  pub same : (e : ℕ) (d : Edge) → e < length edges →
      weights_over shores' (slice_index_or edges e d) + slice_index rooms' e ≡ weights_over shores (slice_index_or edges e d) + slice_index rooms e
  pub each : (program : ShoreProgram) → Contains program.shores shore → Belongs program.problem shore →
      All (IsWeighted program) shores → All (IsWeighted program) shores'
  pub once : (f : List ℕ → ℕ) → sum_by (λ s. f s.shore) shores' ≤ sum_by (λ s. f s.shore) shores + f shore

-- the weights and what is left over each edge are at most its cost, in parts of one million
pub record LeavesRoom (edges : List Edge) (rooms : List ℕ) (shores : List Weighted) : Type 0 where
  pub long : length rooms ≡ length edges
  pub packs : (e : ℕ) (d : Edge) → e < length edges →
      weights_over shores (slice_index_or edges e d) + slice_index rooms e ≤ 1000000 * (slice_index_or edges e d).cost
