-- The tables in which orders are cut. No public contract speaks of this.
use Rattle.std.specs.Prelude.{◌≡◌, ℕ, ◌+◌, length}
use Rattle.giant_split.specs.declared.cutter.Cutter.{Cutter}

-- the tables are for orders of this length
pub record IsCutterOf (count : ℕ) (c : Cutter) : Type 0 where
  pub legs : length c.legs.items ≡ count
  pub costs : length c.costs.items ≡ count + 1
  pub lasts : length c.lasts.items ≡ count
