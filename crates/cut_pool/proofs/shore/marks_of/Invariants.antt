use Rattle.std.proofs.Common.{◌≡◌, ℕ, false, take, ◌+◌}
use Rattle.std.specs.Prelude.{slice_index_or, vec_len}
use Rattle.cut_pool.specs.Shores.{is_in}
use Rattle.cut_pool.proofs.shore.marks_of.Given as goal

-- the vertices so far are marked, and no others
abbrev pub invariant-loop-vertex : goal.invariant-loop-vertex
invariant-loop-vertex l = record {
  room : vec_len l.marks ≡ l.greatest + 1;
  marks : (v : ℕ) → slice_index_or l.marks.items v false ≡ is_in (take l.vertex-index l.list) v;
}
