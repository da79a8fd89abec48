use Rattle.std.proofs.Common.{◌≡◌, ℕ, ◌+◌, ◌<◌, ◌≤◌, get_or}
use Rattle.std.specs.Prelude.{if◌then◌else◌}
use Rattle.carp_base.specs.declared.edge.Edge.{Edge}
use Rattle.plan_model.specs.Plans.{crosses}
use Rattle.cut_pool.specs.Shores.{is_in}
use Rattle.shore_program.proofs.rooms.lower.Given as goal

abbrev pub invariant-loop-place : goal.invariant-loop-place
invariant-loop-place l = record {
  done : (e : ℕ) (d : Edge) → e < l.place →
      get_or l.rooms e 0 + (if crosses (is_in l.shore) (get_or l.edges e d) then l.amount else 0) ≡ get_or l.fn.rooms e 0;
  still : (e : ℕ) → l.place ≤ e → get_or l.rooms e 0 ≡ get_or l.fn.rooms e 0;
}
