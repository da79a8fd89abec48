use Rattle.std.proofs.Common.{◌≡◌, ℕ, ◌<◌, ◌≤◌, get_or}
use Rattle.road_network.specs.Incidence.{incident}
use Rattle.edge_components.specs.Parts.{parts_of}
use Rattle.postman.proofs.trail.first_open.Given as goal

abbrev pub invariant-loop-i : goal.invariant-loop-i
invariant-loop-i l = (i : ℕ) → l.from ≤ i → i < l.i → parts_of l.left (get_or (incident l.net l.v) i 0) ≡ 0
