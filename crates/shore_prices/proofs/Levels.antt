-- Level sets belong to the instance, and service costs are small.
use Rattle.std.proofs.Common.{ℕ, zero, suc, ◌+◌, ◌<◌, ◌≤◌, List, [], ◌∷◌, length, get_or, nat_abs, arith}
use Rattle.std.proofs.lemmas.List.{get_or-take}
use Rattle.carp_base.specs.Problem.{Problem, IsValid, no_edge, required_edges}
use Rattle.cut_pool.specs.Shores.{Belongs}
use Rattle.cut_pool.specs.declared.shore.Weighted.{Weighted}
use Rattle.capacity_cuts.specs.Levels.{AreShellsFrom}

pub shell_belongs : (p : Problem) (t : ℕ) (shells : List Weighted) → AreShellsFrom p t shells → (k : ℕ) (d : Weighted) → k < length shells → Belongs p (get_or shells k d).shore
shell_belongs p t [] are k d within = absurd (omega (arith, within))
shell_belongs p t (shell ∷ shells) are zero d within = are.0.belongs
shell_belongs p t (shell ∷ shells) are (suc k) d within = shell_belongs p (t + nat_abs shell.weight) shells are.1 k d (omega (arith, within))

pub service_small : (p : Problem) → IsValid p → (i : ℕ) → i < p.required → (get_or (required_edges p) i no_edge).service ≤ 1000000
service_small p valid i within =
    rw (get_or-take p.required p.edges i no_edge within)
    ((valid.tasks (suc i) (record { from_one = omega arith; in_range = omega arith })).service_in)
