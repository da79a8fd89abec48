-- The parts on an edge as they are read.
use Rattle.std.proofs.Common.{◌≡◌, ℕ, zero, suc, ◌-◌, ◌≤◌, List, get_or, refl, arith}
use Rattle.edge_components.specs.Parts.{parts_of}

pub parts_read : (x : List ℕ) (e : ℕ) → 1 ≤ e → get_or x (e - 1) 0 ≡ parts_of x e
parts_read x zero one = absurd (omega (arith, one))
parts_read x (suc k) one = let is : suc k - 1 ≡ k = omega arith in rw is refl
