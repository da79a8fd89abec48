-- Where a tour ends, by its last task.
use Rattle.std.proofs.Common.{◌≡◌, ℕ, ◌-◌, suc, List, [], ◌∷◌, length, ap, ◌∙◌, arith}
use Rattle.std.specs.Prelude.{Some, slice_get}
use Rattle.carp_base.specs.declared.edge.Task.{Task}
use Rattle.carp_base.specs.Problem.{Problem, edge_at, head_of}
use Rattle.augment_merge.specs.Outlines.{tour_ends_at}

pub ends_at_last : (p : Problem) (a : ℕ) (tour : List Task) (t : Task) → Some t ≡ slice_get tour (length tour - 1) → tour_ends_at p a tour ≡ head_of (edge_at p t.edge) t.forward
ends_at_last p a [] t last = cc
ends_at_last p a (u ∷ []) t last = ap (λ (x : Task). head_of (edge_at p x.edge) x.forward) (let same : u ≡ t = cc in same)
ends_at_last p a (u ∷ v ∷ ts) t last =
    let one : suc (suc (length ts)) - 1 ≡ suc (length ts) = omega arith in
    let two : length ts ≡ suc (length ts) - 1 = omega arith in
    let here : Some t ≡ slice_get (u ∷ v ∷ ts) (suc (length ts)) = last ∙ ap (slice_get (u ∷ v ∷ ts)) one in
    ends_at_last p (head_of (edge_at p u.edge) u.forward) (v ∷ ts) t (here ∙ ap (slice_get (v ∷ ts)) two)
