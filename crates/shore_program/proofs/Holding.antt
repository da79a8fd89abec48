-- The shores of cuts.
use Rattle.std.proofs.Common.{◌≡◌, ℕ, ◌+◌, ◌<◌, List, [], ◌∷◌, fold, length, get_or, sum_by, sym, ◌∙◌, arith, refl}
use Rattle.std.specs.List.{Contains}
use Rattle.std.proofs.lemmas.List.{length-map, get_or-map}
use Rattle.shore_program.specs.declared.cuts.Cut.{Cut}
use Rattle.shore_program.specs.Tableaus.{shores_of}

shore_at : (cuts : List Cut) (k : ℕ) (d : Cut) (e : List ℕ) → k < length cuts → get_or (shores_of cuts) k e ≡ (get_or cuts k d).shore
shore_at cuts k d e below = get_or-map (λ (c : Cut). c.shore) cuts k d e below

-- a cut of an equal shore is there
pub held_there : (cuts : List Cut) (shore : List ℕ) (k : ℕ) (d : Cut) → k < length cuts → (get_or cuts k d).shore ≡ shore →
    Contains (shores_of cuts) shore
held_there cuts shore k d below same =
    (k, omega (arith, below, length-map cuts (λ (c : Cut). c.shore)), shore_at cuts k d shore below ∙ same)

-- a sum over the shores of cuts is one over the cuts
pub sum_by_shores : (f : List ℕ → ℕ) (cuts : List Cut) → sum_by f (shores_of cuts) ≡ sum_by (λ (c : Cut). f c.shore) cuts
sum_by_shores f cuts = along 0 cuts
  where
    along : (so_far : ℕ) (rest : List Cut) →
        fold (λ a x. a + f x) so_far (shores_of rest) ≡ fold (λ a (c : Cut). a + f c.shore) so_far rest
    along so_far [] = refl
    along so_far (cut ∷ rest) = along (so_far + f cut.shore) rest

-- none is there
pub not_held : (cuts : List Cut) (shore : List ℕ) → ((k : ℕ) (d : Cut) → k < length cuts → ¬ ((get_or cuts k d).shore ≡ shore)) →
    ¬ (Contains (shores_of cuts) shore)
not_held cuts shore none (k, below, same) =
    let below' : k < length cuts = omega (arith, below, length-map cuts (λ (c : Cut). c.shore)) in
    let d : Cut = record { shore = shore; least = 0; crossings = 0 } in
    none k d below' (sym (shore_at cuts k d shore below') ∙ same)
