-- The tours of a sequence without two depots side by side each serve.
use Rattle.std.proofs.Common.{◌≡◌, ◌≢◌, ℕ, suc, ◌<◌, List, [], ◌∷◌, ◌++◌, length, get_or, map, refl, sym, subst, arith, add-one}
use Rattle.std.specs.List.{AllByRecursion}
use Rattle.carp_base.specs.declared.edge.Task.{Task}
use Rattle.local_moves.specs.Sequences.{NoneEmpty}
use Rattle.local_moves.specs.Stops.{sequence_of, stop_of}
use Rattle.local_moves.proofs.Composing.{sequence_some, starts_home}

rest_closed : (xs ys : List ℕ) → ((k : ℕ) → suc k < length (xs ++ ys) → get_or (xs ++ ys) k 0 ≡ 0 → get_or (xs ++ ys) (suc k) 0 ≡ 0 → ⊥) → (k : ℕ) → suc k < length ys → get_or ys k 0 ≡ 0 → get_or ys (suc k) 0 ≡ 0 → ⊥
rest_closed [] ys closed = closed
rest_closed (x ∷ xs) ys closed = rest_closed xs ys (λ k short first second. closed (suc k) (omega (arith, short)) first second)

first_serves : (tour : List Task) (tours : List (List Task)) → ((k : ℕ) → suc k < length (sequence_of (tour ∷ tours)) → get_or (sequence_of (tour ∷ tours)) k 0 ≡ 0 → get_or (sequence_of (tour ∷ tours)) (suc k) 0 ≡ 0 → ⊥) → tour ≡ [] → ⊥
first_serves [] tours closed none = closed 0 (omega (arith, sequence_some tours)) refl (starts_home tours)
first_serves (t ∷ ts) tours closed none = cc

all_serve : (tours : List (List Task)) → ((k : ℕ) → suc k < length (sequence_of tours) → get_or (sequence_of tours) k 0 ≡ 0 → get_or (sequence_of tours) (suc k) 0 ≡ 0 → ⊥) → AllByRecursion (λ tour. tour ≢ []) tours
all_serve [] closed = tt
all_serve (tour ∷ tours) closed = (first_serves tour tours closed, all_serve tours (rest_closed (0 ∷ map stop_of tour) (sequence_of tours) closed))

pub tours_serve : (xs : List ℕ) (tours : List (List Task)) → NoneEmpty xs → sequence_of tours ≡ xs → AllByRecursion (λ tour. tour ≢ []) tours
tours_serve xs tours closed is =
    let own = subst (λ ys. NoneEmpty ys) (sym is) closed in
    all_serve tours (λ k short first second. own k (omega (arith, short)) first (rw add-one second))
