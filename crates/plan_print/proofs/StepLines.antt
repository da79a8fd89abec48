-- The lines of the first steps and of the first tours of a sheet.
use Rattle.std.proofs.Common.{◌≡◌, ℕ, zero, suc, ◌+◌, ◌<◌, List, [], ◌∷◌, ◌++◌, length, take, sym, ap, ◌∙◌, arith, add-one, append_assoc, append-nil}
use Rattle.std.proofs.lemmas.List.Sums.{sum_by-cons}
use Rattle.carp_base.specs.Problem.{Problem}
use Rattle.plan_model.specs.declared.step.Step.{Step}
use Rattle.plan_model.specs.Plans.{step_at, walk_at, step_load, walk_load}
use Rattle.plan_print.specs.Sheet.{step_line, step_lines, tour_steps, tours_steps}

step_lines-take-suc : (p : Problem) (i j load : ℕ) (walk : List Step) → i < length walk →
    step_lines p j load (take (suc i) walk) ≡ step_lines p j load (take i walk) ++ step_line p (j + i) (load + (walk_load p (take i walk) + step_load p (step_at walk i))) (step_at walk i)
step_lines-take-suc p i j load [] below = absurd (omega arith)
step_lines-take-suc p zero j load (s ∷ steps) below =
    let e : j + 0 ≡ j = omega arith in
    let f : load + (0 + step_load p s) ≡ load + step_load p s = omega arith in
    rw (e, f) (append-nil _)
step_lines-take-suc p (suc i) j load (s ∷ steps) below =
    let e : j + suc i ≡ (j + 1) + i = omega arith in
    let cons = sum_by-cons (step_load p) s (take i steps) in
    let f : load + (walk_load p (s ∷ take i steps) + step_load p (step_at steps i)) ≡ (load + step_load p s) + (walk_load p (take i steps) + step_load p (step_at steps i)) = omega (arith, cons) in
    rw (e, f, step_lines-take-suc p i (j + 1) (load + step_load p s) steps (omega arith)) (sym (append_assoc (step_line p j (load + step_load p s) s) _ _))

pub step_lines-take : (p : Problem) (i : ℕ) (walk : List Step) → i < length walk →
    step_lines p 1 0 (take (i + 1) walk) ≡ step_lines p 1 0 (take i walk) ++ step_line p (i + 1) (walk_load p (take i walk) + step_load p (step_at walk i)) (step_at walk i)
step_lines-take p i walk below =
    let load = walk_load p (take i walk) + step_load p (step_at walk i) in
    let before = step_lines p 1 0 (take i walk) in
    let e : 1 + i ≡ suc i = omega arith in
    let f : 0 + load ≡ load = omega arith in
    rw add-one (step_lines-take-suc p i 1 0 walk below ∙ (ap (λ n. before ++ step_line p n (0 + load) (step_at walk i)) e ∙ ap (λ n. before ++ step_line p (suc i) n (step_at walk i)) f))

tours_steps-take-suc : (p : Problem) (k i : ℕ) (walks : List (List Step)) → i < length walks →
    tours_steps p k (take (suc i) walks) ≡ tours_steps p k (take i walks) ++ tour_steps p (k + i) (walk_at walks i)
tours_steps-take-suc p k i [] below = absurd (omega arith)
tours_steps-take-suc p k zero (walk ∷ walks) below = let e : k + 0 ≡ k = omega arith in rw e (append-nil _)
tours_steps-take-suc p k (suc i) (walk ∷ walks) below =
    let e : k + suc i ≡ (k + 1) + i = omega arith in
    rw (e, tours_steps-take-suc p (k + 1) i walks (omega arith)) (sym (append_assoc (tour_steps p k walk) _ _))

pub tours_steps-take : (p : Problem) (i : ℕ) (walks : List (List Step)) → i < length walks →
    tours_steps p 1 (take (i + 1) walks) ≡ tours_steps p 1 (take i walks) ++ tour_steps p (i + 1) (walk_at walks i)
tours_steps-take p i walks below =
    let e : 1 + i ≡ suc i = omega arith in
    rw add-one (tours_steps-take-suc p 1 i walks below ∙ ap (λ n. tours_steps p 1 (take i walks) ++ tour_steps p n (walk_at walks i)) e)
