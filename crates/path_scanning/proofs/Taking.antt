-- Tasks that were taken one after another.
use Rattle.std.proofs.Common.{◌≡◌, ℕ, zero, suc, ◌+◌, ◌-◌, ◌≤◌, Bool, true, false, not, cond, List, [], ◌∷◌, ◌++◌, length, get_or, refl, sym, ap, ◌∙◌, arith, subst}
use Rattle.std.proofs.Math.ListN.{set, length-set}
use Rattle.std.specs.List.{sum_by, AllByRecursion}
use Rattle.std.proofs.lemmas.List.Sums.{sum_by-set}
use Rattle.carp_base.specs.declared.edge.Task.{Task}
use Rattle.carp_base.specs.Problem.{Problem, edge_at, head_of}
use Rattle.path_scanning.specs.declared.rule.Rule.{Rule}
use Rattle.path_scanning.specs.Scans.{ScanMoment, FitsNext, IsNextTask, TakesNext, moment_after, served_after, is_served, with_served}
use Rattle.path_scanning.specs.Choosing.{TasksTaken, open_count}

-- one more
pub taken_more : (p : Problem) (rule : Rule) (m end : ScanMoment) (ts : List Task) (t : Task) → TasksTaken p rule m ts end → IsNextTask p rule end t → TasksTaken p rule m (ts ++ t ∷ []) (moment_after p end t)
taken_more p rule m end [] t taken next = (subst (λ y. IsNextTask p rule y t) (sym taken) next, ap (λ y. moment_after p y t) taken)
taken_more p rule m end (u ∷ ts) t taken next = (taken.0, taken_more p rule (moment_after p m u) end ts t taken.1 next)

-- where nothing fits, they are the whole tour
pub taken_whole : (p : Problem) (rule : Rule) (m end : ScanMoment) (ts : List Task) → TasksTaken p rule m ts end → ((e : ℕ) → FitsNext p end e → ⊥) → TakesNext p rule m ts
taken_whole p rule m end [] taken none = subst (λ y. (e : ℕ) → FitsNext p y e → ⊥) (sym taken) none
taken_whole p rule m end (t ∷ ts) taken none = (taken.0, taken_whole p rule (moment_after p m t) end ts taken.1 none)

pub taken_served : (p : Problem) (rule : Rule) (m end : ScanMoment) (ts : List Task) → TasksTaken p rule m ts end → end.served ≡ served_after m.served ts
taken_served p rule m end [] taken = ap (λ (y : ScanMoment). y.served) (sym taken)
taken_served p rule m end (t ∷ ts) taken = taken_served p rule (moment_after p m t) end ts taken.1

-- one edge more is served
pub fewer_open : (served : List Bool) (e : ℕ) → 1 ≤ e → e ≤ length served → is_served served e ≡ false → open_count (with_served served e) + 1 ≡ open_count served
fewer_open served zero from_one in_range unserved = absurd (omega arith)
fewer_open served (suc k) from_one in_range unserved =
    let bit : Bool → ℕ = λ b. cond (not b) 1 0 in
    let changes : sum_by bit (set served k true) + bit (get_or served k false) ≡ sum_by bit served + bit true = sum_by-set bit served k true false (omega arith) in
    let was_open : bit (get_or served k false) ≡ 1 = ap bit unserved in
    omega (arith, changes, was_open)

pub with_served_long : (served : List Bool) (e : ℕ) → length (with_served served e) ≡ length served
with_served_long served zero = refl
with_served_long served (suc k) = length-set served k true

-- by places from 0
pub flag_is : (served : List Bool) (e : ℕ) → 1 ≤ e → get_or served (e - 1) false ≡ is_served served e
flag_is served zero from_one = absurd (omega arith)
flag_is served (suc k) from_one = ap (λ i. get_or served i false) (let place : suc k - 1 ≡ k = omega arith in place)

pub mark_is : (served : List Bool) (e : ℕ) → 1 ≤ e → set served (e - 1) true ≡ with_served served e
mark_is served zero from_one = absurd (omega arith)
mark_is served (suc k) from_one = ap (λ i. set served i true) (let place : suc k - 1 ≡ k = omega arith in place)

pub all_more : {X : Type 0} (P : X → Type 0) (xs : List X) (x : X) → AllByRecursion P xs → P x → AllByRecursion P (xs ++ x ∷ [])
all_more P [] x all here = (here, tt)
all_more P (y ∷ xs) x all here = (all.0, all_more P xs x all.1 here)

moment : List Bool → ℕ → ℕ → ScanMoment
moment served at load = record { served = served; at = at; load = load }

-- the next moment, by its parts
pub moment_is : (p : Problem) (m : ScanMoment) (t : Task) (served : List Bool) (at load : ℕ) → served ≡ with_served m.served t.edge → at ≡ head_of (edge_at p t.edge) t.forward → load ≡ m.load + (edge_at p t.edge).demand →
    record { served = served; at = at; load = load } ≡ moment_after p m t
unfolding moment
moment_is p m t served at load served_is at_is load_is =
    ap (λ y. moment y at load) served_is ∙ ap (λ n. moment (with_served m.served t.edge) n load) at_is
    ∙ ap (moment (with_served m.served t.edge) (head_of (edge_at p t.edge) t.forward)) load_is
