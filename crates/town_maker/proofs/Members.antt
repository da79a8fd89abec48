-- What stands in lists that are made of lists, and what holds of all that stands there.
use Rattle.std.proofs.Common.{◌≡◌, inl, inr, ℕ, zero, suc, ◌<◌, ◌≤◌, Bool, true, false, List, [], ◌∷◌, ◌++◌, map, length, filter, cond, slice_index_or, refl, sym, ap, subst, arith}
use Rattle.std.proofs.lemmas.Bool.{cases_eq}
use Rattle.std.specs.List.{flat_map, AllByRecursion}
use Rattle.std.specs.Prelude.{◌⊎◌}
use Rattle.town_maker.specs.Streets.{numbers_below}

-- x is on the list
abbrev pub Among : {X : Type 0} → X → List X → Type 0
Among x [] = ⊥
Among x (y ∷ ys) = (x ≡ y) ⊎ Among x ys

pub among_left : {X : Type 0} (x : X) (xs ys : List X) → Among x xs → Among x (xs ++ ys)
among_left x [] ys at = absurd at
among_left x (z ∷ zs) ys (inl e) = inl e
among_left x (z ∷ zs) ys (inr at) = inr (among_left x zs ys at)

pub among_right : {X : Type 0} (x : X) (xs ys : List X) → Among x ys → Among x (xs ++ ys)
among_right x [] ys at = at
among_right x (z ∷ zs) ys at = inr (among_right x zs ys at)

pub among_map : {X Y : Type 0} (f : X → Y) (x : X) (xs : List X) → Among x xs → Among (f x) (map f xs)
among_map f x [] at = absurd at
among_map f x (z ∷ zs) (inl e) = inl (ap f e)
among_map f x (z ∷ zs) (inr at) = inr (among_map f x zs at)

pub among_flat : {X Y : Type 0} (f : X → List Y) (x : X) (y : Y) (xs : List X) → Among x xs → Among y (f x) → Among y (flat_map f xs)
among_flat f x y [] at there = absurd at
among_flat f x y (z ∷ zs) (inl e) there = among_left y (f z) (flat_map f zs) (subst (λ w. Among y (f w)) e there)
among_flat f x y (z ∷ zs) (inr at) there = among_right y (f z) (flat_map f zs) (among_flat f x y zs at there)

pub among_below : (n k : ℕ) → k < n → Among k (numbers_below n)
among_below zero k below = absurd (omega arith)
among_below (suc n) k below = elim (cases_eq k n) [
  | inl e ↦ among_right k (numbers_below n) (n ∷ []) (inl e)
  | inr other ↦ among_left k (numbers_below n) (n ∷ []) (among_below n k (omega (arith, other)))
]

among_cond : {X : Type 0} (b : Bool) (x z : X) (ys : List X) → Among x ys → Among x (cond b (z ∷ ys) ys)
among_cond true x z ys at = inr at
among_cond false x z ys at = at

pub among_filter : {X : Type 0} (test : X → Bool) (x : X) (xs : List X) → Among x xs → test x ≡ true → Among x (filter test xs)
among_filter test x [] at passes = absurd at
among_filter test x (z ∷ zs) (inl e) passes = let t : test z ≡ true = subst (λ w. test w ≡ true) e passes in rw t (inl e)
among_filter test x (z ∷ zs) (inr at) passes = among_cond (test z) x z (filter test zs) (among_filter test x zs at passes)

-- where it stands
pub place_of : {X : Type 0} (x : X) (xs : List X) → Among x xs → (k : ℕ) × (k < length xs) × ((d : X) → slice_index_or xs k d ≡ x)
place_of x [] at = absurd at
place_of x (z ∷ zs) (inl e) = (0, omega arith, λ d. sym e)
place_of x (z ∷ zs) (inr at) = let t = place_of x zs at in (suc t.0, omega (arith, t.1), t.2)

pub all_append : {X : Type 0} (P : X → Type 0) (xs ys : List X) → AllByRecursion P xs → AllByRecursion P ys → AllByRecursion P (xs ++ ys)
all_append P [] ys all more = more
all_append P (x ∷ xs) ys all more = (all.0, all_append P xs ys all.1 more)

pub all_map : {X Y : Type 0} (P : X → Type 0) (Q : Y → Type 0) (f : X → Y) (xs : List X) → ((x : X) → P x → Q (f x)) → AllByRecursion P xs → AllByRecursion Q (map f xs)
all_map P Q f [] step all = tt
all_map P Q f (x ∷ xs) step all = (step x all.0, all_map P Q f xs step all.1)

pub all_flat : {X Y : Type 0} (P : X → Type 0) (Q : Y → Type 0) (f : X → List Y) (xs : List X) → ((x : X) → P x → AllByRecursion Q (f x)) → AllByRecursion P xs →
    AllByRecursion Q (flat_map f xs)
all_flat P Q f [] step all = tt
all_flat P Q f (x ∷ xs) step all = all_append Q (f x) (flat_map f xs) (step x all.0) (all_flat P Q f xs step all.1)

pub all_below : (m n : ℕ) → n ≤ m → AllByRecursion (λ k. k < m) (numbers_below n)
all_below m zero within = tt
all_below m (suc n) within = all_append (λ k. k < m) (numbers_below n) (n ∷ []) (all_below m n (omega arith)) (omega arith, tt)

all_cond : {X : Type 0} (P : X → Type 0) (b : Bool) (z : X) (ys : List X) → (b ≡ true → P z) → AllByRecursion P ys → AllByRecursion P (cond b (z ∷ ys) ys)
all_cond P true z ys here all = (here refl, all)
all_cond P false z ys here all = all

pub all_filter : {X : Type 0} (P : X → Type 0) (test : X → Bool) (xs : List X) → AllByRecursion P xs → AllByRecursion (λ x. P x × (test x ≡ true)) (filter test xs)
all_filter P test [] all = tt
all_filter P test (x ∷ xs) all = all_cond (λ y. P y × (test y ≡ true)) (test x) x (filter test xs) (λ passes. (all.0, passes)) (all_filter P test xs all.1)

pub all_at : {X : Type 0} (P : X → Type 0) (xs : List X) (k : ℕ) (d : X) → AllByRecursion P xs → k < length xs → P (slice_index_or xs k d)
all_at P [] k d all below = absurd (omega arith)
all_at P (x ∷ xs) zero d all below = all.0
all_at P (x ∷ xs) (suc k) d all below = all_at P xs k d all.1 (omega arith)
