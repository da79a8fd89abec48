-- What holds at each place of a list that grows by a push, or changes by a write.
use Rattle.std.proofs.Common.{◌≡◌, ◌≢◌, ℕ, ◌+◌, ◌<◌, inl, inr, List, [], ◌∷◌, ◌++◌, length, get_or, set, sym, ap, ◌∙◌, subst, arith}
use Rattle.std.proofs.lemmas.List.{length_push, get_or_append_left, get_or-set_same, get_or-set_other, length-set}
use Rattle.std.proofs.Math.Seq.{get_or-append_seam}
use Rattle.std.proofs.lemmas.Bool.{cases_lt}

pub each_push : {X : Type 0} (P : ℕ → X → Type 0) (xs ys : List X) (x d : X) (n : ℕ) → ys ≡ xs ++ x ∷ [] → length xs ≡ n → ((k : ℕ) → k < n → P k (get_or xs k d)) → P n x → (k : ℕ) → k < n + 1 → P k (get_or ys k d)
each_push P xs ys x d n pushed long each here k below =
    subst (λ zs. P k (get_or zs k d)) (sym pushed)
    (
    elim (cases_lt k n) [
      | inl before ↦ subst (P k) (sym (get_or_append_left xs (x ∷ []) d k (let in_range : k < length xs = omega arith in in_range))) (each k before)
      | inr after ↦
          let at : k ≡ n = omega arith in
          let seam : get_or (xs ++ x ∷ []) n d ≡ x = subst (λ i. get_or (xs ++ x ∷ []) i d ≡ x) long (get_or-append_seam xs x [] d) in
          subst (λ i. P i (get_or (xs ++ x ∷ []) i d)) (sym at) (subst (P n) (sym seam) here)
    ]
    )

pub long_push : {X : Type 0} (xs ys : List X) (x : X) (n : ℕ) → ys ≡ xs ++ x ∷ [] → length xs ≡ n → length ys ≡ n + 1
long_push xs ys x n pushed long = omega (arith, ap length pushed, length_push xs x)

-- after two writes
pub at_later : {X : Type 0} (xs : List X) (i j : ℕ) (a b d : X) → j < length xs → get_or (set (set xs i a) j b) j d ≡ b
at_later xs i j a b d below = get_or-set_same (set xs i a) j b d (let long = length-set xs i a in omega arith)

pub at_earlier : {X : Type 0} (xs : List X) (i j : ℕ) (a b d : X) → i ≢ j → i < length xs → get_or (set (set xs i a) j b) i d ≡ a
at_earlier xs i j a b d apart below = get_or-set_other (set xs i a) j i b d apart ∙ get_or-set_same xs i a d below

pub elsewhere : {X : Type 0} (xs : List X) (i j k : ℕ) (a b d : X) → k ≢ i → k ≢ j → get_or (set (set xs i a) j b) k d ≡ get_or xs k d
elsewhere xs i j k a b d not_i not_j = get_or-set_other (set xs i a) j k b d not_j ∙ get_or-set_other xs i k a d not_i

pub as_long : {X : Type 0} (xs : List X) (i j : ℕ) (a b : X) → length (set (set xs i a) j b) ≡ length xs
as_long xs i j a b = length-set (set xs i a) j b ∙ length-set xs i a
