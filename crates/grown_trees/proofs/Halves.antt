-- Places of a list that is one element, and then two lists: in the first of these lists, or in the second.
use Rattle.std.proofs.Common.{◌≡◌, ℕ, suc, ◌+◌, ◌-◌, ◌≤◌, ◌<◌, List, [], ◌∷◌, ◌++◌, length, take, drop, sym, ap, ◌∙◌, arith, append_assoc}
use Rattle.std.proofs.lemmas.List.{take-append-le, drop-append-le}

pub take_past : {X : Type 0} (xs ys : List X) (j : ℕ) → take (length xs + j) (xs ++ ys) ≡ xs ++ take j ys
take_past [] ys j = let same : 0 + j ≡ j = omega arith in ap (λ n. take n ys) same
take_past (x ∷ xs) ys j =
    let more : length (x ∷ xs) + j ≡ suc (length xs + j) = omega arith in
    ap (λ n. take n (x ∷ (xs ++ ys))) more ∙ ap (λ zs. x ∷ zs) (take_past xs ys j)

pub drop_past : {X : Type 0} (xs ys : List X) (j : ℕ) → drop (length xs + j) (xs ++ ys) ≡ drop j ys
drop_past [] ys j = let same : 0 + j ≡ j = omega arith in ap (λ n. drop n ys) same
drop_past (x ∷ xs) ys j =
    let more : length (x ∷ xs) + j ≡ suc (length xs + j) = omega arith in
    ap (λ n. drop n (x ∷ (xs ++ ys))) more ∙ drop_past xs ys j

module _ {X : Type 0} (x : X) (ts us : List X) (n : ℕ) (long : length ts ≡ n) (k : ℕ) where
  pub take_first : k < n → take (suc k) (x ∷ (ts ++ us)) ≡ x ∷ take k ts
  take_first less = ap (λ zs. x ∷ zs) (take-append-le k ts us (omega (arith, long, less)))

  pub drop_first : k < n → drop (suc k + 1) (x ∷ (ts ++ us)) ≡ drop (k + 1) ts ++ us
  drop_first less =
      let more : suc k + 1 ≡ suc (k + 1) = omega arith in
      ap (λ m. drop m (x ∷ (ts ++ us))) more ∙ drop-append-le (k + 1) ts us (omega (arith, long, less))

  pub take_second : n ≤ k → take (suc k) (x ∷ (ts ++ us)) ≡ x ∷ (ts ++ take (k - n) us)
  take_second past =
      let place : k ≡ length ts + (k - n) = omega (arith, long, past) in
      ap (λ zs. x ∷ zs) (ap (λ m. take m (ts ++ us)) place ∙ take_past ts us (k - n))

  pub drop_second : n ≤ k → drop (suc k + 1) (x ∷ (ts ++ us)) ≡ drop (k - n + 1) us
  drop_second past =
      let more : suc k + 1 ≡ suc (length ts + (k - n + 1)) = omega (arith, long, past) in
      ap (λ m. drop m (x ∷ (ts ++ us))) more ∙ drop_past ts us (k - n + 1)

  pub put_first : (ms : List X) → k < n →
      x ∷ ((take k ts ++ (ms ++ drop (k + 1) ts)) ++ us) ≡ take (suc k) (x ∷ (ts ++ us)) ++ (ms ++ drop (suc k + 1) (x ∷ (ts ++ us)))
  put_first ms less =
      ap (λ zs. x ∷ zs) (append_assoc (take k ts) (ms ++ drop (k + 1) ts) us ∙ ap (λ zs. take k ts ++ zs) (append_assoc ms (drop (k + 1) ts) us))
      ∙ ap (λ zs. zs ++ (ms ++ (drop (k + 1) ts ++ us))) (sym (take_first less))
      ∙ ap (λ zs. take (suc k) (x ∷ (ts ++ us)) ++ (ms ++ zs)) (sym (drop_first less))

  pub put_second : (ms : List X) → n ≤ k →
      x ∷ (ts ++ (take (k - n) us ++ (ms ++ drop (k - n + 1) us))) ≡ take (suc k) (x ∷ (ts ++ us)) ++ (ms ++ drop (suc k + 1) (x ∷ (ts ++ us)))
  put_second ms past =
      ap (λ zs. x ∷ zs) (sym (append_assoc ts (take (k - n) us) (ms ++ drop (k - n + 1) us)))
      ∙ ap (λ zs. zs ++ (ms ++ drop (k - n + 1) us)) (sym (take_second past))
      ∙ ap (λ zs. take (suc k) (x ∷ (ts ++ us)) ++ (ms ++ zs)) (sym (drop_second past))
