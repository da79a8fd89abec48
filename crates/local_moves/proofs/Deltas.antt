-- What a change of a sequence costs, from a few links.
use Rattle.std.proofs.Common.{◌≡◌, ℕ, zero, suc, ◌+◌, ◌-◌, ◌<◌, ◌≤◌, List, [], ◌∷◌, ◌++◌, length, get_or, set, refl, ap, ◌∙◌, arith, add-one}
use Rattle.std.specs.List.{insert, remove}
use Rattle.std.proofs.lemmas.List.{get_or-set_other, length-set}
use Rattle.std.proofs.lemmas.List.Edits.{length-remove, get_or-remove_above}
use Rattle.ruin_recreate.specs.declared.board.Board.{Board}
use Rattle.ruin_recreate.specs.Boards.{link}
use Rattle.local_moves.specs.Sequences.{links_of}

-- one stop is put in place of another
set_step : (b : Board) (xs : List ℕ) (j y : ℕ) → suc (suc j) < length xs →
    links_of b (set xs (suc j) y) + (link b (get_or xs j 0) (get_or xs (suc j) 0) + link b (get_or xs (suc j) 0) (get_or xs (suc (suc j)) 0))
    ≡ links_of b xs + (link b (get_or xs j 0) y + link b y (get_or xs (suc (suc j)) 0))
set_step b [] j y short = absurd (omega (arith, short))
set_step b (p ∷ []) j y short = absurd (omega (arith, short))
set_step b (p ∷ (x ∷ [])) zero y short = absurd (omega (arith, short))
set_step b (p ∷ (x ∷ (n ∷ rest))) zero y short = omega arith
set_step b (p ∷ (x ∷ rest)) (suc j) y short = omega (arith, set_step b (x ∷ rest) j y (omega (arith, short)))

-- one stop is taken out
remove_step : (b : Board) (xs : List ℕ) (j : ℕ) → suc (suc j) < length xs →
    links_of b (remove xs (suc j)) + (link b (get_or xs j 0) (get_or xs (suc j) 0) + link b (get_or xs (suc j) 0) (get_or xs (suc (suc j)) 0))
    ≡ links_of b xs + link b (get_or xs j 0) (get_or xs (suc (suc j)) 0)
remove_step b [] j short = absurd (omega (arith, short))
remove_step b (p ∷ []) j short = absurd (omega (arith, short))
remove_step b (p ∷ (x ∷ [])) zero short = absurd (omega (arith, short))
remove_step b (p ∷ (x ∷ (n ∷ rest))) zero short = omega arith
remove_step b (p ∷ (x ∷ rest)) (suc j) short = omega (arith, remove_step b (x ∷ rest) j (omega (arith, short)))

-- one stop is put between two
insert_step : (b : Board) (xs : List ℕ) (j x : ℕ) → suc j < length xs →
    links_of b (insert xs (suc j) x) + link b (get_or xs j 0) (get_or xs (suc j) 0)
    ≡ links_of b xs + (link b (get_or xs j 0) x + link b x (get_or xs (suc j) 0))
insert_step b [] j x short = absurd (omega (arith, short))
insert_step b (p ∷ []) j x short = absurd (omega (arith, short))
insert_step b (p ∷ (n ∷ rest)) zero x short = omega arith
insert_step b (p ∷ (n ∷ rest)) (suc j) x short = omega (arith, insert_step b (n ∷ rest) j x (omega (arith, short)))

-- two stops are put at the end
append_step : (b : Board) (xs : List ℕ) (j x y : ℕ) → suc j ≡ length xs →
    links_of b (xs ++ (x ∷ (y ∷ []))) ≡ links_of b xs + (link b (get_or xs j 0) x + link b x y)
append_step b [] j x y long = absurd (omega (arith, long))
append_step b (p ∷ []) zero x y long = omega arith
append_step b (p ∷ []) (suc j) x y long = absurd (omega (arith, long))
append_step b (p ∷ (n ∷ rest)) zero x y long = absurd (omega (arith, long))
append_step b (p ∷ (n ∷ rest)) (suc j) x y long = omega (arith, append_step b (n ∷ rest) j x y (omega (arith, long)))

pred : (j : ℕ) → suc j - 1 ≡ j
pred j = omega arith

pub set_delta : (b : Board) (xs : List ℕ) (k y : ℕ) → 1 ≤ k → k + 1 < length xs →
    links_of b (set xs k y) + (link b (get_or xs (k - 1) 0) (get_or xs k 0) + link b (get_or xs k 0) (get_or xs (k + 1) 0))
    ≡ links_of b xs + (link b (get_or xs (k - 1) 0) y + link b y (get_or xs (k + 1) 0))
set_delta b xs zero y one short = absurd (omega (arith, one))
set_delta b xs (suc j) y one short = rw (add-one, pred j) (set_step b xs j y (omega (arith, short)))

pub remove_delta : (b : Board) (xs : List ℕ) (k : ℕ) → 1 ≤ k → k + 1 < length xs →
    links_of b (remove xs k) + (link b (get_or xs (k - 1) 0) (get_or xs k 0) + link b (get_or xs k 0) (get_or xs (k + 1) 0))
    ≡ links_of b xs + link b (get_or xs (k - 1) 0) (get_or xs (k + 1) 0)
remove_delta b xs zero one short = absurd (omega (arith, one))
remove_delta b xs (suc j) one short = rw (add-one, pred j) (remove_step b xs j (omega (arith, short)))

pub insert_delta : (b : Board) (xs : List ℕ) (k x : ℕ) → 1 ≤ k → k < length xs →
    links_of b (insert xs k x) + link b (get_or xs (k - 1) 0) (get_or xs k 0)
    ≡ links_of b xs + (link b (get_or xs (k - 1) 0) x + link b x (get_or xs k 0))
insert_delta b xs zero x one short = absurd (omega (arith, one))
insert_delta b xs (suc j) x one short = rw (pred j) (insert_step b xs j x short)

pub append_delta : (b : Board) (xs : List ℕ) (x y : ℕ) → 1 ≤ length xs →
    links_of b (xs ++ (x ∷ (y ∷ []))) ≡ links_of b xs + (link b (get_or xs (length xs - 1) 0) x + link b x y)
append_delta b [] x y some = absurd (omega (arith, some))
append_delta b (p ∷ rest) x y some = rw (pred (length rest)) (append_step b (p ∷ rest) (length rest) x y refl)

pub alone_delta : (b : Board) (xs : List ℕ) (k x : ℕ) → 1 ≤ k → k + 1 < length xs →
    links_of b (remove xs k ++ (x ∷ (0 ∷ []))) + (link b (get_or xs (k - 1) 0) (get_or xs k 0) + link b (get_or xs k 0) (get_or xs (k + 1) 0))
    ≡ links_of b xs + (link b (get_or xs (k - 1) 0) (get_or xs (k + 1) 0) + (link b (get_or xs (length xs - 1) 0) x + link b x 0))
alone_delta b xs k x one short =
    let long = length-remove xs k (omega (arith, short)) in
    let place : (length (remove xs k) - 1) + 1 ≡ length xs - 1 = omega (arith, long, short) in
    let last : get_or (remove xs k) (length (remove xs k) - 1) 0 ≡ get_or xs (length xs - 1) 0 =
    get_or-remove_above xs k 0 (length (remove xs k) - 1) (omega (arith, long, short)) (omega (arith, short)) ∙ ap (λ i. get_or xs i 0) place in
    omega (arith, remove_delta b xs k one short, append_delta b (remove xs k) x 0 (omega (arith, long, short)), ap (λ z. link b z x) last)

pub swap_delta : (b : Board) (xs : List ℕ) (f s x y last : ℕ) → 1 ≤ f → f < s → s + 1 < length xs → get_or xs f 0 ≡ x → get_or xs s 0 ≡ y → get_or (set xs f y) (s - 1) 0 ≡ last →
    links_of b (set (set xs f y) s x) + ((link b (get_or xs (f - 1) 0) x + link b x (get_or xs (f + 1) 0)) + (link b last y + link b y (get_or xs (s + 1) 0)))
    ≡ links_of b xs + ((link b (get_or xs (f - 1) 0) y + link b y (get_or xs (f + 1) 0)) + (link b last x + link b x (get_or xs (s + 1) 0)))
swap_delta b xs f s x y last one order short is_x is_y is_last =
    let first = rw is_x at (set_delta b xs f y one (omega (arith, order, short))) in
    let own : get_or (set xs f y) s 0 ≡ y = get_or-set_other xs f s y 0 (λ same. omega (arith, same, order)) ∙ is_y in
    let after : get_or (set xs f y) (s + 1) 0 ≡ get_or xs (s + 1) 0 = get_or-set_other xs f (s + 1) y 0 (λ same. omega (arith, same, order)) in
    let second = rw (own, after, is_last) at (set_delta b (set xs f y) s x (omega (arith, one, order)) (omega (arith, short, length-set xs f y))) in
    omega (arith, first, second)
