-- A change that does not fit is known from the loads beside the places.
use Rattle.std.proofs.Common.{◌≡◌, ℕ, zero, suc, ◌+◌, ◌-◌, ◌<◌, ◌≤◌, Bool, true, false, cond, ◌&&◌, List, [], ◌∷◌, ◌++◌, length, get_or, set, take, drop, refl, sym, ap, ◌∙◌, subst, arith, leb, add-one}
use Rattle.std.specs.List.{insert}
use Rattle.std.proofs.lemmas.Bool.{ne_eqb, leb-true, false≢true}
use Rattle.std.proofs.lemmas.List.{take-append-drop, drop_more, take-set-le, drop-set-lt, drop-set-add, get_or-set_same, get_or-set_other, get_or-drop, length-set}
use Rattle.ruin_recreate.specs.declared.board.Board.{Board}
use Rattle.ruin_recreate.specs.Boards.{demand_of}
use Rattle.local_moves.specs.declared.loads.Loads.{Loads}
use Rattle.local_moves.specs.Sequences.{fits, fits_from}
use Rattle.local_moves.specs.Loads.{load_with, load_behind, load_ahead, AreLoads, AreApart}

pub both : (p q : Bool) → (p && q) ≡ true → (p ≡ true) × (q ≡ true)
both true q is = (refl, is)
both false q is = absurd (false≢true is)

-- a service is loaded beside the others
pub with_service : (b : Board) (load x : ℕ) → 1 ≤ x → load_with b load x ≡ load + demand_of b x
with_service b load x some = ap (λ c. cond c 0 (load + demand_of b x)) (ne_eqb x 0 (λ same. omega (arith, same, some)))

pub over_service : (b : Board) (load x : ℕ) (xs : List ℕ) → 1 ≤ x → fits_from b load (x ∷ xs) ≡ fits_from b (load + demand_of b x) xs
over_service b load x xs some =
    ap (λ c. cond c (leb load b.room && fits_from b 0 xs) (fits_from b (load + demand_of b x) xs)) (ne_eqb x 0 (λ same. omega (arith, same, some)))

ahead_fits : (b : Board) (load : ℕ) (xs : List ℕ) → fits_from b load xs ≡ true → load + load_ahead b xs ≤ b.room
ahead_fits b load [] is = omega (arith, leb-true load b.room is)
ahead_fits b load (zero ∷ xs) is = omega (arith, leb-true load b.room (both (leb load b.room) (fits_from b 0 xs) is).0)
ahead_fits b load (suc x ∷ xs) is =
    omega (
      arith,
      ahead_fits b (load + demand_of b (suc x)) xs (sym (over_service b load (suc x) xs (omega arith)) ∙ is),
      with_service b (load_ahead b xs) (suc x) (omega arith),
    )

-- where a sequence fits, a service fits beside the stops before it and after it
room_there : (b : Board) (load : ℕ) (left : List ℕ) (x : ℕ) (right : List ℕ) → fits_from b load (left ++ (x ∷ right)) ≡ true → 1 ≤ x →
    load_behind b load left + demand_of b x + load_ahead b right ≤ b.room
room_there b load [] x right is some = ahead_fits b (load + demand_of b x) right (sym (over_service b load x right some) ∙ is)
room_there b load (zero ∷ left) x right is some =
    room_there b 0 left x right (both (leb load b.room) (fits_from b 0 (left ++ (x ∷ right))) is).1 some
room_there b load (suc y ∷ left) x right is some =
    let other = with_service b load (suc y) (omega arith) in
    subst (λ n. load_behind b n left + demand_of b x + load_ahead b right ≤ b.room) (sym other)
    (room_there b (load + demand_of b (suc y)) left x right (sym (over_service b load (suc y) (left ++ (x ∷ right)) (omega arith)) ∙ is) some)

pub no_insert : (b : Board) (rest : List ℕ) (loads : Loads) (to x : ℕ) → AreLoads b rest loads → to < length rest → 1 ≤ x →
    (get_or loads.behind.items to 0 + demand_of b x + get_or loads.ahead.items to 0 ≤ b.room → ⊥) → fits b (insert rest to x) ≡ true → ⊥
no_insert b rest loads to x are short some full is =
    full (omega (
      arith,
      room_there b 0 (take to rest) x (drop to rest) is some,
      are.behind.each to (omega (arith, short)),
      are.ahead.each to (omega arith) (omega (arith, short)),
    ))

at_place : (b : Board) (zs : List ℕ) (k : ℕ) → fits b zs ≡ true → k < length zs → 1 ≤ get_or zs k 0 →
    load_behind b 0 (take k zs) + demand_of b (get_or zs k 0) + load_ahead b (drop (k + 1) zs) ≤ b.room
at_place b zs k is short some =
    let cut : zs ≡ take k zs ++ (get_or zs k 0 ∷ drop (k + 1) zs) = sym (take-append-drop k zs) ∙ ap (λ ys. take k zs ++ ys) (drop_more zs k 0 short) in
    room_there b 0 (take k zs) (get_or zs k 0) (drop (k + 1) zs) (ap (fits b) (sym cut) ∙ is) some

-- behind a depot the load is the same whatever stood before it
restarts : (b : Board) (m n : ℕ) (xs : List ℕ) (d s : ℕ) → d < s → d < length xs → get_or xs d 0 ≡ 0 → load_behind b m (take s xs) ≡ load_behind b n (take s xs)
restarts b m n [] d s order short is = absurd (omega (arith, short))
restarts b m n (x ∷ xs) d zero order short is = absurd (omega (arith, order))
restarts b m n (x ∷ xs) zero (suc s) order short is =
    let reset : (k : ℕ) → load_with b k x ≡ 0 = λ k. ap (λ y. load_with b k y) is in
    ap (λ k. load_behind b k (take s xs)) (reset m ∙ sym (reset n))
restarts b m n (x ∷ xs) (suc d) (suc s) order short is = restarts b (load_with b m x) (load_with b n x) xs d s (omega (arith, order)) (omega (arith, short)) is

behind_set : (b : Board) (n : ℕ) (xs : List ℕ) (f d s y : ℕ) → f < d → d < s → d < length xs → get_or xs d 0 ≡ 0 →
    load_behind b n (take s (set xs f y)) ≡ load_behind b n (take s xs)
behind_set b n [] f d s y first second short is = absurd (omega (arith, short))
behind_set b n (x ∷ xs) f d zero y first second short is = absurd (omega (arith, second))
behind_set b n (x ∷ xs) f zero (suc s) y first second short is = absurd (omega (arith, first))
behind_set b n (x ∷ xs) zero (suc d) (suc s) y first second short is = restarts b (load_with b n y) (load_with b n x) xs d s (omega (arith, second)) (omega (arith, short)) is
behind_set b n (x ∷ xs) (suc f) (suc d) (suc s) y first second short is =
    behind_set b (load_with b n x) xs f d s y (omega (arith, first)) (omega (arith, second)) (omega (arith, short)) is

ahead_set : (b : Board) (xs : List ℕ) (i j y : ℕ) → i < j → get_or xs i 0 ≡ 0 → load_ahead b (set xs j y) ≡ load_ahead b xs
ahead_set b [] i j y order is = refl
ahead_set b (x ∷ xs) i zero y order is = absurd (omega (arith, order))
ahead_set b (x ∷ xs) zero (suc j) y order is = ap (λ z. load_with b (load_ahead b (set xs j y)) z) is ∙ sym (ap (λ z. load_with b (load_ahead b xs) z) is)
ahead_set b (x ∷ xs) (suc i) (suc j) y order is = ap (λ n. load_with b n x) (ahead_set b xs i j y (omega (arith, order)) is)

-- a swap between two tours that fits: each service fits in the place of the other
pub swap_fits_first : (b : Board) (xs : List ℕ) (loads : Loads) (f s : ℕ) → AreLoads b xs loads → f < s → s < length xs → AreApart xs f s → 1 ≤ get_or xs s 0 →
    fits b (set (set xs f (get_or xs s 0)) s (get_or xs f 0)) ≡ true →
    get_or loads.behind.items f 0 + demand_of b (get_or xs s 0) + get_or loads.ahead.items (f + 1) 0 ≤ b.room
swap_fits_first b xs loads f s are order short apart some is =
    let x = get_or xs f 0 in
    let y = get_or xs s 0 in
    let zs = set (set xs f y) s x in
    let same : get_or zs f 0 ≡ y = get_or-set_other (set xs f y) s f x 0 (λ e. omega (arith, e, order)) ∙ get_or-set_same xs f y 0 (omega (arith, order, short)) in
    let front : take f zs ≡ take f xs = take-set-le f (set xs f y) s x (omega (arith, order)) ∙ take-set-le f xs f y (omega arith) in
    let j : (f + 1) + (s - (f + 1)) ≡ s = omega (arith, order) in
    let back : drop (f + 1) zs ≡ set (drop (f + 1) xs) (s - (f + 1)) x =
    sym (ap (λ k. drop (f + 1) (set (set xs f y) k x)) j) ∙ drop-set-add (f + 1) (set xs f y) (s - (f + 1)) x ∙ ap (λ ys. set ys (s - (f + 1)) x) (drop-set-lt (f + 1) xs f y (omega arith)) in
    let i : (f + 1) + (apart.place - (f + 1)) ≡ apart.place = omega (arith, apart.after_first) in
    let ahead : load_ahead b (drop (f + 1) zs) ≡ load_ahead b (drop (f + 1) xs) =
    ap (load_ahead b) back ∙ ahead_set b (drop (f + 1) xs) (apart.place - (f + 1)) (s - (f + 1)) x (omega (arith, apart.after_first, apart.before_second))
    (get_or-drop (f + 1) xs (apart.place - (f + 1)) 0 ∙ ap (λ k. get_or xs k 0) i ∙ apart.is_depot) in
    omega (
      arith,
      at_place b zs f is (omega (arith, length-set (set xs f y) s x, length-set xs f y, order, short)) (omega (arith, same, some)),
      ap (demand_of b) same,
      ap (load_behind b 0) front,
      ahead,
      are.behind.each f (omega (arith, order, short)),
      are.ahead.each (f + 1) (omega arith) (omega (arith, order, short)),
    )

pub swap_fits_second : (b : Board) (xs : List ℕ) (loads : Loads) (f s : ℕ) → AreLoads b xs loads → f < s → s < length xs → AreApart xs f s → 1 ≤ get_or xs f 0 →
    fits b (set (set xs f (get_or xs s 0)) s (get_or xs f 0)) ≡ true →
    get_or loads.behind.items s 0 + demand_of b (get_or xs f 0) + get_or loads.ahead.items (s + 1) 0 ≤ b.room
swap_fits_second b xs loads f s are order short apart some is =
    let x = get_or xs f 0 in
    let y = get_or xs s 0 in
    let zs = set (set xs f y) s x in
    let same : get_or zs s 0 ≡ x = get_or-set_same (set xs f y) s x 0 (omega (arith, length-set xs f y, short)) in
    let front : take s zs ≡ take s (set xs f y) = take-set-le s (set xs f y) s x (omega arith) in
    let back : drop (s + 1) zs ≡ drop (s + 1) xs = drop-set-lt (s + 1) (set xs f y) s x (omega arith) ∙ drop-set-lt (s + 1) xs f y (omega (arith, order)) in
    omega (
      arith,
      at_place b zs s is (omega (arith, length-set (set xs f y) s x, length-set xs f y, short)) (omega (arith, same, some)),
      ap (demand_of b) same,
      ap (load_behind b 0) front,
      behind_set b 0 xs f apart.place s y apart.after_first apart.before_second (omega (arith, apart.before_second, short)) apart.is_depot,
      ap (load_ahead b) back,
      are.behind.each s (omega (arith, short)),
      are.ahead.each (s + 1) (omega arith) (omega (arith, short)),
    )

-- one stop more
behind_more : (b : Board) (n : ℕ) (xs : List ℕ) (i : ℕ) → i < length xs → load_behind b n (take (suc i) xs) ≡ load_with b (load_behind b n (take i xs)) (get_or xs i 0)
behind_more b n [] i short = absurd (omega (arith, short))
behind_more b n (x ∷ xs) zero short = refl
behind_more b n (x ∷ xs) (suc i) short = behind_more b (load_with b n x) xs i (omega (arith, short))

with_more : (b : Board) (m n x : ℕ) → m ≤ n → load_with b m x ≤ load_with b n x
with_more b m n zero more = omega arith
with_more b m n (suc x) more = omega (arith, more, with_service b m (suc x) (omega arith), with_service b n (suc x) (omega arith))

pub counted_more : (b : Board) (xs : List ℕ) (i load next : ℕ) → i < length xs → load ≤ load_behind b 0 (take i xs) → next ≤ load_with b load (get_or xs i 0) → next ≤ load_behind b 0 (take (i + 1) xs)
counted_more b xs i load next short before step =
    rw add-one (omega (arith, step, with_more b load (load_behind b 0 (take i xs)) (get_or xs i 0) before, behind_more b 0 xs i short))
