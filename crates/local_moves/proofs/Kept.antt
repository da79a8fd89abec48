-- What the changes of a sequence keep: that it is one, and its services.
use Rattle.std.proofs.Common.{◌≡◌, ◌≢◌, ℕ, suc, ◌+◌, ◌-◌, ◌<◌, ◌≤◌, List, [], ◌∷◌, ◌++◌, length, get_or, set, take, drop, ap, ◌∙◌, arith}
use Rattle.std.specs.List.{All, insert, remove}
use Rattle.std.proofs.lemmas.List.{get_or-set_other, length-set, length-append, get_or_append_left, get_or-append-add}
use Rattle.std.proofs.lemmas.List.Elements.{All-append, All-take, All-drop, All-cons, All-nil, All-set}
use Rattle.std.proofs.lemmas.List.Edits.{length-insert, length-remove, get_or-insert_below, get_or-insert_above, get_or-remove_below, get_or-remove_above}
use Rattle.std.proofs.lemmas.List.Sums.{sum_by-set, sum_by-remove, sum_by-insert, sum_by-append}
use Rattle.ruin_recreate.specs.declared.board.Board.{Board}
use Rattle.ruin_recreate.specs.Boards.{edge_of}
use Rattle.local_moves.specs.Sequences.{IsSequence, KeepsServices}

pub all_remove : (P : ℕ → Type 0) (xs : List ℕ) (k : ℕ) → All P xs → All P (remove xs k)
all_remove P xs k all = All-append P (take k xs) (drop (suc k) xs) (All-take P k xs all) (All-drop P (suc k) xs all)

all_insert : (P : ℕ → Type 0) (xs : List ℕ) (k x : ℕ) → P x → All P xs → All P (insert xs k x)
all_insert P xs k x own all = All-append P (take k xs) (x ∷ drop k xs) (All-take P k xs all) (All-cons P x (drop k xs) own (All-drop P k xs all))

pub set_sequence : (b : Board) (xs : List ℕ) (k y : ℕ) → IsSequence b xs → 1 ≤ k → k + 1 < length xs → y < b.width → y ≢ 1 → IsSequence b (set xs k y)
set_sequence b xs k y sequence one short within real = record {
  some = omega (arith, length-set xs k y, short);
  within = All-set (λ x. x < b.width) xs k y within sequence.within;
  real = All-set (λ x. x ≢ 1) xs k y real sequence.real;
  first = get_or-set_other xs k 0 y 0 (λ same. omega (arith, same, one)) ∙ sequence.first;
  last = ap (λ n. get_or (set xs k y) (n - 1) 0) (length-set xs k y) ∙ get_or-set_other xs k (length xs - 1) y 0 (λ same. omega (arith, same, short)) ∙ sequence.last;
}

pub remove_sequence : (b : Board) (xs : List ℕ) (k : ℕ) → IsSequence b xs → 1 ≤ k → k + 1 < length xs → IsSequence b (remove xs k)
remove_sequence b xs k sequence one short =
    let long = length-remove xs k (omega (arith, short)) in
    let place : (length (remove xs k) - 1) + 1 ≡ length xs - 1 = omega (arith, long, short) in
    record {
      some = omega (arith, long, short);
      within = all_remove (λ x. x < b.width) xs k sequence.within;
      real = all_remove (λ x. x ≢ 1) xs k sequence.real;
      first = get_or-remove_below xs k 0 0 (omega (arith, one)) (omega (arith, short)) ∙ sequence.first;
      last = get_or-remove_above xs k 0 (length (remove xs k) - 1) (omega (arith, long, short)) (omega (arith, short)) ∙ ap (λ i. get_or xs i 0) place ∙ sequence.last;
    }

pub insert_sequence : (b : Board) (xs : List ℕ) (k x : ℕ) → IsSequence b xs → 1 ≤ k → k < length xs → x < b.width → x ≢ 1 → IsSequence b (insert xs k x)
insert_sequence b xs k x sequence one short within real =
    let long = length-insert xs k x (omega (arith, short)) in
    let place : length (insert xs k x) - 1 ≡ (length xs - 1) + 1 = omega (arith, long, short) in
    record {
      some = omega (arith, long);
      within = all_insert (λ y. y < b.width) xs k x within sequence.within;
      real = all_insert (λ y. y ≢ 1) xs k x real sequence.real;
      first = get_or-insert_below xs k x 0 0 (omega (arith, one)) (omega (arith, short)) ∙ sequence.first;
      last = ap (λ i. get_or (insert xs k x) i 0) place ∙ get_or-insert_above xs k x 0 (length xs - 1) (omega (arith, short)) (omega (arith, short)) ∙ sequence.last;
    }

two_stops : (P : ℕ → Type 0) (x : ℕ) → P x → P 0 → All P (x ∷ (0 ∷ []))
two_stops P x own end = All-cons P x (0 ∷ []) own (All-cons P 0 [] end (All-nil P))

pub open_sequence : (b : Board) (xs : List ℕ) (x : ℕ) → IsSequence b xs → x < b.width → x ≢ 1 → IsSequence b (xs ++ (x ∷ (0 ∷ [])))
open_sequence b xs x sequence within real =
    let long = length-append xs (x ∷ (0 ∷ [])) in
    let at_end : length (xs ++ (x ∷ (0 ∷ []))) - 1 ≡ length xs + 1 = omega (arith, long) in
    record {
      some = omega (arith, long);
      within = All-append (λ y. y < b.width) xs (x ∷ (0 ∷ [])) sequence.within (two_stops (λ y. y < b.width) x within (omega (arith, within)));
      real = All-append (λ y. y ≢ 1) xs (x ∷ (0 ∷ [])) sequence.real (two_stops (λ y. y ≢ 1) x real (λ same. omega (arith, same)));
      first = get_or_append_left xs (x ∷ (0 ∷ [])) 0 0 sequence.some ∙ sequence.first;
      last = ap (λ i. get_or (xs ++ (x ∷ (0 ∷ []))) i 0) at_end ∙ get_or-append-add xs (x ∷ (0 ∷ [])) 1 0;
    }

pub move_services : (xs : List ℕ) (from to x : ℕ) → from < length xs → edge_of x ≡ edge_of (get_or xs from 0) → KeepsServices xs (insert (remove xs from) to x)
move_services xs from to x short same g none =
    omega (arith, sum_by-remove (λ x. g (edge_of x)) xs from 0 short, sum_by-insert (λ x. g (edge_of x)) (remove xs from) to x, ap g same)

pub open_services : (xs : List ℕ) (from x : ℕ) → from < length xs → edge_of x ≡ edge_of (get_or xs from 0) → KeepsServices xs (remove xs from ++ (x ∷ (0 ∷ [])))
open_services xs from x short same g none =
    omega (arith, sum_by-remove (λ x. g (edge_of x)) xs from 0 short, sum_by-append (λ x. g (edge_of x)) (remove xs from) (x ∷ (0 ∷ [])), ap g same, none)

pub swap_services : (xs : List ℕ) (f s : ℕ) → f < s → s < length xs → KeepsServices xs (set (set xs f (get_or xs s 0)) s (get_or xs f 0))
swap_services xs f s order short g none =
    let y = get_or xs s 0 in
    omega (
      arith,
      sum_by-set (λ x. g (edge_of x)) xs f y 0 (omega (arith, order, short)),
      sum_by-set (λ x. g (edge_of x)) (set xs f y) s (get_or xs f 0) 0 (omega (arith, short, length-set xs f y)),
      ap (λ x. g (edge_of x)) (get_or-set_other xs f s y 0 (λ same. omega (arith, same, order))),
    )

pub remove_depot : (xs : List ℕ) (k : ℕ) → k < length xs → get_or xs k 0 ≡ 0 → KeepsServices xs (remove xs k)
remove_depot xs k short is g none = omega (arith, sum_by-remove (λ x. g (edge_of x)) xs k 0 short, ap (λ x. g (edge_of x)) is, none)
