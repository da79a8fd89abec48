-- A sequence without one of two depots that stand side by side.
use Rattle.std.proofs.Common.{◌≡◌, ◌≢◌, ℕ, zero, suc, ◌+◌, ◌-◌, ◌<◌, ◌≤◌, Bool, true, ◌&&◌, List, [], ◌∷◌, length, get_or, refl, sym, ap, ◌∙◌, inl, inr, arith, leb}
use Rattle.std.specs.Prelude.{IsTrue}
use Rattle.std.specs.List.{remove}
use Rattle.std.proofs.lemmas.Bool.{cases_lt}
use Rattle.std.proofs.lemmas.List.Edits.{length-remove, get_or-remove_below, get_or-remove_above}
use Rattle.ruin_recreate.specs.declared.board.Board.{Board}
use Rattle.ruin_recreate.specs.Boards.{demand_of, link}
use Rattle.local_moves.specs.Sequences.{IsNoDearer, IsSequence, fits_from, links_of}
use Rattle.local_moves.proofs.Kept.{all_remove, remove_depot}
use Rattle.local_moves.proofs.Rooms.{both, over_service}

close_links : (b : Board) (xs : List ℕ) (j : ℕ) → suc j < length xs → get_or xs j 0 ≡ 0 → get_or xs (suc j) 0 ≡ 0 → links_of b (remove xs (suc j)) ≤ links_of b xs
close_links b [] j short first second = absurd (omega (arith, short))
close_links b (p ∷ []) j short first second = absurd (omega (arith, short))
close_links b (p ∷ (x ∷ [])) zero short first second = omega arith
close_links b (p ∷ (x ∷ (n ∷ rest))) zero short first second = omega (arith, ap (λ z. link b z n) (first ∙ sym second))
close_links b (p ∷ (x ∷ rest)) (suc j) short first second = omega (arith, close_links b (x ∷ rest) j (omega (arith, short)) first second)

joined : (p q : Bool) → p ≡ true → q ≡ true → (p && q) ≡ true
joined p q first second = ap (λ c. c && q) first ∙ second

close_fits : (b : Board) (load : ℕ) (xs : List ℕ) (j : ℕ) → suc j < length xs → get_or xs j 0 ≡ 0 → get_or xs (suc j) 0 ≡ 0 →
    fits_from b load xs ≡ true → fits_from b load (remove xs (suc j)) ≡ true
close_fits b load [] j short first second fit = absurd (omega (arith, short))
close_fits b load (p ∷ []) j short first second fit = absurd (omega (arith, short))
close_fits b load (zero ∷ (zero ∷ rest)) zero short first second fit =
    let outer = both (leb load b.room) (leb 0 b.room && fits_from b 0 rest) fit in
    joined (leb load b.room) (fits_from b 0 rest) outer.0 (both (leb 0 b.room) (fits_from b 0 rest) outer.1).1
close_fits b load (suc p ∷ (x ∷ rest)) zero short first second fit = absurd (omega (arith, first))
close_fits b load (zero ∷ (suc x ∷ rest)) zero short first second fit = absurd (omega (arith, second))
close_fits b load (zero ∷ (x ∷ rest)) (suc j) short first second fit =
    let outer = both (leb load b.room) (fits_from b 0 (x ∷ rest)) fit in
    joined (leb load b.room) (fits_from b 0 (remove (x ∷ rest) (suc j))) outer.0 (close_fits b 0 (x ∷ rest) j (omega (arith, short)) first second outer.1)
close_fits b load (suc p ∷ (x ∷ rest)) (suc j) short first second fit =
    over_service b load (suc p) (remove (x ∷ rest) (suc j)) (omega arith)
    ∙ close_fits b (load + demand_of b (suc p)) (x ∷ rest) j (omega (arith, short)) first second (sym (over_service b load (suc p) (x ∷ rest) (omega arith)) ∙ fit)

close_last : (xs : List ℕ) (j : ℕ) → suc j < length xs → get_or xs j 0 ≡ 0 → get_or xs (length xs - 1) 0 ≡ 0 → get_or (remove xs (suc j)) (length (remove xs (suc j)) - 1) 0 ≡ 0
close_last xs j short first last =
    let long = length-remove xs (suc j) short in
    elim (cases_lt (suc (suc j)) (length xs)) [
      | inl inner ↦
          let place : (length (remove xs (suc j)) - 1) + 1 ≡ length xs - 1 = omega (arith, long, inner) in
          get_or-remove_above xs (suc j) 0 (length (remove xs (suc j)) - 1) (omega (arith, long, inner)) short ∙ ap (λ i. get_or xs i 0) place ∙ last
      | inr outer ↦
          let place : length (remove xs (suc j)) - 1 ≡ j = omega (arith, long, outer, short) in
          ap (λ i. get_or (remove xs (suc j)) i 0) place ∙ get_or-remove_below xs (suc j) 0 j (omega arith) short ∙ first
    ]

close_at : (b : Board) (before xs : List ℕ) (j : ℕ) → suc j < length xs → get_or xs j 0 ≡ 0 → get_or xs (suc j) 0 ≡ 0 → IsNoDearer b before xs → IsNoDearer b before (remove xs (suc j))
close_at b before xs j short first second own = record {
  sequence = record {
    some = omega (arith, length-remove xs (suc j) short, short);
    within = all_remove (λ x. x < b.width) xs (suc j) own.sequence.within;
    real = all_remove (λ x. x ≢ 1) xs (suc j) own.sequence.real;
    first = get_or-remove_below xs (suc j) 0 0 (omega arith) short ∙ own.sequence.first;
    last = close_last xs j short first own.sequence.last;
  };
  loads = close_fits b 0 xs j short first second own.loads;
  cost = omega (arith, close_links b xs j short first second, own.cost);
  services = λ g none. remove_depot xs (suc j) short second g none ∙ own.services g none;
}

pub close_one : (b : Board) (before xs : List ℕ) (at : ℕ) → 1 ≤ at → at < length xs → get_or xs (at - 1) 0 ≡ 0 → get_or xs at 0 ≡ 0 → IsNoDearer b before xs → IsNoDearer b before (remove xs at)
close_one b before xs zero one short first second own = absurd (omega (arith, one))
close_one b before xs (suc j) one short first second own =
    let place : j ≡ suc j - 1 = omega arith in
    close_at b before xs j short (ap (λ i. get_or xs i 0) place ∙ first) second own

pub start : (b : Board) (xs : List ℕ) → IsSequence b xs → IsTrue (fits_from b 0 xs) → IsNoDearer b xs xs
start b xs sequence fit = record { sequence = sequence; loads = fit; cost = omega arith; services = λ g none. refl }

-- no two of the stops up to a place are depots that stand side by side
abbrev pub ClosedBelow : List ℕ → ℕ → Type 0
ClosedBelow xs at = (k : ℕ) → k + 1 < length xs → k + 1 < at → get_or xs k 0 ≡ 0 → get_or xs (k + 1) 0 ≡ 0 → ⊥

pub closed_removed : (xs : List ℕ) (at : ℕ) → at < length xs → ClosedBelow xs at → ClosedBelow (remove xs at) at
closed_removed xs at short closed k within below first second =
    closed k (omega (arith, below, short)) below (sym (get_or-remove_below xs at 0 k (omega (arith, below)) short) ∙ first) (sym (get_or-remove_below xs at 0 (k + 1) below short) ∙ second)

pub closed_next : (xs : List ℕ) (at : ℕ) → 1 ≤ at → ClosedBelow xs at → (get_or xs (at - 1) 0 ≡ 0 → get_or xs at 0 ≡ 0 → ⊥) → ClosedBelow xs (at + 1)
closed_next xs at one closed here k within below first second = elim (cases_lt (k + 1) at) [
  | inl earlier ↦ closed k within earlier first second
  | inr not_earlier ↦
      let same : k + 1 ≡ at = omega (arith, below, not_earlier) in
      let before : k ≡ at - 1 = omega (arith, same) in
      here (ap (λ i. get_or xs i 0) (sym before) ∙ first) (ap (λ i. get_or xs i 0) (sym same) ∙ second)
]
