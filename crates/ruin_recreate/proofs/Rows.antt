-- Links that come to a row, and rows that come to a table.
use Rattle.std.proofs.Common.{◌≡◌, ℕ, ◌+◌, ◌-◌, ◌*◌, ◌/◌, ◌<◌, ◌≤◌, List, [], ◌∷◌, ◌++◌, length, get_or, sym, ap, ◌∙◌, arith, subst, append_assoc, inl, inr}
use Rattle.std.proofs.lemmas.List.{length-append, length_push, get_or_append_left, get_or-append_right, get_or_push}
use Rattle.std.proofs.lemmas.List.Elements.{All-push, All-append}
use Rattle.std.proofs.lemmas.Bool.{cases_lt}
use Rattle.std.proofs.lemmas.Nat.{row_fits}
use Rattle.carp_base.specs.Problem.{Problem, edge_at}
use Rattle.ruin_recreate.specs.declared.board.Board.{Board}
use Rattle.ruin_recreate.specs.Boards.{IsBoardOf, edge_of, other_way}
use Rattle.ruin_recreate.specs.Tables.{IsLink, IsRow, AddsLinks, AddsRow, AreRows, AreLinks, AreDemands, AreTurns}

-- one more link of a row
row_more : (p : Problem) (x y : ℕ) (row : List ℕ) (n : ℕ) → IsRow p x y row → IsLink p x y n → n ≤ 999000000 → IsRow p x (y + 1) (row ++ n ∷ [])
row_more p x y row n is link near = record {
  long = omega (arith, is.long, length_push row n);
  links = λ z before. elim (cases_lt z y) [
    | inl earlier ↦ subst (IsLink p x z) (sym (get_or_append_left row (n ∷ []) 0 z (omega (arith, is.long)))) (is.links z earlier)
    | inr here ↦ let same : z ≡ y = omega arith in
        subst (IsLink p x z) (sym (get_or_push row n 0 z (is.long ∙ sym same))) (subst (λ k. IsLink p x k n) (sym same) link)
  ];
  near = All-push (λ k. k ≤ 999000000) row n is.near near;
}

pub links_more : (p : Problem) (x y : ℕ) (before after next : List ℕ) (n : ℕ) → AddsLinks p x y before after → IsLink p x y n → n ≤ 999000000 → next ≡ after ++ n ∷ [] → AddsLinks p x (y + 1) before next
links_more p x y before after next n adds link near is = record {
  row = adds.row ++ n ∷ [];
  is = row_more p x y adds.row n adds.is link near;
  added = is ∙ ap (λ xs. xs ++ n ∷ []) adds.added ∙ append_assoc before adds.row (n ∷ []);
}

-- one more row of a table
pub rows_more : (p : Problem) (x : ℕ) (before after : List ℕ) → AreRows p (2 * p.required + 2) x before → AddsRow p x before after → AreRows p (2 * p.required + 2) (x + 1) after
rows_more p x before after rows adds = subst (AreRows p (2 * p.required + 2) (x + 1)) (sym adds.added) (more (2 * p.required + 2) adds.row rows adds.is)
  where
    more : (width : ℕ) (row : List ℕ) → AreRows p width x before → IsRow p x width row → AreRows p width (x + 1) (before ++ row)
    more width row rows is = record {
      long = omega (arith, rows.long, is.long, length-append before row);
      links = λ z y z_in y_in. elim (cases_lt z x) [
        | inl earlier ↦ let place : z * width + y < length before = omega (arith, rows.long, row_fits z width x width earlier (omega arith)) in
            subst (IsLink p z y) (sym (get_or_append_left before row 0 (z * width + y) place)) (rows.links z y earlier y_in)
        | inr here ↦ let same : z ≡ x = omega arith in
            let place : z * width + y ≡ x * width + y = ap (λ k. k * width + y) same in
            let inner : z * width + y - x * width ≡ y = omega arith in
            subst (IsLink p z y) (sym (get_or-append_right before row (x * width) (z * width + y) 0 rows.long (omega arith) ∙ ap (λ k. get_or row k 0) inner)) (subst (λ k. IsLink p k y (get_or row y 0)) (sym same) (is.links y y_in))
      ];
      near = All-append (λ k. k ≤ 999000000) before row rows.near is.near;
    }

-- one more number of a list that has what a function gives for each place
place_more : (f : ℕ → ℕ) (xs : List ℕ) (n v : ℕ) → length xs ≡ n → ((x : ℕ) → x < n → get_or xs x 0 ≡ f x) → v ≡ f n → (x : ℕ) → x < n + 1 → get_or (xs ++ v ∷ []) x 0 ≡ f x
place_more f xs n v long each is x before = elim (cases_lt x n) [
  | inl earlier ↦ get_or_append_left xs (v ∷ []) 0 x (omega (arith, long)) ∙ each x earlier
  | inr here ↦ let same : x ≡ n = omega arith in get_or_push xs v 0 x (long ∙ sym same) ∙ is ∙ ap f (sym same)
]

pub demands_more : (p : Problem) (n v : ℕ) (xs next : List ℕ) → AreDemands p n xs → v ≡ (edge_at p (edge_of n)).demand → v ≤ 30000 → next ≡ xs ++ v ∷ [] → AreDemands p (n + 1) next
demands_more p n v xs next are value light is = subst (AreDemands p (n + 1)) (sym is) (record {
  long = omega (arith, are.long, length_push xs v);
  each = place_more (λ x. (edge_at p (edge_of x)).demand) xs n v are.long are.each value;
  light = All-push (λ k. k ≤ 30000) xs v are.light light;
})

pub turns_more : (r n v : ℕ) (xs next : List ℕ) → AreTurns (2 * r + 2) n xs → n < 2 * r + 2 → v ≡ other_way n → v / 2 ≡ n / 2 → next ≡ xs ++ v ∷ [] → AreTurns (2 * r + 2) (n + 1) next
turns_more r n v xs next are within value same is = subst (AreTurns (2 * r + 2) (n + 1)) (sym is) (record {
  long = omega (arith, are.long, length_push xs v);
  each = place_more other_way xs n v are.long are.each value;
  within = All-push (λ k. k < 2 * r + 2) xs v are.within (omega (arith, same, within));
})

-- the tables as a board
pub board_is : (p : Problem) (b : Board) → b.width ≡ 2 * p.required + 2 → b.room ≡ p.capacity → AreLinks p (2 * p.required + 2) b.links.items → AreDemands p (2 * p.required + 2) b.demands.items →
    AreTurns (2 * p.required + 2) (2 * p.required + 2) b.turns.items → IsBoardOf p b
board_is p b width room links demands turns = record {
  width = width;
  links = λ x y x_in y_in. rw width (links.links x y (omega arith) (omega arith));
  demands = λ x x_in. demands.each x (omega arith);
  turns = λ x x_in. turns.each x (omega arith);
  room = room;
}
