-- One cost is written, in both orders.
use Rattle.std.proofs.Common.{◌≡◌, ◌≢◌, ℕ, ◌+◌, ◌*◌, ◌<◌, ◌≤◌, List, length, get_or, set, refl, sym, subst, ap, ◌∙◌, arith, inl, inr}
use Rattle.std.proofs.lemmas.Bool.{cases_eq}
use Rattle.std.proofs.lemmas.List.{get_or-set_same, get_or-set_other}
use Rattle.std.proofs.Math.ListN.{length-set}
use Rattle.blossom_match.specs.declared.costs.Costs.{Costs}
use Rattle.blossom_match.specs.declared.costs.TheConstants.{MAX_COST}
use Rattle.blossom_match.specs.Table.{cost, IsTable, IsWritten}
use Rattle.blossom_match.proofs.Cells.{cell_in, row_of_cell, column_of_cell}

small_set : (xs : List ℕ) (i k a most : ℕ) → i < length xs → a ≤ most → get_or xs k 0 ≤ most → get_or (set xs i a) k 0 ≤ most
small_set xs i k a most i_in small was = elim (cases_eq k i) [
  | inl same ↦ subst (λ x. get_or (set xs i a) x 0 ≤ most) (sym same) (subst (λ x. x ≤ most) (sym (get_or-set_same xs i a 0 i_in)) small)
  | inr other ↦ subst (λ x. x ≤ most) (sym (get_or-set_other xs i k a 0 other)) was
]

pub written : (before now : Costs) (u v x : ℕ) → IsTable before → u < before.size → v < before.size → u ≢ v → now.size ≡ before.size →
    now.cells.items ≡ set (set before.cells.items (u * before.size + v) x) (v * before.size + u) x → IsWritten before now u v x
written before now u v x table u_in v_in apart size is =
    let n = before.size in
    let cells = before.cells.items in
    let first = set before.cells.items (u * before.size + v) x in
    let one_in : u * n + v < length cells = omega (arith, cell_in n n u v u_in v_in, table.cells_len) in
    let other_in : v * n + u < length first = omega (arith, cell_in n n v u v_in u_in, table.cells_len, length-set cells (u * n + v) x) in
    let at : (a b : ℕ) → cost now a b ≡ get_or (set (set before.cells.items (u * before.size + v) x) (v * before.size + u) x) (a * before.size + b) 0 =
    λ a b. rw (size, is) refl in
    record {
      size = size;
      there = at u v ∙ get_or-set_other first (v * n + u) (u * n + v) x 0 (λ e. apart (row_of_cell n u v v u v_in u_in e)) ∙ get_or-set_same cells (u * n + v) x 0 one_in;
      back = at v u ∙ get_or-set_same first (v * n + u) x 0 other_in;
      others = λ a b a_in b_in not_one not_other.
          at a b
          ∙ get_or-set_other first (v * n + u) (a * n + b) x 0 (λ e. not_other (row_of_cell n a b v u b_in u_in e) (column_of_cell n a b v u b_in u_in e))
          ∙ get_or-set_other cells (u * n + v) (a * n + b) x 0 (λ e. not_one (row_of_cell n a b u v b_in v_in e) (column_of_cell n a b u v b_in v_in e));
    }

pub table_kept : (before now : Costs) (u v x : ℕ) → IsTable before → u < before.size → v < before.size → u ≢ v → x ≤ MAX_COST → now.size ≡ before.size →
    now.cells.items ≡ set (set before.cells.items (u * before.size + v) x) (v * before.size + u) x → IsTable now
table_kept before now u v x table u_in v_in apart small size is =
    let n = before.size in
    let cells = before.cells.items in
    let first = set before.cells.items (u * before.size + v) x in
    let w = written before now u v x table u_in v_in apart size is in
    let one_in : u * n + v < length cells = omega (arith, cell_in n n u v u_in v_in, table.cells_len) in
    let other_in : v * n + u < length first = omega (arith, cell_in n n v u v_in u_in, table.cells_len, length-set cells (u * n + v) x) in
    record {
      few = omega (arith, size, table.few);
      cells_len = subst (λ k. length now.cells.items ≡ k * k) (sym size) (ap length is ∙ length-set first (v * n + u) x ∙ length-set cells (u * n + v) x ∙ table.cells_len);
      small = λ a b. rw (size, is) (small_set first (v * n + u) (a * n + b) x MAX_COST other_in small (small_set cells (u * n + v) (a * n + b) x MAX_COST one_in small (table.small a b)));
      same = λ a b a_now b_now.
          let a_in : a < before.size = omega (arith, a_now, size) in
          let b_in : b < before.size = omega (arith, b_now, size) in
          elim (cases_eq a u) [
            | inl a_u ↦ elim (cases_eq b v) [
              | inl b_v ↦ rw (a_u, b_v) (w.there ∙ sym w.back)
              | inr b_not ↦ w.others a b a_in b_in (λ p q. b_not q) (λ p q. apart (sym a_u ∙ p)) ∙ table.same a b a_in b_in
                  ∙ sym (w.others b a b_in a_in (λ p q. apart (sym a_u ∙ q)) (λ p q. b_not p))
            ]
            | inr a_not ↦ elim (cases_eq a v) [
              | inl a_v ↦ elim (cases_eq b u) [
                | inl b_u ↦ rw (a_v, b_u) (w.back ∙ sym w.there)
                | inr b_not ↦ w.others a b a_in b_in (λ p q. a_not p) (λ p q. b_not q) ∙ table.same a b a_in b_in
                    ∙ sym (w.others b a b_in a_in (λ p q. b_not p) (λ p q. a_not q))
              ]
              | inr a_other ↦ w.others a b a_in b_in (λ p q. a_not p) (λ p q. a_other p) ∙ table.same a b a_in b_in
                  ∙ sym (w.others b a b_in a_in (λ p q. a_other q) (λ p q. a_not q))
            ]
          ];
    }
