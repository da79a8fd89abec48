-- The members of a cycle's nodes are held by one node.
use Rattle.std.proofs.Common.{◌≡◌, ◌≢◌, ℕ, ◌+◌, ◌*◌, ◌<◌, ◌≤◌, Bool, false, cond, List, length, slice_index, get_or, set, sym, subst, ap, ◌∙◌, arith, inl, inr}
use Rattle.std.proofs.lemmas.Bool.{cases_eq}
use Rattle.std.proofs.lemmas.List.{get_or-set_same, get_or-set_other, get_or_default}
use Rattle.blossom_match.specs.declared.state.Label.{Label}
use Rattle.blossom_match.specs.declared.state.Label.TheVariants.{Free}
use Rattle.blossom_match.specs.Views.{holds, label_at}
use Rattle.blossom_match.proofs.Cells.{row_of_cell, column_of_cell}

pub record AreFreed (label now : List Label) (on : ℕ → Bool) (s : ℕ) : Type 0 where
  pub done : (k : ℕ) → k < s → label_at now k ≡ cond (on k) Free (label_at label k)
  pub rest : (k : ℕ) → s ≤ k → label_at now k ≡ label_at label k

pub freed_more : (label now : List Label) (on : ℕ → Bool) (s : ℕ) (r d : Label) (inside : Bool) → AreFreed label now on s → s < length now → inside ≡ on s → r ≡ cond inside Free (get_or now s d) → AreFreed label (set now s r) on (s + 1)
freed_more label now on s r d inside x s_in at is = record {
  done = λ k below. elim (cases_eq k s) [
    | inl same ↦ subst (λ i. label_at (set now s r) i ≡ cond (on i) Free (label_at label i)) (sym same)
        (get_or-set_same now s r Free s_in ∙ is ∙ ap (λ b. cond b Free (get_or now s d)) at ∙ ap (λ l. cond (on s) Free l) (get_or_default now s d Free s_in ∙ x.rest s (omega arith)))
    | inr other ↦ get_or-set_other now s k r Free other ∙ x.done k (omega (arith, other, below))
  ];
  rest = λ k high. get_or-set_other now s k r Free (λ e. absurd (omega (arith, e, high))) ∙ x.rest k (omega (arith, high));
}

pub record AreTaken (top now : List ℕ) (held held' : List Bool) (on : ℕ → Bool) (whole n v : ℕ) : Type 0 where
  pub tops : (k : ℕ) → k < v → slice_index now k ≡ cond (on (slice_index top k)) whole (slice_index top k)
  pub rest : (k : ℕ) → v ≤ k → slice_index now k ≡ slice_index top k
  pub row : (k : ℕ) → k < v → holds n held' whole k ≡ on (slice_index top k)
  pub rows : (s k : ℕ) → k < n → s ≢ whole → holds n held' s k ≡ holds n held s k

pub taken_more : (top now : List ℕ) (held held' : List Bool) (on : ℕ → Bool) (whole n v node : ℕ) (inside : Bool) → AreTaken top now held held' on whole n v → v < n → v < length now → whole * n + v < length held' →
    inside ≡ on (slice_index now v) → node ≡ cond inside whole (slice_index now v) → AreTaken top (set now v node) held (set held' (whole * n + v) inside) on whole n (v + 1)
taken_more top now held held' on whole n v node inside x v_in in_now in_held is node_is =
    let was = x.rest v (omega arith) in
    let inside_is : inside ≡ on (slice_index top v) = is ∙ ap on was in
    record {
      tops = λ k below. elim (cases_eq k v) [
        | inl same ↦ subst (λ i. slice_index (set now v node) i ≡ cond (on (slice_index top i)) whole (slice_index top i)) (sym same)
            (get_or-set_same now v node 0 in_now ∙ node_is ∙ ap (λ b. cond b whole (slice_index now v)) inside_is ∙ ap (λ y. cond (on (slice_index top v)) whole y) was)
        | inr other ↦ get_or-set_other now v k node 0 other ∙ x.tops k (omega (arith, other, below))
      ];
      rest = λ k high. get_or-set_other now v k node 0 (λ e. absurd (omega (arith, e, high))) ∙ x.rest k (omega (arith, high));
      row = λ k below. elim (cases_eq k v) [
        | inl same ↦ subst (λ i. holds n (set held' (whole * n + v) inside) whole i ≡ on (slice_index top i)) (sym same) (get_or-set_same held' (whole * n + v) inside false in_held ∙ inside_is)
        | inr other ↦ get_or-set_other held' (whole * n + v) (whole * n + k) inside false (λ e. other (column_of_cell n whole k whole v (omega (arith, other, below, v_in)) v_in e)) ∙ x.row k (omega (arith, other, below))
      ];
      rows = λ s k k_in other.
          get_or-set_other held' (whole * n + v) (s * n + k) inside false (λ e. other (row_of_cell n s k whole v k_in v_in e)) ∙ x.rows s k k_in other;
    }
