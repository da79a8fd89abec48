-- A tree of one node.
use Rattle.std.proofs.Common.{◌≡◌, ◌≢◌, ℕ, ◌+◌, ◌%◌, ◌<◌, zero, suc, replicate, List, Option, None, length, slice_index, get_or, set, refl, sym, ap, ◌∙◌, inl, inr}
use Rattle.std.proofs.lemmas.Bool.{cases_eq}
use Rattle.std.proofs.lemmas.List.{get_or-set_same, get_or-set_other}
use Rattle.blossom_match.specs.declared.costs.Costs.{Costs}
use Rattle.blossom_match.specs.declared.state.State.{State}
use Rattle.blossom_match.specs.declared.state.Pair.{Pair}
use Rattle.blossom_match.specs.declared.state.Label.{Label}
use Rattle.blossom_match.specs.declared.state.Label.TheVariants.{Free, Outer, Inner}
use Rattle.blossom_match.specs.Views.{label_at, mate_at}
use Rattle.blossom_match.specs.Between.{IsBetween, IsTree, IsTreeless}

free_not_outer : Free ≡ Outer → ⊥
free_not_outer e = cc

free_not_inner : Free ≡ Inner → ⊥
free_not_inner e = cc

outer_not_inner : Outer ≡ Inner → ⊥
outer_not_inner e = cc

pub planted : (costs : Costs) (n : ℕ) (top sums : List ℕ) (mate : List (Option Pair)) (label : List Label) (entry : List Pair) (root : ℕ) →
    root < n → mate_at mate (slice_index top root) ≡ None → IsTreeless label → slice_index top root < length label →
    ((u v : ℕ) → u < n → v < n → slice_index top u ≡ slice_index top v → (slice_index sums u + slice_index sums v) % 2 ≡ 0) →
    IsTree costs n top sums mate (set label (slice_index top root) Outer) entry root
planted costs n top sums mate label entry root root_in unmatched treeless in_label parity =
    let a = slice_index top root in
    let at : label_at (set label (slice_index top root) Outer) (slice_index top root) ≡ Outer = get_or-set_same label (slice_index top root) Outer Free in_label in
    let off : (s : ℕ) → s ≢ slice_index top root → label_at (set label (slice_index top root) Outer) s ≡ Free =
    λ s other. get_or-set_other label (slice_index top root) s Outer Free other ∙ treeless s in
    let only : (s : ℕ) → label_at (set label (slice_index top root) Outer) s ≢ Free → s ≡ slice_index top root =
    λ s labelled. elim (cases_eq s (slice_index top root)) [ inl same ↦ same | inr other ↦ absurd (labelled (off s other)) ] in
    let none : (s : ℕ) → label_at (set label (slice_index top root) Outer) s ≡ Inner → ⊥ =
    λ s inner. elim (cases_eq s (slice_index top root)) [
      | inl same ↦ outer_not_inner (sym at ∙ ap (λ x. label_at (set label (slice_index top root) Outer) x) (sym same) ∙ inner)
      | inr other ↦ free_not_inner (sym (off s other) ∙ inner)
    ] in
    record {
      root_in = root_in;
      root_outer = at;
      root_open = unmatched;
      outermost = λ s s_in labelled. (root, root_in, sym (only s labelled));
      outer = λ s s_in outer. inl (only s (λ free. free_not_outer (sym free ∙ outer)));
      inner = λ s s_in inner. absurd (none s inner);
      parity = λ u v u_in v_in at_u at_v. parity u v u_in v_in (only (slice_index top u) at_u ∙ sym (only (slice_index top v) at_v));
      depth = λ s. 0;
      deeper = λ s s_in inner. absurd (none s inner);
    }

pub replicate_free : (n k : ℕ) → get_or (replicate n Free) k Free ≡ Free
replicate_free zero k = refl
replicate_free (suc n) zero = refl
replicate_free (suc n) (suc k) = replicate_free n k

-- all but the labels, the entries and the root is the same
pub relabeled : (costs : Costs) (before now : State) → now.size ≡ before.size → now.held ≡ before.held → now.halves ≡ before.halves → now.top ≡ before.top → now.sums ≡ before.sums →
    now.child ≡ before.child → now.next ≡ before.next → now.link ≡ before.link → now.mate ≡ before.mate → now.one_way ≡ before.one_way → now.other_way ≡ before.other_way → now.base ≡ before.base →
    length now.label.items ≡ length before.label.items → length now.entry.items ≡ length before.entry.items → IsBetween costs before → IsBetween costs now
relabeled costs before now size held halves top sums child next link mate one_way other_way base label entry b = record {
  shape = record {
    size_is = size ∙ b.shape.size_is;
    held_len = rw (held, size) b.shape.held_len;
    halves_len = rw (halves, size) b.shape.halves_len;
    top_len = rw (top, size) b.shape.top_len;
    sums_len = rw (sums, size) b.shape.sums_len;
    child_len = rw (child, size) b.shape.child_len;
    next_len = rw (next, size) b.shape.next_len;
    link_len = rw (link, size) b.shape.link_len;
    mate_len = rw (mate, size) b.shape.mate_len;
    label_len = label ∙ rw size b.shape.label_len;
    entry_len = entry ∙ rw size b.shape.entry_len;
    one_way_len = rw (one_way, size) b.shape.one_way_len;
    other_way_len = rw (other_way, size) b.shape.other_way_len;
    base_len = rw (base, size) b.shape.base_len;
  };
  sets = rw (size, held, halves, child) b.sets;
  tops = rw (size, held, top) b.tops;
  weights = rw (size, held, halves, top, sums) b.weights;
  cycles = rw (size, held, halves, child, next, link) b.cycles;
  matched = rw (size, top, sums, mate) b.matched;
  based = rw (size, held, child, base) b.based;
}
