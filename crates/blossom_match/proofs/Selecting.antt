-- The nodes that have a weight, one after another.
use Rattle.std.proofs.Common.{◌≡◌, ◌≢◌, ℕ, suc, ◌+◌, ◌-◌, ◌*◌, ◌<◌, ◌≤◌, Bool, true, false, cond, eqb, List, [], ◌∷◌, ◌++◌, length, take, drop, get_or, slice_index, refl, sym, subst, ap, ◌∙◌, arith, inl, inr}
use Rattle.std.proofs.lemmas.Bool.{cases_eq, eq-eqb, ne_eqb}
use Rattle.std.proofs.lemmas.List.{get_or_append_left, get_or_at, get_or-append_right, get_or-take, get_or-drop, length-append, length-take-le, length-drop}
use Rattle.std.proofs.Math.Nat.{mul-le-mul_left}
use Rattle.blossom_match.specs.declared.state.State.{State}
use Rattle.blossom_match.specs.Matching.{total}
use Rattle.blossom_match.specs.Views.{holds}
use Rattle.blossom_match.specs.Unfolded.{ArePicked, listed}
use Rattle.blossom_match.proofs.Totals.{total-ext}
use Rattle.blossom_match.proofs.Listing.{len_push, listed_ext}

no_weight : (b : Bool) (x : ℕ) → x ≡ 0 → cond b x 0 ≡ 0
no_weight true x none = none
no_weight false x none = refl

pub skipped : (state : State) (s : ℕ) (starts members weights : List ℕ) → ArePicked state s starts members weights → slice_index state.halves.items s ≡ 0 → ArePicked state (suc s) starts members weights
skipped state s starts members weights p none = record {
  node = p.node;
  node_in = λ i below. omega (arith, p.node_in i below);
  rising = p.rising;
  some = p.some;
  weight = p.weight;
  starts_len = p.starts_len;
  ends = p.ends;
  within = p.within;
  long = p.long;
  row = p.row;
  sums = λ test. omega (arith, p.sums test, no_weight (test s) (slice_index state.halves.items s) none);
}

pub begin_picked : (state : State) → ArePicked state 0 (0 ∷ []) [] []
begin_picked state = record {
  node = λ i. 0;
  node_in = λ i below. absurd (omega (arith, below));
  rising = λ i j less below. absurd (omega (arith, below));
  some = λ i below. absurd (omega (arith, below));
  weight = λ i below. absurd (omega (arith, below));
  starts_len = refl;
  ends = refl;
  within = λ i below. absurd (omega (arith, below));
  long = λ i below. absurd (omega (arith, below));
  row = λ i j below. absurd (omega (arith, below));
  sums = λ test. refl;
}

pub picked : (state : State) (s : ℕ) (starts members weights : List ℕ) → ArePicked state s starts members weights → 1 ≤ slice_index state.halves.items s →
    ArePicked state (suc s) (starts ++ (length (members ++ listed state.size (holds state.size state.held.items s)) ∷ [])) (members ++ listed state.size (holds state.size state.held.items s)) (weights ++ (slice_index state.halves.items s ∷ []))
picked state s starts members weights p some =
    let n = state.size in
    let held = state.held.items in
    let h : ℕ = slice_index state.halves.items s in
    let row : List ℕ = listed state.size (holds state.size state.held.items s) in
    let end : ℕ = length (members ++ listed state.size (holds state.size state.held.items s)) in
    let k : ℕ = length weights in
    let node' : ℕ → ℕ = λ i. cond (eqb i (length weights)) s (p.node i) in
    let at_last : node' (length weights) ≡ s = ap (λ b. cond b s (p.node (length weights))) (eq-eqb (length weights) (length weights) refl) in
    let off : (i : ℕ) → i ≢ length weights → node' i ≡ p.node i = λ i other. ap (λ b. cond b s (p.node i)) (ne_eqb i (length weights) other) in
    let weights_long : length (weights ++ (h ∷ [])) ≡ suc (length weights) = len_push weights h in
    let starts_long : length (starts ++ (end ∷ [])) ≡ suc (length starts) = len_push starts end in
    let end_is : end ≡ length members + length row = length-append members row in
    let starts_off : (i : ℕ) → i < length starts → slice_index (starts ++ (end ∷ [])) i ≡ slice_index starts i = λ i below. get_or_append_left starts (end ∷ []) 0 i below in
    let starts_end : (i : ℕ) → i ≡ length starts → slice_index (starts ++ (end ∷ [])) i ≡ end = λ i is. get_or_at starts end [] 0 i (sym is) in
    let weight_last : slice_index (weights ++ (h ∷ [])) (length weights) ≡ h = get_or_at weights h [] 0 (length weights) refl in
    let weight_off : (i : ℕ) → i < length weights → slice_index (weights ++ (h ∷ [])) i ≡ slice_index weights i = λ i below. get_or_append_left weights (h ∷ []) 0 i below in
    let low : (i : ℕ) → i < length (weights ++ (h ∷ [])) → i ≢ length weights → i < length weights = λ i below other. omega (arith, weights_long, other, below) in
    record {
      node = node';
      node_in = λ i below. elim (cases_eq i (length weights)) [
        | inl same ↦ omega (arith, ap node' same, at_last)
        | inr other ↦ omega (arith, off i other, p.node_in i (low i below other))
      ];
      rising = λ i j less below. elim (cases_eq j (length weights)) [
        | inl same ↦ let i_low : i < length weights = omega (arith, less, same) in
            omega (arith, ap node' same, at_last, off i (λ e. omega (arith, e, i_low)), p.node_in i i_low)
        | inr other ↦ let j_low : j < length weights = low j below other in
            omega (arith, off j other, off i (λ e. omega (arith, e, less, j_low)), p.rising i j less j_low)
      ];
      some = λ i below. elim (cases_eq i (length weights)) [
        | inl same ↦ subst (λ x. 1 ≤ slice_index state.halves.items x) (sym (ap node' same ∙ at_last)) some
        | inr other ↦ subst (λ x. 1 ≤ slice_index state.halves.items x) (sym (off i other)) (p.some i (low i below other))
      ];
      weight = λ i below. elim (cases_eq i (length weights)) [
        | inl same ↦ ap (λ x. slice_index (weights ++ (h ∷ [])) x) same ∙ weight_last ∙ ap (λ x. slice_index state.halves.items x) (sym (ap node' same ∙ at_last))
        | inr other ↦ (
            let i_low = low i below other in weight_off i i_low ∙ p.weight i i_low ∙ ap (λ x. slice_index state.halves.items x) (sym (off i other)))
      ];
      starts_len = omega (arith, starts_long, weights_long, p.starts_len);
      ends = starts_end (length (weights ++ (h ∷ []))) (omega (arith, weights_long, p.starts_len));
      within = λ i below. elim (cases_eq i (length weights)) [
        | inl same ↦ omega (arith, starts_end (i + 1) (omega (arith, same, p.starts_len)))
        | inr other ↦ let i_low = low i below other in omega (arith, starts_off (i + 1) (omega (arith, i_low, p.starts_len)), p.within i i_low, end_is)
      ];
      long = λ i below. elim (cases_eq i (length weights)) [
        | inl same ↦
            subst (λ x. slice_index (starts ++ (end ∷ [])) (i + 1) ≡ slice_index (starts ++ (end ∷ [])) i + length (listed n (holds n held x))) (sym (ap node' same ∙ at_last))
            (omega (arith, starts_end (i + 1) (omega (arith, same, p.starts_len)), starts_off i (omega (arith, same, p.starts_len)), ap (λ x. slice_index starts x) same, p.ends, end_is))
        | inr other ↦
            let i_low = low i below other in
            subst (λ x. slice_index (starts ++ (end ∷ [])) (i + 1) ≡ slice_index (starts ++ (end ∷ [])) i + length (listed n (holds n held x))) (sym (off i other))
            (omega (arith, starts_off (i + 1) (omega (arith, i_low, p.starts_len)), starts_off i (omega (arith, i_low, p.starts_len)), p.long i i_low))
      ];
      row = λ i j below inside. elim (cases_eq i (length weights)) [
        | inl same ↦
            let start : slice_index (starts ++ (end ∷ [])) i ≡ length members = starts_off i (omega (arith, same, p.starts_len)) ∙ ap (λ x. slice_index starts x) same ∙ p.ends in
            let place : slice_index (members ++ row) (slice_index (starts ++ (end ∷ [])) i + j) ≡ get_or row (length members + j - length members) 0 =
            ap (λ x. slice_index (members ++ row) (x + j)) start ∙ get_or-append_right members row (length members) (length members + j) 0 refl (omega arith) in
            let back : length members + j - length members ≡ j = omega arith in
            subst (λ x. slice_index (members ++ row) (slice_index (starts ++ (end ∷ [])) i + j) ≡ slice_index (listed n (holds n held x)) j) (sym (ap node' same ∙ at_last))
            (place ∙ ap (λ x. get_or row x 0) back)
        | inr other ↦
            let i_low = low i below other in
            let start : slice_index (starts ++ (end ∷ [])) i ≡ slice_index starts i = starts_off i (omega (arith, i_low, p.starts_len)) in
            let stop : slice_index (starts ++ (end ∷ [])) (i + 1) ≡ slice_index starts (i + 1) = starts_off (i + 1) (omega (arith, i_low, p.starts_len)) in
            let within : slice_index starts i + j < slice_index starts (i + 1) = omega (arith, inside, start, stop) in
            subst (λ x. slice_index (members ++ row) (slice_index (starts ++ (end ∷ [])) i + j) ≡ slice_index (listed n (holds n held x)) j) (sym (off i other))
            (ap (λ x. slice_index (members ++ row) (x + j)) start
            ∙ get_or_append_left members row 0 (slice_index starts i + j) (omega (arith, within, p.within i i_low))
            ∙ p.row i j i_low within)
      ];
      sums = λ test.
          let f : ℕ → ℕ = λ i. cond (test (node' i)) (slice_index (weights ++ (h ∷ [])) i) 0 in
          let g : ℕ → ℕ = λ i. cond (test (p.node i)) (slice_index weights i) 0 in
          let rest : total (length weights) f ≡ total (length weights) g = total-ext (length weights) f g (λ i below.
          ap (λ x. cond (test x) (slice_index (weights ++ (h ∷ [])) i) 0) (off i (λ e. omega (arith, e, below)))
          ∙ ap (λ x. cond (test (p.node i)) x 0) (weight_off i below)) in
          let last : f (length weights) ≡ cond (test s) h 0 =
          ap (λ x. cond (test x) (slice_index (weights ++ (h ∷ [])) (length weights)) 0) at_last ∙ ap (λ x. cond (test s) x 0) weight_last in
          let all : total (length (weights ++ (h ∷ []))) f ≡ total (suc (length weights)) f = ap (λ x. total x f) weights_long in
          omega (arith, all, rest, last, p.sums test);
    }

-- a row of the table, listed
pub row_listed : (n s : ℕ) (held xs : List Bool) → xs ≡ take ((s + 1) * n - s * n) (drop (s * n) held) → s < 2 * n → length held ≡ 2 * n * n →
    listed (length xs) (λ v. get_or xs v false) ≡ listed n (holds n held s)
row_listed n s held xs is s_in held_len =
    let within = mul-le-mul_left n s_in in
    let width : (s + 1) * n - s * n ≡ n = omega arith in
    let same : xs ≡ take n (drop (s * n) held) = is ∙ ap (λ k. take k (drop (s * n) held)) width in
    let long : length xs ≡ n = ap length same ∙ length-take-le n (drop (s * n) held) (omega (arith, length-drop (s * n) held, within, held_len)) in
    listed_ext (length xs) (λ v. get_or xs v false) (holds n held s) (λ v v_in.
    ap (λ l. get_or l v false) same ∙ get_or-take n (drop (s * n) held) v false (omega (arith, v_in, long)) ∙ get_or-drop (s * n) held v false)
    ∙ ap (λ k. listed k (holds n held s)) long

pub picked_as : (state : State) (s len h : ℕ) (starts members weights starts' members' weights' : List ℕ) → ArePicked state s starts members weights → 1 ≤ slice_index state.halves.items s →
    h ≡ slice_index state.halves.items s → members' ≡ members ++ listed state.size (holds state.size state.held.items s) → len ≡ length members' →
    starts' ≡ starts ++ (len ∷ []) → weights' ≡ weights ++ (h ∷ []) → ArePicked state (s + 1) starts' members' weights'
picked_as state s len h starts members weights starts' members' weights' p some value lists count begins weighs =
    let more : suc s ≡ s + 1 = omega arith in
    let ends : starts' ≡ starts ++ (length (members ++ listed state.size (holds state.size state.held.items s)) ∷ []) = begins ∙ ap (λ x. starts ++ (x ∷ [])) (count ∙ ap length lists) in
    let last : weights' ≡ weights ++ (slice_index state.halves.items s ∷ []) = weighs ∙ ap (λ x. weights ++ (x ∷ [])) value in
    rw (ends, lists, last) (subst (λ k. ArePicked state k (starts ++ (length (members ++ listed state.size (holds state.size state.held.items s)) ∷ [])) (members ++ listed state.size (holds state.size state.held.items s)) (weights ++ (slice_index state.halves.items s ∷ []))) more
    (picked state s starts members weights p some))

pub begin_picked_as : (state : State) (starts members weights : List ℕ) → starts ≡ (0 ∷ []) → members ≡ [] → weights ≡ [] → ArePicked state 0 starts members weights
begin_picked_as state starts members weights a b c = rw (a, b, c) (begin_picked state)
