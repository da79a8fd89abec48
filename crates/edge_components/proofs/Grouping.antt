-- The vertices of each label, one vertex more.
use Rattle.std.proofs.Common.{◌≡◌, ℕ, zero, suc, ◌+◌, ◌-◌, ◌≤◌, Bool, false, List, [], ◌∷◌, ◌++◌, Vec, Global, length, get_or, set, refl, sym, ap, ◌∙◌, subst, arith, inl, inr}
use Rattle.std.specs.Prelude.{if◌then◌else◌}
use Rattle.std.proofs.lemmas.Bool.{cases_eq, eq-eqb, ne_eqb, false≢true}
use Rattle.std.proofs.lemmas.List.{append-nil, get_or-set_same, get_or-set_other}
use Rattle.carp_base.specs.Problem.{Problem, IsVertex}
use Rattle.cut_pool.specs.Shores.{is_in, IsShore}
use Rattle.edge_components.specs.Labels.{has_label, marked_shores}
use Rattle.edge_components.specs.Listing.{vertices_where}
use Rattle.edge_components.proofs.Listed.{rising, in_where}

where_more : (f : ℕ → Bool) (v : ℕ) → 1 ≤ v → vertices_where f (v + 1 - 1) ≡ vertices_where f (v - 1) ++ (if f v then v ∷ [] else [])
where_more f zero one = absurd (omega (arith, one))
where_more f (suc k) one =
    let next : suc k + 1 - 1 ≡ suc k = omega arith in
    let here : suc k - 1 ≡ k = omega arith in
    rw (next, here) refl

module _ (labels : List ℕ) (n v : ℕ) (groups : List (Vec ℕ Global)) (old new : Vec ℕ Global) (one : 1 ≤ v) (long : length groups ≡ n + 1)
    (lists : (r : ℕ) (d : Vec ℕ Global) → r ≤ n → (get_or groups r d).items ≡ vertices_where (has_label labels r) (v - 1)) (in_range : get_or labels v 0 ≤ n)
    (old_is : old ≡ get_or groups (get_or labels v 0) old) (new_is : new.items ≡ old.items ++ v ∷ []) where
  here : new.items ≡ vertices_where (has_label labels (get_or labels v 0)) (v + 1 - 1)
  here =
      let r = get_or labels v 0 in
      let old_items : old.items ≡ vertices_where (has_label labels r) (v - 1) = ap (λ (w : Vec ℕ Global). w.items) old_is ∙ lists r old in_range in
      new_is ∙ ap (λ (l : List ℕ). l ++ v ∷ []) old_items
      ∙ sym (where_more (has_label labels r) v one ∙ ap (λ b. vertices_where (has_label labels r) (v - 1) ++ (if b then v ∷ [] else [])) (eq-eqb r r refl))

  pub grouped_more : (r : ℕ) (d : Vec ℕ Global) → r ≤ n → (get_or (set groups (get_or labels v 0) new) r d).items ≡ vertices_where (has_label labels r) (v + 1 - 1)
  grouped_more r d most = elim (cases_eq r (get_or labels v 0)) [
    | inl same ↦
        subst (λ k. (get_or (set groups (get_or labels v 0) new) k d).items ≡ vertices_where (has_label labels k) (v + 1 - 1)) (sym same)
        (ap (λ (w : Vec ℕ Global). w.items) (get_or-set_same groups (get_or labels v 0) new d (omega (arith, long, in_range))) ∙ here)
    | inr other ↦
        ap (λ (w : Vec ℕ Global). w.items) (get_or-set_other groups (get_or labels v 0) r new d other) ∙ lists r d most
        ∙ sym (where_more (has_label labels r) v one ∙ ap (λ b. vertices_where (has_label labels r) (v - 1) ++ (if b then v ∷ [] else []))
        (ne_eqb (get_or labels v 0) r (λ same. other (sym same))) ∙ append-nil (vertices_where (has_label labels r) (v - 1)))
  ]

pub class_shore : (p : Problem) (labels : List ℕ) (r : ℕ) → IsVertex p r → get_or labels r 0 ≡ r → IsShore (vertices_where (has_label labels r) p.vertices)
class_shore p labels r vertex root = record {
  some = λ none. false≢true (ap (λ l. is_in l r) (sym none) ∙ in_where (has_label labels r) p.vertices r vertex.from_one vertex.in_range ∙ eq-eqb (get_or labels r 0) r root);
  rising = rising (has_label labels r) p.vertices;
}

pub marked_more : (labels : List ℕ) (kept : List Bool) (n r : ℕ) → 1 ≤ r →
    marked_shores labels kept n (r + 1 - 1) ≡ marked_shores labels kept n (r - 1) ++ (if get_or kept r false then vertices_where (has_label labels r) n ∷ [] else [])
marked_more labels kept n zero one = absurd (omega (arith, one))
marked_more labels kept n (suc k) one =
    let next : suc k + 1 - 1 ≡ suc k = omega arith in
    let here : suc k - 1 ≡ k = omega arith in
    rw (next, here) refl
