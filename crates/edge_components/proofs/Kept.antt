-- The shores of the kept labels are the components that pass.
use Rattle.std.proofs.Common.{◌≡◌, ◌≢◌, ℕ, zero, suc, ◌<◌, ◌≤◌, ◌==◌, ◌&&◌, not, Bool, true, false, List, [], ◌∷◌, ◌++◌, map, length, get_or, refl, sym, ap, ◌∙◌, subst, arith, inl, inr}
use Rattle.std.specs.Prelude.{if◌then◌else◌}
use Rattle.std.specs.List.{All, Contains}
use Rattle.std.specs.List.Sorted.{IsStrictlyIncreasing}
use Rattle.std.proofs.lemmas.Bool.{cases_lt, eq-eqb, ne_eqb, eqb-true, and_parts, and_from, not-true, not_from_false, false≢true}
use Rattle.std.proofs.lemmas.List.{map-append}
use Rattle.std.proofs.lemmas.List.Elements.{All-append, All-cons, All-nil, Contains-append_left, Contains-push}
use Rattle.std.proofs.lemmas.List.Folds.{list_any_at}
use Rattle.carp_base.specs.Problem.{Problem, IsValid, IsVertex}
use Rattle.cut_pool.specs.Shores.{is_in, required_crossings, touched}
use Rattle.edge_components.specs.Parts.{parts_over}
use Rattle.edge_components.specs.Components.{AreJoined, IsComponent, AreAll, PassesTest, least_vertex}
use Rattle.edge_components.specs.Labels.{AreLabels, AreKept, has_label, marked_shores}
use Rattle.edge_components.specs.Listing.{vertices_where}
use Rattle.edge_components.proofs.Paths.{joined_itself, joined_over, joined_back}
use Rattle.edge_components.proofs.Rising.{rises, same_list, member_has, bool_same}
use Rattle.edge_components.proofs.Listed.{listed_law, rising, first_where}
use Rattle.edge_components.proofs.Borders.{border_law}

some_first : (xs : List ℕ) → xs ≢ [] → 0 < length xs
some_first [] some = absurd (some refl)
some_first (x ∷ xs) some = omega arith

not_empty : (xs : List ℕ) (v : ℕ) → is_in xs v ≡ true → xs ≢ []
not_empty xs v there none = false≢true (ap (λ l. is_in l v) (sym none) ∙ there)

module _ (p : Problem) (x : List ℕ) (least : ℕ) (labels : List ℕ) (valid : IsValid p) (are : AreLabels p x least labels) where
  pub same_label : (v w : ℕ) → IsVertex p v → IsVertex p w → AreJoined p x least v w → get_or labels v 0 ≡ get_or labels w 0
  same_label v w v_in w_in joined =
      omega (
        arith,
        (are.each v v_in).lowest (get_or labels w 0) (are.in_range.within w w_in) (joined_over p x least v w (get_or labels w 0) joined (are.each w w_in).joined),
        (are.each w w_in).lowest (get_or labels v 0) (are.in_range.within v v_in)
            (joined_over p x least w v (get_or labels v 0) (joined_back p x least v w joined) (are.each v v_in).joined),
      )

  pub joined_where : (v w : ℕ) → IsVertex p v → IsVertex p w → get_or labels v 0 ≡ get_or labels w 0 → AreJoined p x least v w
  joined_where v w v_in w_in same =
      joined_over p x least v (get_or labels v 0) w (are.each v v_in).joined
      (joined_back p x least w (get_or labels v 0) (subst (λ r. AreJoined p x least w r) (sym same) (are.each w w_in).joined))

  in_class : (r v : ℕ) → IsVertex p v → is_in (vertices_where (has_label labels r) p.vertices) v ≡ (get_or labels v 0 == r)
  in_class r v vertex = (listed_law p (has_label labels r)).same v vertex

  vertex_in : (r v : ℕ) → is_in (vertices_where (has_label labels r) p.vertices) v ≡ true → IsVertex p v
  vertex_in r v there = member_has (IsVertex p) (vertices_where (has_label labels r) p.vertices) v (listed_law p (has_label labels r)).within there

  -- a label that is its own is that of a component
  is_component : (r : ℕ) → IsVertex p r → get_or labels r 0 ≡ r → IsComponent p x least (vertices_where (has_label labels r) p.vertices)
  is_component r vertex root = record {
    is_shore = record {
      some = not_empty (vertices_where (has_label labels r) p.vertices) r (in_class r r vertex ∙ eq-eqb (get_or labels r 0) r root);
      rising = (listed_law p (has_label labels r)).rising;
    };
    vertices = (listed_law p (has_label labels r)).within;
    joined = λ v w there w_in.
        let v_in = vertex_in r v there in
        let v_label : get_or labels v 0 ≡ r = eqb-true (get_or labels v 0) r (sym (in_class r v v_in) ∙ there) in (
          λ also. joined_where v w v_in w_in (v_label ∙ sym (eqb-true (get_or labels w 0) r (sym (in_class r w w_in) ∙ also))),
          λ joined. in_class r w w_in ∙ eq-eqb (get_or labels w 0) r (sym (same_label v w v_in w_in joined) ∙ v_label),
        );
  }

  -- a component is the class of the label of each of its vertices
  is_class : (shore : List ℕ) (v : ℕ) → IsComponent p x least shore → is_in shore v ≡ true → shore ≡ vertices_where (has_label labels (get_or labels v 0)) p.vertices
  is_class shore v component there =
      let r = get_or labels v 0 in
      let class = vertices_where (has_label labels r) p.vertices in
      let v_in = member_has (IsVertex p) shore v component.vertices there in
      same_list shore class (rises shore component.is_shore.rising) (rises class (listed_law p (has_label labels r)).rising) (λ w.
      bool_same (is_in shore w) (is_in class w)
      (λ also.
      let w_in = member_has (IsVertex p) shore w component.vertices also in
      in_class r w w_in ∙ eq-eqb (get_or labels w 0) r (sym (same_label v w v_in w_in ((component.joined v w there w_in).0 also))))
      (λ also.
      let w_in = vertex_in r w also in
      (component.joined v w there w_in).1 (joined_where v w v_in w_in (sym (eqb-true (get_or labels w 0) r (sym (in_class r w w_in) ∙ also))))))

  module _ (test : ℕ → ℕ → ℕ → Bool) (kept : List Bool) (are_kept : AreKept p x labels test kept) where
    tested_same : (f g : ℕ → Bool) → ((v : ℕ) → IsVertex p v → f v ≡ g v) →
        test (required_crossings p f) (touched p f) (parts_over p x f) ≡ test (required_crossings p g) (touched p g) (parts_over p x g)
    tested_same f g agree =
        let one = border_law p x f g valid agree in
        ap (λ n. test n (touched p f) (parts_over p x f)) one.crossings
        ∙ ap (λ n. test (required_crossings p g) n (parts_over p x f)) one.demand
        ∙ ap (λ n. test (required_crossings p g) (touched p g) n) one.parts

    passes : (r : ℕ) → IsVertex p r → get_or kept r false ≡ true → PassesTest p x least test (vertices_where (has_label labels r) p.vertices)
    passes r vertex marked =
        let class = vertices_where (has_label labels r) p.vertices in
        let parts = and_parts ((get_or labels r 0 == r) && not (get_or labels p.depot 0 == r))
        (test (required_crossings p (has_label labels r)) (touched p (has_label labels r)) (parts_over p x (has_label labels r)))
        (sym (are_kept.marks r vertex) ∙ marked) in
        let first = and_parts (get_or labels r 0 == r) (not (get_or labels p.depot 0 == r)) parts.0 in
        record {
          component = is_component r vertex (eqb-true (get_or labels r 0) r first.0);
          belongs = record {
            vertices = (listed_law p (has_label labels r)).within;
            no_depot = in_class r p.depot valid.depot_in ∙ not-true (get_or labels p.depot 0 == r) first.1;
          };
          passes = tested_same (is_in class) (has_label labels r) (in_class r) ∙ parts.1;
        }

    part_passes : (b : Bool) (r : ℕ) → IsVertex p r → get_or kept r false ≡ b →
        All (PassesTest p x least test) (if b then vertices_where (has_label labels r) p.vertices ∷ [] else [])
    part_passes true r vertex marked =
        All-cons (PassesTest p x least test) (vertices_where (has_label labels r) p.vertices) [] (passes r vertex marked) (All-nil (PassesTest p x least test))
    part_passes false r vertex marked = All-nil (PassesTest p x least test)

    sound : (m : ℕ) → m ≤ p.vertices → All (PassesTest p x least test) (marked_shores labels kept p.vertices m)
    sound zero most = All-nil (PassesTest p x least test)
    sound (suc m) most =
        All-append (PassesTest p x least test) (marked_shores labels kept p.vertices m)
        (if get_or kept (suc m) false then vertices_where (has_label labels (suc m)) p.vertices ∷ [] else [])
        (sound m (omega (arith, most))) (part_passes (get_or kept (suc m) false) (suc m) (record { from_one = omega arith; in_range = most }) refl)

    contains : (m r : ℕ) → 1 ≤ r → r ≤ m → get_or kept r false ≡ true →
        Contains (marked_shores labels kept p.vertices m) (vertices_where (has_label labels r) p.vertices)
    contains zero r one most marked = absurd (omega (arith, one, most))
    contains (suc m) r one most marked = elim (cases_lt r (suc m)) [
      | inl less ↦
          Contains-append_left (marked_shores labels kept p.vertices m)
          (if get_or kept (suc m) false then vertices_where (has_label labels (suc m)) p.vertices ∷ [] else [])
          (vertices_where (has_label labels r) p.vertices) (contains m r one (omega (arith, less)) marked)
      | inr last ↦
          let is : r ≡ suc m = omega (arith, last, most) in
          let here : get_or kept (suc m) false ≡ true = subst (λ k. get_or kept k false ≡ true) is marked in
          subst (λ k. Contains (marked_shores labels kept p.vertices (suc m)) (vertices_where (has_label labels k) p.vertices)) (sym is)
          (subst (λ b. Contains (marked_shores labels kept p.vertices m ++ (if b then vertices_where (has_label labels (suc m)) p.vertices ∷ [] else []))
          (vertices_where (has_label labels (suc m)) p.vertices)) (sym here)
          (Contains-push (marked_shores labels kept p.vertices m) (vertices_where (has_label labels (suc m)) p.vertices)))
    ]

    -- the first vertex of a kept class is its label
    first_is : (r : ℕ) → IsVertex p r → get_or kept r false ≡ true → least_vertex (vertices_where (has_label labels r) p.vertices) ≡ r
    first_is r vertex marked =
        let component = (passes r vertex marked).component in
        let root : get_or labels r 0 ≡ r = eqb-true (get_or labels r 0) r
        (and_parts (get_or labels r 0 == r) (not (get_or labels p.depot 0 == r))
        (and_parts ((get_or labels r 0 == r) && not (get_or labels p.depot 0 == r))
        (test (required_crossings p (has_label labels r)) (touched p (has_label labels r)) (parts_over p x (has_label labels r)))
        (sym (are_kept.marks r vertex) ∙ marked)).0).0 in
        (first_where (has_label labels r) p.vertices r vertex.from_one vertex.in_range (eq-eqb (get_or labels r 0) r root) (λ v one less.
        let v_in : IsVertex p v = record { from_one = one; in_range = omega (arith, less, vertex.in_range) } in
        let low : get_or labels v 0 ≤ v = (are.each v v_in).lowest v v_in (joined_itself p x least v) in
        ne_eqb (get_or labels v 0) r (λ same. omega (arith, same, low, less)))).1

    part_first : (b : Bool) (r : ℕ) → IsVertex p r → get_or kept r false ≡ b →
        map least_vertex (if b then vertices_where (has_label labels r) p.vertices ∷ [] else []) ≡ (if b then r ∷ [] else [])
    part_first true r vertex marked = ap (λ k. k ∷ []) (first_is r vertex marked)
    part_first false r vertex marked = refl

    firsts : (m : ℕ) → m ≤ p.vertices → map least_vertex (marked_shores labels kept p.vertices m) ≡ vertices_where (λ r. get_or kept r false) m
    firsts zero most = refl
    firsts (suc m) most =
        map-append least_vertex (marked_shores labels kept p.vertices m)
        (if get_or kept (suc m) false then vertices_where (has_label labels (suc m)) p.vertices ∷ [] else [])
        ∙ ap (λ l. l ++ map least_vertex (if get_or kept (suc m) false then vertices_where (has_label labels (suc m)) p.vertices ∷ [] else []))
        (firsts m (omega (arith, most)))
        ∙ ap (λ l. vertices_where (λ r. get_or kept r false) m ++ l)
        (part_first (get_or kept (suc m) false) (suc m) (record { from_one = omega arith; in_range = most }) refl)

    complete : (shore : List ℕ) → PassesTest p x least test shore → Contains (marked_shores labels kept p.vertices p.vertices) shore
    complete shore passing =
        let first : 0 < length shore = some_first shore passing.component.is_shore.some in
        let v = get_or shore 0 0 in
        let there : is_in shore v ≡ true = list_any_at (λ y. y == v) shore 0 0 first (eq-eqb v v refl) in
        let v_in : IsVertex p v = passing.component.vertices 0 0 first in
        let r = get_or labels v 0 in
        let r_in : IsVertex p r = are.in_range.within v v_in in
        let is : shore ≡ vertices_where (has_label labels r) p.vertices = is_class shore v passing.component there in
        let agree : (w : ℕ) → IsVertex p w → is_in shore w ≡ has_label labels r w = λ w w_in. ap (λ l. is_in l w) is ∙ in_class r w w_in in
        let root : get_or labels r 0 ≡ r = sym (same_label v r v_in r_in (are.each v v_in).joined) in
        let out : (get_or labels p.depot 0 == r) ≡ false = sym (agree p.depot valid.depot_in) ∙ passing.belongs.no_depot in
        let marked : get_or kept r false ≡ true =
        are_kept.marks r r_in
        ∙ and_from ((get_or labels r 0 == r) && not (get_or labels p.depot 0 == r))
        (test (required_crossings p (has_label labels r)) (touched p (has_label labels r)) (parts_over p x (has_label labels r)))
        (and_from (get_or labels r 0 == r) (not (get_or labels p.depot 0 == r)) (eq-eqb (get_or labels r 0) r root) (not_from_false (get_or labels p.depot 0 == r) out))
        (sym (tested_same (is_in shore) (has_label labels r) agree) ∙ passing.passes) in
        subst (λ l. Contains (marked_shores labels kept p.vertices p.vertices) l) (sym is)
        (contains p.vertices r r_in.from_one r_in.in_range marked)

    pub kept_law : AreAll (PassesTest p x least test) (marked_shores labels kept p.vertices p.vertices)
    kept_law = record {
      sound = sound p.vertices (omega arith);
      complete = complete;
      ordered = subst (λ l. IsStrictlyIncreasing l) (sym (firsts p.vertices (omega arith))) (rising (λ r. get_or kept r false) p.vertices);
    }

pub roots_law : (p : Problem) (x labels : List ℕ) (test : ℕ → ℕ → ℕ → Bool) (kept : List Bool) → AreKept p x labels test kept → (r : ℕ) → IsVertex p r → get_or kept r false ≡ true →
    get_or labels r 0 ≡ r
roots_law p x labels test kept are_kept r vertex marked =
    eqb-true (get_or labels r 0) r
    (and_parts (get_or labels r 0 == r) (not (get_or labels p.depot 0 == r))
    (and_parts ((get_or labels r 0 == r) && not (get_or labels p.depot 0 == r))
    (test (required_crossings p (has_label labels r)) (touched p (has_label labels r)) (parts_over p x (has_label labels r)))
    (sym (are_kept.marks r vertex) ∙ marked)).0).0
