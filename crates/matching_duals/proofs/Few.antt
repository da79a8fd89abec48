-- Shores that are levels are few: also on the sides without the depot they are nested or disjoint.
use Rattle.std.proofs.Common.{◌≡◌, ℕ, zero, suc, ◌+◌, ◌-◌, ◌%◌, ◌≤◌, Bool, true, false, not, cond, List, [], ◌∷◌, ◌++◌, length, refl, sym, ap, ◌∙◌, subst, arith, inl, inr, ◌⊎◌}
use Rattle.std.specs.Prelude.{if◌then◌else◌}
use Rattle.std.specs.List.{count_by, AllByRecursion}
use Rattle.std.proofs.lemmas.Bool.{cases_Bool, false≢true}
use Rattle.std.proofs.lemmas.List.Sums.{sum_by-cons}
use Rattle.carp_base.specs.declared.edge.Edge.{Edge}
use Rattle.carp_base.specs.Problem.{Problem, IsValid, IsVertex, required_edges}
use Rattle.plan_model.specs.Plans.{crosses}
use Rattle.cut_pool.specs.Shores.{is_in, required_crossings}
use Rattle.edge_components.specs.Listing.{vertices_where}
use Rattle.edge_components.specs.Laws.{VerticesAreListed}
use Rattle.matching_duals.specs.OddSets.{OddSet, IsFamily, IsOddSized, level, side_of}
use Rattle.matching_duals.specs.Levels.{IsLevel}
use Rattle.matching_duals.proofs.Levels.{AreNestedOrApart, levels_are_nested_law}
use Rattle.matching_duals.proofs.Levels.AreNestedOrApart.{first_in, second_in, apart}
use Rattle.matching_duals.proofs.Parity.{part, HasEnds, all_ends, all_take}
use Rattle.matching_duals.proofs.Shores.{level_test, odd_shore}
use Rattle.matching_duals.proofs.Laminar.{Test, some, some-none, agree, agree-at, Nested, inside, around, disjoint, Laminar, Pairs, few_sets}

-- of what lies in no vertex no edge crosses the border
crosses_none : (set : ℕ → Bool) (n : ℕ) (edges : List Edge) → some n set ≡ false → AllByRecursion (HasEnds n) edges → count_by (crosses set) edges ≡ 0
crosses_none set n [] none ends = refl
crosses_none set n (x ∷ edges) none ends =
    omega (
      arith,
      sum_by-cons (λ y. cond (crosses set y) 1 0) x edges,
      ap (λ b. part b 1) (quiet (set x.u) (set x.v) (some-none n set x.u none ends.0.u_one ends.0.u_in) (some-none n set x.v none ends.0.v_one ends.0.v_in)),
      crosses_none set n edges none ends.1,
    )
  where
    quiet : (b c : Bool) → b ≡ false → c ≡ false → (if b then not c else c) ≡ false
    quiet true c first second = absurd (false≢true (sym first))
    quiet false c first second = second

odd_some : (p : Problem) (s : List ℕ) → IsValid p → required_crossings p (is_in s) % 2 ≡ 1 → some p.vertices (is_in s) ≡ true
odd_some p s valid odd = elim (cases_Bool (some p.vertices (is_in s))) [
  | inl there ↦ there
  | inr none ↦ absurd (omega (
    arith,
    odd,
    crosses_none (is_in s) p.vertices (required_edges p) none (all_take (HasEnds p.vertices) p.required p.edges (all_ends p valid)),
  ))
]

flipped : (depot b x : Bool) → depot ≡ true → x ≡ (if depot then not b else b) → x ≡ not b
flipped true b x is same = same
flipped false b x is same = absurd (false≢true is)

stayed : (depot b x : Bool) → depot ≡ false → x ≡ (if depot then not b else b) → x ≡ b
stayed true b x is same = absurd (false≢true (sym is))
stayed false b x is same = same

lacks : (b x : Bool) → x ≡ not b → x ≡ true → b ≡ false
lacks true x same has = absurd (false≢true (sym same ∙ has))
lacks false x same has = refl

clear : (b c : Bool) → (b ≡ true → c ≡ true) → c ≡ false → b ≡ false
clear true c turn none = absurd (false≢true (sym none ∙ turn refl))
clear false c turn none = refl

clear_apart : (b c : Bool) → (b ≡ true → c ≡ false) → c ≡ true → b ≡ false
clear_apart true c turn has = absurd (false≢true (sym (turn refl) ∙ has))
clear_apart false c turn has = refl

module _ (p : Problem) (valid : IsValid p) (f g F G : Test) (f_is : (v : ℕ) → IsVertex p v → F v ≡ side_of p f v) (g_is : (v : ℕ) → IsVertex p v → G v ≡ side_of p g v) where
  vertex : (v : ℕ) → 1 ≤ v → v ≤ p.vertices → IsVertex p v
  vertex v one below = record { from_one = one; in_range = below }

  f_kept : f p.depot ≡ false → (v : ℕ) → 1 ≤ v → v ≤ p.vertices → F v ≡ f v
  f_kept a v one below = stayed (f p.depot) (f v) (F v) a (f_is v (vertex v one below))

  f_turned : f p.depot ≡ true → (v : ℕ) → 1 ≤ v → v ≤ p.vertices → F v ≡ not (f v)
  f_turned a v one below = flipped (f p.depot) (f v) (F v) a (f_is v (vertex v one below))

  g_kept : g p.depot ≡ false → (v : ℕ) → 1 ≤ v → v ≤ p.vertices → G v ≡ g v
  g_kept b v one below = stayed (g p.depot) (g v) (G v) b (g_is v (vertex v one below))

  g_turned : g p.depot ≡ true → (v : ℕ) → 1 ≤ v → v ≤ p.vertices → G v ≡ not (g v)
  g_turned b v one below = flipped (g p.depot) (g v) (G v) b (g_is v (vertex v one below))

  by_depot : (f p.depot ≡ true) ⊎ (f p.depot ≡ false) → (g p.depot ≡ true) ⊎ (g p.depot ≡ false) → AreNestedOrApart p f g → Nested p.vertices F G
  by_depot (inr a) (inr b) (first_in h) = inside (λ v one below has. g_kept b v one below ∙ h v (vertex v one below) (sym (f_kept a v one below) ∙ has))
  by_depot (inr a) (inr b) (second_in h) = around (λ v one below has. f_kept a v one below ∙ h v (vertex v one below) (sym (g_kept b v one below) ∙ has))
  by_depot (inr a) (inr b) (apart h) =
      disjoint (λ v one below f_has g_has. false≢true (sym (h v (vertex v one below) (sym (f_kept a v one below) ∙ f_has)) ∙ sym (g_kept b v one below) ∙ g_has))
  by_depot (inl a) (inr b) (first_in h) = absurd (false≢true (sym b ∙ h p.depot valid.depot_in a))
  by_depot (inl a) (inr b) (second_in h) =
      disjoint (λ v one below f_has g_has. false≢true (sym (lacks (f v) (F v) (f_turned a v one below) f_has) ∙ h v (vertex v one below) (sym (g_kept b v one below) ∙ g_has)))
  by_depot (inl a) (inr b) (apart h) =
      around (λ v one below has. f_turned a v one below ∙ ap not (clear_apart (f v) (g v) (h v (vertex v one below)) (sym (g_kept b v one below) ∙ has)))
  by_depot (inr a) (inl b) (first_in h) =
      disjoint (λ v one below f_has g_has. false≢true (sym (lacks (g v) (G v) (g_turned b v one below) g_has) ∙ h v (vertex v one below) (sym (f_kept a v one below) ∙ f_has)))
  by_depot (inr a) (inl b) (second_in h) = absurd (false≢true (sym a ∙ h p.depot valid.depot_in b))
  by_depot (inr a) (inl b) (apart h) =
      inside (λ v one below has. g_turned b v one below ∙ ap not (h v (vertex v one below) (sym (f_kept a v one below) ∙ has)))
  by_depot (inl a) (inl b) (first_in h) =
      around (λ v one below has. f_turned a v one below ∙ ap not (clear (f v) (g v) (h v (vertex v one below)) (lacks (g v) (G v) (g_turned b v one below) has)))
  by_depot (inl a) (inl b) (second_in h) =
      inside (λ v one below has. g_turned b v one below ∙ ap not (clear (g v) (f v) (h v (vertex v one below)) (lacks (f v) (F v) (f_turned a v one below) has)))
  by_depot (inl a) (inl b) (apart h) = absurd (false≢true (sym (h p.depot valid.depot_in a) ∙ b))

-- the same vertices up to n pass two tests that agree there
pub where_same : (f g : ℕ → Bool) (n : ℕ) → ((v : ℕ) → 1 ≤ v → v ≤ n → f v ≡ g v) → vertices_where f n ≡ vertices_where g n
where_same f g zero same = refl
where_same f g (suc n) same =
    ap (λ xs. xs ++ (if f (suc n) then suc n ∷ [] else [])) (where_same f g n (λ v one below. same v one (omega (arith, below))))
    ∙ ap (λ b. vertices_where g n ++ (if b then suc n ∷ [] else [])) (same (suc n) (omega arith) (omega arith))

-- one more vertex
pub where_more : (f : ℕ → Bool) (xs ys : List ℕ) (v : ℕ) → 1 ≤ v → xs ≡ vertices_where f (v - 1) → ys ≡ xs ++ (if f v then v ∷ [] else []) → ys ≡ vertices_where f (v + 1 - 1)
where_more f xs ys zero one before now = absurd (omega (arith, one))
where_more f xs ys (suc k) one before now =
    let here : suc k - 1 ≡ k = omega arith in
    let next : suc k + 1 - 1 ≡ suc k = omega arith in
    now ∙ ap (λ zs. zs ++ (if f (suc k) then suc k ∷ [] else [])) (before ∙ ap (vertices_where f) here) ∙ ap (vertices_where f) (sym next)

-- lists of which none is the same as another
abbrev pub AllDiffer : List (List ℕ) → Type 0
AllDiffer [] = Unit {0}
AllDiffer (s ∷ shores) = AllByRecursion (λ r. s ≡ r → ⊥) shores × AllDiffer shores

module _ (listed : VerticesAreListed) (p : Problem) (d : ℕ → ℕ → ℕ) (sets : List OddSet) (valid : IsValid p) (family : IsFamily p d sets)
    (sized : AllByRecursion (IsOddSized p) sets) where
  abbrev Level : List ℕ → Type 0
  Level shore = IsLevel p d sets shore

  shores_nested : (s r : List ℕ) → Level s → Level r → Nested p.vertices (is_in s) (is_in r)
  shores_nested s r s_is r_is =
      by_depot p valid (level d s_is.set s_is.smaller s_is.number) (level d r_is.set r_is.smaller r_is.number) (is_in s) (is_in r)
      (level_test listed p d sets s s_is) (level_test listed p d sets r r_is)
      (cases_Bool (level d s_is.set s_is.smaller s_is.number p.depot)) (cases_Bool (level d r_is.set r_is.smaller r_is.number p.depot))
      (levels_are_nested_law p d sets s_is.smaller r_is.smaller s_is.set r_is.set s_is.number r_is.number family s_is.stands r_is.stands s_is.below r_is.below)

  -- levels with the same vertices are the same list
  same_lists : (s r : List ℕ) → Level s → Level r → ((v : ℕ) → 1 ≤ v → v ≤ p.vertices → is_in s v ≡ is_in r v) → s ≡ r
  same_lists s r s_is r_is same =
      let f = side_of p (level d s_is.set s_is.smaller s_is.number) in
      let g = side_of p (level d r_is.set r_is.smaller r_is.number) in
      s_is.same
      ∙ where_same f g p.vertices (λ v one below. let vertex : IsVertex p v = record { from_one = one; in_range = below } in
      sym (level_test listed p d sets s s_is v vertex) ∙ same v one below ∙ level_test listed p d sets r r_is v vertex)
      ∙ sym r_is.same

  -- the tests of the shores
  abbrev tests : List (List ℕ) → List Test
  tests [] = []
  tests (s ∷ shores) = is_in s ∷ tests shores

  length-tests : (shores : List (List ℕ)) → length (tests shores) ≡ length shores
  length-tests [] = refl
  length-tests (s ∷ shores) = omega (arith, length-tests shores)

  some_tests : (shores : List (List ℕ)) → AllByRecursion Level shores → AllByRecursion (λ f. some p.vertices f ≡ true) (tests shores)
  some_tests [] each = tt
  some_tests (s ∷ shores) each = (odd_some p s valid (odd_shore listed p d sets valid family sized s each.0), some_tests shores each.1)

  differ_from : (s : List ℕ) (shores : List (List ℕ)) → Level s → AllByRecursion Level shores → AllByRecursion (λ r. s ≡ r → ⊥) shores →
      AllByRecursion (λ g. agree p.vertices (is_in s) g ≡ false) (tests shores)
  differ_from s [] is each differ = tt
  differ_from s (r ∷ shores) is each differ = (one (cases_Bool (agree p.vertices (is_in s) (is_in r))), differ_from s shores is each.1 differ.1)
    where
      one : (agree p.vertices (is_in s) (is_in r) ≡ true) ⊎ (agree p.vertices (is_in s) (is_in r) ≡ false) → agree p.vertices (is_in s) (is_in r) ≡ false
      one (inl same) = absurd (differ.0 (same_lists s r is each.0 (λ v one below. agree-at p.vertices (is_in s) (is_in r) v same one below)))
      one (inr other) = other

  differ_tests : (shores : List (List ℕ)) → AllByRecursion Level shores → AllDiffer shores → Pairs (λ f g. agree p.vertices f g ≡ false) (tests shores)
  differ_tests [] each differ = tt
  differ_tests (s ∷ shores) each differ = (differ_from s shores each.0 each.1 differ.0, differ_tests shores each.1 differ.1)

  nested_with : (s : List ℕ) (shores : List (List ℕ)) → Level s → AllByRecursion Level shores → AllByRecursion (λ g. Nested p.vertices (is_in s) g) (tests shores)
  nested_with s [] is each = tt
  nested_with s (r ∷ shores) is each = (shores_nested s r is each.0, nested_with s shores is each.1)

  nested_tests : (all shores : List (List ℕ)) → AllByRecursion Level all → AllByRecursion Level shores →
      AllByRecursion (λ f. AllByRecursion (λ g. Nested p.vertices f g) (tests all)) (tests shores)
  nested_tests all [] first each = tt
  nested_tests all (s ∷ shores) first each = (nested_with s all each.0 first, nested_tests all shores first each.1)

  pub levels_are_few : (shores : List (List ℕ)) → AllByRecursion Level shores → AllDiffer shores → length shores ≤ 1999
  levels_are_few shores each differ =
      let laminar : Laminar p.vertices (tests shores) =
      record { some_in = some_tests shores each; differ = differ_tests shores each differ; nested = nested_tests shores shores each each } in
      let last : p.vertices ≡ suc (p.vertices - 1) = omega (arith, valid.depot_in.from_one, valid.depot_in.in_range) in
      omega (
        arith,
        length-tests shores,
        few_sets (p.vertices - 1) (tests shores) (subst (λ n. Laminar n (tests shores)) last laminar),
        valid.few_vertices,
        last,
      )
