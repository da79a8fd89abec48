-- The levels of one set more, the smaller sets first.
use Rattle.std.proofs.Common.{◌≡◌, ℕ, zero, suc, ◌+◌, ◌<◌, ◌≤◌, ◌==◌, ◌||◌, Bool, true, false, not, cond, leb, List, [], ◌∷◌, ◌++◌, length, take, get_or, set, refl, sym, ap, ◌∙◌, subst, arith, add-one, eq-eqb, inl, inr}
use Rattle.std.specs.Prelude.{if◌then◌else◌}
use Rattle.std.specs.List.{All, AllByRecursion, list_any, count_by}
use Rattle.std.proofs.lemmas.Bool.{cases_eq, ne_eqb, or_right, false≢true}
use Rattle.std.proofs.lemmas.List.{get_or-set_same, get_or-set_other, take_more}
use Rattle.std.proofs.lemmas.List.Elements.{All-from_recursion}
use Rattle.std.proofs.lemmas.List.Folds.{list_any_at, list_any-append}
use Rattle.std.proofs.lemmas.List.Sums.{sum_by-cons}
use Rattle.carp_base.specs.declared.edge.Edge.{Edge}
use Rattle.carp_base.specs.Problem.{Problem, IsValid, IsVertex, IsEdgeNumber, edge_at, required_edges}
use Rattle.plan_model.specs.Plans.{crosses}
use Rattle.cut_pool.specs.declared.shore.Weighted.{Weighted}
use Rattle.cut_pool.specs.Shores.{is_in, required_crossings}
use Rattle.edge_components.specs.Listing.{vertices_where}
use Rattle.edge_components.specs.Laws.{VerticesAreListed}
use Rattle.matching_duals.specs.Joins.{all_halves}
use Rattle.matching_duals.specs.OddSets.{OddSet, AreDistinct, IsFamily, IsOddSized, count_below, depth, holds, level, set_halves, side_of, enclosing_weight}
use Rattle.matching_duals.specs.Levels.{Adds, AreLevels, AreSides, IsLevel, IsSide, on_side, side_list}
use Rattle.matching_duals.specs.Paths.{reach}
use Rattle.blossom_match.specs.declared.least.Matching.{Matching}
use Rattle.blossom_match.specs.Answer.{len_in, sets_in}
use Rattle.matching_duals.specs.Sets.{AreDepths, AreLaid, AreSets, IsBounded, set_of, sets_to}
use Rattle.matching_duals.proofs.Parity.{part, HasEnds}
use Rattle.matching_duals.proofs.Shores.{odd_shore, same_crossing}
use Rattle.matching_duals.proofs.Few.{where_same}
use Rattle.matching_duals.proofs.Rows.{depth_is}

-- a level of smaller sets is one of all
level_more : (p : Problem) (d : ℕ → ℕ → ℕ) (s : OddSet) (smaller : List OddSet) (shore : List ℕ) → IsLevel p d smaller shore → IsLevel p d (s ∷ smaller) shore
level_more p d s smaller shore is = record {
  set = is.set;
  smaller = is.smaller;
  number = is.number;
  stands = record { before = s ∷ is.stands.before; split = ap (λ xs. s ∷ xs) is.stands.split };
  below = is.below;
  same = is.same;
}

-- no required edge crosses the empty set
none_cross : (edges : List Edge) → count_by (crosses (is_in [])) edges ≡ 0
none_cross [] = refl
none_cross (x ∷ edges) = omega (arith, none_cross edges, sum_by-cons (λ y. cond (crosses (is_in []) y) 1 0) x edges)

-- how many levels cross, by tests that agree
below_same : (n : ℕ) (f g : ℕ → Bool) → ((t : ℕ) → f t ≡ g t) → count_below n f ≡ count_below n g
below_same zero f g same = refl
below_same (suc n) f g same = omega (arith, below_same n f g same, ap (λ b. part b 1) (same n))

pub enclosing_most : (sets : List OddSet) (v : ℕ) → enclosing_weight sets v ≤ set_halves sets
enclosing_most [] v = omega arith
enclosing_most (s ∷ sets) v = omega (arith, enclosing_most sets v, sum_by-cons (λ x. x.halves) s sets, part_le (holds s v) s.halves)
  where
    part_le : (b : Bool) (n : ℕ) → part b n ≤ n
    part_le true n = omega arith
    part_le false n = omega arith

module _ (p : Problem) (d : ℕ → ℕ → ℕ) (s : OddSet) (smaller : List OddSet) (depths : List ℕ) (valid : IsValid p)
    (are : (v : ℕ) → IsVertex p v → get_or depths v 0 ≡ depth d s smaller v) where
  low_is : (t v : ℕ) → IsVertex p v → leb (get_or depths v 0) t ≡ level d s smaller t v
  low_is t v vertex = ap (λ n. leb n t) (are v vertex)

  side_is : (t v : ℕ) → IsVertex p v → on_side depths t p.depot v ≡ side_of p (level d s smaller t) v
  side_is t v vertex =
      ap (λ b. if b then not (leb (get_or depths v 0) t) else leb (get_or depths v 0) t) (low_is t p.depot valid.depot_in)
      ∙ ap (λ b. if level d s smaller t p.depot then not b else b) (low_is t v vertex)

  list_is : (t : ℕ) → side_list p depths t ≡ vertices_where (side_of p (level d s smaller t)) p.vertices
  list_is t = where_same (on_side depths t p.depot) (side_of p (level d s smaller t)) p.vertices (λ v one below. side_is t v (record { from_one = one; in_range = below }))

  side_level : (shore : List ℕ) → IsSide p depths s.halves shore → IsLevel p d (s ∷ smaller) shore
  side_level shore side = record {
    set = s;
    smaller = smaller;
    number = side.number;
    stands = record { before = []; split = refl };
    below = side.below;
    same = side.same ∙ list_is side.number;
  }

  pub sides_are : VerticesAreListed → IsFamily p d (s ∷ smaller) → AllByRecursion (IsOddSized p) (s ∷ smaller) → AreSides p depths s.halves
  sides_are listed family sized t below none =
      let is = side_level (side_list p depths t) (record { number = t; below = below; same = refl }) in
      let odd = odd_shore listed p d (s ∷ smaller) valid family sized (side_list p depths t) is in
      let empty : required_crossings p (is_in (side_list p depths t)) ≡ 0 = ap (λ (l : List ℕ). required_crossings p (is_in l)) none ∙ none_cross (required_edges p) in
      omega (arith, odd, empty)

  ends_at : (e : ℕ) → IsEdgeNumber p e → HasEnds p.vertices (edge_at p e)
  ends_at e number = let fine = valid.edges e number in record {
    u_one = fine.u_in.from_one;
    u_in = fine.u_in.in_range;
    v_one = fine.v_in.from_one;
    v_in = fine.v_in.in_range;
    no_loop = fine.no_loop;
  }

  pub levels_more : (before after : List Weighted) → AreLevels p d smaller before → Adds p depths 0 s.halves before after → AreLevels p d (s ∷ smaller) after
  levels_more before after levels adds = record {
    each = λ k e below. elim (adds.each k e below) [
      | inl side ↦ side_level (get_or after k e).shore side
      | inr old ↦ level_more p d s smaller (get_or after k e).shore
          (subst (IsLevel p d smaller) (old.same (get_or after k e)) (levels.each old.place (get_or after k e) old.below))
    ];
    over = λ e number.
        omega (
          arith,
          adds.over e number,
          levels.over e number,
          below_same s.halves (λ t. crosses (on_side depths t p.depot) (edge_at p e)) (λ t. crosses (level d s smaller t) (edge_at p e))
              (λ t. same_crossing p (on_side depths t p.depot) (level d s smaller t) (edge_at p e) (ends_at e number) (side_is t)),
        );
    all = omega (arith, adds.all, levels.all, sum_by-cons (λ x. x.halves) s smaller);
  }

-- one set more is laid
pub laid_more : (p : Problem) (table : List ℕ) (s : OddSet) (smaller : List OddSet) (before now depths : List ℕ) (shores after : List Weighted) → IsValid p →
    AreLaid p table smaller before shores → ((v : ℕ) → IsVertex p v → get_or depths v 0 ≡ depth (reach p table) s smaller v) → Adds p depths 0 s.halves shores after →
    length now ≡ length before → ((v : ℕ) → get_or now v 0 ≡ get_or before v 0 + (if holds s v then s.halves else 0)) → AreLaid p table (s ∷ smaller) now after
laid_more p table s smaller before now depths shores after valid laid are adds long added = record {
  long = long ∙ laid.long;
  each_enclosing = λ v vertex. omega (arith, added v, laid.each_enclosing v vertex);
  levels = levels_more p (reach p table) s smaller depths valid are shores after laid.levels adds;
  joined = adds.joined;
}

-- a set and those before it by size
pub own_list : (odd : List ℕ) (m : Matching) (i : ℕ) → sets_to odd m (len_in m i) (suc i) ≡ set_of odd m i ∷ sets_to odd m (len_in m i) i
own_list odd m i =
    ap (λ b. if b then set_of odd m i ∷ sets_to odd m (len_in m i) i else sets_to odd m (len_in m i) i) (eq-eqb (len_in m i) (len_in m i) refl)

pub own_bounded : (p : Problem) (odd table : List ℕ) (m : Matching) (i : ℕ) → AreSets p odd table m → i < sets_in m →
    IsBounded p table (set_of odd m i ∷ sets_to odd m (len_in m i) i)
own_bounded p odd table m i sets below = subst (IsBounded p table) (own_list odd m i) (sets.bounded (len_in m i) (suc i) (omega (arith, below)))

-- the next set is of this size, or of another one
pub next_there : (p : Problem) (odd table : List ℕ) (m : Matching) (size i : ℕ) (enclosing : List ℕ) (shores : List Weighted) → len_in m i ≡ size →
    AreLaid p table (set_of odd m i ∷ sets_to odd m (len_in m i) i) enclosing shores → AreLaid p table (sets_to odd m size (i + 1)) enclosing shores
next_there p odd table m size i enclosing shores same laid =
    rw add-one (subst (λ n. AreLaid p table (sets_to odd m n (suc i)) enclosing shores) same (subst (λ sets. AreLaid p table sets enclosing shores) (sym (own_list odd m i)) laid))

pub next_other : (p : Problem) (odd table : List ℕ) (m : Matching) (size i : ℕ) (enclosing : List ℕ) (shores : List Weighted) → (len_in m i ≡ size → ⊥) →
    AreLaid p table (sets_to odd m size i) enclosing shores → AreLaid p table (sets_to odd m size (i + 1)) enclosing shores
next_other p odd table m size i enclosing shores other laid =
    rw add-one (subst (λ b. AreLaid p table (if b then set_of odd m i ∷ sets_to odd m size i else sets_to odd m size i) enclosing shores) (sym (ne_eqb (len_in m i) size other)) laid)

-- the weights round each vertex
module _ (p : Problem) (table : List ℕ) (s : OddSet) (smaller : List OddSet) (enclosing : List ℕ) (shores : List Weighted)
    (laid : AreLaid p table smaller enclosing shores) (bounded : IsBounded p table (s ∷ smaller)) where
  all_map : (P Q : ℕ → Type 0) (xs : List ℕ) → ((x : ℕ) → P x → Q x) → AllByRecursion P xs → AllByRecursion Q xs
  all_map P Q [] turn all = tt
  all_map P Q (x ∷ xs) turn all = (turn x all.0, all_map P Q xs turn all.1)

  pub depths_are : (depths : List ℕ) → AreDepths p table enclosing s.members s.halves depths → (v : ℕ) → IsVertex p v → get_or depths v 0 ≡ depth (reach p table) s smaller v
  depths_are depths are v vertex =
      are.each v vertex
      ∙ depth_is p table enclosing smaller v s.halves s.members
      (all_map (IsVertex p) (λ w. get_or enclosing w 0 ≡ enclosing_weight smaller w) s.members (λ w. laid.each_enclosing w) bounded.sized.0.vertices)

  pub members_in : All (IsVertex p) s.members
  members_in = All-from_recursion (IsVertex p) s.members bounded.sized.0.vertices

  pub members_placed : All (λ v. v < length enclosing) s.members
  members_placed k e below = omega (arith, (members_in k e below).in_range, laid.long)

  pub enclosing_small : All (λ v. get_or enclosing v 0 + s.halves ≤ 4000000000000000) s.members
  enclosing_small k e below =
      omega (
        arith,
        laid.each_enclosing (get_or s.members k e) (members_in k e below),
        enclosing_most smaller (get_or s.members k e),
        bounded.small,
        sum_by-cons (λ x. x.halves) s smaller,
      )

  pub halves_small : all_halves shores + s.halves ≤ 4000000000000000
  halves_small = omega (arith, laid.levels.all, bounded.small, sum_by-cons (λ x. x.halves) s smaller)

-- a member of a list of different ones stands not before its place
before_place : (members : List ℕ) (i : ℕ) → AreDistinct members → i < length members → list_any (λ x. x == get_or members i 0) (take i members) ≡ false
before_place [] i distinct below = absurd (omega (arith, below))
before_place (v ∷ vs) zero distinct below = refl
before_place (v ∷ vs) (suc i) distinct below =
    or_none (v == get_or vs i 0) (list_any (λ x. x == get_or vs i 0) (take i vs))
    (ne_eqb v (get_or vs i 0) (λ same. false≢true (sym distinct.0
    ∙ list_any_at (λ x. x == v) vs i 0 (omega (arith, below)) (eq-eqb (get_or vs i 0) v (sym same)))))
    (before_place vs i distinct.1 (omega (arith, below)))
  where
    or_none : (b c : Bool) → b ≡ false → c ≡ false → (b || c) ≡ false
    or_none true c first second = first
    or_none false c first second = second

any_push : (v : ℕ) (xs : List ℕ) (m : ℕ) → list_any (λ x. x == v) (xs ++ m ∷ []) ≡ (list_any (λ x. x == v) xs || (m == v))
any_push v xs m = list_any-append (λ x. x == v) xs (m ∷ []) ∙ ap (λ b. list_any (λ x. x == v) xs || b) (or_nil (m == v))
  where
    or_nil : (c : Bool) → (c || false) ≡ c
    or_nil true = refl
    or_nil false = refl

pub enclosing_more : (before now members : List ℕ) (more i : ℕ) → AreDistinct members → i < length members → get_or members i 0 < length now →
    ((v : ℕ) → get_or now v 0 ≡ get_or before v 0 + (if list_any (λ x. x == v) (take i members) then more else 0)) →
    (v : ℕ) → get_or (set now (get_or members i 0) (get_or now (get_or members i 0) 0 + more)) v 0
    ≡ get_or before v 0 + (if list_any (λ x. x == v) (take (i + 1) members) then more else 0)
enclosing_more before now members more i distinct below placed is v =
    let m : ℕ = get_or members i 0 in
    let grown : list_any (λ x. x == v) (take (i + 1) members) ≡ (list_any (λ x. x == v) (take i members) || (m == v)) =
    ap (λ (l : List ℕ). list_any (λ x. x == v) l) (take_more members i 0 below) ∙ any_push v (take i members) m in
    let none = before_place members i distinct below in
    elim (cases_eq v m) [
      | inl same ↦
          let at : get_or (set now m (get_or now m 0 + more)) v 0 ≡ get_or now m 0 + more =
          ap (λ w. get_or (set now m (get_or now m 0 + more)) w 0) same ∙ get_or-set_same now m (get_or now m 0 + more) 0 placed in
          let old : get_or now m 0 ≡ get_or before m 0 = omega (arith, is m, ap (λ b. part b more) none) in
          let first : (list_any (λ x. x == v) (take i members) || (m == v)) ≡ true = or_right (list_any (λ x. x == v) (take i members)) (m == v) (eq-eqb m v (sym same)) in
          omega (arith, at, old, ap (λ w. get_or before w 0) same, ap (λ b. part b more) (grown ∙ first))
      | inr other ↦
          let at = get_or-set_other now m v (get_or now m 0 + more) 0 other in
          let last : (list_any (λ x. x == v) (take i members) || (m == v)) ≡ list_any (λ x. x == v) (take i members) =
          or_last (list_any (λ x. x == v) (take i members)) (m == v) (ne_eqb m v (λ same. other (sym same))) in
          omega (arith, at, is v, ap (λ b. part b more) (grown ∙ last))
    ]
  where
    or_last : (b c : Bool) → c ≡ false → (b || c) ≡ b
    or_last true c none = refl
    or_last false c none = none

-- what the steps for one set are asked of, and what they give; each list is told by an equation
module _ (listed : VerticesAreListed) (p : Problem) (odd table : List ℕ) (m : Matching) (i : ℕ) (enclosing : List ℕ) (shores : List Weighted) (valid : IsValid p)
    (sets : AreSets p odd table m) (below : i < sets_in m) (laid : AreLaid p table (sets_to odd m (len_in m i) i) enclosing shores) where
  abbrev s : OddSet
  s = set_of odd m i

  abbrev smaller : List OddSet
  smaller = sets_to odd m (len_in m i) i

  bounded : IsBounded p table (s ∷ smaller)
  bounded = own_bounded p odd table m i sets below

  pub set_members_in : (ms : List ℕ) → ms ≡ s.members → All (IsVertex p) ms
  set_members_in ms is = subst (λ (l : List ℕ). All (IsVertex p) l) (sym is) (members_in p table s smaller enclosing shores laid bounded)

  pub set_distinct : (ms : List ℕ) → ms ≡ s.members → AreDistinct ms
  set_distinct ms is = subst AreDistinct (sym is) bounded.sized.0.distinct

  pub set_placed : (ms r : List ℕ) → ms ≡ s.members → r ≡ enclosing → All (λ v. v < length r) ms
  set_placed ms r is r_is =
      subst (λ (l : List ℕ). All (λ v. v < length r) l) (sym is)
      (subst (λ (l : List ℕ). All (λ v. v < length l) s.members) (sym r_is) (members_placed p table s smaller enclosing shores laid bounded))

  pub set_small : (ms r : List ℕ) (w : ℕ) → ms ≡ s.members → r ≡ enclosing → w ≡ s.halves → All (λ v. get_or r v 0 + w ≤ 4000000000000000) ms
  set_small ms r w is r_is w_is =
      subst (λ (l : List ℕ). All (λ v. get_or r v 0 + w ≤ 4000000000000000) l) (sym is)
      (subst (λ (l : List ℕ). All (λ v. get_or l v 0 + w ≤ 4000000000000000) s.members) (sym r_is)
      (subst (λ n. All (λ v. get_or enclosing v 0 + n ≤ 4000000000000000) s.members) (sym w_is) (enclosing_small p table s smaller enclosing shores laid bounded)))

  pub set_fits : (w : ℕ) → w ≡ s.halves → all_halves shores + w ≤ 4000000000000000
  set_fits w w_is = omega (arith, halves_small p table s smaller enclosing shores laid bounded, w_is)

  depths_known : (t r ms depths : List ℕ) (w : ℕ) → AreDepths p t r ms w depths → t ≡ table → r ≡ enclosing → ms ≡ s.members → w ≡ s.halves →
      (v : ℕ) → IsVertex p v → get_or depths v 0 ≡ depth (reach p table) s smaller v
  depths_known t r ms depths w are t_is r_is is w_is =
      depths_are p table s smaller enclosing shores laid bounded depths
      (subst (λ (l : List ℕ). AreDepths p l enclosing s.members s.halves depths) t_is
      (subst (λ (l : List ℕ). AreDepths p t l s.members s.halves depths) r_is
      (subst (λ (l : List ℕ). AreDepths p t r l s.halves depths) is (subst (λ n. AreDepths p t r ms n depths) w_is are))))

  pub set_sides : (t r ms depths lent : List ℕ) (w : ℕ) → AreDepths p t r ms w depths → t ≡ table → r ≡ enclosing → ms ≡ s.members → w ≡ s.halves → lent ≡ depths →
      AreSides p lent w
  set_sides t r ms depths lent w are t_is r_is is w_is lent_is =
      subst (λ (l : List ℕ). AreSides p l w) (sym lent_is)
      (subst (AreSides p depths) (sym w_is)
      (sides_are p (reach p table) s smaller depths valid (depths_known t r ms depths w are t_is r_is is w_is) listed bounded.family bounded.sized))

  pub set_laid : (t r ms depths lent : List ℕ) (w : ℕ) → AreDepths p t r ms w depths → t ≡ table → r ≡ enclosing → ms ≡ s.members → w ≡ s.halves → lent ≡ depths →
      (after : List Weighted) → Adds p lent 0 w shores after → (now r' ms' : List ℕ) → r' ≡ enclosing → ms' ≡ s.members → length now ≡ length enclosing →
      ((v : ℕ) → get_or now v 0 ≡ get_or r' v 0 + (if list_any (λ x. x == v) ms' then w else 0)) → AreLaid p table (s ∷ smaller) now after
  set_laid t r ms depths lent w are t_is r_is is w_is lent_is after adds now r' ms' r'_is is' long added =
      laid_more p table s smaller enclosing now depths shores after valid laid (depths_known t r ms depths w are t_is r_is is w_is)
      (subst (λ n. Adds p depths 0 n shores after) w_is (subst (λ (l : List ℕ). Adds p l 0 w shores after) lent_is adds)) long
      (λ v.
      omega (
        arith,
        added v,
        ap (λ (l : List ℕ). get_or l v 0) r'_is,
        ap (λ (l : List ℕ). part (list_any (λ x. x == v) l) w) is',
        ap (λ n. part (holds s v) n) w_is,
      ))
