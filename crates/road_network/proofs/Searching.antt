-- A search from the depot, as the vertices that it found.
use Rattle.std.proofs.Common.{◌≡◌, ◌≢◌, ℕ, zero, suc, ◌+◌, ◌<◌, ◌≤◌, Bool, true, false, cond, List, [], ◌∷◌, ◌++◌, length, get_or, set, refl, sym, ap, ◌∙◌, arith, inl, inr, subst, eqb, ◌||◌, replicate}
use Rattle.std.specs.Prelude.{if◌then◌else◌}
use Rattle.std.specs.List.{count_by, Contains}
use Rattle.std.proofs.lemmas.Bool.{cases_eq, cases_lt, eq-eqb, ne_eqb, eqb-true, false≢true}
use Rattle.std.proofs.lemmas.List.{length-set, get_or-set_same, get_or-set_other, length_push, get_or_push, get_or_append_left, set-get_or, length-replicate, get_or_default}
use Rattle.std.proofs.lemmas.List.Elements.{Contains-append_left, Contains-push}
use Rattle.std.proofs.lemmas.List.Sums.{sum_by-set, sum_by-cons}
use Rattle.road_network.proofs.Incident.{incident_is, incident_has, has_second}
use Rattle.road_network.specs.Search.{IsFound, Grows, ReachesAll}
use Rattle.road_network.specs.Incidence.{has_end, far_end, incident}
use Rattle.carp_base.specs.declared.edge.Edge.{Edge}
use Rattle.carp_base.specs.declared.edge.Task.{Task}
use Rattle.carp_base.specs.Problem.{Problem, IsVertex, IsReached, IsEdgeNumber, IsValid, TasksLead, edge_at, tail_of, head_of}

-- one more vertex, or one that was found before
module _ (p : Problem) (reached : List Bool) (found : List ℕ) (w : ℕ) (so_far : IsFound p reached found)
    (vertex : IsVertex p w) (sound : IsReached p w) where
  marked_at : get_or (set reached w true) w false ≡ true
  marked_at = get_or-set_same reached w true false (omega (arith, so_far.long, vertex.in_range))

  still_marked : (x : ℕ) → get_or reached x false ≡ true → get_or (set reached w true) x false ≡ true
  still_marked x was = elim (cases_eq x w) [
    | inl same ↦ rw same marked_at
    | inr other ↦ get_or-set_other reached w x true false other ∙ was
  ]

  found_again : get_or reached w false ≡ true → IsFound p (set reached w true) found
  found_again was =
      let same : set reached w true ≡ reached = ap (set reached w) (sym was) ∙ set-get_or reached w false in
      subst (λ marks. IsFound p marks found) (sym same) so_far

  old_or_new : (P : ℕ → Type 0) → ((k : ℕ) → k < length found → P (get_or found k 0)) → P w → (k : ℕ) → k < length (found ++ w ∷ []) → P (get_or (found ++ w ∷ []) k 0)
  old_or_new P old new k in_range = elim (cases_lt k (length found)) [
    | inl before ↦ subst P (sym (get_or_append_left found (w ∷ []) 0 k before)) (old k before)
    | inr last ↦ subst P (sym (get_or_push found w 0 k (omega (arith, length_push found w)))) new
  ]

  found_new : get_or reached w false ≡ false → IsFound p (set reached w true) (found ++ w ∷ [])
  found_new was = record {
    long = length-set reached w true ∙ so_far.long;
    counted = omega (
      arith,
      length_push found w,
      so_far.counted,
      ap {B = ℕ} (λ b. cond b 1 0) was,
      sum_by-set (λ b. cond b 1 0) reached w true false (omega (arith, so_far.long, vertex.in_range)),
    );
    vertices = old_or_new (IsVertex p) so_far.vertices vertex;
    sound = old_or_new (IsReached p) so_far.sound sound;
    marked = old_or_new (λ x. get_or (set reached w true) x false ≡ true) (λ k in_range. still_marked (get_or found k 0) (so_far.marked k in_range)) marked_at;
    listed = λ x is_marked. elim (cases_eq x w) [
      | inl same ↦ subst (λ y. Contains (found ++ w ∷ []) y) (sym same) (Contains-push found w)
      | inr other ↦ Contains-append_left found (w ∷ []) x (so_far.listed x (sym (get_or-set_other reached w x true false other) ∙ is_marked))
    ];
  }

  grows : (b : Bool) → Grows reached found (set reached w true) (if b then found else found ++ w ∷ [])
  grows true = record { marks = still_marked; longer = omega arith; places = λ k in_range. refl }
  grows false = record { marks = still_marked; longer = omega (arith, length_push found w); places = λ k in_range. get_or_append_left found (w ∷ []) 0 k in_range }

  found_either : (b : Bool) → get_or reached w false ≡ b → IsFound p (set reached w true) (if b then found else found ++ w ∷ [])
  found_either true was = found_again was
  found_either false was = found_new was

  pub found_more : (reached' : List Bool) (found' : List ℕ) → reached' ≡ set reached w true → found' ≡ (if get_or reached w false then found else found ++ w ∷ []) →
      IsFound p reached' found' × Grows reached found reached' found' × (get_or reached' w false ≡ true)
  found_more reached' found' is_reached is_found = rw (is_reached, is_found) (found_either (get_or reached w false) refl, grows (get_or reached w false), marked_at)

pub Grows-refl : (reached : List Bool) (found : List ℕ) → Grows reached found reached found
Grows-refl reached found = record { marks = λ w h. h; longer = omega arith; places = λ k in_range. refl }

pub Grows-trans : (r1 r2 r3 : List Bool) (f1 f2 f3 : List ℕ) → Grows r1 f1 r2 f2 → Grows r2 f2 r3 f3 → Grows r1 f1 r3 f3
Grows-trans r1 r2 r3 f1 f2 f3 first second = record {
  marks = λ w h. second.marks w (first.marks w h);
  longer = omega (arith, first.longer, second.longer);
  places = λ k in_range. second.places k (omega (arith, first.longer)) ∙ first.places k in_range;
}

-- before the search nothing is found
pub found_none : (p : Problem) (n : ℕ) → n ≡ p.vertices + 1 → IsFound p (replicate n false) []
found_none p n long = record {
  long = length-replicate n false ∙ long;
  counted = sym (count_none n);
  vertices = λ k none. absurd (omega (arith, none));
  sound = λ k none. absurd (omega (arith, none));
  marked = λ k none. absurd (omega (arith, none));
  listed = λ w marked. absurd (false≢true (sym (unmarked n w) ∙ marked));
}
  where
    count_none : (k : ℕ) → count_by (λ b. b) (replicate k false) ≡ 0
    count_none zero = refl
    count_none (suc k) = sum_by-cons (λ b. cond b 1 0) false (replicate k false) ∙ omega (arith, count_none k)

    unmarked : (k w : ℕ) → get_or (replicate k false) w false ≡ false
    unmarked zero w = refl
    unmarked (suc k) zero = refl
    unmarked (suc k) (suc w) = unmarked k w

TasksLead-more : (p : Problem) (a : ℕ) (path : List Task) (t : Task) (b : ℕ) → TasksLead p a path b → IsEdgeNumber p t.edge → tail_of (edge_at p t.edge) t.forward ≡ b →
    TasksLead p a (path ++ t ∷ []) (head_of (edge_at p t.edge) t.forward)
TasksLead-more p a [] t b leads number tail = (number, tail ∙ sym leads, refl)
TasksLead-more p a (s ∷ path) t b leads number tail = (leads.0, leads.1, TasksLead-more p (head_of (edge_at p s.edge) s.forward) path t b leads.2 number tail)

-- what a reached vertex is joined to is reached
pub reached_on : (p : Problem) (e : ℕ) (forward : Bool) → IsEdgeNumber p e → IsReached p (tail_of (edge_at p e) forward) → IsReached p (head_of (edge_at p e) forward)
reached_on p e forward number reached = record {
  path = reached.path ++ record { edge = e; forward = forward } ∷ [];
  leads = TasksLead-more p p.depot reached.path (record { edge = e; forward = forward }) (tail_of (edge_at p e) forward) reached.leads number refl;
}

-- the code's other end of an edge at a vertex, and the direction that leads there
pub other_end : (x : Edge) (v : ℕ) → has_end v x ≡ true → (forward : Bool) × (tail_of x forward ≡ v) × (far_end v x ≡ head_of x forward)
other_end x v has = elim (cases_eq x.u v) [
  | inl first ↦ (true, first, ap (λ b. if b then x.v else x.u) (eq-eqb x.u v first))
  | inr other ↦ (false, eqb-true x.v v (sym (ap (λ b. b || eqb x.v v) (ne_eqb x.u v other)) ∙ has), ap (λ b. if b then x.v else x.u) (ne_eqb x.u v other))
]

-- an edge without loop at a vertex leads from it to its other end alone
pub only_end : (x : Edge) (v w : ℕ) (forward : Bool) → x.u ≢ x.v → w ≡ far_end v x → tail_of x forward ≡ v → head_of x forward ≡ w
only_end x v w true no_loop is_w tail = sym (is_w ∙ ap (λ b. if b then x.v else x.u) (eq-eqb x.u v tail))
only_end x v w false no_loop is_w tail = sym (is_w ∙ ap (λ b. if b then x.v else x.u) (ne_eqb x.u v (λ same. no_loop (same ∙ sym tail))))

-- a vertex at the end of a path from a marked vertex is marked, where what a marked vertex is joined to is marked
pub path_marked : (p : Problem) (reached : List Bool) → ((v : ℕ) → get_or reached v false ≡ true → ReachesAll p reached v) →
    (a : ℕ) (path : List Task) (b : ℕ) → TasksLead p a path b → get_or reached a false ≡ true → get_or reached b false ≡ true
path_marked p reached closed a [] b leads marked = subst (λ v. get_or reached v false ≡ true) leads marked
path_marked p reached closed a (t ∷ path) b leads marked =
    path_marked p reached closed (head_of (edge_at p t.edge) t.forward) path b leads.2 (closed a marked t.edge t.forward leads.0 leads.1)

-- one more edge at the vertex whose edges are gone through
module _ (p : Problem) (valid : IsValid p) (v : ℕ) (es : List ℕ) (es_is : es ≡ incident p v) (k : ℕ) (in_range : k < length es) where
  at_place : (1 ≤ get_or es k 0) × (get_or es k 0 ≤ length p.edges) × (has_end v (edge_at p (get_or es k 0)) ≡ true)
  at_place = subst (λ xs. (1 ≤ get_or xs k 0) × (get_or xs k 0 ≤ length p.edges) × (has_end v (edge_at p (get_or xs k 0)) ≡ true)) (sym es_is)
      (incident_is p v (length p.edges) k (subst (λ xs. k < length xs) es_is in_range))

  pub number_at : IsEdgeNumber p (get_or es k 0)
  number_at = record { from_one = at_place.0; in_range = at_place.1 }

  has_at : has_end v (edge_at p (get_or es k 0)) ≡ true
  has_at = at_place.2

  pub far_vertex : IsVertex p (far_end v (edge_at p (get_or es k 0)))
  far_vertex =
      let x = edge_at p (get_or es k 0) in
      let fine = valid.edges (get_or es k 0) number_at in
      elim (cases_eq x.u v) [
        | inl first ↦ subst (IsVertex p) (sym (ap (λ b. if b then x.v else x.u) (eq-eqb x.u v first))) fine.v_in
        | inr other ↦ subst (IsVertex p) (sym (ap (λ b. if b then x.v else x.u) (ne_eqb x.u v other))) fine.u_in
      ]

  pub far_reached : IsReached p v → IsReached p (far_end v (edge_at p (get_or es k 0)))
  far_reached reached =
      let x = edge_at p (get_or es k 0) in
      let way = other_end x v has_at in
      subst (IsReached p) (sym way.2) (reached_on p (get_or es k 0) way.0 number_at (subst (IsReached p) (sym way.1) reached))

  pub joined_more : (reached reached' : List Bool) → ((w : ℕ) → get_or reached w false ≡ true → get_or reached' w false ≡ true) →
      get_or reached' (far_end v (edge_at p (get_or es k 0))) false ≡ true →
      ((i : ℕ) (forward : Bool) → i < k → tail_of (edge_at p (get_or es i 0)) forward ≡ v → get_or reached (head_of (edge_at p (get_or es i 0)) forward) false ≡ true) →
      (i : ℕ) (forward : Bool) → i < k + 1 → tail_of (edge_at p (get_or es i 0)) forward ≡ v → get_or reached' (head_of (edge_at p (get_or es i 0)) forward) false ≡ true
  joined_more reached reached' kept far joined i forward below tail = elim (cases_lt i k) [
    | inl before ↦ kept _ (joined i forward before tail)
    | inr last ↦
        let same : i ≡ k = omega arith in
        let x = edge_at p (get_or es k 0) in
        let tail' : tail_of x forward ≡ v = subst (λ j. tail_of (edge_at p (get_or es j 0)) forward ≡ v) same tail in
        let goes = only_end x v (far_end v x) forward (valid.edges (get_or es k 0) number_at).no_loop refl tail' in
        subst (λ j. get_or reached' (head_of (edge_at p (get_or es j 0)) forward) false ≡ true) (sym same)
        (subst (λ w. get_or reached' w false ≡ true) (sym goes) far)
  ]

-- all edges at the vertex were gone through
pub reaches_all : (p : Problem) (v : ℕ) (es : List ℕ) → es ≡ incident p v → (reached : List Bool) →
    ((i : ℕ) (forward : Bool) → i < length es → tail_of (edge_at p (get_or es i 0)) forward ≡ v → get_or reached (head_of (edge_at p (get_or es i 0)) forward) false ≡ true) →
    ReachesAll p reached v
reaches_all p v es es_is reached joined e forward number tail =
    let at = subst (λ xs. Contains xs e) (sym es_is) (incident_has p v e (length p.edges) number.from_one number.in_range (has_tail (edge_at p e) v forward tail)) in
    let here : get_or es at.0 0 ≡ e = get_or_default es at.0 0 e at.1 ∙ at.2 in
    subst (λ n. get_or reached (head_of (edge_at p n) forward) false ≡ true) here
    (joined at.0 forward at.1 (subst (λ n. tail_of (edge_at p n) forward ≡ v) (sym here) tail))
  where
    has_tail : (x : Edge) (w : ℕ) (b : Bool) → tail_of x b ≡ w → has_end w x ≡ true
    has_tail x w true is = ap (λ t. t || eqb x.v w) (eq-eqb x.u w is)
    has_tail x w false is = subst (λ n. has_end n x ≡ true) is (has_second x)

-- a marked vertex is reached, and its edges were gone through, where the search went through all that it found
pub marked_reached : (p : Problem) (reached : List Bool) (found : List ℕ) → IsFound p reached found → (v : ℕ) → get_or reached v false ≡ true → IsReached p v
marked_reached p reached found so_far v marked =
    let at = so_far.listed v marked in
    subst (IsReached p) (get_or_default found at.0 0 v at.1 ∙ at.2) (so_far.sound at.0 at.1)

pub all_closed : (p : Problem) (reached : List Bool) (found : List ℕ) (next : ℕ) → IsFound p reached found → length found ≤ next →
    ((k : ℕ) → k < next → ReachesAll p reached (get_or found k 0)) → (v : ℕ) → get_or reached v false ≡ true → ReachesAll p reached v
all_closed p reached found next so_far all closed v marked =
    let at = so_far.listed v marked in
    subst (ReachesAll p reached) (get_or_default found at.0 0 v at.1 ∙ at.2) (closed at.0 (omega (arith, at.1)))

-- the vertices before the next place, after one more vertex
pub closed_more : (p : Problem) (reached : List Bool) (found : List ℕ) (reached' : List Bool) (found' : List ℕ) (next v : ℕ) → Grows reached found reached' found' →
    next < length found → v ≡ get_or found next 0 → ReachesAll p reached' v → ((k : ℕ) → k < next → ReachesAll p reached (get_or found k 0)) →
    (k : ℕ) → k < next + 1 → ReachesAll p reached' (get_or found' k 0)
closed_more p reached found reached' found' next v grows in_range v_is all closed k below = elim (cases_eq k next) [
  | inl same ↦ rw (same, grows.places next in_range, sym v_is) all
  | inr other ↦ rw (grows.places k (omega arith)) (λ e forward number tail. grows.marks (head_of (edge_at p e) forward) (closed k (omega arith) e forward number tail))
]
