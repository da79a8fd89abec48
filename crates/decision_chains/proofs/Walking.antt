-- Walks along yes pairs: they come to no edge twice, and so they end.
use Rattle.std.proofs.Common.{◌≡◌, ◌≢◌, ℕ, zero, suc, ◌+◌, ◌-◌, ◌≤◌, Bool, true, false, not, cond, Option, Some, None, List, [], ◌∷◌, ◌++◌, length, get_or, refl, sym, ◌∙◌, ap, subst, arith, append_assoc, length-append, inl, inr, ◌⊎◌, Result, Ok, Err, IfOk}
use Rattle.std.specs.List.{AllByRecursion, sum_by}
use Rattle.std.proofs.Math.ListN.{set, length-set}
use Rattle.std.proofs.lemmas.List.{get_or-set_same, get_or-set_other, get_or_at}
use Rattle.std.proofs.lemmas.List.Sums.{sum_by-set}
use Rattle.std.proofs.lemmas.Bool.{cases_eq, cases_lt, ne_eqb, eq-eqb, both_ways, false_from_ne_true}
use Rattle.carp_base.specs.Problem.{IsRequired}
use Rattle.decision_chains.specs.Exclusions.{IsYes, YesPath, AreJoined, IsChainEnd, Detour, LeadsOn}
use Rattle.decision_chains.specs.Laws.{YesPairsJoin}
use Rattle.decision_chains.specs.Neighbours.{times}
use Rattle.decision_chains.specs.ChainTables.{IsTangled, cyclic, IsChainTable}
use Rattle.decision_chains.specs.ChainWalks.{is_marked, unmarked, AreClosed, IsTrail, Runs, RunsFrom, first_or_none, AreMarkedToo, IsOnWay, IsWalked, IsOrdered}
use Rattle.decision_chains.specs.declared.chains.Chains.{Chains}
use Rattle.decision_chains.specs.declared.decision.Decision.{Decision}
use Rattle.decision_chains.proofs.PlanTimes.{times-cons, times-append, times-same}

-- members of lists
pub times_other : (e x : ℕ) (xs : List ℕ) → x ≢ e → times e (x ∷ xs) ≡ times e xs
times_other e x xs other = omega (arith, times-cons e x xs, ap {B = ℕ} (λ b. cond b 1 0) (ne_eqb x e other))

pub times_here : (e x : ℕ) (xs : List ℕ) → x ≡ e → times e (x ∷ xs) ≡ 1 + times e xs
times_here e x xs same = omega (arith, times-cons e x xs, ap {B = ℕ} (λ b. cond b 1 0) (eq-eqb x e same))

-- a trail back to a neighbour closes a cycle
module _ (branch : List Decision) (a b : ℕ) where
  later_detour : (x : ℕ) (ys : List ℕ) → IsTrail branch x ys → x ≢ a → times a ys ≡ 0 → 1 ≤ times b ys → (path : List ℕ) × Detour branch a b x path b
  later_detour x [] trail x_other none some = absurd (omega (arith, some))
  later_detour x (y ∷ ys) trail x_other none some =
      let y_other : y ≢ a = λ same. omega (arith, none, times_here a y ys same) in
      elim (cases_eq y b) [
        | inl is ↦ (y ∷ [], (trail.0, (λ both. x_other both.0), (λ both. y_other both.1), is))
        | inr other ↦
            let rest = later_detour y ys trail.1 y_other (omega (arith, none, times_other a y ys y_other)) (omega (arith, some, times_other b y ys other)) in
            (y ∷ rest.0, (trail.0, (λ both. x_other both.0), (λ both. y_other both.1), rest.1))
      ]

  pub trail_tangles : a ≢ b → IsYes branch a b → (ys : List ℕ) → IsTrail branch a ys → times a ys ≡ 0 → 1 ≤ times b ys → first_or_none ys ≢ b → IsTangled branch
  trail_tangles apart is [] trail none some first = absurd (omega (arith, some))
  trail_tangles apart is (y ∷ ys) trail none some first =
      let y_other : y ≢ a = λ same. omega (arith, none, times_here a y ys same) in
      let rest = later_detour y ys trail.1 y_other (omega (arith, none, times_other a y ys y_other)) (omega (arith, some, times_other b y ys first)) in
      cyclic a b (y ∷ rest.0) apart is (trail.0, (λ both. first both.1), (λ both. y_other both.1), rest.1)

-- marks
pub mark_same : (marks : List Bool) (e : ℕ) → 1 ≤ e → e ≤ length marks → is_marked (set marks (e - 1) true) e ≡ true
mark_same marks zero from_one in_range = absurd (omega arith)
mark_same marks (suc k) from_one in_range =
    let place : suc k - 1 ≡ k = omega arith in
    ap (λ i. get_or (set marks i true) k false) place ∙ get_or-set_same marks k true false (omega (arith, in_range))

pub mark_other : (marks : List Bool) (e f : ℕ) → 1 ≤ e → f ≢ e → is_marked (set marks (e - 1) true) f ≡ is_marked marks f
mark_other marks e zero from_one other = refl
mark_other marks e (suc k) from_one other = get_or-set_other marks (e - 1) k true false (omega (arith, other, from_one))

pub fewer_unmarked : (marks : List Bool) (e : ℕ) → 1 ≤ e → e ≤ length marks → is_marked marks e ≡ false → unmarked (set marks (e - 1) true) + 1 ≡ unmarked marks
fewer_unmarked marks zero from_one in_range free = absurd (omega arith)
fewer_unmarked marks (suc k) from_one in_range free =
    let place : suc k - 1 ≡ k = omega arith in
    let bit : Bool → ℕ = λ b. cond (not b) 1 0 in
    let changes : sum_by bit (set marks k true) + bit (get_or marks k false) ≡ sum_by bit marks + bit true = sum_by-set bit marks k true false (omega (arith, in_range)) in
    let was_free : bit (get_or marks k false) ≡ 1 = ap bit free in
    omega (arith, changes, was_free, ap (λ i. sum_by bit (set marks i true)) place)

-- one edge more is marked
pub marked_more : (old marks : List Bool) (behind : List ℕ) (at : ℕ) → 1 ≤ at → at ≤ length marks → is_marked marks at ≡ false → AreMarkedToo old marks behind → AreMarkedToo old (set marks (at - 1) true) (at ∷ behind)
marked_more old marks behind at from_one in_range free is = record {
  kept = λ e before. elim (cases_eq e at) [
    | inl same ↦ rw same (mark_same marks at from_one in_range)
    | inr other ↦ mark_other marks at e from_one other ∙ is.kept e before
  ];
  added = λ e some. elim (cases_eq e at) [
    | inl same ↦ rw same (mark_same marks at from_one in_range)
    | inr other ↦ mark_other marks at e from_one other ∙ is.added e (omega (arith, some, times_other e at behind (λ same. other (sym same))))
  ];
  only = λ e marked. elim (cases_eq e at) [
    | inl same ↦ inr (omega (arith, times_here e at behind (sym same)))
    | inr other ↦ elim (is.only e (sym (mark_other marks at e from_one other) ∙ marked)) [
      | inl before ↦ inl before
      | inr some ↦ inr (omega (arith, some, times_other e at behind (λ same. other (sym same))))
    ]
  ];
  fresh = λ e some. elim (cases_eq e at) [
    | inl same ↦ rw same (false_from_ne_true _ (λ before. both_ways _ free (is.kept at before)))
    | inr other ↦ is.fresh e (omega (arith, some, times_other e at behind (λ same. other (sym same))))
  ];
}

module _ (laws : YesPairsJoin) (t : Chains) (table : IsChainTable t) (untangled : t.tangled ≡ false) where
  pub no_tangle : IsTangled t.decisions.now → ⊥
  no_tangle is = both_ways _ untangled (table.chains.tangle.1 is)

  pub required_yes : (a b : ℕ) → IsYes t.decisions.now a b → IsRequired t.inst.now b
  required_yes a b is = let pair = laws.within t.inst.now.required a b t.decisions.now table.pairs is in record { from_one = pair.b_from_one; in_range = pair.b_in_range }

  pub different_yes : (a b : ℕ) → IsYes t.decisions.now a b → a ≢ b
  different_yes a b is = (laws.within t.inst.now.required a b t.decisions.now table.pairs is).different

  pub no_yes_zero : (a : ℕ) → IsYes t.decisions.now a 0 → ⊥
  no_yes_zero a is = omega (arith, (required_yes a 0 is).from_one)

  more_required : (edges : List ℕ) (e : ℕ) → AllByRecursion (IsRequired t.inst.now) edges → IsRequired t.inst.now e → AllByRecursion (IsRequired t.inst.now) (edges ++ e ∷ [])
  more_required [] e all here = (here, tt)
  more_required (x ∷ edges) e all here = (all.0, more_required edges e all.1 here)

  joined_more : (start a b : ℕ) → AreJoined t.decisions.now start a → IsYes t.decisions.now a b → AreJoined t.decisions.now start b
  joined_more start a b joined is = laws.on t.decisions.now start a b joined (b ∷ [], (is, refl))

  pub first_on_way : (start : ℕ) (marks : List Bool) → IsRequired t.inst.now start → length marks ≡ t.inst.now.required → is_marked marks start ≡ false → IsOnWay t start marks [] marks 0 start
  first_on_way start marks required long free = record {
    long = long;
    required = required;
    free = free;
    behind = [];
    trail = tt;
    last = refl;
    origin = λ none. refl;
    same = λ e. refl;
    marked = record {
      kept = λ e before. before;
      added = λ e some. absurd (omega (arith, some));
      only = λ e before. inl before;
      fresh = λ e some. absurd (omega (arith, some));
    };
    once = λ e. omega arith;
    all_required = tt;
    fewer = omega arith;
    joined = λ e some. elim (cases_eq start e) [ inl same ↦ ([], same) | inr other ↦ absurd (omega (arith, some, times_other e start [] other)) ];
    runs = λ end rest runs. runs;
  }

  module _ (start : ℕ) (old : List Bool) (edges : List ℕ) (marks : List Bool) (before at : ℕ) (way : IsOnWay t start old edges marks before at) where
    at_in : at ≤ length marks
    at_in = omega (arith, way.required.in_range, way.long)

    marked_now : AreMarkedToo old (set marks (at - 1) true) (at ∷ way.behind)
    marked_now = marked_more old marks way.behind at way.required.from_one at_in way.free way.marked

    at_new : times at way.behind ≡ 0
    at_new = elim (cases_lt 0 (times at way.behind)) [
      | inl some ↦ absurd (both_ways _ way.free (way.marked.added at some))
      | inr none ↦ omega (arith, none)
    ]

    once_now : (e : ℕ) → times e (at ∷ way.behind) ≤ 1
    once_now e = elim (cases_eq at e) [
      | inl same ↦ omega (arith, times_here e at way.behind same, at_new, ap (λ x. times x way.behind) same)
      | inr other ↦ omega (arith, times_other e at way.behind other, way.once e)
    ]

    same_now : (e : ℕ) → times e (edges ++ at ∷ []) ≡ times e (at ∷ way.behind)
    same_now e = omega (arith, times-append e edges (at ∷ []), times-cons e at [], times-cons e at way.behind, way.same e)

    came : IsYes t.decisions.now at before ⊎ (before ≡ 0)
    came = go way.behind way.trail way.last
      where
        go : (ys : List ℕ) → IsTrail t.decisions.now at ys → first_or_none ys ≡ before → IsYes t.decisions.now at before ⊎ (before ≡ 0)
        go [] trail last = inr (sym last)
        go (y ∷ ys) trail last = inl (subst (IsYes t.decisions.now at) last trail.0)

    pub shorter : unmarked (set marks (at - 1) true) + 1 ≡ unmarked marks
    shorter = fewer_unmarked marks at way.required.from_one at_in way.free

    fewer_now : length (edges ++ at ∷ []) + unmarked (set marks (at - 1) true) ≡ unmarked old
    fewer_now = omega (arith, way.fewer, shorter, length-append edges (at ∷ []))

    pub walk_ends : LeadsOn t.decisions.now at before None → IsWalked t start old (edges ++ at ∷ []) (set marks (at - 1) true)
    walk_ends last =
        record {
          long = length-set marks (at - 1) true ∙ way.long;
          marked = record {
            kept = marked_now.kept;
            added = λ e some. marked_now.added e (omega (arith, some, same_now e));
            only = λ e is. elim (marked_now.only e is) [ inl already ↦ inl already | inr some ↦ inr (omega (arith, some, same_now e)) ];
            fresh = λ e some. marked_now.fresh e (omega (arith, some, same_now e));
          };
          once = λ e. omega (arith, once_now e, same_now e);
          all_required = more_required edges at way.all_required way.required;
          fewer = fewer_now;
          joined = λ e some. way.joined e (omega (arith, some, same_now e));
          runs = λ end. way.runs end [] last;
          front = edges;
          end = at;
          last = refl;
          ends = λ x y x_yes y_yes. last x x_yes ∙ sym (last y y_yes);
        }

    module _ (next : ℕ) (found : LeadsOn t.decisions.now at before (Some next)) (closed : AreClosed t.decisions.now old) where
      next_yes : IsYes t.decisions.now at next × (next ≢ before)
      next_yes = (found.0, found.1)

      at_next : at ≢ next
      at_next = different_yes at next next_yes.0

      next_new : is_marked (set marks (at - 1) true) next ≡ false
      next_new = false_from_ne_true _ (λ is. elim (marked_now.only next is) [
        | inl already ↦ both_ways _ (marked_now.fresh at (omega (arith, times_here at at way.behind refl))) (closed next at (laws.yes_turned t.decisions.now at next next_yes.0) already)
        | inr some ↦ no_tangle (trail_tangles t.decisions.now at next at_next next_yes.0 way.behind way.trail at_new (omega (arith, some, times_other next at way.behind at_next)) (λ first. next_yes.1 (sym first ∙ way.last)))
      ])

      pub walk_goes_on : IsOnWay t start old (edges ++ at ∷ []) (set marks (at - 1) true) at next
      walk_goes_on = record {
        long = length-set marks (at - 1) true ∙ way.long;
        required = required_yes at next next_yes.0;
        free = next_new;
        behind = at ∷ way.behind;
        trail = (laws.yes_turned t.decisions.now at next next_yes.0, way.trail);
        last = refl;
        origin = λ none. absurd (omega (arith, none, way.required.from_one));
        same = same_now;
        marked = marked_now;
        once = once_now;
        all_required = more_required edges at way.all_required way.required;
        fewer = fewer_now;
        joined = λ e some. elim (cases_eq next e) [
          | inl same ↦ subst (AreJoined t.decisions.now start) same (joined_more start at next (way.joined at (omega (arith, times_here at at way.behind refl))) next_yes.0)
          | inr other ↦ way.joined e (omega (arith, some, times_other e next (at ∷ way.behind) other))
        ];
        runs = λ end rest runs.
            let neighbours = found.2 (elim came [ inl is ↦ inl is | inr none ↦ inr (subst (IsChainEnd t.decisions.now) (sym (way.origin none)) end) ]) in
            let whole = way.runs end (next ∷ rest) (next_yes.0, next_yes.1, neighbours, runs) in
            rw append_assoc whole;
      }

-- an edge that is not marked joins none that is
pub joined_free : (laws : YesPairsJoin) (branch : List Decision) (marks : List Bool) → AreClosed branch marks → (a b : ℕ) (path : List ℕ) → YesPath branch a path b → is_marked marks b ≡ true → is_marked marks a ≡ true
joined_free laws branch marks closed a b [] joined marked = subst (λ e. is_marked marks e ≡ true) (sym joined) marked
joined_free laws branch marks closed a b (x ∷ path) joined marked = closed x a (laws.yes_turned branch a x joined.0) (joined_free laws branch marks closed x b path joined.1 marked)

-- the edges that a run leads over are all that are joined
run_closed : (branch : List Decision) (b x : ℕ) (ys : List ℕ) → Runs branch b x ys → (e z : ℕ) → 1 ≤ times e (x ∷ ys) → IsYes branch e z → (z ≡ b) ⊎ (1 ≤ times z (x ∷ ys))
run_closed branch b x [] runs e z some is = elim (cases_eq x e) [
  | inl same ↦ inl (runs z (subst (λ f. IsYes branch f z) (sym same) is))
  | inr other ↦ absurd (omega (arith, some, times_other e x [] other))
]
run_closed branch b x (y ∷ ys) runs e z some is = elim (cases_eq x e) [
  | inl same ↦ elim (runs.2 z (subst (λ f. IsYes branch f z) (sym same) is)) [
    | inl back ↦ inl back
    | inr on ↦ inr (omega (arith, times-cons z x (y ∷ ys), times_here z y ys (sym on)))
  ]
  | inr other ↦ elim (run_closed branch x y ys runs.3 e z (omega (arith, some, times_other e x (y ∷ ys) other)) is) [
    | inl back ↦ inr (omega (arith, times_here z x (y ∷ ys) (sym back)))
    | inr on ↦ inr (omega (arith, on, times-cons z x (y ∷ ys)))
  ]
]

module _ (laws : YesPairsJoin) (t : Chains) (table : IsChainTable t) (untangled : t.tangled ≡ false) where
  from_closed : (edges : List ℕ) → RunsFrom t.decisions.now edges → (e z : ℕ) → 1 ≤ times e edges → IsYes t.decisions.now e z → 1 ≤ times z edges
  from_closed [] runs e z some is = absurd runs
  from_closed (x ∷ xs) runs e z some is = elim (run_closed t.decisions.now 0 x xs runs e z some is) [
    | inl none ↦ absurd (no_yes_zero laws t table untangled e (subst (IsYes t.decisions.now e) none is))
    | inr on ↦ on
  ]

  pub path_in : (edges : List ℕ) → RunsFrom t.decisions.now edges → (a b : ℕ) (path : List ℕ) → YesPath t.decisions.now a path b → 1 ≤ times a edges → 1 ≤ times b edges
  path_in edges runs a b [] joined some = rw (sym joined) some
  path_in edges runs a b (x ∷ path) joined some = path_in edges runs x b path joined.1 (from_closed edges runs a x some joined.0)

  first_in : (edges : List ℕ) (front : List ℕ) (end : ℕ) → edges ≡ front ++ end ∷ [] → 1 ≤ times end edges
  first_in edges front end is = rw is (omega (arith, times-append end front (end ∷ []), times-same end []))

  pub walked_order : (edge end : ℕ) (old : List Bool) (edges : List ℕ) (marks : List Bool) → AreJoined t.decisions.now edge end → IsChainEnd t.decisions.now end → AreClosed t.decisions.now old →
      IsWalked t end old edges marks → IsOrdered t edge old edges marks
  walked_order edge end old edges marks joined ends closed is = record {
    long = is.long;
    marked = is.marked;
    closed = λ a b yes_ab marked_a. elim (is.marked.only a marked_a) [
      | inl before ↦ is.marked.kept b (closed a b yes_ab before)
      | inr some ↦ is.marked.added b (from_closed edges runs a b some yes_ab)
    ];
    all_required = is.all_required;
    fewer = is.fewer;
    joined = λ e some. laws.on t.decisions.now edge end e joined (is.joined e some);
    each = λ e joined_e.
        let back = laws.turned t.decisions.now edge end joined in
        let some = path_in edges runs edge e joined_e.0 joined_e.1 (path_in edges runs end edge back.0 back.1 (end_in edges runs is.joined)) in
        omega (arith, some, is.once e);
    runs = runs;
  }
    where
      runs : RunsFrom t.decisions.now edges
      runs = is.runs ends

      end_in : (es : List ℕ) → RunsFrom t.decisions.now es → ((e : ℕ) → 1 ≤ times e es → AreJoined t.decisions.now end e) → 1 ≤ times end es
      end_in [] runs' joined' = absurd runs'
      end_in (x ∷ xs) runs' joined' =
          let joined_x = joined' x (omega (arith, times-same x xs)) in
          let back = laws.turned t.decisions.now end x joined_x in
          path_in (x ∷ xs) runs' x end back.0 back.1 (omega (arith, times-same x xs))

pub none_of : (o : Option ℕ) → ((x : ℕ) → o ≡ Some x → ⊥) → o ≡ None
none_of None never = refl
none_of (Some x) never = absurd (never x refl)

pub last_is : (t : Chains) (start : ℕ) (old : List Bool) (edges : List ℕ) (marks : List Bool) (is : IsWalked t start old edges marks) (i x : ℕ) → i + 1 ≡ length edges → x ≡ get_or edges i x → x ≡ is.end
last_is t start old edges marks is i x place read =
    let long : length is.front ≡ i = omega (arith, place, ap length is.last, length-append is.front (is.end ∷ [])) in
    read ∙ ap (λ es. get_or es i x) is.last ∙ get_or_at is.front is.end [] x i long

pub if_ok : {A E : Type 0} (P Q : A → Type 0) (r : Result A E) → ((x : A) → P x → Q x) → IfOk r P → IfOk r Q
if_ok P Q (Ok x) into is = into x is
if_ok P Q (Err e) into is = tt
