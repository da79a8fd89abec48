-- A search, one label or one vertex further.
use Rattle.std.proofs.Common.{◌≡◌, ◌≢◌, ℕ, zero, suc, ◌+◌, ◌-◌, ◌<◌, ◌≤◌, min, Bool, true, false, List, [], ◌∷◌, length, get_or, set, sum, replicate, refl, sym, ap, ◌∙◌, arith, inl, inr, ◌⊎◌, subst, cond, eqb, ◌||◌}
use Rattle.std.specs.List.{Contains, All}
use Rattle.std.specs.List.Sorted.{IsPermutation}
use Rattle.std.proofs.lemmas.Bool.{cases_eq, cases_lt, eq-eqb, ne_eqb, eqb-true}
use Rattle.std.proofs.lemmas.List.{length-set, get_or-set_same, get_or-set_other, get_or-replicate, length-replicate, get_or_default, get_or_past}
use Rattle.std.proofs.lemmas.List.Elements.{Contains-append_right, All-cons, All-nil, All-head, All-tail}
use Rattle.std.proofs.lemmas.List.Sorted.{All-permutation, Contains-permutation, length_permutation}
use Rattle.std.proofs.lemmas.List.Sums.{sum_by-set}
use Rattle.carp_base.specs.declared.edge.Edge.{Edge}
use Rattle.carp_base.specs.Problem.{Problem, IsValid, IsVertex, IsEdgeNumber, edge_at, tail_of, head_of}
use Rattle.road_network.specs.Incidence.{has_end, far_end, incident}
use Rattle.deadhead_paths.specs.Prices.{price_of}
use Rattle.deadhead_paths.specs.Table.{unreached, rise_of, Descends, IsTowards}
use Rattle.deadhead_paths.specs.Search.{QueueEntry, queue_entry, IsSettled, IsLabelling, Lowered, Unchanged, weight}

-- the price of an edge stands at the place before its number
pub price_place : (prices : List ℕ) (e : ℕ) → 1 ≤ e → get_or prices (e - 1) 0 ≡ price_of prices e
price_place prices zero from_one = absurd (omega (arith, from_one))
price_place prices (suc k) from_one = let back : suc k - 1 ≡ k = omega arith in ap (λ i. get_or prices i 0) back

-- which entries a longer queue has
Contains-front : (x : QueueEntry) (xs : List QueueEntry) → Contains (x ∷ xs) x
Contains-front x xs = (0, omega arith, refl)

Contains-later : (y : QueueEntry) (xs : List QueueEntry) (x : QueueEntry) → Contains xs x → Contains (y ∷ xs) x
Contains-later y xs x there = Contains-append_right (y ∷ []) xs x there

Contains-cases : (y : QueueEntry) (xs : List QueueEntry) (x : QueueEntry) → Contains (y ∷ xs) x → (y ≡ x) ⊎ Contains xs x
Contains-cases y xs x (zero, in_range, is) = inl is
Contains-cases y xs x (suc k, in_range, is) = inr (k, omega (arith, in_range), is)

-- a label that an edge to u lowers
module _ (p : Problem) (prices : List ℕ) (target : ℕ) (labels nexts : List ℕ) (queue : List QueueEntry) (u : ℕ)
    (state : IsLabelling p prices target labels nexts queue u)
    (w next label : ℕ) (labels' nexts' : List ℕ) (queue' : List QueueEntry)
    (vertex : IsVertex p w) (apart : w ≢ u)
    (number : IsEdgeNumber p next) (forward : Bool) (tail : tail_of (edge_at p next) forward ≡ w) (head : head_of (edge_at p next) forward ≡ u)
    (label_is : label ≡ min (get_or labels u 0 + rise_of prices next) unreached)
    (range : get_or labels w 0 ≤ unreached)
    (less : label < get_or labels w 0)
    (lowered : Lowered w label next labels nexts queue labels' nexts' queue') where
  at_w : get_or labels' w 0 ≡ label
  at_w = ap (λ xs. get_or xs w 0) lowered.labels_are ∙ get_or-set_same labels w label 0 (omega (arith, state.labels_long, vertex.in_range))

  at_other : (v : ℕ) → v ≢ w → get_or labels' v 0 ≡ get_or labels v 0
  at_other v other = ap (λ xs. get_or xs v 0) lowered.labels_are ∙ get_or-set_other labels w v label 0 other

  pub falls : (v : ℕ) → get_or labels' v 0 ≤ get_or labels v 0
  falls v = elim (cases_eq v w) [
    | inl same ↦ rw same (omega (arith, at_w, less))
    | inr other ↦ omega (arith, at_other v other)
  ]

  next_at_w : get_or nexts' w 0 ≡ next
  next_at_w = ap (λ xs. get_or xs w 0) lowered.nexts_are ∙ get_or-set_same nexts w next 0 (omega (arith, state.nexts_long, vertex.in_range))

  next_at_other : (v : ℕ) → v ≢ w → get_or nexts' v 0 ≡ get_or nexts v 0
  next_at_other v other = ap (λ xs. get_or xs v 0) lowered.nexts_are ∙ get_or-set_other nexts w v next 0 other

  rises : get_or labels u 0 + rise_of prices next ≡ label
  rises = omega (arith, label_is, less, range)

  descends_more : (v : ℕ) → IsVertex p v → v ≢ target → get_or labels' v 0 < unreached → Descends p prices labels' v (get_or nexts' v 0)
  descends_more v is_vertex not_target reached = elim (cases_eq v w) [
    | inl same ↦ rw same (rw next_at_w (record {
      number = number;
      forward = forward;
      tail = tail;
      falls = rw head (omega (arith, at_w, at_other u (λ is. apart (sym is)), rises));
    }))
    | inr other ↦
        let was = state.descends v is_vertex not_target (omega (arith, at_other v other, reached)) in
        rw (next_at_other v other) (record {
          number = was.number;
          forward = was.forward;
          tail = was.tail;
          falls = omega (arith, was.falls, falls (head_of (edge_at p (get_or nexts v 0)) was.forward), at_other v other);
        })
  ]

  covers_more : (v : ℕ) → IsVertex p v → v ≢ u → Contains queue' (queue_entry (get_or labels' v 0) v) ⊎ IsSettled p prices labels' v
  covers_more v is_vertex not_u = elim (cases_eq v w) [
    | inl same ↦ inl (rw (same, at_w) (Contains-permutation _ _ _ lowered.queue_is (Contains-front (queue_entry label w) queue)))
    | inr other ↦ elim (state.covers v is_vertex not_u) [
      | inl waits ↦ inl (rw (at_other v other) (Contains-permutation _ _ _ lowered.queue_is (Contains-later (queue_entry label w) queue _ waits)))
      | inr settled ↦ inr (λ e way is_number is. omega (arith, settled e way is_number is, falls (tail_of (edge_at p e) way), at_other v other))
    ]
  ]

  not_target : w ≢ target
  not_target is = absurd (omega (arith, less, state.at_target, ap (λ v. get_or labels v 0) is))

  lowered_search : IsLabelling p prices target labels' nexts' queue' u
  lowered_search = record {
    labels_long = ap length lowered.labels_are ∙ length-set labels w label ∙ state.labels_long;
    nexts_long = ap length lowered.nexts_are ∙ length-set nexts w next ∙ state.nexts_long;
    unused = at_other 0 (λ is. absurd (omega (arith, is, vertex.from_one))) ∙ state.unused;
    at_target = at_other target (λ is. not_target (sym is)) ∙ state.at_target;
    descends = descends_more;
    queued = All-permutation (λ x. IsVertex p x.1) _ _ lowered.queue_is (All-cons (λ x. IsVertex p x.1) (queue_entry label w) queue vertex state.queued);
    covers = covers_more;
  }

  lowered_weight : weight labels' queue' ≤ weight labels queue
  lowered_weight =
      omega (
        arith,
        ap sum lowered.labels_are,
        sum_by-set (λ x. x) labels w label 0 (omega (arith, state.labels_long, vertex.in_range)),
        less,
        length_permutation _ _ lowered.queue_is,
      )

  -- of the labels afterwards, those that matter
  lowered_labels : (get_or labels' w 0 ≤ get_or labels u 0 + rise_of prices next) × (get_or labels' u 0 ≡ get_or labels u 0)
  lowered_labels = (omega (arith, at_w, rises), at_other u (λ is. apart (sym is)))

-- the search after an edge to u was tried
pub record Tried (p : Problem) (prices : List ℕ) (target u w next : ℕ) (labels : List ℕ) (queue : List QueueEntry) (labels' nexts' : List ℕ) (queue' : List QueueEntry) : Type 0 where
  pub search : IsLabelling p prices target labels' nexts' queue' u
  pub lighter : weight labels' queue' ≤ weight labels queue
  pub tried : get_or labels' w 0 ≤ get_or labels u 0 + rise_of prices next
  pub own : get_or labels' u 0 ≡ get_or labels u 0
  pub falling : (v : ℕ) → get_or labels' v 0 ≤ get_or labels v 0

pub tried_edge : (p : Problem) (prices : List ℕ) (target : ℕ) (labels nexts : List ℕ) (queue : List QueueEntry) (u : ℕ) → IsLabelling p prices target labels nexts queue u →
    (w next label : ℕ) (labels' nexts' : List ℕ) (queue' : List QueueEntry) → IsVertex p w → w ≢ u →
    IsEdgeNumber p next → (forward : Bool) → tail_of (edge_at p next) forward ≡ w → head_of (edge_at p next) forward ≡ u →
    label ≡ min (get_or labels u 0 + rise_of prices next) unreached → get_or labels w 0 ≤ unreached →
    (label < get_or labels w 0 → Lowered w label next labels nexts queue labels' nexts' queue') →
    (get_or labels w 0 ≤ label → Unchanged labels nexts queue labels' nexts' queue') →
    Tried p prices target u w next labels queue labels' nexts' queue'
tried_edge p prices target labels nexts queue u state w next label labels' nexts' queue' vertex apart number forward tail head label_is range less not_less =
    elim (cases_lt label (get_or labels w 0)) [
      | inl is_less ↦
          let lowered = less is_less in
          let both = lowered_labels p prices target labels nexts queue u state w next label labels' nexts' queue' vertex apart number forward tail head label_is range is_less lowered in
          record {
            search = lowered_search p prices target labels nexts queue u state w next label labels' nexts' queue' vertex apart number forward tail head label_is range is_less lowered;
            lighter = lowered_weight p prices target labels nexts queue u state w next label labels' nexts' queue' vertex apart number forward tail head label_is range is_less lowered;
            tried = both.0;
            own = both.1;
            falling = falls p prices target labels nexts queue u state w next label labels' nexts' queue' vertex apart number forward tail head label_is range is_less lowered;
          }
      | inr is_not ↦
          let same = not_less is_not in
          rw (same.labels_are, same.nexts_are, same.queue_is) (record { search = state; lighter = omega arith; tried = omega (arith, label_is, is_not); own = refl; falling = λ v. omega arith })
    ]

-- the edges at u that were tried, up to the k-th
abbrev pub AreTried : Problem → List ℕ → List ℕ → ℕ → ℕ → Type 0
AreTried p prices labels u k =
    (i : ℕ) (forward : Bool) → i < k → head_of (edge_at p (get_or (incident p u) i 0)) forward ≡ u →
    get_or labels (tail_of (edge_at p (get_or (incident p u) i 0)) forward) 0 ≤ get_or labels u 0 + rise_of prices (get_or (incident p u) i 0)

-- an edge without loop comes to a vertex from its other end alone
pub other_tail : (x : Edge) (u : ℕ) (forward : Bool) → x.u ≢ x.v → head_of x forward ≡ u → tail_of x forward ≡ far_end u x
other_tail x u true no_loop head = sym (ap (λ b. cond b x.v x.u) (ne_eqb x.u u (λ is. no_loop (is ∙ sym head))))
other_tail x u false no_loop head = sym (ap (λ b. cond b x.v x.u) (eq-eqb x.u u head))

-- the direction in which an edge comes to its end
pub comes_to : (x : Edge) (u : ℕ) → has_end u x ≡ true → (forward : Bool) × (tail_of x forward ≡ far_end u x) × (head_of x forward ≡ u)
comes_to x u has = elim (cases_eq x.u u) [
  | inl first ↦ (false, sym (ap (λ b. cond b x.v x.u) (eq-eqb x.u u first)), first)
  | inr other ↦ (true, sym (ap (λ b. cond b x.v x.u) (ne_eqb x.u u other)), eqb-true x.v u (sym (ap (λ b. b || eqb x.v u) (ne_eqb x.u u other)) ∙ has))
]

pub has_head : (x : Edge) (u : ℕ) (forward : Bool) → head_of x forward ≡ u → has_end u x ≡ true
has_head x u true is = ap (λ b. eqb x.u u || b) (eq-eqb x.v u is) ∙ or_true (eqb x.u u)
  where
    or_true : (b : Bool) → (b || true) ≡ true
    or_true true = refl
    or_true false = refl
has_head x u false is = ap (λ b. b || eqb x.v u) (eq-eqb x.u u is)

pub far_vertex : (p : Problem) → IsValid p → (u e : ℕ) → IsEdgeNumber p e → has_end u (edge_at p e) ≡ true → IsVertex p (far_end u (edge_at p e)) × (far_end u (edge_at p e) ≢ u)
far_vertex p valid u e number has =
    let x = edge_at p e in
    let fine = valid.edges e number in
    let way = comes_to x u has in
    one x fine.u_in fine.v_in fine.no_loop way.0 way.1 way.2
  where
    one : (x : Edge) → IsVertex p x.u → IsVertex p x.v → x.u ≢ x.v → (forward : Bool) → tail_of x forward ≡ far_end u x → head_of x forward ≡ u →
        IsVertex p (far_end u x) × (far_end u x ≢ u)
    one x u_in v_in no_loop true tail head = (subst (IsVertex p) tail u_in, λ is. no_loop (tail ∙ is ∙ sym head))
    one x u_in v_in no_loop false tail head = (subst (IsVertex p) tail v_in, λ is. no_loop (head ∙ sym is ∙ sym tail))

-- one more edge at u was tried
pub tried_more : (p : Problem) → IsValid p → (prices labels labels' : List ℕ) (u k : ℕ) → IsEdgeNumber p (get_or (incident p u) k 0) →
    ((v : ℕ) → get_or labels' v 0 ≤ get_or labels v 0) → get_or labels' u 0 ≡ get_or labels u 0 →
    get_or labels' (far_end u (edge_at p (get_or (incident p u) k 0))) 0 ≤ get_or labels u 0 + rise_of prices (get_or (incident p u) k 0) →
    AreTried p prices labels u k → AreTried p prices labels' u (k + 1)
tried_more p valid prices labels labels' u k number falling own tried before i forward below head = elim (cases_lt i k) [
  | inl earlier ↦ omega (arith, before i forward earlier head, falling (tail_of (edge_at p (get_or (incident p u) i 0)) forward), own)
  | inr last ↦
      let same : i ≡ k = omega arith in
      let x = edge_at p (get_or (incident p u) k 0) in
      let head' : head_of x forward ≡ u = subst (λ j. head_of (edge_at p (get_or (incident p u) j 0)) forward ≡ u) same head in
      let from = other_tail x u forward (valid.edges (get_or (incident p u) k 0) number).no_loop head' in
      subst (λ j. get_or labels' (tail_of (edge_at p (get_or (incident p u) j 0)) forward) 0 ≤ get_or labels' u 0 + rise_of prices (get_or (incident p u) j 0)) (sym same)
      (omega (arith, ap (λ v. get_or labels' v 0) from, own, tried))
]

-- where all edges at u were tried, u is settled
pub settled_all : (p : Problem) (prices labels : List ℕ) (u : ℕ) →
    ((e : ℕ) → IsEdgeNumber p e → has_end u (edge_at p e) ≡ true → Contains (incident p u) e) →
    AreTried p prices labels u (length (incident p u)) → IsSettled p prices labels u
settled_all p prices labels u complete tried e forward number head =
    let at = complete e number (has_head (edge_at p e) u forward head) in
    let here : get_or (incident p u) at.0 0 ≡ e = get_or_default (incident p u) at.0 0 e at.1 ∙ at.2 in
    subst (λ n. get_or labels (tail_of (edge_at p n) forward) 0 ≤ get_or labels u 0 + rise_of prices n) here
    (tried at.0 forward at.1 (subst (λ n. head_of (edge_at p n) forward ≡ u) (sym here) head))

-- then no vertex is left out
pub covers_all : (p : Problem) (prices : List ℕ) (target : ℕ) (labels nexts : List ℕ) (queue : List QueueEntry) (u : ℕ) → IsLabelling p prices target labels nexts queue u →
    IsSettled p prices labels u → IsLabelling p prices target labels nexts queue 0
covers_all p prices target labels nexts queue u state settled = record {
  labels_long = state.labels_long;
  nexts_long = state.nexts_long;
  unused = state.unused;
  at_target = state.at_target;
  descends = state.descends;
  queued = state.queued;
  covers = λ v vertex _. elim (cases_eq v u) [
    | inl same ↦ inr (subst (IsSettled p prices labels) (sym same) settled)
    | inr other ↦ state.covers v vertex other
  ];
}

-- the search without the queue_entry that was taken from its queue
module _ (p : Problem) (prices : List ℕ) (target : ℕ) (labels nexts : List ℕ) (queue : List QueueEntry) (taken : QueueEntry) (rest : List QueueEntry)
    (state : IsLabelling p prices target labels nexts queue 0) (pops : IsPermutation queue (taken ∷ rest)) where
  all_queued : All (λ x. IsVertex p x.1) (taken ∷ rest)
  all_queued = All-permutation (λ x. IsVertex p x.1) _ _ pops state.queued

  pub taken_vertex : IsVertex p taken.1
  taken_vertex = All-head (λ x. IsVertex p x.1) taken rest all_queued

  covers_but : (but : ℕ) → ((v : ℕ) → v ≢ but → taken ≡ queue_entry (get_or labels v 0) v → ⊥) → (v : ℕ) → IsVertex p v → v ≢ but →
      Contains rest (queue_entry (get_or labels v 0) v) ⊎ IsSettled p prices labels v
  covers_but but not_taken v vertex other = elim (state.covers v vertex (λ is. absurd (omega (arith, is, vertex.from_one)))) [
    | inl waits ↦ elim (Contains-cases taken rest _ (Contains-permutation _ _ _ pops waits)) [
      | inl is ↦ absurd (not_taken v other is)
      | inr later ↦ inl later
    ]
    | inr settled ↦ inr settled
  ]

  without : (but : ℕ) → ((v : ℕ) → v ≢ but → taken ≡ queue_entry (get_or labels v 0) v → ⊥) → IsLabelling p prices target labels nexts rest but
  without but not_taken = record {
    labels_long = state.labels_long;
    nexts_long = state.nexts_long;
    unused = state.unused;
    at_target = state.at_target;
    descends = state.descends;
    queued = All-tail (λ x. IsVertex p x.1) taken rest all_queued;
    covers = covers_but but not_taken;
  }

  -- its vertex is the one whose edges are to be gone through
  pub without_current : IsLabelling p prices target labels nexts rest taken.1
  without_current = without taken.1 (λ v other is. other (sym (ap (λ x. x.1) is)))

  -- its label is out of date
  pub without_stale : taken.0.0 ≢ get_or labels taken.1 0 → IsLabelling p prices target labels nexts rest 0
  without_stale stale = without 0 (λ v _ is. stale (ap (λ x. x.0.0) is ∙ ap (λ w. get_or labels w 0) (sym (ap (λ x. x.1) is))))

  pub lighter_rest : weight labels rest + 1 ≡ weight labels queue
  lighter_rest = omega (arith, length_permutation _ _ pops)

-- when the queue is empty the labels are least
pub search_done : (p : Problem) → IsValid p → (prices : List ℕ) (target : ℕ) (labels nexts : List ℕ) (queue : List QueueEntry) → length queue ≡ 0 →
    IsLabelling p prices target labels nexts queue 0 → IsTowards p prices target labels nexts
search_done p valid prices target labels nexts queue empty state = record {
  labels_long = state.labels_long;
  nexts_long = state.nexts_long;
  unused = state.unused;
  at_target = state.at_target;
  potentials = λ e forward number.
      let vertex = head_vertex (edge_at p e) forward (valid.edges e number).u_in (valid.edges e number).v_in in
      elim (state.covers (head_of (edge_at p e) forward) vertex (λ is. absurd (omega (arith, is, vertex.from_one)))) [
        | inl waits ↦ absurd (omega (arith, waits.1, empty))
        | inr settled ↦ settled e forward number refl
      ];
  descends = state.descends;
}
  where
    head_vertex : (x : Edge) (forward : Bool) → IsVertex p x.u → IsVertex p x.v → IsVertex p (head_of x forward)
    head_vertex x true u_in v_in = v_in
    head_vertex x false u_in v_in = u_in

-- before the search only the target has a label, and waits
pub search_begun : (p : Problem) (prices : List ℕ) (target n : ℕ) (labels nexts : List ℕ) (queue : List QueueEntry) → n ≡ p.vertices + 1 → IsVertex p target →
    labels ≡ set (replicate n unreached) target 0 → length nexts ≡ n → IsPermutation (queue_entry 0 target ∷ []) queue →
    IsLabelling p prices target labels nexts queue 0
search_begun p prices target n labels nexts queue long vertex labels_are nexts_long queue_is = record {
  labels_long = ap length labels_are ∙ length-set (replicate n unreached) target 0 ∙ length-replicate n unreached ∙ long;
  nexts_long = nexts_long ∙ long;
  unused = high 0 (omega arith) (λ is. absurd (omega (arith, is, vertex.from_one)));
  at_target = at_target;
  descends = λ v is_vertex other reached. absurd (omega (arith, reached, high v (omega (arith, is_vertex.in_range)) other));
  queued = All-permutation (λ x. IsVertex p x.1) _ _ queue_is (All-cons (λ x. IsVertex p x.1) (queue_entry 0 target) [] vertex (All-nil (λ x. IsVertex p x.1)));
  covers = λ v is_vertex _. elim (cases_eq v target) [
    | inl same ↦ inl (rw (same, at_target) (Contains-permutation _ _ _ queue_is (Contains-front (queue_entry 0 target) [])))
    | inr other ↦ inr (λ e forward number is. omega (arith, below (tail_of (edge_at p e) forward), high v (omega (arith, is_vertex.in_range)) other))
  ];
}
  where
    at_target : get_or labels target 0 ≡ 0
    at_target = ap (λ xs. get_or xs target 0) labels_are ∙ get_or-set_same (replicate n unreached) target 0 0 (omega (arith, length-replicate n unreached, vertex.in_range, long))

    high : (v : ℕ) → v < n → v ≢ target → get_or labels v 0 ≡ unreached
    high v in_range other = ap (λ xs. get_or xs v 0) labels_are ∙ get_or-set_other (replicate n unreached) target v 0 0 other ∙ get_or-replicate n v unreached 0 in_range

    below : (v : ℕ) → get_or labels v 0 ≤ unreached
    below v = elim (cases_eq v target) [
      | inl same ↦ rw same (omega (arith, at_target))
      | inr other ↦ elim (cases_lt v n) [
        | inl in_range ↦ omega (arith, high v in_range other)
        | inr past ↦ omega (arith, get_or_past labels v 0 (omega (arith, past, ap length labels_are, length-set (replicate n unreached) target 0, length-replicate n unreached)))
      ]
    ]
