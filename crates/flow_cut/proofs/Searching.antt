-- Breadth-first search: its beginning, one node more, and what is known at its end.
use Rattle.std.proofs.Common.{◌≡◌, ◌≢◌, ℕ, ◌+◌, ◌<◌, ◌≤◌, ◌⊎◌, cond, eqb, List, [], ◌∷◌, ◌++◌, length, get_or, slice_index, set, replicate, refl, sym, ap, ◌∙◌, arith, inl, inr}
use Rattle.std.specs.List.{count_by}
use Rattle.std.proofs.lemmas.Bool.{cases_eq, cases_lt, ne_eqb}
use Rattle.std.proofs.lemmas.List.{length-set, length-replicate, length_push, get_or-replicate, get_or-set_same, get_or-set_other, get_or_append_left, get_or_push, get_or_past}
use Rattle.std.proofs.lemmas.List.Sums.{sum_by-set}
use Rattle.std.proofs.lemmas.List.Folds.{sum_by-replicate}
use Rattle.flow_cut.specs.declared.network.Arc.{Arc}
use Rattle.flow_cut.specs.declared.residual.ResidualArc.{ResidualArc}
use Rattle.flow_cut.specs.Flows.{IsNode}
use Rattle.flow_cut.specs.Residual.{residual_tail, residual_head, left_on}
use Rattle.flow_cut.specs.Adjacency.{ListsAt, no_residual, residual_at}
use Rattle.flow_cut.specs.Layers.{IsClosed, IsExplored, IsPending, IsProgress, IsLayerReached, IsLayerSearch, IsWaiting}

-- at the beginning the source alone is reached
module _ (arcs : List Arc) (flows : List ℕ) (n s : ℕ) (node : IsNode n s) where
  first : List ℕ
  first = set (replicate (n + 1) 0) s 1

  at_source : slice_index first s ≡ 1
  unfolding first
  at_source = get_or-set_same (replicate (n + 1) 0) s 1 0 (omega (arith, node.in_range, length-replicate {A = ℕ} (n + 1) 0))

  at_others : (v : ℕ) → v ≢ s → slice_index first v ≡ 0
  unfolding first
  at_others v other = get_or-set_other (replicate (n + 1) 0) s v 1 0 other ∙ none
    where
      none : get_or {A = ℕ} (replicate (n + 1) 0) v 0 ≡ 0
      none = elim (cases_lt v (n + 1)) [
        | inl below ↦ get_or-replicate (n + 1) v 0 0 below
        | inr past ↦ get_or_past (replicate (n + 1) 0) v 0 (omega (arith, past, length-replicate {A = ℕ} (n + 1) 0))
      ]

  reached_is_source : (v : ℕ) → slice_index first v ≢ 0 → v ≡ s
  reached_is_source v reached = elim (cases_eq v s) [ inl same ↦ same | inr other ↦ absurd (reached (at_others v other)) ]

  pub search_none : (via : List ResidualArc) → length via ≡ n + 1 → IsLayerSearch arcs flows n s (set (replicate (n + 1) 0) s 1) via (s ∷ [])
  unfolding first
  search_none via long = record {
    layered = record {
      level_len = length-set (replicate (n + 1) 0) s 1 ∙ length-replicate (n + 1) 0;
      via_len = long;
      source = at_source;
      reached = λ v other reached. absurd (other (reached_is_source v reached));
      bounded = λ v. elim (cases_eq v s) [
        | inl same ↦ rw (same, at_source) (omega arith)
        | inr other ↦ rw (at_others v other) (omega arith)
      ];
    };
    open_yet = λ v other reached. absurd (other (reached_is_source v reached));
    counted =
        omega (
          arith,
          sum_by-set (λ depth. cond (eqb depth 0) 1 0) (replicate (n + 1) 0) s 1 0 (omega (arith, node.in_range, length-replicate {A = ℕ} (n + 1) 0)),
          sum_by-replicate (λ depth. cond (eqb depth 0) 1 0) (n + 1) 0,
          ap {B = ℕ} (λ depth. cond (eqb depth 0) 1 0) (get_or-replicate {A = ℕ} (n + 1) s 0 0 (omega (arith, node.in_range))),
        );
    shallow = λ v. elim (cases_eq v s) [
      | inl same ↦ rw (same, at_source) (omega arith)
      | inr other ↦ rw (at_others v other) (omega arith)
    ];
    nodes = λ k below. let zeroth : k ≡ 0 = omega (arith, below) in rw zeroth node;
    queued = λ k below. let zeroth : k ≡ 0 = omega (arith, below) in rw (zeroth, at_source) (λ e. omega (arith, e));
  }

  pub pending_none : IsPending arcs flows (set (replicate (n + 1) 0) s 1) (s ∷ []) 0
  unfolding first
  pending_none = λ v reached. inl (record { place = 0; from_start = omega arith; in_queue = omega arith; is_there = sym (reached_is_source v reached) })

-- one node w more, over the residual arc r from v
module _ (arcs : List Arc) (flows : List ℕ) (n s v w : ℕ) (level : List ℕ) (via : List ResidualArc) (queue : List ℕ) (r : ResidualArc)
    (state : IsLayerSearch arcs flows n s level via queue) (node : IsNode n w) (in_arcs : r.arc < length arcs) (own : residual_tail arcs r ≡ v) (ends : residual_head arcs r ≡ w)
    (near : slice_index level v ≢ 0) (new : slice_index level w ≡ 0) (left : 1 ≤ left_on arcs flows r) where
  w_in : w < length level
  w_in = omega (arith, node.in_range, state.layered.level_len)

  at_w : slice_index (set level w (slice_index level v + 1)) w ≡ slice_index level v + 1
  at_w = get_or-set_same level w (slice_index level v + 1) 0 w_in

  at_other : (u : ℕ) → u ≢ w → slice_index (set level w (slice_index level v + 1)) u ≡ slice_index level u
  at_other u other = get_or-set_other level w u (slice_index level v + 1) 0 other

  was_other : (u : ℕ) → slice_index level u ≢ 0 → u ≢ w
  was_other u reached same = reached (ap (slice_index level) same ∙ new)

  stays : (u : ℕ) → slice_index level u ≢ 0 → slice_index (set level w (slice_index level v + 1)) u ≡ slice_index level u
  stays u reached = at_other u (was_other u reached)

  kept : (u : ℕ) → slice_index level u ≢ 0 → slice_index (set level w (slice_index level v + 1)) u ≢ 0
  kept u reached = rw (stays u reached) reached

  via_w : residual_at (set via w r) w ≡ r
  via_w = get_or-set_same via w r no_residual (omega (arith, node.in_range, state.layered.via_len))

  via_other : (u : ℕ) → u ≢ w → residual_at (set via w r) u ≡ residual_at via u
  via_other u other = get_or-set_other via w u r no_residual other

  reached_w : IsLayerReached arcs (set level w (slice_index level v + 1)) (set via w r) w
  reached_w = record {
    in_arcs = rw via_w in_arcs;
    ends = rw via_w ends;
    nearer = rw (via_w, own, stays v near, at_w) refl;
    begins = rw (via_w, own) (kept v near);
  }

  reached_other : (u : ℕ) → u ≢ w → slice_index level u ≢ 0 → IsLayerReached arcs level via u → IsLayerReached arcs (set level w (slice_index level v + 1)) (set via w r) u
  reached_other u other reached was = record {
    in_arcs = rw (via_other u other) was.in_arcs;
    ends = rw (via_other u other) was.ends;
    nearer = rw (via_other u other, stays (residual_tail arcs (residual_at via u)) was.begins, stays u reached) was.nearer;
    begins = rw (via_other u other) (kept (residual_tail arcs (residual_at via u)) was.begins);
  }

  fewer : count_by (λ x. eqb x 0) (set level w (slice_index level v + 1)) + 1 ≡ count_by (λ x. eqb x 0) level
  fewer =
      omega (
        arith,
        sum_by-set (λ x. cond (eqb x 0) 1 0) level w (slice_index level v + 1) 0 w_in,
        ap {B = ℕ} (λ x. cond (eqb x 0) 1 0) new,
        ap {B = ℕ} (λ b. cond b 1 0) (ne_eqb (slice_index level v + 1) 0 (λ e. omega (arith, e))),
      )

  shallow_more : (u : ℕ) → slice_index (set level w (slice_index level v + 1)) u ≤ length queue + 1
  shallow_more u = elim (cases_eq u w) [
    | inl same ↦ rw (same, at_w) (omega (arith, state.shallow v))
    | inr other ↦ rw (at_other u other) (omega (arith, state.shallow u))
  ]

  pub search_more : IsLayerSearch arcs flows n s (set level w (slice_index level v + 1)) (set via w r) (queue ++ w ∷ [])
  search_more = record {
    layered = record {
      level_len = length-set level w (slice_index level v + 1) ∙ state.layered.level_len;
      via_len = length-set via w r ∙ state.layered.via_len;
      source = stays s (λ e. omega (arith, e, state.layered.source)) ∙ state.layered.source;
      reached = λ u apart reached. elim (cases_eq u w) [
        | inl same ↦ rw same reached_w
        | inr other ↦
            let was : slice_index level u ≢ 0 = rw (at_other u other) at reached in reached_other u other was (state.layered.reached u apart was)
      ];
      bounded = λ u. omega (arith, shallow_more u, state.counted, fewer);
    };
    open_yet = λ u apart reached. elim (cases_eq u w) [
      | inl same ↦ rw (same, via_w) left
      | inr other ↦ let was : slice_index level u ≢ 0 = rw (at_other u other) at reached in rw (via_other u other) (state.open_yet u apart was)
    ];
    counted = omega (arith, state.counted, fewer, length_push queue w);
    shallow = λ u. omega (arith, shallow_more u, length_push queue w);
    nodes = λ k below. elim (cases_eq k (length queue)) [
      | inl same ↦ rw (same, get_or_push queue w 0 (length queue) refl) node
      | inr other ↦ let low : k < length queue = omega (arith, below, other, length_push queue w) in
          rw (get_or_append_left queue (w ∷ []) 0 k low) (state.nodes k low)
    ];
    queued = λ k below. elim (cases_eq k (length queue)) [
      | inl same ↦ rw (same, get_or_push queue w 0 (length queue) refl, at_w) (λ e. omega (arith, e))
      | inr other ↦ let low : k < length queue = omega (arith, below, other, length_push queue w) in
          rw (get_or_append_left queue (w ∷ []) 0 k low) (kept (slice_index queue k) (state.queued k low))
    ];
  }

  pub progress_more : IsProgress level queue (set level w (slice_index level v + 1)) (queue ++ w ∷ [])
  progress_more = record {
    kept = kept;
    longer = omega (arith, length_push queue w);
    same = λ k below. get_or_append_left queue (w ∷ []) 0 k below;
    fresh = λ u reached. elim (cases_eq u w) [
      | inl same ↦ inr (record {
        place = length queue;
        from_start = omega arith;
        in_queue = omega (arith, length_push queue w);
        is_there = get_or_push queue w 0 (length queue) refl ∙ sym same;
      })
      | inr other ↦ inl (rw (at_other u other) at reached)
    ];
  }

  pub reached_more : slice_index (set level w (slice_index level v + 1)) (residual_head arcs r) ≢ 0
  reached_more = rw (ends, at_w) (λ e. omega (arith, e))

pub no_progress : (level queue : List ℕ) → IsProgress level queue level queue
no_progress level queue = record { kept = λ v reached. reached; longer = omega arith; same = λ k below. refl; fresh = λ v reached. inl reached }

-- the residual arcs at these places lead to nodes that were reached, where something is left
abbrev pub AreTried : List Arc → List ℕ → List ℕ → List ResidualArc → ℕ → ℕ → Type 0
AreTried arcs flows level list start end =
    (j : ℕ) → start ≤ j → j < end → 1 ≤ left_on arcs flows (residual_at list j) → slice_index level (residual_head arcs (residual_at list j)) ≢ 0

-- a node is being explored: its residual arcs before this place are tried
pub record IsExploring (arcs : List Arc) (flows : List ℕ) (n s : ℕ) (list : List ResidualArc) (start end : ℕ) (level queue level' : List ℕ) (via' : List ResidualArc) (queue' : List ℕ) : Type 0 where
  pub search : IsLayerSearch arcs flows n s level' via' queue'
  pub progress : IsProgress level queue level' queue'
  pub tried : AreTried arcs flows level' list start end

waiting_longer : (queue queue' : List ℕ) (start v : ℕ) → length queue ≤ length queue' → ((k : ℕ) → k < length queue → slice_index queue' k ≡ slice_index queue k) →
    IsWaiting queue start v → IsWaiting queue' start v
waiting_longer queue queue' start v longer same w = record {
  place = w.place;
  from_start = w.from_start;
  in_queue = omega (arith, w.in_queue, longer);
  is_there = same w.place w.in_queue ∙ w.is_there;
}

waiting_later : (queue : List ℕ) (start v : ℕ) → IsWaiting queue start v → (v ≡ slice_index queue start) ⊎ IsWaiting queue (start + 1) v
waiting_later queue start v w = elim (cases_eq w.place start) [
  | inl same ↦ inl (sym w.is_there ∙ ap (slice_index queue) same)
  | inr other ↦ inr (record { place = w.place; from_start = omega (arith, w.from_start, other); in_queue = w.in_queue; is_there = w.is_there })
]

progress_twice : (l q l' q' l'' q'' : List ℕ) → IsProgress l q l' q' → IsProgress l' q' l'' q'' → IsProgress l q l'' q''
progress_twice l q l' q' l'' q'' first second = record {
  kept = λ v reached. second.kept v (first.kept v reached);
  longer = omega (arith, first.longer, second.longer);
  same = λ k below. second.same k (omega (arith, below, first.longer)) ∙ first.same k below;
  fresh = λ v reached. elim (second.fresh v reached) [
    | inl before ↦ elim (first.fresh v before) [
      | inl earlier ↦ inl earlier
      | inr waits ↦ inr (waiting_longer q' q'' (length q) v second.longer second.same waits)
    ]
    | inr waits ↦ inr (record { place = waits.place; from_start = omega (arith, waits.from_start, first.longer); in_queue = waits.in_queue; is_there = waits.is_there })
  ];
}

pub exploring_none : (arcs : List Arc) (flows : List ℕ) (n s : ℕ) (list : List ResidualArc) (start : ℕ) (level : List ℕ) (via : List ResidualArc) (queue : List ℕ) →
    IsLayerSearch arcs flows n s level via queue → IsExploring arcs flows n s list start start level queue level via queue
exploring_none arcs flows n s list start level via queue state = record {
  search = state;
  progress = no_progress level queue;
  tried = λ j low high. absurd (omega (arith, low, high));
}

pub exploring_more : (arcs : List Arc) (flows : List ℕ) (n s : ℕ) (list : List ResidualArc) (start k : ℕ) (level queue l : List ℕ) (v : List ResidualArc) (q l' : List ℕ) (v' : List ResidualArc) (q' : List ℕ) →
    IsExploring arcs flows n s list start k level queue l v q → IsLayerSearch arcs flows n s l' v' q' → IsProgress l q l' q' →
    (1 ≤ left_on arcs flows (residual_at list k) → slice_index l' (residual_head arcs (residual_at list k)) ≢ 0) →
    IsExploring arcs flows n s list start (k + 1) level queue l' v' q'
exploring_more arcs flows n s list start k level queue l v q l' v' q' state search progress reached = record {
  search = search;
  progress = progress_twice level queue l q l' q' state.progress progress;
  tried = λ j low high. elim (cases_eq j k) [
    | inl same ↦ rw same reached
    | inr other ↦ λ left. progress.kept (residual_head arcs (residual_at list j)) (state.tried j low (omega (arith, high, other)) left)
  ];
}

-- a node whose residual arcs are all tried is explored
explored_all : (arcs : List Arc) (flows level : List ℕ) (list : List ResidualArc) (v start end : ℕ) → ListsAt arcs list v start end → AreTried arcs flows level list start end →
    IsExplored arcs flows level v
explored_all arcs flows level list v start end lists tried = λ r here own left.
    let p = lists.each r here own in
    let there : 1 ≤ left_on arcs flows (residual_at list p.0) = rw p.3 left in
    rw p.3 at (tried p.0 p.1 p.2 there)

still_explored : (arcs : List Arc) (flows level level' : List ℕ) (v : ℕ) → ((u : ℕ) → slice_index level u ≢ 0 → slice_index level' u ≢ 0) →
    IsExplored arcs flows level v → IsExplored arcs flows level' v
still_explored arcs flows level level' v kept explored = λ r here own left. kept (residual_head arcs r) (explored r here own left)

pub pending_more : (arcs : List Arc) (flows : List ℕ) (n s : ℕ) (list : List ResidualArc) (start end place v : ℕ) (level queue l : List ℕ) (via : List ResidualArc) (q : List ℕ) →
    v ≡ slice_index queue place → place < length queue → IsPending arcs flows level queue place → ListsAt arcs list v start end →
    IsExploring arcs flows n s list start end level queue l via q → IsPending arcs flows l q (place + 1)
pending_more arcs flows n s list start end place v level queue l via q is below pending lists state = λ u reached. elim (state.progress.fresh u reached) [
  | inr waits ↦ inl (record { place = waits.place; from_start = omega (arith, waits.from_start, below); in_queue = waits.in_queue; is_there = waits.is_there })
  | inl before ↦ elim (pending u before) [
    | inr explored ↦ inr (still_explored arcs flows level l u state.progress.kept explored)
    | inl waits ↦ elim (waiting_later queue place u waits) [
      | inl same ↦ inr (rw (same, sym is) (explored_all arcs flows l list v start end lists state.tried))
      | inr later ↦ inl (waiting_longer queue q (place + 1) u state.progress.longer state.progress.same later)
    ]
  ]
]

-- with the whole queue behind it, a search has explored all that it reached
pub closed_at_end : (arcs : List Arc) (flows level queue : List ℕ) (place : ℕ) → length queue ≤ place → IsPending arcs flows level queue place → IsClosed arcs flows level
closed_at_end arcs flows level queue place all pending = λ v reached. elim (pending v reached) [
  | inl waits ↦ absurd (omega (arith, waits.from_start, waits.in_queue, all))
  | inr explored ↦ explored
]
