-- A search that labels one component after another.
use Rattle.std.proofs.Common.{◌≡◌, ◌≢◌, ℕ, zero, suc, ◌+◌, ◌-◌, ◌<◌, ◌≤◌, ◌==◌, ◌||◌, Bool, true, false, cond, eqb, List, [], ◌∷◌, ◌++◌, length, get_or, set, refl, sym, ap, ◌∙◌, subst, arith, inl, inr, ◌⊎◌}
use Rattle.std.specs.Prelude.{if◌then◌else◌}
use Rattle.std.specs.List.{Contains}
use Rattle.std.proofs.lemmas.Bool.{cases_eq, cases_lt, eq-eqb, ne_eqb, eqb-true}
use Rattle.std.proofs.lemmas.List.{length-set, get_or-set_same, get_or-set_other, get_or_default, length_push}
use Rattle.std.proofs.lemmas.List.Elements.{Contains-append_left, Contains-push, Contains-push_cases}
use Rattle.std.proofs.lemmas.List.Sums.{sum_by-set}
use Rattle.carp_base.specs.declared.edge.Edge.{Edge}
use Rattle.carp_base.specs.Problem.{Problem, IsValid, IsVertex, IsEdgeNumber, edge_at, tail_of, head_of}
use Rattle.road_network.specs.Incidence.{has_end, far_end, incident}
use Rattle.edge_components.specs.Parts.{parts_of}
use Rattle.edge_components.specs.Components.{AreJoined}
use Rattle.edge_components.specs.Labels.{AreLabels}
use Rattle.edge_components.specs.Search.{IsSearch, IsGoneOver, MayHave, IsClosed, KeepsLabels, work_left}
use Rattle.edge_components.proofs.Paths.{joined_by, same_along}

-- the code's other end of an edge at a vertex, and the direction that leads from there back to the vertex
pub way_back : (x : Edge) (v : ℕ) → has_end v x ≡ true → (forward : Bool) × (tail_of x forward ≡ far_end v x) × (head_of x forward ≡ v)
way_back x v has = elim (cases_eq x.u v) [
  | inl first ↦ (false, sym (ap (λ b. if b then x.v else x.u) (eq-eqb x.u v first)), first)
  | inr other ↦ (true, sym (ap (λ b. if b then x.v else x.u) (ne_eqb x.u v other)), eqb-true x.v v (sym (ap (λ b. b || eqb x.v v) (ne_eqb x.u v other)) ∙ has))
]

-- an edge without loop at a vertex leads from it to its other end alone
only_end : (x : Edge) (v : ℕ) (forward : Bool) → x.u ≢ x.v → tail_of x forward ≡ v → head_of x forward ≡ far_end v x
only_end x v true no_loop tail = sym (ap (λ b. if b then x.v else x.u) (eq-eqb x.u v tail))
only_end x v false no_loop tail = sym (ap (λ b. if b then x.v else x.u) (ne_eqb x.u v (λ same. no_loop (same ∙ sym tail))))

or_right : (b c : Bool) → c ≡ true → (b || c) ≡ true
or_right true c is = refl
or_right false c is = is

pub has_tail : (x : Edge) (v : ℕ) (forward : Bool) → tail_of x forward ≡ v → has_end v x ≡ true
has_tail x v true is = ap (λ b. b || eqb x.v v) (eq-eqb x.u v is)
has_tail x v false is = or_right (eqb x.u v) (eqb x.v v) (eq-eqb x.v v is)

module _ (p : Problem) (x : List ℕ) (least : ℕ) where
  pub closed_stays : (labels labels' : List ℕ) (v : ℕ) → KeepsLabels labels labels' → 1 ≤ get_or labels v 0 → IsClosed p x least labels v → IsClosed p x least labels' v
  closed_stays labels labels' v keeps one closed = λ e forward number strong tail.
      let was = closed e forward number strong tail in
      keeps (head_of (edge_at p e) forward) (subst (λ n. 1 ≤ n) (sym was) one) ∙ was ∙ sym (keeps v one)

  -- a vertex without label gets one
  module _ (root at v : ℕ) (labels waiting : List ℕ) (search : IsSearch p x least root labels waiting at) (vertex : IsVertex p v) (root_in : IsVertex p root)
      (joined : AreJoined p x least v root) (new : get_or labels v 0 ≡ 0) where
    here : get_or (set labels v root) v 0 ≡ root
    here = get_or-set_same labels v root 0 (omega (arith, search.long, vertex.in_range))

    keeps : KeepsLabels labels (set labels v root)
    keeps w one = get_or-set_other labels v w root 0 (λ same. omega (arith, new, ap (λ k. get_or labels k 0) same, one))

    sound : (w : ℕ) → 1 ≤ get_or (set labels v root) w 0 → MayHave p x least w (get_or (set labels v root) w 0)
    sound w one = elim (cases_eq w v) [
      | inl same ↦
          let low : root ≤ v = elim (cases_lt v root) [ inl less ↦ absurd (omega (arith, new, search.before v vertex.from_one less)) | inr most ↦ most ] in
          subst (λ k. MayHave p x least k (get_or (set labels v root) k 0)) (sym same)
          (subst (λ n. MayHave p x least v n) (sym here) (record { vertex = vertex; root = root_in; low = low; joined = joined }))
      | inr other ↦
          let was = get_or-set_other labels v w root 0 other in
          subst (λ n. MayHave p x least w n) (sym was) (search.sound w (subst (λ n. 1 ≤ n) was one))
    ]

    was_labelled : (w : ℕ) → w ≢ v → 1 ≤ get_or (set labels v root) w 0 → 1 ≤ get_or labels w 0
    was_labelled w other one = subst (λ n. 1 ≤ n) (get_or-set_other labels v w root 0 other) one

    closed : (w : ℕ) → 1 ≤ get_or (set labels v root) w 0 → Contains (waiting ++ v ∷ []) w ⊎ ((w ≡ at) ⊎ IsClosed p x least (set labels v root) w)
    closed w one = elim (cases_eq w v) [
      | inl same ↦ inl (subst (λ k. Contains (waiting ++ v ∷ []) k) (sym same) (Contains-push waiting v))
      | inr other ↦ elim (search.closed w (was_labelled w other one)) [
        | inl waits ↦ inl (Contains-append_left waiting (v ∷ []) w waits)
        | inr rest ↦ elim rest [
          | inl is_at ↦ inr (inl is_at)
          | inr done ↦ inr (inr (closed_stays labels (set labels v root) w keeps (was_labelled w other one) done))
        ]
      ]
    ]

    labelled : IsSearch p x least root (set labels v root) (waiting ++ v ∷ []) at
    labelled = record {
      long = length-set labels v root ∙ search.long;
      sound = sound;
      before = λ w one less. subst (λ n. 1 ≤ n) (sym (keeps w (search.before w one less))) (search.before w one less);
      rooted = λ w waits. elim (Contains-push_cases waiting v w waits) [
        | inl before ↦ keeps w (subst (λ n. 1 ≤ n) (sym (search.rooted w before)) root_in.from_one) ∙ search.rooted w before
        | inr same ↦ subst (λ k. get_or (set labels v root) k 0 ≡ root) same here
      ];
      closed = closed;
    }

    zero_label : (n : ℕ) → 1 ≤ n → ◌≡◌ {A = ℕ} (cond (eqb n 0) 1 0) 0
    zero_label n one = ap (λ b. cond b 1 0) (ne_eqb n 0 (λ same. omega (arith, same, one)))

    less_work : work_left (set labels v root) (waiting ++ v ∷ []) + 1 ≡ work_left labels waiting
    less_work =
        omega (
          arith,
          sum_by-set (λ l. cond (eqb l 0) 1 0) labels v root 0 (omega (arith, search.long, vertex.in_range)),
          ap {B = ℕ} (λ b. cond b 1 0) (eq-eqb (get_or labels v 0) 0 new),
          zero_label root root_in.from_one,
          length_push waiting v,
        )

  -- what `label` leaves: the search, the labels that were there, no more work, and a label at the vertex
  pub record Labels (root at v : ℕ) (labels waiting labels' waiting' : List ℕ) : Type 0 where
    pub search : IsSearch p x least root labels' waiting' at
    pub keeps : KeepsLabels labels labels'
    pub less : work_left labels' waiting' ≤ work_left labels waiting
    pub some : 1 ≤ get_or labels' v 0

  pub label_more : (root at v : ℕ) (labels waiting labels' waiting' : List ℕ) → IsSearch p x least root labels waiting at → IsVertex p v → IsVertex p root →
      AreJoined p x least v root → labels' ≡ (if get_or labels v 0 == 0 then set labels v root else labels) →
      waiting' ≡ (if get_or labels v 0 == 0 then waiting ++ v ∷ [] else waiting) → Labels root at v labels waiting labels' waiting'
  label_more root at v labels waiting labels' waiting' search vertex root_in joined labels_are waiting_is = elim (cases_eq (get_or labels v 0) 0) [
    | inl new ↦
        let test = eq-eqb (get_or labels v 0) 0 new in
        let to_labels : labels' ≡ set labels v root = labels_are ∙ ap (λ b. if b then set labels v root else labels) test in
        let to_waiting : waiting' ≡ waiting ++ v ∷ [] = waiting_is ∙ ap (λ b. if b then waiting ++ v ∷ [] else waiting) test in
        subst (λ l. Labels root at v labels waiting l waiting') (sym to_labels)
        (subst (λ w. Labels root at v labels waiting (set labels v root) w) (sym to_waiting)
        (record {
          search = labelled root at v labels waiting search vertex root_in joined new;
          keeps = keeps root at v labels waiting search vertex root_in joined new;
          less = omega (arith, less_work root at v labels waiting search vertex root_in joined new);
          some = subst (λ n. 1 ≤ n) (sym (here root at v labels waiting search vertex root_in joined new)) root_in.from_one;
        }))
    | inr old ↦
        let test = ne_eqb (get_or labels v 0) 0 old in
        let to_labels : labels' ≡ labels = labels_are ∙ ap (λ b. if b then set labels v root else labels) test in
        let to_waiting : waiting' ≡ waiting = waiting_is ∙ ap (λ b. if b then waiting ++ v ∷ [] else waiting) test in
        subst (λ l. Labels root at v labels waiting l waiting') (sym to_labels)
        (subst (λ w. Labels root at v labels waiting labels w) (sym to_waiting)
        (record { search = search; keeps = λ w one. refl; less = omega arith; some = omega (arith, old) }))
  ]

  -- the vertex at the other end of a strong edge, once it is labelled, has the label of the vertex whose edges are gone through
  pub far_label : (root v u e : ℕ) (forward : Bool) (labels waiting : List ℕ) → IsSearch p x least root labels waiting v → get_or labels v 0 ≡ root →
      1 ≤ get_or labels u 0 → IsEdgeNumber p e → least ≤ parts_of x e → tail_of (edge_at p e) forward ≡ u → head_of (edge_at p e) forward ≡ v →
      get_or labels u 0 ≡ root
  far_label root v u e forward labels waiting search at_v some number strong tail head = elim (search.closed u some) [
    | inl waits ↦ search.rooted u waits
    | inr rest ↦ elim rest [
      | inl is_at ↦ ap (λ k. get_or labels k 0) is_at ∙ at_v
      | inr done ↦ sym (done e forward number strong tail) ∙ ap (λ k. get_or labels k 0) head ∙ at_v
    ]
  ]

  -- the first k edges at the vertex were gone through
  abbrev pub GoneThrough : ℕ → ℕ → List ℕ → ℕ → Type 0
  GoneThrough root v labels k = (i : ℕ) → i < k → least ≤ parts_of x (get_or (incident p v) i 0) → get_or labels (far_end v (edge_at p (get_or (incident p v) i 0))) 0 ≡ root

  -- the parts of an edge, as the code reads them
  pub parts_read : (e : ℕ) → 1 ≤ e → parts_of x e ≡ get_or x (e - 1) 0
  parts_read zero one = absurd (omega (arith, one))
  parts_read (suc k) one = let is : suc k - 1 ≡ k = omega arith in rw is refl

  pub far_vertex : (v e : ℕ) → IsValid p → IsEdgeNumber p e → has_end v (edge_at p e) ≡ true → IsVertex p (far_end v (edge_at p e))
  far_vertex v e valid number there =
      let way = way_back (edge_at p e) v there in
      subst (IsVertex p) way.1 (tail_in (edge_at p e) way.0 (valid.edges e number).u_in (valid.edges e number).v_in)
    where
      tail_in : (y : Edge) (forward : Bool) → IsVertex p y.u → IsVertex p y.v → IsVertex p (tail_of y forward)
      tail_in y true u_in v_in = u_in
      tail_in y false u_in v_in = v_in

  pub go_over : (root v e : ℕ) (labels waiting labels' waiting' : List ℕ) → IsValid p → IsSearch p x least root labels waiting v → IsVertex p root → IsVertex p v →
      get_or labels v 0 ≡ root → IsEdgeNumber p e → has_end v (edge_at p e) ≡ true → least ≤ parts_of x e →
      labels' ≡ (if get_or labels (far_end v (edge_at p e)) 0 == 0 then set labels (far_end v (edge_at p e)) root else labels) →
      waiting' ≡ (if get_or labels (far_end v (edge_at p e)) 0 == 0 then waiting ++ far_end v (edge_at p e) ∷ [] else waiting) →
      IsGoneOver p x least root v e labels waiting labels' waiting'
  go_over root v e labels waiting labels' waiting' valid so_far root_in v_in at_v number there strong labels_are waiting_are =
      let u = far_end v (edge_at p e) in
      let way = way_back (edge_at p e) v there in
      let rest : AreJoined p x least v root = subst (λ r. AreJoined p x least v r) at_v (so_far.sound v (subst (λ n. 1 ≤ n) (sym at_v) root_in.from_one)).joined in
      let joined = joined_by p x least e way.0 u root number strong way.1 (subst (λ k. AreJoined p x least k root) (sym way.2) rest) in
      let more = label_more root v u labels waiting labels' waiting' so_far (far_vertex v e valid number there) root_in joined labels_are waiting_are in
      let still : get_or labels' v 0 ≡ root = more.keeps v (subst (λ n. 1 ≤ n) (sym at_v) root_in.from_one) ∙ at_v in
      record {
        search = more.search;
        keeps = more.keeps;
        less = more.less;
        over = λ _. far_label root v u e way.0 labels' waiting' more.search still more.some number strong way.1 way.2;
      }

  pub go_past : (root v e : ℕ) (labels waiting : List ℕ) → IsSearch p x least root labels waiting v → parts_of x e < least → IsGoneOver p x least root v e labels waiting labels waiting
  go_past root v e labels waiting so_far weak = record {
    search = so_far;
    keeps = λ w one. refl;
    less = omega arith;
    over = λ strong. absurd (omega (arith, weak, strong));
  }

  -- all of them were
  pub all_through : (root v k : ℕ) (labels waiting : List ℕ) → IsValid p → IsVertex p root → IsSearch p x least root labels waiting v → get_or labels v 0 ≡ root →
      ((e : ℕ) → IsEdgeNumber p e → has_end v (edge_at p e) ≡ true → Contains (incident p v) e) → GoneThrough root v labels k → length (incident p v) ≤ k →
      IsSearch p x least root labels waiting 0
  all_through root v k labels waiting valid root_in search at_v complete through all = record {
    long = search.long;
    sound = search.sound;
    before = search.before;
    rooted = search.rooted;
    closed = λ w one. elim (search.closed w one) [
      | inl waits ↦ inl waits
      | inr rest ↦ elim rest [
        | inl is_at ↦ inr (inr (subst (λ k. IsClosed p x least labels k) (sym is_at) closed_here))
        | inr done ↦ inr (inr done)
      ]
    ];
  }
    where
      closed_here : IsClosed p x least labels v
      closed_here e forward number strong tail =
          let there = complete e number (has_tail (edge_at p e) v forward tail) in
          let is : get_or (incident p v) there.0 0 ≡ e = get_or_default (incident p v) there.0 0 e there.1 ∙ there.2 in
          let far = subst (λ k. least ≤ parts_of x k → get_or labels (far_end v (edge_at p k)) 0 ≡ root) is (through there.0 (omega (arith, there.1, all))) in
          ap (λ k. get_or labels k 0) (only_end (edge_at p e) v forward (valid.edges e number).no_loop tail) ∙ far strong ∙ sym at_v

  -- a vertex is taken from those that wait
  pub taken : (root v : ℕ) (labels waiting : List ℕ) → IsSearch p x least root labels (waiting ++ v ∷ []) 0 →
      IsSearch p x least root labels waiting v × (get_or labels v 0 ≡ root)
  taken root v labels waiting search = (
    record {
      long = search.long;
      sound = search.sound;
      before = search.before;
      rooted = λ w waits. search.rooted w (Contains-append_left waiting (v ∷ []) w waits);
      closed = λ w one. elim (search.closed w one) [
        | inl waits ↦ elim (Contains-push_cases waiting v w waits) [ inl still ↦ inl still | inr is ↦ inr (inl (sym is)) ]
        | inr rest ↦ elim rest [
          | inl is_zero ↦ absurd (omega (arith, is_zero, (search.sound w one).vertex.from_one))
          | inr done ↦ inr (inr done)
        ]
      ];
    },
    search.rooted v (Contains-push waiting v),
  )

  -- at the end each vertex has the least vertex of its component
  pub all_labelled : (labels : List ℕ) → IsSearch p x least (p.vertices + 1) labels [] 0 → AreLabels p x least labels
  all_labelled labels search = record {
    in_range = record { long = search.long; within = λ v vertex. (search.sound v (some v vertex)).root };
    each = λ v vertex. record {
      joined = (search.sound v (some v vertex)).joined;
      lowest = λ w w_in joined.
          let same : get_or labels w 0 ≡ get_or labels v 0 =
          same_along p x least (λ k. get_or labels k 0) closed v joined.path w joined.leads joined.strong (some v vertex) in
          omega (arith, same, (search.sound w (some w w_in)).low);
    };
  }
    where
      some : (v : ℕ) → IsVertex p v → 1 ≤ get_or labels v 0
      some v vertex = search.before v vertex.from_one (omega (arith, vertex.in_range))

      closed : (v : ℕ) → 1 ≤ get_or labels v 0 → IsClosed p x least labels v
      closed v one = elim (search.closed v one) [
        | inl waits ↦ absurd (omega (arith, waits.1))
        | inr rest ↦ elim rest [
          | inl is_zero ↦ absurd (omega (arith, is_zero, (search.sound v one).vertex.from_one))
          | inr done ↦ done
        ]
      ]
