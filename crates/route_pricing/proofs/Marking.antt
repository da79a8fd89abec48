-- Marks at the vertices whose labels are still to be passed on.
use Rattle.std.proofs.Common.{◌≡◌, ◌≢◌, ℕ, ◌+◌, ◌-◌, ◌<◌, ◌≤◌, Bool, true, false, List, length, slice_index, slice_set, replicate, refl, sym, ap, ◌∙◌, arith, inl, inr, subst, cond, eqb, ◌||◌, if◌then◌else◌}
use Rattle.std.specs.List.{Contains}
use Rattle.std.proofs.lemmas.Bool.{cases_eq, eq-eqb, ne_eqb, eqb-true}
use Rattle.std.proofs.lemmas.List.{get_or-set_same, get_or-set_other, get_or-replicate, get_or_default}
use Rattle.std.proofs.lemmas.List.Sums.{sum_by-set}
use Rattle.carp_base.specs.declared.edge.Edge.{Edge}
use Rattle.carp_base.specs.Problem.{IsVertex, IsReached, IsEdgeNumber, edge_at, tail_of, head_of}
use Rattle.road_network.specs.Incidence.{has_end, far_end, incident}
use Rattle.route_pricing.specs.Partial.{no_value, IsGrid, between}
use Rattle.route_pricing.specs.declared.grid.Grid.{Grid}
use Rattle.route_pricing.specs.declared.labels.Labels.{Labels}
use Rattle.route_pricing.specs.Labels.{labels_at, AreTwo, Passes, IsLayer, CarriesOn, IsBounded, IsPassed, AreStreetsSettled, is_marked, AreMarked, AreMarkedBut, AreMarkedBefore, label_sum, work_left, visited_at}
use Rattle.route_pricing.proofs.PartialTours.{not_both}
use Rattle.route_pricing.proofs.Passing.{street_on}

pub carries_none : (g : Grid) (layer : List Labels) → IsLayer g layer → CarriesOn g layer layer
carries_none g layer is = record { layer = is; sound = λ _ s. s; keeps = λ _ _ _ _ b. b }

pub carries_more : (g : Grid) (old mid new : List Labels) → CarriesOn g old mid → CarriesOn g mid new → CarriesOn g old new
carries_more g old mid new one two = record {
  layer = two.layer;
  sound = λ load s. two.sound load (one.sound load s);
  keeps = λ h e v h_in b. two.keeps h e v h_in (one.keeps h e v h_in b);
}

-- the direction in which an edge leads away from its end
pub leads_away : (x : Edge) (v : ℕ) → has_end v x ≡ true → (f : Bool) × (tail_of x f ≡ v) × (head_of x f ≡ far_end v x)
leads_away x v has = elim (cases_eq x.u v) [
  | inl first ↦ (true, first, sym (ap (λ b. cond b x.v x.u) (eq-eqb x.u v first)))
  | inr other ↦ (false, eqb-true x.v v (sym (ap (λ b. b || eqb x.v v) (ne_eqb x.u v other)) ∙ has), sym (ap (λ b. cond b x.v x.u) (ne_eqb x.u v other)))
]

-- in either direction it leads to the far end
pub head_is_far : (x : Edge) (v : ℕ) (f : Bool) → x.u ≢ x.v → tail_of x f ≡ v → head_of x f ≡ far_end v x
head_is_far x v true no_loop tail = sym (ap (λ b. cond b x.v x.u) (eq-eqb x.u v tail))
head_is_far x v false no_loop tail = sym (ap (λ b. cond b x.v x.u) (ne_eqb x.u v (λ is. no_loop (is ∙ sym tail))))

pub has_tail : (x : Edge) (v : ℕ) (f : Bool) → tail_of x f ≡ v → has_end v x ≡ true
has_tail x v true is = ap (λ b. b || eqb x.v v) (eq-eqb x.u v is)
has_tail x v false is = ap (λ b. eqb x.u v || b) (eq-eqb x.v v is) ∙ or_true (eqb x.u v)
  where
    or_true : (b : Bool) → (b || true) ≡ true
    or_true true = refl
    or_true false = refl

-- a vertex without labels has nothing to pass on
none_passes : (x y : Labels) (n : ℕ) → x.first ≡ no_value → AreTwo y → Passes x n y
none_passes x y n none two e v bound = record { first = omega (arith, none, bound.first, two.ordered, two.fits); second = λ _. omega (arith, none, bound.first, two.fits) }

-- what a mark weighs
abbrev pub mark_weight : Bool → ℕ
mark_weight marked = if marked then 1 else 0

module _ (marks : List Bool) (at : ℕ) (at_in : at < length marks) where
  pub work_marked : (old new : List Labels) → label_sum new < label_sum old → work_left new (slice_set marks at true) ≤ work_left old marks
  work_marked old new less = omega (arith, less, sum_by-set mark_weight marks at true false at_in)

  pub work_taken : (layer : List Labels) → is_marked marks at ≡ true → work_left layer (slice_set marks at false) < work_left layer marks
  work_taken layer is = omega (arith, sum_by-set mark_weight marks at false false at_in, ap mark_weight is)

  -- where a mark was set there is one, and all others are as before
  pub marked_before : (h : ℕ) → is_marked (slice_set marks at true) h ≡ false → (h ≢ at) × (is_marked marks h ≡ false)
  marked_before h none =
      let apart : h ≢ at = λ same. not_both (is_marked (slice_set marks at true) h) (ap (is_marked (slice_set marks at true)) same ∙ get_or-set_same marks at true false at_in) none in
      (apart, sym (get_or-set_other marks at h true false apart) ∙ none)

module _ (g : Grid) (grid : IsGrid g) where
  head_in : (e : ℕ) (f : Bool) → IsEdgeNumber g.inst e → IsVertex g.inst (head_of (edge_at g.inst e) f)
  head_in e true number = (grid.valid.edges e number).v_in
  head_in e false number = (grid.valid.edges e number).u_in

  tail_in : (e : ℕ) (f : Bool) → IsEdgeNumber g.inst e → IsVertex g.inst (tail_of (edge_at g.inst e) f)
  tail_in e true number = (grid.valid.edges e number).u_in
  tail_in e false number = (grid.valid.edges e number).v_in

  pub far_in : (e from : ℕ) → IsEdgeNumber g.inst e → has_end from (edge_at g.inst e) ≡ true → IsVertex g.inst (far_end from (edge_at g.inst e))
  far_in e from number there =
      let way = leads_away (edge_at g.inst e) from there in
      subst (IsVertex g.inst) way.2 (head_in e way.0 number)

  -- the depot reaches both ends of a street or neither
  pub far_reached : (e from n : ℕ) → IsEdgeNumber g.inst e → has_end from (edge_at g.inst e) ≡ true → n ≡ slice_index g.lengths.items (e - 1) → IsReached g.inst from →
      IsReached g.inst (far_end from (edge_at g.inst e)) × (between g from (far_end from (edge_at g.inst e)) ≤ n)
  far_reached e from n number there is reached =
      let way = leads_away (edge_at g.inst e) from there in
      subst (λ h. IsReached g.inst h × (between g from h ≤ n)) way.2
      (subst (λ h. IsReached g.inst (head_of (edge_at g.inst e) way.0) × (between g h (head_of (edge_at g.inst e) way.0) ≤ n)) way.1
      (street_on g grid e n way.0 number is (subst (IsReached g.inst) (sym way.1) reached)))

  -- a street at a vertex was crossed, where each vertex that is not marked now was not, and has the labels that it had
  pub crossed_more : (old new : List Labels) (marks marks_new : List Bool) (from number place n : ℕ) → CarriesOn g old new → IsEdgeNumber g.inst number → n ≡ slice_index g.lengths.items (number - 1) →
      ((h : ℕ) → is_marked marks_new h ≡ false → (is_marked marks h ≡ false) × (labels_at new h ≡ labels_at old h)) →
      Passes (labels_at old from) n (labels_at new (far_end from (edge_at g.inst number))) → slice_index (incident g.inst from) place ≡ number →
      AreMarkedBefore g old marks from place → AreMarkedBefore g new marks_new from (place + 1)
  crossed_more old new marks marks_new from number place n on number_in is same passes at before e f e_in none only =
      let h = tail_of (edge_at g.inst e) f in
      let w = head_of (edge_at g.inst e) f in
      let was = same h none in
      let later : IsPassed g old e f → IsPassed g new e f = λ passed edge v bound.
      on.keeps w edge _ (head_in e f e_in).in_range (passed edge v (subst (λ x. IsBounded x edge v) was.1 bound)) in
      elim (cases_eq number e) [
        | inr other ↦ later (before e f e_in was.0 (λ tail j from_place below. elim (cases_eq j place) [
          | inl last ↦ λ j_is. other (sym at ∙ ap (slice_index (incident g.inst from)) (sym last) ∙ j_is)
          | inr more ↦ only tail j (omega (arith, from_place, more)) below
        ]))
        | inl one ↦ elim (cases_eq h from) [
          | inr apart ↦ later (before e f e_in was.0 (λ tail. absurd (apart tail)))
          | inl tail ↦
              let far : w ≡ far_end from (edge_at g.inst number) = head_is_far (edge_at g.inst e) from f (grid.valid.edges e e_in).no_loop tail ∙ ap (λ k. far_end from (edge_at g.inst k)) (sym one) in
              let here : labels_at old from ≡ labels_at new h = ap (labels_at old) (sym tail) ∙ sym was.1 in
              subst (λ x. Passes x (slice_index g.lengths.items (e - 1)) (labels_at new w)) here
              (subst (λ k. Passes (labels_at old from) k (labels_at new w)) (is ∙ ap (λ k. slice_index g.lengths.items (k - 1)) one)
              (subst (λ k. Passes (labels_at old from) n (labels_at new k)) (sym far) passes))
        ]
      ]

  module _ (layer : List Labels) (marks : List Bool) where
    -- before the first street at a vertex is crossed
    pub crossed_none : (from : ℕ) → ((e : ℕ) → IsEdgeNumber g.inst e → has_end from (edge_at g.inst e) ≡ true → Contains (incident g.inst from) e) → AreMarkedBut g layer marks from →
        AreMarkedBefore g layer marks from 0
    crossed_none from complete but e f number none only = elim (cases_eq (tail_of (edge_at g.inst e) f) from) [
      | inr apart ↦ but e f number none apart
      | inl tail ↦
          let at = complete e number (has_tail (edge_at g.inst e) from f tail) in
          absurd (only tail at.0 (omega arith) at.1 (get_or_default (incident g.inst from) at.0 0 e at.1 ∙ at.2))
    ]

    -- after the last
    pub crossed_all : (from place : ℕ) → place ≡ length (incident g.inst from) → AreMarkedBefore g layer marks from place → AreMarked g layer marks
    crossed_all from place all before e f number none = before e f number none (λ _ j from_place below. absurd (omega (arith, all, from_place, below)))

    -- a vertex without labels needs no mark
    pub none_marked : (from : ℕ) → IsLayer g layer → (labels_at layer from).first ≡ no_value → AreMarkedBut g layer marks from → AreMarked g layer marks
    none_marked from is empty but e f number none = elim (cases_eq (tail_of (edge_at g.inst e) f) from) [
      | inr apart ↦ but e f number none apart
      | inl tail ↦ none_passes _ _ _ (ap (λ h. (labels_at layer h).first) tail ∙ empty) (is.two _ (head_in e f number).in_range)
    ]

    -- a mark taken away
    pub taken_marked : (at : ℕ) → AreMarked g layer marks → AreMarkedBut g layer (slice_set marks at false) at
    taken_marked at marked e f number none apart = marked e f number (sym (get_or-set_other marks at _ false false apart) ∙ none)

    -- a sweep that finds no mark
    pub swept : (up : Bool) → AreMarked g layer marks → ((j : ℕ) → j < g.inst.vertices → is_marked marks (visited_at up g.inst.vertices j) ≡ false) → AreStreetsSettled g layer
    swept up marked none e f number = marked e f number (each up (tail_of (edge_at g.inst e) f) (tail_in e f number) none)
      where
        each : (up : Bool) (h : ℕ) → IsVertex g.inst h → ((j : ℕ) → j < g.inst.vertices → is_marked marks (visited_at up g.inst.vertices j) ≡ false) → is_marked marks h ≡ false
        each true h h_in none =
            let place : h - 1 + 1 ≡ h = omega (arith, h_in.from_one) in
            subst (λ k. is_marked marks k ≡ false) place (none (h - 1) (omega (arith, h_in.from_one, h_in.in_range)))
        each false h h_in none =
            let place : g.inst.vertices - (g.inst.vertices - h) ≡ h = omega (arith, h_in.in_range) in
            subst (λ k. is_marked marks k ≡ false) place (none (g.inst.vertices - h) (omega (arith, h_in.from_one, h_in.in_range)))

  -- where all vertices are marked
  pub all_marked : (layer : List Labels) (n : ℕ) → n ≡ g.inst.vertices + 1 → AreMarked g layer (replicate n true)
  all_marked layer n long e f number none =
      let h = tail_of (edge_at g.inst e) f in
      absurd (not_both (is_marked (replicate n true) h) (get_or-replicate n h true false (omega (arith, long, (tail_in e f number).in_range))) none)
