-- Labels carried over streets, until each street passes on those of both its ends.
use Rattle.std.proofs.Common.{◌≡◌, ◌≢◌, ℕ, ◌+◌, ◌-◌, ◌*◌, ◌^◌, ◌<◌, ◌≤◌, Bool, true, false, cond, List, [], ◌∷◌, ◌++◌, length, slice_index, slice_set, get_or, refl, sym, ap, ◌∙◌, arith, inl, inr, subst, ◌⊎◌}
use Rattle.std.proofs.lemmas.Bool.{cases_Bool, cases_eq, cases_lt}
use Rattle.std.proofs.lemmas.List.{length-set, get_or-set_same, get_or-set_other}
use Rattle.std.proofs.lemmas.List.Sums.{sum_by-set}
use Rattle.carp_base.specs.declared.edge.Task.{Task}
use Rattle.carp_base.specs.Problem.{IsReached, IsRequired, IsEdgeNumber, TasksLead, edge_at, tail_of, head_of}
use Rattle.route_pricing.specs.Partial.{base, no_value, IsGrid, width, column_task, task_start, task_end, between, leg, charge_at, raised_from, surcharge_at, crossed, Reaches, IsCell, IsJoin, IsLeastJoin}
use Rattle.route_pricing.specs.declared.grid.Grid.{Grid}
use Rattle.route_pricing.specs.declared.labels.Labels.{Labels}
use Rattle.route_pricing.specs.declared.charging.Charge.{Charge}
use Rattle.route_pricing.specs.declared.charging.Charge.TheVariants.{Charged, Free}
use Rattle.route_pricing.specs.Labels.{no_labels, labels_at, AreTwo, IsBounded, IsInserted, IsFromEither, AreLabelsJoined, IsLayer, IsCarried, AreSoundAt, AreLabelsSound, Keeps, BoundsEnds, label_sum, AreStreetsSettled, AreSpread, label_joined}
use Rattle.route_pricing.specs.Charging.{IsGain}
use Rattle.route_pricing.proofs.PartialTours.{leads_more, column_of, task_is, column_in, reaches_required, reaches_small, head_reached, tail_reached}
use Rattle.route_pricing.proofs.Copies.{reached_in}

-- one entry of a layer
module _ (g : Grid) (layer : List Labels) (at : ℕ) (new : Labels) (is : IsLayer g layer) (at_in : at ≤ g.inst.vertices) where
  at_place : at < length layer
  at_place = omega (arith, is.long, at_in)

  pub set_here : labels_at (slice_set layer at new) at ≡ new
  set_here = get_or-set_same layer at new no_labels at_place

  pub set_there : (h : ℕ) → h ≢ at → labels_at (slice_set layer at new) h ≡ labels_at layer h
  set_there h other = get_or-set_other layer at h new no_labels other

  pub set_all : (P : ℕ → Labels → Type 0) → ((h : ℕ) → h ≤ g.inst.vertices → P h (labels_at layer h)) → P at new → (h : ℕ) → h ≤ g.inst.vertices → P h (labels_at (slice_set layer at new) h)
  set_all P each one h h_in = elim (cases_eq h at) [
    | inl same ↦ subst (λ k. P k (labels_at (slice_set layer at new) k)) (sym same) (subst (P at) (sym set_here) one)
    | inr other ↦ subst (P h) (sym (set_there h other)) (each h h_in)
  ]

  pub set_layer_is : AreTwo new → IsLayer g (slice_set layer at new)
  set_layer_is two = record { long = length-set _ _ _ ∙ is.long; two = set_all (λ _ x. AreTwo x) is.two two }

  pub set_keeps : ((e v : ℕ) → IsBounded (labels_at layer at) e v → IsBounded new e v) → Keeps g layer (slice_set layer at new)
  set_keeps keeps h e v h_in bound =
      let P : ℕ → Labels → Type 0 = λ k x. IsBounded (labels_at layer k) e v → IsBounded x e v in
      set_all P (λ _ _ b. b) (keeps e v) h h_in bound

  pub set_sum : label_sum (slice_set layer at new) + ((labels_at layer at).first + (labels_at layer at).second) ≡ label_sum layer + (new.first + new.second)
  set_sum = sum_by-set (λ (x : Labels). x.first + x.second) layer at new no_labels at_place

-- a partial tour at the end of a street is one at its other end
module _ (g : Grid) (grid : IsGrid g) where
  carried_on : (load from to n e v : ℕ) → IsReached g.inst to → between g from to ≤ n → IsCarried g load from e v → IsCarried g load to e (v + n)
  carried_on load from to n e v to_in most c =
      let required = reaches_required g grid c.last load c.own c.reaches in
      record {
        vertex = to_in;
        last = c.last;
        own = c.own;
        reaches = c.reaches;
        edge_is = c.edge_is;
        most = omega (arith, c.most, most, grid.triangle (task_end g c.last) from to (head_reached g.inst c.last.edge c.last.forward grid.valid required) c.vertex to_in);
      }

  module _ (load from to n : ℕ) (x old new : Labels) (joined : AreLabelsJoined x n old new) (reached : IsReached g.inst from → IsReached g.inst to × (between g from to ≤ n)) (here : AreSoundAt g load to old) (there : AreSoundAt g load from x) where
    label_sound : (v e : ℕ) → v < no_value → IsFromEither old x n v e → IsCarried g load to e v
    label_sound v e less (inl is) = subst (IsCarried g load to e) (sym is.0) (subst (λ d. IsCarried g load to d old.first) (sym is.1) (here.first (omega (arith, less, is.0))))
    label_sound v e less (inr (inl is)) = subst (IsCarried g load to e) (sym is.0) (subst (λ d. IsCarried g load to d old.second) (sym is.1) (here.second (omega (arith, less, is.0))))
    label_sound v e less (inr (inr (inl is))) =
        let c = there.first (omega (arith, less, is.0)) in
        let r = reached c.vertex in
        subst (IsCarried g load to e) (sym is.0) (subst (λ d. IsCarried g load to d (x.first + n)) (sym is.1) (carried_on load from to n x.first_edge x.first r.0 r.1 c))
    label_sound v e less (inr (inr (inr is))) =
        let c = there.second (omega (arith, less, is.0)) in
        let r = reached c.vertex in
        subst (IsCarried g load to e) (sym is.0) (subst (λ d. IsCarried g load to d (x.second + n)) (sym is.1) (carried_on load from to n x.second_edge x.second r.0 r.1 c))

    pub joined_sound : AreSoundAt g load to new
    joined_sound = record { first = λ less. label_sound new.first new.first_edge less (joined.first_from less); second = λ less. label_sound new.second new.second_edge less (joined.second_from less) }

  -- the ends of a street
  pub ends_reached : (e : ℕ) (f : Bool) → IsEdgeNumber g.inst e → IsReached g.inst (tail_of (edge_at g.inst e) f) → IsReached g.inst (head_of (edge_at g.inst e) f)
  ends_reached e f number tail = record {
    path = tail.path ++ record { edge = e; forward = f } ∷ [];
    leads = leads_more g.inst g.inst.depot (tail_of (edge_at g.inst e) f) tail.path (record { edge = e; forward = f }) tail.leads number refl;
  }

  pub street_on : (e n : ℕ) (f : Bool) → IsEdgeNumber g.inst e → n ≡ slice_index g.lengths.items (e - 1) → IsReached g.inst (tail_of (edge_at g.inst e) f) →
      IsReached g.inst (head_of (edge_at g.inst e) f) × (between g (tail_of (edge_at g.inst e) f) (head_of (edge_at g.inst e) f) ≤ n)
  street_on e n true number is u_in = (ends_reached e true number u_in, omega (arith, is, grid.lengths e number))
  street_on e n false number is v_in =
      let u_in = ends_reached e false number v_in in
      (u_in, omega (arith, is, grid.lengths e number, grid.both_ways (edge_at g.inst e).u (edge_at g.inst e).v u_in v_in))

  -- what is bounded at one vertex is bounded at the end of a way from there
  module _ (layer : List Labels) (settled : AreStreetsSettled g layer) where
    one_on : (e : ℕ) (f : Bool) (edge v : ℕ) → IsEdgeNumber g.inst e → IsReached g.inst (tail_of (edge_at g.inst e) f) → IsBounded (labels_at layer (tail_of (edge_at g.inst e) f)) edge v →
        IsBounded (labels_at layer (head_of (edge_at g.inst e) f)) edge (v + between g (tail_of (edge_at g.inst e) f) (head_of (edge_at g.inst e) f))
    one_on e true edge v number tail bound =
        subst (λ n. IsBounded (labels_at layer (edge_at g.inst e).v) edge (v + n)) (grid.lengths e number) (settled e true number edge v bound)
    one_on e false edge v number tail bound =
        subst (λ n. IsBounded (labels_at layer (edge_at g.inst e).u) edge (v + n))
        (grid.lengths e number ∙ grid.both_ways (edge_at g.inst e).u (edge_at g.inst e).v (ends_reached e false number tail) tail) (settled e false number edge v bound)

    bound_on : (path : List Task) (a b edge v : ℕ) → IsReached g.inst a → TasksLead g.inst a path b → IsBounded (labels_at layer a) edge v → IsBounded (labels_at layer b) edge (v + crossed g path)
    bound_on [] a b edge v a_in leads bound =
        let same : v ≡ v + 0 = omega arith in
        subst (λ h. IsBounded (labels_at layer h) edge (v + 0)) leads (subst (IsBounded (labels_at layer a) edge) same bound)
    bound_on (t ∷ path) a b edge v a_in leads bound =
        let tail_in = subst (IsReached g.inst) (sym leads.1) a_in in
        let one = one_on t.edge t.forward edge v leads.0 tail_in (subst (λ h. IsBounded (labels_at layer h) edge v) (sym leads.1) bound) in
        let rest = bound_on path (task_end g t) b edge (v + between g (task_start g t) (task_end g t)) (ends_reached t.edge t.forward leads.0 tail_in) leads.2 one in
        let same : v + between g (task_start g t) (task_end g t) + crossed g path ≡ v + (between g (task_start g t) (task_end g t) + crossed g path) = omega arith in
        subst (IsBounded (labels_at layer b) edge) same rest

  bounded_more : (x : Labels) (e v w : ℕ) → v ≤ w → IsBounded x e v → IsBounded x e w
  bounded_more x e v w more b = record { first = omega (arith, more, b.first); second = λ other. omega (arith, more, b.second other) }

  pub spread_all : (load : ℕ) (layer : List Labels) → IsLayer g layer → AreLabelsSound g load layer → BoundsEnds g load (width g) layer → AreStreetsSettled g layer → AreSpread g load layer
  spread_all load layer is sound ends settled = record {
    layer = is;
    sound = sound;
    bounds = λ last w h reaches h_in.
        let required = reaches_required g grid last load w reaches in
        let end_in = head_reached g.inst last.edge last.forward grid.valid required in
        let column = task_is last required.from_one in
        let own : IsBounded (labels_at layer (task_end g last)) last.edge w =
        subst (λ t. IsBounded (labels_at layer (task_end g t)) t.edge w) column (ends (column_of last) w (column_in g last required) (subst (λ t. Reaches g t load w) (sym column) reaches)) in
        let led = grid.led (task_end g last) h end_in h_in in
        bounded_more (labels_at layer h) last.edge (w + crossed g led.path) (w + between g (task_end g last) h) (omega (arith, led.most))
        (bound_on layer settled led.path (task_end g last) h last.edge w end_in led.leads own);
  }

  -- the labels of the partial tours that end at a vertex
  pub ends_more : (load column value : ℕ) (layer : List Labels) (new : Labels) → IsLayer g layer → IsCell g load (column_task column) value → column < width g →
      task_end g (column_task column) ≤ g.inst.vertices → IsInserted (labels_at layer (task_end g (column_task column))) value (column_task column).edge new →
      BoundsEnds g load column layer → BoundsEnds g load (column + 1) (slice_set layer (task_end g (column_task column)) new)
  ends_more load column value layer new is cell column_in at_in inserted ends c w before reaches = elim (cases_eq c column) [
    | inl same ↦
        let at = task_end g (column_task column) in
        let own : IsBounded new (column_task column).edge w = bounded_more new (column_task column).edge value w (cell.least w (subst (λ d. Reaches g (column_task d) load w) same reaches)) inserted.bounds in
        subst (λ d. IsBounded (labels_at (slice_set layer at new) (task_end g (column_task d))) (column_task d).edge w) (sym same)
        (subst (λ x. IsBounded x (column_task column).edge w) (sym (set_here g layer at new is at_in)) own)
    | inr other ↦
        let earlier : c < column = omega (arith, before, other) in
        let c_reached = reaches_required g grid (column_task c) load w reaches in
        let at = reached_in g.inst (task_end g (column_task c)) grid.valid (head_reached g.inst (column_task c).edge (column_task c).forward grid.valid c_reached) in
        set_keeps g layer (task_end g (column_task column)) new is at_in inserted.keeps (task_end g (column_task c)) (column_task c).edge w at.in_range (ends c w earlier reaches)
  ]

  pub inserted_sound : (load column value : ℕ) (old new : Labels) → column < width g → IsCell g load (column_task column) value → IsInserted old value (column_task column).edge new →
      IsReached g.inst (task_end g (column_task column)) → AreSoundAt g load (task_end g (column_task column)) old → AreSoundAt g load (task_end g (column_task column)) new
  inserted_sound load column value old new column_in cell inserted at_in sound =
      record { first = λ less. one new.first new.first_edge less inserted.first_from; second = λ less. one new.second new.second_edge less inserted.second_from }
    where
      at : ℕ
      at = task_end g (column_task column)

      own : value < no_value → IsCarried g load (task_end g (column_task column)) (column_task column).edge value
      own less = record { vertex = at_in; last = column_task column; own = value; reaches = cell.attained less; edge_is = refl; most = omega (arith, grid.stay (task_end g (column_task column)) at_in) }

      one : (v e : ℕ) → v < no_value → ((v ≡ old.first) × (e ≡ old.first_edge)) ⊎ (((v ≡ old.second) × (e ≡ old.second_edge)) ⊎ ((v ≡ value) × (e ≡ (column_task column).edge))) → IsCarried g load (task_end g (column_task column)) e v
      one v e less (inl is) = subst (IsCarried g load (task_end g (column_task column)) e) (sym is.0) (subst (λ d. IsCarried g load (task_end g (column_task column)) d old.first) (sym is.1) (sound.first (omega (arith, less, is.0))))
      one v e less (inr (inl is)) = subst (IsCarried g load (task_end g (column_task column)) e) (sym is.0) (subst (λ d. IsCarried g load (task_end g (column_task column)) d old.second) (sym is.1) (sound.second (omega (arith, less, is.0))))
      one v e less (inr (inr is)) = subst (IsCarried g load (task_end g (column_task column)) e) (sym is.0) (subst (λ d. IsCarried g load (task_end g (column_task column)) d value) (sym is.1) (own (omega (arith, less, is.0))))

  -- the best that a task may follow is one of the two labels where it starts, or both are excluded
  module _ (load : ℕ) (layer : List Labels) (are : AreSpread g load layer) (t : Task) (t_in : IsRequired g.inst t.edge) (at : ℕ) (at_is : at ≡ task_start g t) where
    abbrev here : Labels
    here = labels_at layer at

    at_reached : IsReached g.inst at
    at_reached = subst (IsReached g.inst) (sym at_is) (tail_reached g.inst t.edge t.forward grid.valid t_in)

    here_in : at ≤ g.inst.vertices
    here_in = (reached_in g.inst at grid.valid at_reached).in_range

    are_two : AreTwo here
    are_two = are.layer.two at here_in

    -- the way of a join is bounded, and its leg is the way and a surcharge
    abbrev extra : ℕ → ℕ
    extra e = surcharge_at g e t.edge

    way_bound : (m : ℕ) (j : IsJoin g load t m) → IsBounded here j.last.edge (j.value + between g (task_end g j.last) at)
    way_bound m j = are.bounds j.last j.value at j.reaches at_reached

    leg_is : (m : ℕ) (j : IsJoin g load t m) → m ≡ j.value + between g (task_end g j.last) at + extra j.last.edge
    leg_is m j = omega (arith, j.sum, ap (between g (task_end g j.last)) at_is)

    abbrev pub may_edge : ℕ → Bool
    may_edge e = get_or g.may.items ((e - 1) * g.inst.required + (t.edge - 1)) false

    -- a label whose edge may precede is that of a join, with its surcharge
    label_join : (v e : ℕ) → IsCarried g load at e v → may_edge e ≡ true → ((m : ℕ) (j : IsJoin g load t m) → j.last.edge ≡ e → v + extra e ≤ m) → IsJoin g load t (v + extra e)
    label_join v e c allowed least =
        let j : IsJoin g load t (c.own + leg g c.last t) = record {
          last = c.last;
          value = c.own;
          reaches = c.reaches;
          allowed = subst (λ d. may_edge d ≡ true) (sym c.edge_is) allowed;
          sum = refl;
        } in
        let same : c.own + leg g c.last t ≡ v + extra e = omega (arith, c.most, least _ j c.edge_is, ap (between g (task_end g c.last)) at_is, ap extra c.edge_is) in
        subst (IsJoin g load t) same j

    carried_required : (v e : ℕ) → IsCarried g load at e v → IsRequired g.inst e
    carried_required v e c = subst (IsRequired g.inst) c.edge_is (reaches_required g grid c.last load c.own c.reaches)

    first_below : here.first ≢ no_value → here.first < no_value
    first_below some = omega (arith, some, are_two.ordered, are_two.fits)

    second_below : here.second ≢ no_value → here.second < no_value
    second_below some = omega (arith, some, are_two.fits)

    pub first_required : here.first ≢ no_value → IsRequired g.inst here.first_edge
    first_required some = carried_required here.first here.first_edge ((are.sound at here_in).first (first_below some))

    pub second_required : here.second ≢ no_value → IsRequired g.inst here.second_edge
    second_required some = carried_required here.second here.second_edge ((are.sound at here_in).second (second_below some))

    pub best_none : no_value ≤ here.first → IsLeastJoin g load t no_value
    best_none none = record { attained = λ less. absurd (omega (arith, less)); least = λ m j. omega (arith, none, (way_bound m j).first, leg_is m j) }

    joined_true : (v e n : ℕ) → n ≡ label_joined g v e t → may_edge e ≡ true → n ≡ v + extra e
    joined_true v e n is allowed = is ∙ ap {B = ℕ} (λ b. cond b (v + extra e) no_value) allowed

    joined_false : (v e n : ℕ) → n ≡ label_joined g v e t → may_edge e ≡ false → n ≡ no_value
    joined_false v e n is excluded = is ∙ ap {B = ℕ} (λ b. cond b (v + extra e) no_value) excluded

    -- surcharges of an edge that has none
    extra_free : charge_at g t.edge ≡ Free → (e : ℕ) → extra e ≡ base
    extra_free free e = ap {A = Charge} {B = ℕ} (λ c. raised_from c (slice_index g.raised.items ((t.edge - 1) * g.inst.required + (e - 1)))) free

    -- each label joined is a join
    first_most : (n : ℕ) → n ≡ label_joined g here.first here.first_edge t → (m : ℕ) (j : IsJoin g load t m) → j.last.edge ≡ here.first_edge → n ≤ m
    first_most n is m j same =
        omega (arith, joined_true here.first here.first_edge n is (subst (λ d. may_edge d ≡ true) same j.allowed), (way_bound m j).first, leg_is m j, ap extra same)

    pub first_joins : (n : ℕ) → n ≡ label_joined g here.first here.first_edge t → here.first ≢ no_value → n < no_value → IsJoin g load t n
    first_joins n is some less = elim (cases_Bool (may_edge here.first_edge)) [
      | inl allowed ↦
          let sum = joined_true here.first here.first_edge n is allowed in
          subst (IsJoin g load t) (sym sum)
          (label_join here.first here.first_edge ((are.sound at here_in).first (first_below some)) allowed (λ m j own. omega (arith, sum, first_most n is m j own)))
      | inr excluded ↦ absurd (omega (arith, less, joined_false here.first here.first_edge n is excluded))
    ]

    pub second_joins : (n : ℕ) → n ≡ label_joined g here.second here.second_edge t → here.second < no_value → n < no_value → IsJoin g load t n
    second_joins n is some less = elim (cases_Bool (may_edge here.second_edge)) [
      | inl allowed ↦
          subst (IsJoin g load t) (sym (joined_true here.second here.second_edge n is allowed))
          (label_join here.second here.second_edge ((are.sound at here_in).second some) allowed
          (λ m j own. omega (arith, (way_bound m j).second (λ same. are_two.differ some (sym same ∙ own)), leg_is m j, ap extra own)))
      | inr excluded ↦ absurd (omega (arith, less, joined_false here.second here.second_edge n is excluded))
    ]

    -- what follows the edge of the first label is no less than that label joined, what gains no less than the least of both, and all else no less than the second label raised
    module _ (n : ℕ) (is : n ≡ label_joined g here.first here.first_edge t) (low : ℕ) (most : low ≤ n) (either : (low ≡ n) ⊎ (low < no_value → IsJoin g load t low)) (gains : (m : ℕ) (j : IsJoin g load t m) → IsGain g j.last t → low ≤ m) where
      lesser : (k : ℕ) → k ≤ low → k ≤ here.second + base → (m : ℕ) (j : IsJoin g load t m) → k ≤ m
      lesser k one two m j = elim (cases_lt (extra j.last.edge) base) [
        | inl gain ↦ omega (arith, one, gains m j gain)
        | inr more ↦ elim (cases_eq j.last.edge here.first_edge) [
          | inl same ↦ omega (arith, one, most, first_most n is m j same)
          | inr other ↦ omega (arith, two, more, (way_bound m j).second other, leg_is m j)
        ]
      ]

      pub best_first : here.first ≢ no_value → low ≤ here.second + base → IsLeastJoin g load t low
      best_first some below = record {
        attained = λ less. elim either [
          | inl same ↦ subst (IsJoin g load t) (sym same) (first_joins n is some (omega (arith, less, same)))
          | inr join ↦ join less
        ];
        least = lesser low (omega arith) below;
      }

      pub best_second : here.second + base < low → (k : ℕ) → k ≡ label_joined g here.second here.second_edge t → k ≡ here.second + base → IsLeastJoin g load t k
      best_second above k joined free = record {
        attained = λ less. elim (cases_Bool (may_edge here.second_edge)) [
          | inl allowed ↦
              let sum = joined_true here.second here.second_edge k joined allowed in
              subst (IsJoin g load t) (sym sum)
              (label_join here.second here.second_edge ((are.sound at here_in).second (omega (arith, less, free))) allowed (λ m j _. omega (arith, sum, lesser k (omega (arith, above, free)) (omega (arith, free)) m j)))
          | inr excluded ↦ absurd (omega (arith, less, free, joined_false here.second here.second_edge k joined excluded))
        ];
        least = lesser k (omega (arith, above, free)) (omega (arith, free));
      }

    pub none_gain : charge_at g t.edge ≡ Charged → (low m : ℕ) (j : IsJoin g load t m) → IsGain g j.last t → low ≤ m
    none_gain charged low m j is = absurd (omega (arith, is, grid.charged j.last.edge t.edge (reaches_required g grid j.last load j.value j.reaches) t_in charged))

    module _ (free : charge_at g t.edge ≡ Free) where
      free_true : (v e : ℕ) → may_edge e ≡ true → v + base ≡ label_joined g v e t
      free_true v e allowed = omega (arith, extra_free free e, ap {B = ℕ} (λ b. cond b (v + extra e) no_value) allowed)

      free_false : (v e : ℕ) → may_edge e ≡ false → no_value ≡ label_joined g v e t
      free_false v e excluded = sym (ap {B = ℕ} (λ b. cond b (v + extra e) no_value) excluded)

      none_gains : (low m : ℕ) (j : IsJoin g load t m) → IsGain g j.last t → low ≤ m
      none_gains low m j is = absurd (omega (arith, is, extra_free free j.last.edge))

      pub free_first : here.first ≢ no_value → may_edge here.first_edge ≡ true → IsLeastJoin g load t (here.first + base)
      free_first some allowed =
          let n = here.first + base in
          best_first n (free_true here.first here.first_edge allowed) n (omega arith) (inl refl) (none_gains n) some (omega (arith, are_two.ordered))

      pub free_none : here.first ≢ no_value → may_edge here.first_edge ≡ false → here.second ≡ no_value → IsLeastJoin g load t no_value
      free_none some excluded none =
          best_first no_value (free_false here.first here.first_edge excluded) no_value (omega arith) (inl refl) (none_gains no_value) some (omega (arith, none))

      pub free_second : here.second + base < no_value → may_edge here.first_edge ≡ false → may_edge here.second_edge ≡ true → IsLeastJoin g load t (here.second + base)
      free_second less excluded allowed =
          best_second no_value (free_false here.first here.first_edge excluded) no_value (omega arith) (inl refl) (none_gains no_value) less (here.second + base)
          (free_true here.second here.second_edge allowed) refl

    -- labels are small
    module _ (fits : load ≤ g.inst.capacity) where
      carried_small : (v e : ℕ) (c : IsCarried g load at e v) → c.own + between g (task_end g c.last) at ≤ 2 ^ 90
      carried_small v e c =
          let required = reaches_required g grid c.last load c.own c.reaches in
          omega (arith, reaches_small g grid c.last load c.own c.reaches fits, grid.small_dist (task_end g c.last) at (head_reached g.inst c.last.edge c.last.forward grid.valid required) at_reached)

      pub first_small_label : here.first ≢ no_value → here.first ≤ 2 ^ 90
      first_small_label some =
          let c = (are.sound at here_in).first (first_below some) in
          omega (arith, carried_small here.first here.first_edge c, (are.bounds c.last c.own at c.reaches at_reached).first)

      pub second_small_label : here.second < no_value → here.second ≤ 2 ^ 90
      second_small_label less =
          let c = (are.sound at here_in).second less in
          omega (
            arith,
            carried_small here.second here.second_edge c,
            (are.bounds c.last c.own at c.reaches at_reached).second (λ same. are_two.differ less (sym same ∙ c.edge_is)),
          )

      pub second_below_small : here.second ≢ no_value → here.second ≤ 2 ^ 90
      second_below_small some = second_small_label (second_below some)
