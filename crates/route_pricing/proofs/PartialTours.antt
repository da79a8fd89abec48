-- Partial tours and the least of them.
use Rattle.std.proofs.Common.{◌≡◌, ◌≢◌, ℕ, ◌+◌, ◌-◌, ◌*◌, ◌/◌, ◌%◌, ◌^◌, ◌<◌, ◌≤◌, Bool, true, false, cond, List, [], ◌∷◌, ◌++◌, length, slice_index, refl, sym, ap, ◌∙◌, arith, inl, inr, subst, ◌⊎◌, slice_index_or, slice_set, get_or}
use Rattle.std.proofs.lemmas.Bool.{cases_eq, cases_lt, eq-eqb, ne_eqb}
use Rattle.std.proofs.Math.Nat.{mul-le-mul_right}
use Rattle.std.proofs.lemmas.List.{length-set, get_or-set_same, get_or-set_other, get_or_default}
use Rattle.carp_base.specs.declared.edge.Task.{Task}
use Rattle.carp_base.specs.Problem.{Problem, IsValid, IsRequired, IsEdgeNumber, IsReached, TasksLead, edge_at, tail_of, head_of}
use Rattle.route_pricing.specs.declared.charging.Charge.{Charge}
use Rattle.route_pricing.specs.declared.charging.Charge.TheVariants.{Free, Charged, Gained}
use Rattle.route_pricing.specs.Partial.{base, charge_at, raised_from, least_raised, no_value, IsGrid, width, column_task, task_start, task_end, demand_of, between, leg, adds_of, may_follow, surcharge_at, IsPartial, Reaches, IsCell, IsJoin, IsLeastJoin, IsJoinFrom, IsPredecessor, IsPredecessorUpTo, IsLeastFrom, IsLeastUpTo, cell_place, AreFilled, AreBegun}
use Rattle.route_pricing.specs.declared.grid.Grid.{Grid}

-- the depot reaches both ends of a required edge
pub leads_more : (p : Problem) (a b : ℕ) (path : List Task) (t : Task) → TasksLead p a path b → IsEdgeNumber p t.edge → tail_of (edge_at p t.edge) t.forward ≡ b →
    TasksLead p a (path ++ t ∷ []) (head_of (edge_at p t.edge) t.forward)
leads_more p a b [] t leads number tail = (number, tail ∙ sym leads, refl)
leads_more p a b (u ∷ path) t leads number tail = (leads.0, leads.1, leads_more p (head_of (edge_at p u.edge) u.forward) b path t leads.2 number tail)

number_of : (p : Problem) (e : ℕ) → IsValid p → IsRequired p e → IsEdgeNumber p e
number_of p e valid required = record { from_one = required.from_one; in_range = omega (arith, required.in_range, valid.required_in) }

reached_v : (p : Problem) (e : ℕ) → IsValid p → IsRequired p e → IsReached p (edge_at p e).v
reached_v p e valid required =
    let u = (valid.tasks e required).reached in
    record { path = u.path ++ record { edge = e; forward = true } ∷ []; leads = leads_more p p.depot (edge_at p e).u u.path (record { edge = e; forward = true }) u.leads (number_of p e valid required) refl }

pub tail_reached : (p : Problem) (e : ℕ) (f : Bool) → IsValid p → IsRequired p e → IsReached p (tail_of (edge_at p e) f)
tail_reached p e true valid required = (valid.tasks e required).reached
tail_reached p e false valid required = reached_v p e valid required

pub head_reached : (p : Problem) (e : ℕ) (f : Bool) → IsValid p → IsRequired p e → IsReached p (head_of (edge_at p e) f)
head_reached p e true valid required = reached_v p e valid required
head_reached p e false valid required = (valid.tasks e required).reached

pub depot_reached : (p : Problem) → IsReached p p.depot
depot_reached p = record { path = []; leads = refl }

pub not_both : (b : Bool) → b ≡ true → b ≡ false → ⊥
not_both b is not = cc

-- the columns
abbrev pub column_of : Task → ℕ
column_of t = 2 * (t.edge - 1) + cond t.forward 0 1

same_task : (d e : ℕ) (f h : Bool) (t : Task) → d ≡ t.edge → f ≡ t.forward → record { edge = d; forward = f } ≡ t
same_task d e f h t same also = ap {A = ℕ} {B = Task} (λ n. record { edge = n; forward = f }) same ∙ ap {A = Bool} {B = Task} (λ b. record { edge = t.edge; forward = b }) also

task_at : (e : ℕ) (f : Bool) (t : Task) → e ≡ t.edge → f ≡ t.forward → 1 ≤ e → column_task (2 * (e - 1) + cond f 0 1) ≡ t
task_at e true t edge forward one =
    same_task _ e _ true t (let h : (2 * (e - 1) + 0) / 2 + 1 ≡ e = omega (arith, one) in h ∙ edge) (eq-eqb _ 0 (let h : (2 * (e - 1) + 0) % 2 ≡ 0 = omega (arith, one) in h) ∙ forward)
task_at e false t edge forward one =
    same_task _ e _ true t (let h : (2 * (e - 1) + 1) / 2 + 1 ≡ e = omega (arith, one) in h ∙ edge) (ne_eqb _ 0 (λ same. let h : (2 * (e - 1) + 1) % 2 ≡ 1 = omega (arith, one) in absurd (omega (arith, h, same))) ∙ forward)

pub task_is : (t : Task) → 1 ≤ t.edge → column_task (column_of t) ≡ t
task_is t one = task_at t.edge t.forward t refl refl one

column_below : (m e : ℕ) (f : Bool) → 1 ≤ e → e ≤ m → 2 * (e - 1) + cond f 0 1 < 2 * m
column_below m e true one most = omega (arith, one, most)
column_below m e false one most = omega (arith, one, most)

pub column_in : (g : Grid) (t : Task) → IsRequired g.inst t.edge → column_of t < width g
column_in g t required = column_below g.inst.required t.edge t.forward required.from_one required.in_range

pub partial_required : (g : Grid) (us : List Task) (t : Task) (l v : ℕ) → IsPartial g us t l v → IsRequired g.inst t.edge
partial_required g [] t l v partial = partial.required
partial_required g (u ∷ us) t l v partial = partial.3.required

pub partial_small : (g : Grid) → IsGrid g → (us : List Task) (t : Task) (l v : ℕ) → IsPartial g us t l v → v ≤ l * 2 ^ 74
partial_small g grid [] t l v partial =
    omega (
      arith,
      partial.load_is,
      partial.value_is,
      (grid.valid.tasks t.edge partial.required).some_demand,
      grid.small_dist g.inst.depot (task_start g t) (depot_reached g.inst) (tail_reached g.inst t.edge t.forward grid.valid partial.required),
      grid.small_adds t.edge partial.required,
    )
partial_small g grid (u ∷ us) t l v partial =
    omega (
      arith,
      partial_small g grid us u partial.0 partial.1 partial.2,
      partial.3.load_is,
      partial.3.value_is,
      (grid.valid.tasks t.edge partial.3.required).some_demand,
      grid.small_dist (task_end g u) (task_start g t) (head_reached g.inst u.edge u.forward grid.valid (partial_required g us u _ _ partial.2))
          (tail_reached g.inst t.edge t.forward grid.valid partial.3.required),
      grid.small_adds t.edge partial.3.required,
      grid.small_surcharges u.edge t.edge (partial_required g us u _ _ partial.2) partial.3.required,
    )

-- a partial tour has at least the load of its last task
pub partial_heavy : (g : Grid) → IsGrid g → (us : List Task) (t : Task) (l v : ℕ) → IsPartial g us t l v → 1 ≤ l
partial_heavy g grid [] t l v partial = omega (arith, partial.load_is, (grid.valid.tasks t.edge partial.required).some_demand)
partial_heavy g grid (u ∷ us) t l v partial = omega (arith, partial.3.load_is, (grid.valid.tasks t.edge partial.3.required).some_demand)

pub least_small : (x : Charge) → least_raised x ≤ base
least_small Free = omega arith
least_small Charged = omega arith
least_small Gained = omega arith

module _ (g : Grid) (grid : IsGrid g) where
  pub reaches_required : (t : Task) (l v : ℕ) → Reaches g t l v → IsRequired g.inst t.edge
  reaches_required t l v r = partial_required g r.before t l v r.partial

  -- below 2 ^ 89 at any load that fits
  pub reaches_small : (t : Task) (l v : ℕ) → Reaches g t l v → l ≤ g.inst.capacity → v ≤ 2 ^ 89
  reaches_small t l v r fits = omega (arith, partial_small g grid r.before t l v r.partial, fits, grid.valid.capacity_in)

  pub between_small : (u t : Task) → IsRequired g.inst u.edge → IsRequired g.inst t.edge → between g (task_end g u) (task_start g t) ≤ 2 ^ 73
  between_small u t u_in t_in = grid.small_dist (task_end g u) (task_start g t) (head_reached g.inst u.edge u.forward grid.valid u_in) (tail_reached g.inst t.edge t.forward grid.valid t_in)

  pub leg_small : (u t : Task) → IsRequired g.inst u.edge → IsRequired g.inst t.edge → leg g u t ≤ 2 ^ 73 + 2 ^ 62
  leg_small u t u_in t_in = omega (arith, between_small u t u_in t_in, grid.small_surcharges u.edge t.edge u_in t_in)

  -- no surcharge of an edge is below the least of what is known of it, and no leg to its tasks
  pub raised_least : (u t : Task) (x : Charge) → IsRequired g.inst u.edge → IsRequired g.inst t.edge → x ≡ charge_at g t.edge → least_raised x ≤ surcharge_at g u.edge t.edge
  raised_least u t Free u_in t_in is = omega (arith, ap {A = Charge} {B = ℕ} (λ c. raised_from c (slice_index g.raised.items ((t.edge - 1) * g.inst.required + (u.edge - 1)))) is)
  raised_least u t Charged u_in t_in is = omega (arith, grid.charged u.edge t.edge u_in t_in (sym is))
  raised_least u t Gained u_in t_in is = omega arith

  pub leg_least : (u t : Task) (x : Charge) → IsRequired g.inst u.edge → IsRequired g.inst t.edge → x ≡ charge_at g t.edge → least_raised x ≤ leg g u t
  leg_least u t x u_in t_in is = omega (arith, raised_least u t x u_in t_in is)

  pub first_small : (t : Task) → IsRequired g.inst t.edge → between g g.inst.depot (task_start g t) ≤ 2 ^ 73
  first_small t t_in = grid.small_dist g.inst.depot (task_start g t) (depot_reached g.inst) (tail_reached g.inst t.edge t.forward grid.valid t_in)

  pub adds_small : (t : Task) → IsRequired g.inst t.edge → adds_of g t ≤ 2 ^ 77
  adds_small t t_in = omega (arith, grid.small_adds t.edge t_in, (grid.valid.tasks t.edge t_in).demand_fits, grid.valid.capacity_in)

  pub join_small : (t : Task) (l n : ℕ) → IsJoin g l t n → l ≤ g.inst.capacity → IsRequired g.inst t.edge → n ≤ 2 ^ 90
  join_small t l n j fits t_in =
      omega (arith, j.sum, reaches_small j.last l j.value j.reaches fits, leg_small j.last t (reaches_required j.last l j.value j.reaches) t_in)

  -- a column before the width is a required task
  pub column_required : (c : ℕ) → c < width g → IsRequired g.inst (column_task c).edge
  column_required c below = record { from_one = omega arith; in_range = omega (arith, below) }

  -- the cell of a load and a column
  pub cell_there : (cells : List ℕ) (load column c : ℕ) → AreFilled g cells load column → load ≤ g.inst.capacity → c < width g → IsCell g load (column_task c) (slice_index cells (cell_place g load c))
  cell_there cells load column c filled fits below =
      let some = (grid.valid.tasks (column_task c).edge (column_required c below)).some_demand in
      filled.done load c below fits (omega (arith, some)) (λ _. omega (arith, some))

  -- from a cell
  pub from_cell : (load : ℕ) (u t : Task) (c n : ℕ) → IsCell g load u c → load ≤ g.inst.capacity → may_follow g u t ≡ true → c < no_value →
      n ≡ c + leg g u t → IsLeastFrom g load u t n
  from_cell load u t c n cell fits allowed reached sum = record {
    attained = λ _. record { value = c; reaches = cell.attained reached; allowed = allowed; sum = sum };
    least = λ w reaches _. omega (arith, cell.least w reaches, sum);
  }

  pub from_none : (load : ℕ) (u t : Task) (c : ℕ) → IsCell g load u c → load ≤ g.inst.capacity → (c < no_value → may_follow g u t ≡ true → ⊥) → IsLeastFrom g load u t no_value
  from_none load u t c cell fits none = record {
    attained = λ less. absurd (omega (arith, less));
    least = λ w reaches allowed. absurd (none (omega (arith, cell.least w reaches, reaches_small u load w reaches fits)) allowed);
  }

  any_join : (load : ℕ) (u t : Task) (n : ℕ) → IsJoinFrom g load u t n → IsJoin g load t n
  any_join load u t n j = record { last = u; value = j.value; reaches = j.reaches; allowed = j.allowed; sum = j.sum }

  -- one column more
  pub up_to_more : (load : ℕ) (t : Task) (columns best n now : ℕ) → IsLeastUpTo g load t columns best → IsLeastFrom g load (column_task columns) t n →
      now ≤ best → now ≤ n → ((now ≡ best) ⊎ (now ≡ n)) → IsLeastUpTo g load t (columns + 1) now
  up_to_more load t columns best n now so_far one below below' either = record {
    attained = λ less. elim either [
      | inl is ↦ subst (IsJoin g load t) (sym is) (so_far.attained (omega (arith, less, is)))
      | inr is ↦ subst (IsJoin g load t) (sym is) (any_join load (column_task columns) t n (one.attained (omega (arith, less, is))))
    ];
    least = λ c w before reaches allowed. elim (cases_eq c columns) [
      | inl is ↦
          omega (
            arith,
            below',
            subst (λ d. n ≤ w + leg g (column_task d) t) (sym is)
                (one.least w (subst (λ d. Reaches g (column_task d) load w) is reaches) (subst (λ d. may_follow g (column_task d) t ≡ true) is allowed)),
          )
      | inr other ↦ omega (arith, below, so_far.least c w (omega (arith, before, other)) reaches allowed)
    ];
  }

  -- none yet, where one may be known
  pub up_to_none : (load : ℕ) (t : Task) (n : ℕ) → (n < no_value → IsJoin g load t n) → IsLeastUpTo g load t 0 n
  up_to_none load t n known = record { attained = known; least = λ c w before reaches allowed. absurd (omega (arith, before)) }

  -- one column more, whose joins are no less
  pub up_to_same : (load : ℕ) (t : Task) (columns best : ℕ) → IsLeastUpTo g load t columns best →
      ((w : ℕ) → Reaches g (column_task columns) load w → may_follow g (column_task columns) t ≡ true → best ≤ w + leg g (column_task columns) t) → IsLeastUpTo g load t (columns + 1) best
  up_to_same load t columns best so_far more = record {
    attained = so_far.attained;
    least = λ c w before reaches allowed. elim (cases_eq c columns) [
      | inl is ↦
          subst (λ d. best ≤ w + leg g (column_task d) t) (sym is)
          (more w (subst (λ d. Reaches g (column_task d) load w) is reaches) (subst (λ d. may_follow g (column_task d) t ≡ true) is allowed))
      | inr other ↦ so_far.least c w (omega (arith, before, other)) reaches allowed
    ];
  }

  pub up_to_all : (load : ℕ) (t : Task) (n : ℕ) → IsLeastUpTo g load t (width g) n → IsLeastJoin g load t n
  up_to_all load t n so_far = record {
    attained = so_far.attained;
    least = λ m join.
        let required = reaches_required join.last load join.value join.reaches in
        let is = task_is join.last required.from_one in
        omega (
          arith,
          join.sum,
          subst (λ u. n ≤ join.value + leg g u t) is
              (so_far.least (column_of join.last) join.value (column_in g join.last required) (subst (λ u. Reaches g u load join.value) (sym is) join.reaches)
              (subst (λ u. may_follow g u t ≡ true) (sym is) join.allowed)),
        );
  }

  -- the place of a pair in its rows
  pub pair_place : (a b : ℕ) → (a / 2) * g.inst.required + b / 2 ≡ ((column_task a).edge - 1) * g.inst.required + ((column_task b).edge - 1)
  pair_place a b =
      let half : (n : ℕ) → n / 2 ≡ n / 2 + 1 - 1 = λ n. omega arith in
      ap (λ k. k * g.inst.required + b / 2) (half a) ∙ ap (λ k. ((column_task a).edge - 1) * g.inst.required + k) (half b)

  pub pair_in : (a b : ℕ) → a < width g → b < width g → (a / 2) * g.inst.required + b / 2 < g.inst.required * g.inst.required
  pair_in a b a_in b_in =
      let row : a / 2 + 1 ≤ g.inst.required = omega (arith, a_in) in
      omega (arith, mul-le-mul_right g.inst.required row, b_in)

  pub pair_read : (a b place : ℕ) (x : Bool) → a < width g → b < width g → place ≡ (a / 2) * g.inst.required + b / 2 → x ≡ get_or g.may.items place x → x ≡ may_follow g (column_task a) (column_task b)
  pair_read a b place x a_in b_in is read =
      read ∙ get_or_default g.may.items place x false (omega (arith, is, grid.may_long, pair_in a b a_in b_in)) ∙ ap (λ i. get_or g.may.items i false) (is ∙ pair_place a b)

  pub cell_read : (cells : List ℕ) (load column c place : ℕ) → AreFilled g cells load column → load ≤ g.inst.capacity → c < width g → place ≡ cell_place g load c → IsCell g load (column_task c) (slice_index_or cells place 0)
  cell_read cells load column c place filled fits below is =
      subst (λ i. IsCell g load (column_task c) (slice_index_or cells i 0)) (sym is) (cell_there cells load column c filled fits below)

  pub cell_small : (load : ℕ) (t : Task) (c : ℕ) → IsCell g load t c → load ≤ g.inst.capacity → c < no_value → c ≤ 2 ^ 89
  cell_small load t c cell fits reached = reaches_small t load c (cell.attained reached) fits

  -- a task after the least of those that it may follow
  after_join : (t : Task) (load n v : ℕ) → 1 ≤ load → IsLeastJoin g load t n → (us : List Task) → IsPartial g us t (load + demand_of g t) v → n + adds_of g t ≤ v
  after_join t load n v one join [] partial = absurd (omega (arith, one, partial.load_is))
  after_join t load n v one join (u ∷ us) partial =
      let same : partial.0 ≡ load = omega (arith, partial.3.load_is) in
      let way : IsJoin g load t (partial.1 + leg g u t) = record {
        last = u;
        value = partial.1;
        reaches = subst (λ k. Reaches g u k partial.1) same (record { before = us; partial = partial.2 });
        allowed = partial.3.allowed;
        sum = refl;
      } in
      omega (arith, join.least _ way, partial.3.value_is)

  pub extended_some : (t : Task) (load n : ℕ) → 1 ≤ load → IsRequired g.inst t.edge → IsLeastJoin g load t n → n < no_value → IsCell g (load + demand_of g t) t (n + adds_of g t)
  extended_some t load n one required join reached = record {
    attained = λ _. let j = join.attained reached in record {
      before = j.last ∷ j.reaches.before;
      partial = (load, j.value, j.reaches.partial, record { required = required; allowed = j.allowed; load_is = refl; value_is = omega (arith, j.sum) });
    };
    least = λ v reaches. after_join t load n v one join reaches.before reaches.partial;
  }

  none_after : (t : Task) (load n v : ℕ) → 1 ≤ load → load ≤ g.inst.capacity → IsLeastJoin g load t n → n ≡ no_value → (us : List Task) → IsPartial g us t (load + demand_of g t) v → ⊥
  none_after t load n v one fits join none [] partial = absurd (omega (arith, one, partial.load_is))
  none_after t load n v one fits join none (u ∷ us) partial =
      let same : partial.0 ≡ load = omega (arith, partial.3.load_is) in
      let way : IsJoin g load t (partial.1 + leg g u t) = record {
        last = u;
        value = partial.1;
        reaches = subst (λ k. Reaches g u k partial.1) same (record { before = us; partial = partial.2 });
        allowed = partial.3.allowed;
        sum = refl;
      } in
      absurd (omega (arith, join.least _ way, none, join_small t load _ way fits partial.3.required))

  pub extended_none : (t : Task) (load n : ℕ) → 1 ≤ load → load ≤ g.inst.capacity → IsLeastJoin g load t n → n ≡ no_value → IsCell g (load + demand_of g t) t no_value
  extended_none t load n one fits join none = record {
    attained = λ less. absurd (omega (arith, less));
    least = λ v reaches. absurd (none_after t load n v one fits join none reaches.before reaches.partial);
  }

  -- places of different cells differ
  rows_apart : (k l c d : ℕ) → c < width g → k < l → cell_place g k c < cell_place g l d
  rows_apart k l c d c_in less =
      let more : k + 1 ≤ l = omega (arith, less) in
      omega (arith, mul-le-mul_right (width g) more, c_in)

  pub place_row : (k l c d : ℕ) → c < width g → d < width g → k ≢ l → cell_place g k c ≢ cell_place g l d
  place_row k l c d c_in d_in other same = elim (cases_lt k l) [
    | inl less ↦ absurd (omega (arith, same, rows_apart k l c d c_in less))
    | inr more ↦ absurd (omega (arith, same, rows_apart l k d c d_in (omega (arith, more, other))))
  ]

  pub place_column : (k l c d : ℕ) → c < width g → d < width g → c ≢ d → cell_place g k c ≢ cell_place g l d
  place_column k l c d c_in d_in other same = elim (cases_eq k l) [
    | inl is ↦ other (let e : k * width g ≡ l * width g = ap (λ n. n * width g) is in omega (arith, same, e))
    | inr apart ↦ place_row k l c d c_in d_in apart same
  ]

  pub place_in : (k c : ℕ) (cells : List ℕ) → length cells ≡ (g.inst.capacity + 1) * width g → k ≤ g.inst.capacity → c < width g → cell_place g k c < length cells
  place_in k c cells long fits below =
      let more : k + 1 ≤ g.inst.capacity + 1 = omega (arith, fits) in
      omega (arith, long, mul-le-mul_right (width g) more, below)

  pub filled_more : (cells : List ℕ) (load column place value : ℕ) → AreFilled g cells load column → column < width g → load + demand_of g (column_task column) ≤ g.inst.capacity →
      place ≡ cell_place g (load + demand_of g (column_task column)) column → IsCell g (load + demand_of g (column_task column)) (column_task column) value →
      AreFilled g (slice_set cells place value) load (column + 1)
  filled_more cells load column place value filled below fits is cell = record {
    long = length-set _ _ _ ∙ filled.long;
    done = λ k c c_in k_in k_most before. elim (cases_eq c column) [
      | inl same ↦ elim (cases_eq k (load + demand_of g (column_task column))) [
        | inl here ↦
            subst (λ n. IsCell g k (column_task c) n) (sym (ap (λ i. get_or (slice_set cells place value) i 0) (ap (λ d. cell_place g k d) same ∙ ap (λ n. cell_place g n column) here ∙ sym is)
            ∙ get_or-set_same cells place value 0 (omega (arith, is, place_in _ column cells filled.long fits below))))
            (subst (λ n. IsCell g n (column_task c) value) (sym here) (subst (λ d. IsCell g (load + demand_of g (column_task column)) (column_task d) value) (sym same) cell))
        | inr other ↦
            subst (λ n. IsCell g k (column_task c) n) (sym (get_or-set_other cells place (cell_place g k c) value 0 (λ e. place_row k _ c column c_in below other (e ∙ is))))
            (filled.done k c c_in k_in k_most (λ _. let e : demand_of g (column_task c) ≡ demand_of g (column_task column) = ap (λ d. demand_of g (column_task d)) same in omega (arith, k_most, other, e)))
      ]
      | inr other ↦
          subst (λ n. IsCell g k (column_task c) n) (sym (get_or-set_other cells place (cell_place g k c) value 0 (λ e. place_column k _ c column c_in below other (e ∙ is))))
          (filled.done k c c_in k_in k_most (λ most. before (omega (arith, most, other))))
    ];
  }

  pub filled_skip : (cells : List ℕ) (load column : ℕ) → AreFilled g cells load column → column < width g → g.inst.capacity < load + demand_of g (column_task column) → AreFilled g cells load (column + 1)
  filled_skip cells load column filled below heavy = record {
    long = filled.long;
    done = λ k c c_in k_in k_most before. elim (cases_eq c column) [
      | inl same ↦ filled.done k c c_in k_in k_most (λ _. let e : demand_of g (column_task c) ≡ demand_of g (column_task column) = ap (λ d. demand_of g (column_task d)) same in omega (arith, k_in, heavy, e))
      | inr other ↦ filled.done k c c_in k_in k_most (λ most. before (omega (arith, most, other)))
    ];
  }

  pub filled_next : (cells : List ℕ) (load : ℕ) → AreFilled g cells load (width g) → AreFilled g cells (load + 1) 0
  filled_next cells load filled = record {
    long = filled.long;
    done = λ k c c_in k_in k_most before. filled.done k c c_in k_in (omega (arith, before (omega arith))) (λ most. absurd (omega (arith, most, c_in)));
  }

  -- the start
  pub load_one : (t : Task) (v k : ℕ) (us : List Task) → IsPartial g us t k v → demand_of g t ≤ k
  load_one t v k [] partial = omega (arith, partial.load_is)
  load_one t v k (u ∷ us) partial = omega (arith, partial.3.load_is)

  pub first_one : (t : Task) (v : ℕ) (us : List Task) → IsPartial g us t (demand_of g t) v → v ≡ between g g.inst.depot (task_start g t) + (adds_of g t + base)
  first_one t v [] partial = partial.value_is
  first_one t v (u ∷ us) partial = absurd (omega (arith, partial.3.load_is, partial_heavy g grid us u partial.0 partial.1 partial.2))

  pub first_cell : (t : Task) (n : ℕ) → IsRequired g.inst t.edge → n ≡ between g g.inst.depot (task_start g t) + (adds_of g t + base) → IsCell g (demand_of g t) t n
  first_cell t n required is = record {
    attained = λ _. record { before = []; partial = record { required = required; load_is = refl; value_is = is } };
    least = λ v reaches. omega (arith, is, first_one t v reaches.before reaches.partial);
  }

  pub empty_cell : (t : Task) (k n : ℕ) → k < demand_of g t → n ≡ no_value → IsCell g k t n
  empty_cell t k n less is = record {
    attained = λ below. absurd (omega (arith, below, is));
    least = λ v reaches. absurd (omega (arith, less, load_one t v k reaches.before reaches.partial));
  }

  pub begun_more : (cells : List ℕ) (column place value : ℕ) → AreBegun g cells column → column < width g → place ≡ cell_place g (demand_of g (column_task column)) column →
      value ≡ between g g.inst.depot (task_start g (column_task column)) + (adds_of g (column_task column) + base) → AreBegun g (slice_set cells place value) (column + 1)
  begun_more cells column place value begun below is value_is =
      let required = column_required column below in
      let fits = (grid.valid.tasks (column_task column).edge required).demand_fits in
      record {
        long = length-set _ _ _ ∙ begun.long;
        first = λ c before c_in. elim (cases_eq c column) [
          | inl same ↦
              ap (λ i. get_or (slice_set cells place value) i 0) (ap (λ d. cell_place g (demand_of g (column_task d)) d) same ∙ sym is)
              ∙ get_or-set_same cells place value 0 (omega (arith, is, place_in _ column cells begun.long fits below)) ∙ value_is
              ∙ ap (λ d. between g g.inst.depot (task_start g (column_task d)) + (adds_of g (column_task d) + base)) (sym same)
          | inr other ↦
              get_or-set_other cells place (cell_place g (demand_of g (column_task c)) c) value 0 (λ e. place_column _ _ c column c_in below other (e ∙ is))
              ∙ begun.first c (omega (arith, before, other)) c_in
        ];
        empty = λ k c c_in k_in only. elim (cases_eq c column) [
          | inl same ↦
              get_or-set_other cells place (cell_place g k c) value 0
              (λ e. place_row k _ c column c_in below (λ here. let past = only (here ∙ ap (λ d. demand_of g (column_task d)) (sym same)) in absurd (omega (arith, past, same))) (e ∙ is))
              ∙ begun.empty k c c_in k_in (λ _. omega (arith, same))
          | inr other ↦
              get_or-set_other cells place (cell_place g k c) value 0 (λ e. place_column k _ c column c_in below other (e ∙ is))
              ∙ begun.empty k c c_in k_in (λ here. omega (arith, only here))
        ];
      }

  pub begun_all : (cells : List ℕ) → AreBegun g cells (width g) → AreFilled g cells 1 0
  begun_all cells begun = record {
    long = begun.long;
    done = λ k c c_in k_in k_most before. elim (cases_eq k (demand_of g (column_task c))) [
      | inl here ↦ subst (λ n. IsCell g n (column_task c) (slice_index cells (cell_place g n c))) (sym here) (first_cell (column_task c) _ (column_required c c_in) (begun.first c c_in c_in))
      | inr other ↦ empty_cell (column_task c) k _ (omega (arith, before (omega arith), other)) (begun.empty k c c_in k_in (λ here. absurd (other here)))
    ];
  }

  -- the task from which the least join comes
  pub before_more : (load : ℕ) (t : Task) (columns column best n now_column now : ℕ) → IsPredecessorUpTo g load t columns column best → IsLeastFrom g load (column_task columns) t n →
      now ≤ best → now ≤ n → (((now ≡ best) × (now_column ≡ column)) ⊎ ((now ≡ n) × (now_column ≡ columns))) → IsPredecessorUpTo g load t (columns + 1) now_column now
  before_more load t columns column best n now_column now so_far one below below' either = record {
    least = up_to_more load t columns best n now so_far.least one below below' (elim either [ inl is ↦ inl is.0 | inr is ↦ inr is.0 ]);
    from = λ less. elim either [
      | inl is ↦
          let f = so_far.from (omega (arith, less, is.0)) in
          (omega (arith, f.0, is.1), subst (λ k. IsJoinFrom g load (column_task k) t now) (sym is.1) (subst (IsJoinFrom g load (column_task column) t) (sym is.0) f.1))
      | inr is ↦ (omega (arith, is.1), subst (λ k. IsJoinFrom g load (column_task k) t now) (sym is.1) (subst (IsJoinFrom g load (column_task columns) t) (sym is.0) (one.attained (omega (arith, less, is.0)))))
    ];
  }

  pub before_all : (load : ℕ) (t : Task) (column n : ℕ) → IsPredecessorUpTo g load t (width g) column n → IsPredecessor g load t column n
  before_all load t column n so_far = record { least = up_to_all load t n so_far.least; from = so_far.from }
