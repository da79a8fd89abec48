-- What is read of a task that may follow the partial tours of one load.
use Rattle.std.proofs.Common.{◌≡◌, ◌≢◌, ℕ, ◌+◌, ◌-◌, ◌*◌, ◌/◌, ◌<◌, ◌≤◌, List, Bool, false, get_or, length, refl, sym, ap, ◌∙◌, arith}
use Rattle.std.proofs.lemmas.List.{get_or_default}
use Rattle.std.proofs.Math.Nat.{mul-le-mul_right}
use Rattle.carp_base.specs.declared.edge.Task.{Task}
use Rattle.carp_base.specs.Problem.{IsRequired, IsReached}
use Rattle.route_pricing.specs.declared.grid.Grid.{Grid}
use Rattle.route_pricing.specs.declared.joining.Successor.{Successor}
use Rattle.route_pricing.specs.declared.charging.Charge.{Charge}
use Rattle.route_pricing.specs.declared.charging.Charge.TheVariants.{Free, Charged, Gained}
use Rattle.route_pricing.specs.Partial.{raised_from, least_raised, IsGrid, IsSuccessor, IsCell, IsLeastUpTo, AreFilled, width, column_task, task_start, task_end, between, may_follow, surcharge_at}
use Rattle.route_pricing.proofs.PartialTours.{column_required, tail_reached, head_reached, pair_in, pair_place, pair_read, cell_read, raised_least, leg_least, between_small, up_to_same, not_both}
use Rattle.route_pricing.proofs.Copies.{reached_in}

not_free : (c : Charge) (n : ℕ) → c ≢ Free → raised_from c n ≡ n
not_free Free n other = absurd (other refl)
not_free Charged n other = refl
not_free Gained n other = refl

module _ (g : Grid) (grid : IsGrid g) (x : Successor) (next : IsSuccessor g x) (before : ℕ) (before_in : before < width g) where
  abbrev t : Task
  t = column_task x.column

  abbrev u : Task
  u = column_task before

  pub t_in : IsRequired g.inst t.edge
  t_in = column_required g grid x.column next.column_in

  pub u_in : IsRequired g.inst u.edge
  u_in = column_required g grid before before_in

  -- the row of pairs
  pub pair_within : x.pairs + before / 2 < g.inst.required * g.inst.required
  pair_within = omega (arith, next.pairs_from, pair_in g grid x.column before next.column_in before_in)

  pub may_is : (b : Bool) → b ≡ get_or g.may.items (x.pairs + before / 2) b → b ≡ may_follow g t u
  may_is b read = pair_read g grid x.column before (x.pairs + before / 2) b next.column_in before_in (ap (λ n. n + before / 2) next.pairs_from) read

  pub raised_is : (n : ℕ) → x.charge ≢ Free → n ≡ get_or g.raised.items (x.pairs + before / 2) n → n ≡ surcharge_at g u.edge t.edge
  raised_is n other read =
      let within : x.pairs + before / 2 < length g.raised.items = omega (arith, grid.raised_long, pair_within) in
      let place = ap (λ k. k + before / 2) next.pairs_from ∙ pair_place g grid x.column before in
      sym (not_free x.charge n other)
      ∙ ap (raised_from x.charge) (read ∙ get_or_default g.raised.items (x.pairs + before / 2) n 0 within ∙ ap (λ i. get_or g.raised.items i 0) place)
      ∙ ap {A = Charge} {B = ℕ} (λ c. raised_from c (get_or g.raised.items ((t.edge - 1) * g.inst.required + (u.edge - 1)) 0)) next.known

  -- the row of ways
  start_reached : IsReached g.inst (task_start g t)
  start_reached = tail_reached g.inst t.edge t.forward grid.valid t_in

  end_reached : IsReached g.inst (task_end g u)
  end_reached = head_reached g.inst u.edge u.forward grid.valid u_in

  pub end_is : (n : ℕ) → n ≡ get_or g.ends.items before n → n ≡ task_end g u
  end_is n read = read ∙ get_or_default g.ends.items before n 0 (omega (arith, grid.ends.long, before_in)) ∙ grid.ends.each before before_in

  pub way_within : (n : ℕ) → n ≡ task_end g u → x.ways + n < (g.inst.vertices + 1) * (g.inst.vertices + 1)
  way_within n is =
      let start_in = reached_in g.inst (task_start g t) grid.valid start_reached in
      let end_in = reached_in g.inst (task_end g u) grid.valid end_reached in
      let row : task_start g t + 1 ≤ g.inst.vertices + 1 = omega (arith, start_in.in_range) in
      omega (arith, next.ways_from, is, end_in.in_range, mul-le-mul_right (g.inst.vertices + 1) row)

  pub way_fits : (n : ℕ) → n ≡ task_end g u → x.ways + n < 2000000
  way_fits n is =
      let few : g.inst.vertices + 1 ≤ 1001 = omega (arith, grid.valid.few_vertices) in
      omega (arith, way_within n is, few, mul-le-mul_right (g.inst.vertices + 1) few)

  pub way_is : (n w : ℕ) → n ≡ task_end g u → w ≡ get_or g.dist.items (x.ways + n) w → w ≡ between g (task_end g u) (task_start g t)
  way_is n w is read =
      read ∙ get_or_default g.dist.items (x.ways + n) w 0 (omega (arith, grid.dist_long, way_within n is))
      ∙ ap (λ i. get_or g.dist.items i 0) (ap (λ k. k + n) next.ways_from ∙ ap (λ k. task_start g t * (g.inst.vertices + 1) + k) is)
      ∙ grid.both_ways (task_start g t) (task_end g u) start_reached end_reached

  pub way_small : between g (task_end g u) (task_start g t) ≤ 9444732965739290427392
  way_small = between_small g grid u t u_in t_in

  -- one column more
  pub cell_is : (cells : List ℕ) → AreFilled g cells x.load x.column → IsCell g x.load u (get_or cells (x.cells + before) 0)
  cell_is cells filled = cell_read g grid cells x.load x.column before (x.cells + before) filled next.fits before_in (ap (λ n. n + before) next.cells_from)

  pub passed_over : (cells : List ℕ) (best : ℕ) → AreFilled g cells x.load x.column → IsLeastUpTo g x.load t before best → best ≤ get_or cells (x.cells + before) 0 + least_raised x.charge → IsLeastUpTo g x.load t (before + 1) best
  passed_over cells best filled so_far below =
      up_to_same g grid x.load t before best so_far (λ w reaches allowed. omega (arith, below, (cell_is cells filled).least w reaches, leg_least g grid u t x.charge u_in t_in next.known))

  pub may_back : (b : Bool) → b ≡ may_follow g t u → b ≡ may_follow g u t
  may_back b is = is ∙ grid.symmetric t u t_in u_in

  pub excluded : (best : ℕ) (b : Bool) → b ≡ may_follow g t u → b ≡ false → IsLeastUpTo g x.load t before best → IsLeastUpTo g x.load t (before + 1) best
  excluded best b is not so_far = up_to_same g grid x.load t before best so_far (λ w reaches allowed. absurd (not_both b (may_back b is ∙ allowed) not))

  -- no surcharge is below the least of what is known, also where it is read
  pub surcharge_least : least_raised x.charge ≤ surcharge_at g u.edge t.edge
  surcharge_least = raised_least g grid u t x.charge u_in t_in next.known
