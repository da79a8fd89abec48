-- The least relaxed tour that serves an edge, weighed beside a rate.
use Rattle.std.proofs.Common.{◌≡◌, ℕ, ◌+◌, ◌-◌, ◌*◌, ◌^◌, ◌<◌, ◌≤◌, List, [], refl, sym, ap, ◌∙◌, arith, subst, ℤ, pos, ◌+ℤ◌, ◌-ℤ◌, ◌*ℤ◌, ◌≤ℤ◌}
use Rattle.std.proofs.lemmas.Int.{ints}
use Rattle.carp_base.specs.declared.edge.Task.{Task}
use Rattle.carp_base.specs.Problem.{IsRequired}
use Rattle.route_pricing.specs.Partial.{base, no_value, IsGrid, task_start, demand_of, adds_of, between, Reaches, IsCell}
use Rattle.route_pricing.specs.declared.grid.Grid.{Grid}
use Rattle.route_pricing.specs.declared.table.Rate.{Rate}
use Rattle.route_pricing.specs.declared.through.Pair.{Pair}
use Rattle.route_pricing.specs.Values.{IsPriced, IsServed, load_of, weighed, IsLeastThrough, AttainsThrough}
use Rattle.route_pricing.specs.Pricing.{Pricing, IsGridOf, lift}
use Rattle.route_pricing.specs.Retracing.{turned}
use Rattle.route_pricing.specs.Through.{weight_of, IsPair, IsOfCells, IsLeastPair, IsPairTour}
use Rattle.route_pricing.proofs.PartialTours.{load_one}
use Rattle.route_pricing.proofs.Turning.{turn}
use Rattle.route_pricing.proofs.Least.{sub_times, comes_home, load_same}
use Rattle.route_pricing.proofs.Serving.{serving_pair, pair_serving}
use Rattle.route_pricing.proofs.WayBack.{retraced_priced}
use Rattle.route_pricing.proofs.Weighing.{weight_small}

-- two halves, and the tour that they make
halves : (b c q d adds k v j w load home : ℕ) → k ≤ q → j ≤ q → d ≤ q → k + j ≡ load + d → v + w ≡ home + adds →
    b * v + c * (q - k) + (b * w + c * (q - j)) + c * load ≡ b * home + (b * adds + c * (q - d + q))
halves b c q d adds k v j w load home k_in j_in d_in loads homes =
    let left : (q - k) + (q - j) + load ≡ q - d + q = omega (arith, k_in, j_in, d_in, loads) in
    omega (arith, ap (λ n. c * n) left, ap (λ n. b * n) homes)

-- the weight of a tour by its number in the table
weighed_is : (b c load home : ℕ) (value a : ℤ) → pos home ≡ value +ℤ pos (lift * load) → pos c ≡ a +ℤ pos (lift * b) →
    (value *ℤ pos b) -ℤ (a *ℤ pos load) ≡ pos (home * b) -ℤ pos (c * load)
weighed_is b c load home value a home_is c_is =
    let v_is : pos home -ℤ pos (lift * load) ≡ value = omega (arith, ints, home_is) in
    let a_is : pos c -ℤ pos (lift * b) ≡ a = omega (arith, ints, c_is) in
    subst (λ v. (v *ℤ pos b) -ℤ (a *ℤ pos load) ≡ pos (home * b) -ℤ pos (c * load)) v_is
    (subst (λ z. ((pos home -ℤ pos (lift * load)) *ℤ pos b) -ℤ (z *ℤ pos load) ≡ pos (home * b) -ℤ pos (c * load)) a_is
    (omega (arith, ints, sub_times home (lift * load) b, sub_times c (lift * b) load)))

-- there is a tour through the task
module _ (g : Grid) (grid : IsGrid g) (t : Task) (t_in : IsRequired g.inst t.edge) (b c : ℕ) (few : b ≤ 30000) (c_small : c ≤ 2 ^ 100) (p : Pair) (least : IsLeastPair g b c t p) where
  pub demand_in : demand_of g t ≤ g.inst.capacity
  demand_in = (grid.valid.tasks t.edge t_in).demand_fits

  alone : (s : Task) → IsRequired g.inst s.edge → Reaches g s (demand_of g s) (between g g.inst.depot (task_start g s) + (adds_of g s + base))
  alone s s_in = record { before = []; partial = record { required = s_in; load_is = refl; value_is = refl } }

  pub pair_reached : p.weight < no_value
  pair_reached =
      let one = alone t t_in in
      let two = alone (turned t) t_in in
      let most = least.least _ (record { k = demand_of g t; v = _; reaches = one; j = demand_of g t; w = _; back = two; fits = omega (arith, demand_in); sum = refl }) in
      let small = weight_small g grid b c few c_small (demand_of g t) _ t one demand_in in
      let small' = weight_small g grid b c few c_small (demand_of g t) _ (turned t) two demand_in in
      omega (arith, most, small, small')

  pub cells_of : IsOfCells g b c t p
  cells_of = least.attained pair_reached

module _ (x : Pricing) (g : Grid) (of : IsGridOf x g) (t : Task) (t_in : IsRequired g.inst t.edge) (r : Rate) (c : ℕ) (few : r.load ≤ 30000) (c_small : c ≤ 2 ^ 100) (c_is : pos c ≡ r.value +ℤ pos (lift * r.load))
    (p : Pair) (least : IsLeastPair g r.load c t p) where
  abbrev pub over : ℕ
  over = r.load * (adds_of g t + base) + c * (g.inst.capacity - demand_of g t + g.inst.capacity)

  cells : IsOfCells g r.load c t p
  cells = cells_of g of.grid t t_in r.load c few c_small p least

  fits_alone : demand_of g t ≤ g.inst.capacity
  fits_alone = (of.grid.valid.tasks t.edge t_in).demand_fits

  -- each tour through the edge weighs at least as much
  above : (other : List Task) (n : ℕ) (v : ℤ) → IsPriced x other n v → IsServed t.edge other → (pos p.weight -ℤ pos over) ≤ℤ weighed r v (load_of x other)
  above other n v priced served =
      let it = comes_home x g of other n v priced in
      let load_is : it.0 ≡ load_of x other = it.3 ∙ sym (load_same x g of other) in
      let home_is : pos it.1 ≡ v +ℤ pos (lift * load_of x other) = omega (arith, ints, it.5, load_is) in
      let pair = serving_pair x g of t (load_of x other) it.1 (record { tasks = other; deadhead = n; value = v; priced = priced; served = served; loaded = refl; home_is = home_is }) in
      let fits : pair.k + pair.j ≤ g.inst.capacity + demand_of g t = omega (arith, pair.load_is, it.4, load_is) in
      let one = load_one g of.grid t pair.v pair.k pair.reaches.before pair.reaches.partial in
      let two = load_one g of.grid (turned t) pair.w pair.j pair.back.before pair.back.partial in
      let most = least.least _ (record { k = pair.k; v = pair.v; reaches = pair.reaches; j = pair.j; w = pair.w; back = pair.back; fits = fits; sum = refl }) in
      let sum = halves r.load c g.inst.capacity (demand_of g t) (adds_of g t + base) pair.k pair.v pair.j pair.w (load_of x other) it.1 (omega (arith, fits, two)) (omega (arith, fits, one)) fits_alone pair.load_is pair.home_is in
      omega (arith, ints, most, sum, weighed_is r.load c (load_of x other) it.1 v r.value home_is c_is)

  -- the weight of the tour of the pair
  same : (load home k v j w : ℕ) (value : ℤ) (m : ℕ) → load ≡ m → p.first ≡ k → p.back ≡ j → k + j ≡ load + demand_of g t → v + w ≡ home + (adds_of g t + base) → pos home ≡ value +ℤ pos (lift * load) →
      p.weight ≡ weight_of g r.load c k v + weight_of g r.load c j w → pos p.weight -ℤ pos over ≡ weighed r value m
  same load home k v j w value m m_is k_is j_is loads homes home_is weight =
      let sum = halves r.load c g.inst.capacity (demand_of g t) (adds_of g t + base) k v j w load home (omega (arith, cells.first_in, k_is)) (omega (arith, cells.back_in, j_is)) fits_alone loads homes in
      subst (λ n. pos p.weight -ℤ pos over ≡ weighed r value n) m_is (omega (arith, ints, weight, sum, weighed_is r.load c load home value r.value home_is c_is))

  pub least_through : (weight : ℤ) → weight ≡ pos p.weight -ℤ pos over → IsLeastThrough x t.edge r weight
  least_through weight weight_is =
      let back = cells.back_cell.attained cells.back_reached in
      let turns = turn g of.grid back.before (turned t) p.back cells.w back.partial in
      let load = p.first + turns.k in
      let home = cells.v + turns.w in
      let loads : p.first + p.back ≡ load + demand_of g t = omega (arith, turns.load_is) in
      let homes : cells.v + cells.w ≡ home + (adds_of g t + base) = omega (arith, turns.value_is) in
      let pair : IsPair g t load home = record { k = p.first; v = cells.v; reaches = cells.cell.attained cells.reached; j = p.back; w = cells.w; back = back; load_is = loads; home_is = homes } in
      let made = pair_serving x g of t load home (omega (arith, cells.fits, loads)) pair in
      record {
        tasks = made.tasks;
        deadhead = made.deadhead;
        value = made.value;
        attained = made.priced;
        served = made.served;
        weight_is = weight_is ∙ same load home p.first cells.v p.back cells.w made.value (load_of x made.tasks) made.loaded refl refl loads homes made.home_is cells.sum;
        least = λ other n v priced served. subst (λ z. z ≤ℤ weighed r v (load_of x other)) (sym weight_is) (above other n v priced served);
      }

  cells_same : (s : Task) (l a b : ℕ) → IsCell g l s a → IsCell g l s b → b < no_value → a ≡ b
  cells_same s l a b one two reached =
      let most = one.least b (two.attained reached) in
      omega (arith, most, two.least a (one.attained (omega (arith, most, reached))))

  pub attains_through : (tasks : List Task) → IsPairTour g t p tasks → AttainsThrough x t.edge r tasks
  attains_through tasks is =
      let made = retraced_priced x g of is.load is.home tasks is.tour (omega (arith, cells.fits, is.load_is)) in
      let v_is = cells_same t p.first is.v cells.v is.cell cells.cell cells.reached in
      let w_is = cells_same (turned t) p.back is.w cells.w is.back_cell cells.back_cell cells.back_reached in
      let load_is : is.load ≡ load_of x tasks = sym made.4 ∙ sym (load_same x g of tasks) in
      let homes : cells.v + cells.w ≡ is.home + (adds_of g t + base) = omega (arith, is.home_is, v_is, w_is) in
      let own = same is.load is.home p.first cells.v p.back cells.w made.1 (load_of x tasks) load_is refl refl is.load_is homes made.3 cells.sum in
      record {
        deadhead = made.0;
        value = made.1;
        attained = made.2;
        served = is.served;
        least = λ other n v priced served. subst (λ z. z ≤ℤ weighed r v (load_of x other)) own (above other n v priced served);
      }
