-- The text of a certificate is short: for each kind of line, what it takes by the digits of its numbers.
use Rattle.std.proofs.Common.{◌≡◌, ℕ, suc, ◌+◌, ◌*◌, ◌<◌, ◌≤◌, ℤ, Bool, true, false, List, [], ◌∷◌, ◌++◌, map, length, codes, Option, Some, None, IfSome, refl, ap, append_assoc, arith, lit<, lit≤}
use Rattle.std.specs.List.{All, AllByRecursion, flat_map, sum_by}
use Rattle.std.specs.List.Sorted.{IsStrictlyIncreasing}
use Rattle.std.proofs.lemmas.List.Elements.{recursion_from_All}
use Rattle.std.proofs.lemmas.List.Kept.{AllPairs-from_increasing}
use Rattle.std.proofs.lemmas.List.Sums.{sum_by-cons}
use Rattle.plan_model.specs.declared.step.Step.{Step}
use Rattle.cut_pool.specs.Pools.{IsShoreNumber}
use Rattle.branch_rules.specs.Bonds.{GroupWeight}
use Rattle.branch_rules.specs.Prices.{Prices}
use Rattle.branch_rules.specs.Limits.{IsPriceNumber, IsFineWeight, IsFineGroup}
use Rattle.branch_rules.specs.declared.weight.Weight.{Weight}
use Rattle.branch_rules.specs.declared.node.Node.{Node}
use Rattle.branch_rules.specs.declared.node.Node.TheVariants.{Pair, Cut, Price, Void, Fixed}
use Rattle.cert_lines.specs.declared.counts.Counts.{Counts}
use Rattle.cert_lines.specs.Numerals.{numeral, signed_numeral}
use Rattle.cert_lines.specs.Lines.{Line, cost, bound, node, end, nothing, step_word, weight_words, group_words, remainder_words, count_words, words_of}
use Rattle.cert_lines.specs.Certificates.{Certificate, has_groups}
use Rattle.cert_lines.specs.Ranges.{IsWithin, AreCountsInRange}
use Rattle.cert_lines.specs.Spelling.{version_lines, tour_line, shore_line, group_lines, set_lines, lines_of, text_of, IsSpellable, IsFine, IsFineShore, IsFineSet, IsFineNode}
use Rattle.cert_lines.specs.Texts.{IsTextOf}
use Rattle.cert_lines.proofs.InOrder.{grouped_lines, read_spellable, read_spelled, node_lines, price_lines, pool_lines, plan_lines}
use Rattle.cert_lines.proofs.Rooms.{numeral_within, price_within, room, lines_room, room_append, text_within, number_within}
use Rattle.cert_lines.proofs.Spellable.{spellable_fine}

-- Each kind of lines, before any others.

counts_within : (c : Counts) → AreCountsInRange c → room (count_words c) ≤ 29
counts_within c is =
    omega (
      arith,
      numeral_within 4 c.vertices (lit< tt) (omega (arith, is.vertices.to_last)) (omega (arith, is.vertices.to_last)),
      numeral_within 4 c.edges (lit< tt) (omega (arith, is.edges)) (omega (arith, is.edges)),
      numeral_within 3 c.required (lit< tt) (omega (arith, is.required)) (omega (arith, is.required)),
      numeral_within 5 c.capacity (lit< tt) (omega (arith, is.capacity.to_last)) (omega (arith, is.capacity.to_last)),
      numeral_within 8 c.demand (lit< tt) (omega (arith, is.demand)) (omega (arith, is.demand)),
    )

version_within : (size : Option Counts) (grouped : Bool) (rest : List Line) → IfSome size AreCountsInRange → lines_room (version_lines size grouped ++ rest) ≤ 100 + lines_room rest
version_within None grouped rest is = omega (arith, numeral_within 1 1 (lit< tt) (lit< tt) (lit< tt))
version_within (Some c) false rest is = omega (arith, numeral_within 1 2 (lit< tt) (lit< tt) (lit< tt), counts_within c is)
version_within (Some c) true rest is = omega (arith, numeral_within 1 4 (lit< tt) (lit< tt) (lit< tt), counts_within c is)

-- how many steps there are in all
abbrev steps_in : List (List Step) → ℕ
steps_in [] = 0
steps_in (steps ∷ plan) = length steps + steps_in plan

sum_is : (plan : List (List Step)) → sum_by length plan ≡ steps_in plan
sum_is [] = refl
sum_is (steps ∷ plan) = omega (arith, sum_by-cons length steps plan, sum_is plan)

steps_within : (steps : List Step) → AllByRecursion (λ s. IsWithin 1 4000 s.edge) steps → room (map step_word steps) ≤ 6 * length steps
steps_within [] all = omega arith
steps_within (s ∷ steps) all =
    omega (arith, numeral_within 4 s.edge (lit< tt) (omega (arith, all.0.to_last)) (omega (arith, all.0.to_last)), steps_within steps all.1)

tours_within : (plan : List (List Step)) (rest : List Line) → steps_in plan ≤ 2000000 → AllByRecursion (All (λ s. IsWithin 1 4000 s.edge)) plan →
    lines_room (map tour_line plan ++ rest) ≤ 13 * length plan + 6 * steps_in plan + lines_room rest
tours_within [] rest few edges = omega arith
tours_within (steps ∷ plan) rest few edges =
    omega (
      arith,
      numeral_within 7 (length steps) (lit< tt) (omega (arith, few)) (omega (arith, few)),
      steps_within steps (recursion_from_All (λ (s : Step). IsWithin 1 4000 s.edge) steps edges.0),
      tours_within plan rest (omega (arith, few)) edges.1,
    )

tail_rises : (v : ℕ) (vertices : List ℕ) → IsStrictlyIncreasing (v ∷ vertices) → IsStrictlyIncreasing vertices
tail_rises v vertices rising k within = AllPairs-from_increasing (v ∷ vertices) rising (suc k) (suc (k + 1)) 0 (omega arith) (omega (arith, within))

-- of rising vertices only the last one can have four digits
vertices_within : (vertices : List ℕ) → IsStrictlyIncreasing vertices → AllByRecursion (IsWithin 1 1000) vertices →
    room (map numeral vertices) ≤ 4 * length vertices + 1
vertices_within [] rising all = omega arith
vertices_within (v ∷ []) rising all = omega (arith, numeral_within 4 v (lit< tt) (omega (arith, all.0.to_last)) (omega (arith, all.0.to_last)))
vertices_within (v ∷ next ∷ vertices) rising all =
    let less : v < next = rising 0 (omega arith) in
    omega (
      arith,
      numeral_within 3 v (lit< tt) (omega (arith, less, all.1.0.to_last)) (omega (arith, less, all.1.0.to_last)),
      vertices_within (next ∷ vertices) (tail_rises v (next ∷ vertices) rising) all.1,
    )

shores_within : (pool : List (List ℕ)) (rest : List Line) → AllByRecursion IsFineShore pool → lines_room (map shore_line pool ++ rest) ≤ 4007 * length pool + lines_room rest
shores_within [] rest all = omega arith
shores_within (vertices ∷ pool) rest all =
    omega (
      arith,
      all.0.size.to_last,
      numeral_within 3 (length vertices) (lit< tt) (omega (arith, all.0.size.to_last)) (omega (arith, all.0.size.to_last)),
      vertices_within vertices all.0.rising (recursion_from_All (IsWithin 1 1000) vertices all.0.vertices_in),
      shores_within pool rest all.1,
    )

prices_within : (services : List ℤ) → AllByRecursion IsPriceNumber services → room (map signed_numeral services) ≤ 18 * length services
prices_within [] all = omega arith
prices_within (z ∷ services) all = omega (arith, price_within z all.0, prices_within services all.1)

weights_within : (items : List Weight) (pool : List (List ℕ)) → length pool ≤ 2000 → AllByRecursion IsFineWeight items → AllByRecursion (λ w. IsShoreNumber pool w.shore) items →
    room (flat_map weight_words items) ≤ 23 * length items
weights_within [] pool few fine on = omega arith
weights_within (w ∷ items) pool few fine on =
    omega (
      arith,
      price_within w.weight fine.0.within,
      numeral_within 4 w.shore (lit< tt) (omega (arith, few, on.0.in_range)) (omega (arith, few, on.0.in_range)),
      weights_within items pool few fine.1 on.1,
    )

-- how many edges there are in all groups
abbrev pub edges_in : List GroupWeight → ℕ
edges_in [] = 0
edges_in (w ∷ groups) = length w.edges + edges_in groups

pub edges_are : (groups : List GroupWeight) → sum_by (λ (w : GroupWeight). length w.edges) groups ≡ edges_in groups
edges_are [] = refl
edges_are (w ∷ groups) = omega (arith, sum_by-cons (λ (w : GroupWeight). length w.edges) w groups, edges_are groups)

numbers_within : (edges : List ℕ) → AllByRecursion (IsWithin 1 600) edges → room (map numeral edges) ≤ 4 * length edges
numbers_within [] all = omega arith
numbers_within (e ∷ edges) all =
    omega (arith, numeral_within 3 e (lit< tt) (omega (arith, all.0.to_last)) (omega (arith, all.0.to_last)), numbers_within edges all.1)

groups_within : (groups : List GroupWeight) → AllByRecursion IsFineGroup groups → AllByRecursion (λ w. All (IsWithin 1 600) w.edges) groups →
    room (flat_map group_words groups ++ remainder_words nothing) ≤ 22 * length groups + 4 * edges_in groups
groups_within [] fine edges = omega arith
groups_within (w ∷ groups) fine edges =
    omega (
      arith,
      fine.0.few,
      price_within w.weight fine.0.within,
      numeral_within 3 (length w.edges) (lit< tt) (omega (arith, fine.0.few)) (omega (arith, fine.0.few)),
      numbers_within w.edges (recursion_from_All (IsWithin 1 600) w.edges edges.0),
      room_append (map numeral w.edges ++ flat_map group_words groups) (remainder_words nothing),
      room_append (map numeral w.edges) (flat_map group_words groups),
      room_append (flat_map group_words groups) (remainder_words nothing),
      groups_within groups fine.1 edges.1,
    )

-- what the groups of price sets take
abbrev pub groups_room : List Prices → ℕ
groups_room [] = 0
groups_room (set ∷ all) = 22 * length set.groups + 4 * edges_in set.groups + groups_room all

bonds_within : (grouped : Bool) (pool : List (List ℕ)) (set : Prices) (rest : List Line) → IsFineSet pool set →
    lines_room (group_lines grouped set ++ rest) ≤ 12 + 22 * length set.groups + 4 * edges_in set.groups + lines_room rest
bonds_within false pool set rest fine = omega arith
bonds_within true pool set rest fine =
    omega (
      arith,
      fine.prices.few_groups,
      numeral_within 4 (length set.groups) (lit< tt) (omega (arith, fine.prices.few_groups)) (omega (arith, fine.prices.few_groups)),
      groups_within set.groups (recursion_from_All IsFineGroup set.groups fine.prices.groups)
          (recursion_from_All (λ (w : GroupWeight). All (IsWithin 1 600) w.edges) set.groups fine.group_edges),
    )

sets_within : (grouped : Bool) (all : List Prices) (pool : List (List ℕ)) (rest : List Line) → length pool ≤ 2000 → AllByRecursion (IsFineSet pool) all →
    lines_room (flat_map (set_lines grouped) all ++ rest) ≤ 56844 * length all + groups_room all + lines_room rest
sets_within grouped [] pool rest few fine = omega arith
sets_within grouped (set ∷ all) pool rest few fine =
    let is = fine.0.prices in
    omega (
      arith,
      is.few_services,
      is.few_weights,
      numeral_within 7 set.unit (lit< tt) (omega (arith, is.unit_in)) (omega (arith, is.unit_in)),
      numeral_within 3 (length set.services) (lit< tt) (omega (arith, is.few_services)) (omega (arith, is.few_services)),
      prices_within set.services (recursion_from_All IsPriceNumber set.services is.services),
      numeral_within 4 (length set.weights) (lit< tt) (omega (arith, is.few_weights)) (omega (arith, is.few_weights)),
      weights_within set.weights pool few (recursion_from_All IsFineWeight set.weights is.weights)
          (recursion_from_All (λ (w : Weight). IsShoreNumber pool w.shore) set.weights fine.0.shores),
      ap lines_room (append_assoc (group_lines grouped set) (flat_map (set_lines grouped) all) rest),
      bonds_within grouped pool set (flat_map (set_lines grouped) all ++ rest) fine.0,
      sets_within grouped all pool rest few fine.1,
    )

pub groups_many : (all : List Prices) (pool : List (List ℕ)) → AllByRecursion (IsFineSet pool) all → groups_room all ≤ 284000 * length all
groups_many [] pool fine = omega arith
groups_many (set ∷ all) pool fine =
    omega (arith, fine.0.prices.few_groups, fine.0.prices.few_edges, edges_are set.groups, groups_many all pool fine.1)

node_within : (borders units : ℕ) (x : Node) → borders ≤ 2000 → units ≤ 256 → IsFineNode borders units x → room (words_of (node x)) ≤ 17
node_within borders units (Pair a b) few some fine =
    omega (
      arith,
      numeral_within 3 a (lit< tt) (omega (arith, fine)) (omega (arith, fine)),
      numeral_within 3 b (lit< tt) (omega (arith, fine)) (omega (arith, fine)),
    )
node_within borders units (Cut border k) few some fine =
    omega (
      arith,
      numeral_within 4 border (lit< tt) (omega (arith, few, fine.0.to_last)) (omega (arith, few, fine.0.to_last)),
      numeral_within 7 k (lit< tt) (omega (arith, fine.1)) (omega (arith, fine.1)),
    )
node_within borders units (Price set) few some fine = omega (arith, numeral_within 3 set (lit< tt) (omega (arith, some, fine.to_last)) (omega (arith, some, fine.to_last)))
node_within borders units Void few some fine = omega arith
node_within borders units Fixed few some fine = omega arith

nodes_within : (all : List Node) (borders units : ℕ) (rest : List Line) → borders ≤ 2000 → units ≤ 256 → AllByRecursion (IsFineNode borders units) all →
    lines_room (map node all ++ rest) ≤ 17 * length all + lines_room rest
nodes_within [] borders units rest few some fine = omega arith
nodes_within (x ∷ all) borders units rest few some fine = omega (arith, node_within borders units x few some fine.0, nodes_within all borders units rest few some fine.1)

-- The whole.

pool_within : (c : Certificate) → IsFine c →
    lines_room (pool_lines (has_groups c.sets) c.shores c.sets c.nodes)
    ≤ 8014030 + 56844 * length c.sets + groups_room c.sets + lines_room (node_lines c.nodes)
pool_within c fine =
    omega (
      arith,
      fine.few_shores,
      fine.few_sets,
      number_within 4 (length c.shores) (lit< tt) (omega (arith, fine.few_shores)) (omega (arith, fine.few_shores)) (codes "shores") (lit≤ tt),
      shores_within c.shores (price_lines (has_groups c.sets) c.sets c.nodes) (recursion_from_All IsFineShore c.shores fine.shores_fine),
      number_within 3 (length c.sets) (lit< tt) (omega (arith, fine.few_sets)) (omega (arith, fine.few_sets)) (codes "sets") (lit≤ tt),
      sets_within (has_groups c.sets) c.sets c.shores (node_lines c.nodes) fine.few_shores (recursion_from_All (IsFineSet c.shores) c.sets fine.sets_fine),
    )

plan_within : (c : Certificate) → IsFine c →
    lines_room (plan_lines (has_groups c.sets) c.plan c.shores c.sets c.nodes)
    ≤ 20014050 + 13 * length c.plan + 56844 * length c.sets + groups_room c.sets + lines_room (node_lines c.nodes)
plan_within c fine =
    let few : steps_in c.plan ≤ 2000000 = omega (arith, fine.few_steps, sum_is c.plan) in
    omega (
      arith,
      few,
      fine.few_tours,
      number_within 6 (length c.plan) (lit< tt) (omega (arith, fine.few_tours)) (omega (arith, fine.few_tours)) (codes "tours") (lit≤ tt),
      tours_within c.plan (pool_lines (has_groups c.sets) c.shores c.sets c.nodes) few (recursion_from_All (All (λ (s : Step). IsWithin 1 4000 s.edge)) c.plan fine.edges_in),
      pool_within c fine,
    )

-- what a text takes, by its tours, its price sets, their groups and the nodes
pub fine_within : (c : Certificate) → IsFine c →
    length (text_of c) ≤ 20014202 + 13 * length c.plan + 56844 * length c.sets + groups_room c.sets + lines_room (node_lines c.nodes)
fine_within c fine =
    omega (
      arith,
      text_within (lines_of c),
      ap lines_room (grouped_lines c),
      number_within 18 c.cost (lit< tt) fine.cost_in (omega (arith, fine.cost_in)) (codes "cost") (lit≤ tt),
      number_within 18 c.bound (lit< tt) fine.bound_in (omega (arith, fine.bound_in)) (codes "bound") (lit≤ tt),
      version_within c.counts (has_groups c.sets) (cost c.cost ∷ (bound c.bound ∷ plan_lines (has_groups c.sets) c.plan c.shores c.sets c.nodes)) fine.counts_in,
      plan_within c fine,
    )

pub head_within : (c : Certificate) → IsFine c → lines_room (node_lines c.nodes) ≤ 15 + lines_room (map node c.nodes ++ end ∷ [])
head_within c fine =
    omega (arith, number_within 7 (length c.nodes) (lit< tt) (omega (arith, fine.few_nodes)) (omega (arith, fine.few_nodes)) (codes "nodes") (lit≤ tt))

fine_short : (c : Certificate) → IsFine c → length (text_of c) ≤ 268435456
fine_short c fine =
    omega (
      arith,
      fine.few_tours,
      fine.few_sets,
      fine.few_nodes,
      fine_within c fine,
      groups_many c.sets c.shores (recursion_from_All (IsFineSet c.shores) c.sets fine.sets_fine),
      head_within c fine,
      nodes_within c.nodes (length c.shores) (length c.sets) (end ∷ []) fine.few_shores fine.few_sets
          (recursion_from_All (IsFineNode (length c.shores) (length c.sets)) c.nodes fine.nodes_fine),
    )

pub spelled_short : (c : Certificate) → IsSpellable c → length (text_of c) ≤ 268435456
spelled_short c spellable = fine_short c (spellable_fine c spellable)

pub text_short : (bytes : List ℕ) (c : Certificate) → IsTextOf bytes c → length bytes ≤ 268435456
text_short bytes c is = omega (arith, ap length (read_spelled bytes c is), spelled_short c (read_spellable bytes c is))
