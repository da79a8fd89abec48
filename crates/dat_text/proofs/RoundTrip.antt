-- The text that is written of an instance is a text of this instance.
use Rattle.std.proofs.Common.{add-one, ◌≡◌, ℕ, ◌+◌, ◌*◌, ◌^◌, ◌<◌, ◌≤◌, Bool, true, false, cond, List, [], ◌∷◌, ◌++◌, length, map, get_or, Option, Some, None, refl, sym, ap, subst, ◌∙◌, append_assoc, arith, length-drop}
use Rattle.std.specs.List.{AllByRecursion, All}
use Rattle.std.specs.Int.{div_ceil}
use Rattle.std.proofs.Math.Nat.{div-le_self}
use Rattle.std.proofs.lemmas.List.{append-nil, length-map, length-take-le, take-append-drop, get_or-take, get_or-drop, get_or_default}
use Rattle.std.proofs.lemmas.List.Elements.{recursion_from_All}
use Rattle.std.proofs.lemmas.List.Sums.{sum_by-le}
use Rattle.carp_base.specs.declared.edge.Edge.{Edge}
use Rattle.carp_base.specs.declared.edge.RawEdge.{RawEdge}
use Rattle.carp_base.specs.Problem.{Problem, IsValid, IsFineEdge, IsIdle, required_edges, other_edges, total_demand, required_cost, required_edge, other_edge, no_edge, edge_at}
use Rattle.dat_text.specs.declared.key.Key.{Key}
use Rattle.dat_text.specs.declared.key.Key.TheVariants.{Vertices, RequiredCount, OtherCount, Capacity, Depot, RequiredList, OtherList}
use Rattle.dat_text.specs.DatText.{dat_of, counts_text, totals_text}
use Rattle.dat_text.specs.Text.{lines_of, same_key, stands, number_of, edges_of, AreGood, Description, problem_of, IsComplete, IsTextOf, LatestFirst}
use Rattle.dat_text.specs.Text.Statement.{nothing, states, lists}
use Rattle.dat_text.proofs.WrittenLines.{Adds, Adds-append, number_adds, list_adds, name_skipped, comment_skipped, costs_skipped, vehicles_skipped, total_skipped, empty_skipped}
use Rattle.dat_text.proofs.WrittenEdges.{IsSmall, required_raw, other_raw, listed, all_required_add, all_others_add}

-- What is said after the edges of a list.

stands_listed : (k list : Key) (xs : List RawEdge) (said : LatestFirst) → stands k (listed list xs said) ≡ stands k said
stands_listed k list [] said = refl
stands_listed k list (x ∷ xs) said = stands_listed k list xs (lists list x ∷ said)

number_listed : (k list : Key) (xs : List RawEdge) (said : LatestFirst) → number_of k (listed list xs said) ≡ number_of k said
number_listed k list [] said = refl
number_listed k list (x ∷ xs) said = number_listed k list xs (lists list x ∷ said)

edges_listed : (list : Key) (xs : List RawEdge) (said : LatestFirst) → same_key list list ≡ true → edges_of list (listed list xs said) ≡ edges_of list said ++ xs
edges_listed list [] said same = sym (append-nil (edges_of list said))
edges_listed list (x ∷ xs) said same =
    edges_listed list xs (lists list x ∷ said) same
    ∙ ap (λ (t : Bool). cond t (edges_of list said ++ x ∷ []) (edges_of list said) ++ xs) same ∙ append_assoc (edges_of list said) (x ∷ []) xs

edges_beside : (k list : Key) (xs : List RawEdge) (said : LatestFirst) → same_key list k ≡ false → edges_of k (listed list xs said) ≡ edges_of k said
edges_beside k list [] said other = refl
edges_beside k list (x ∷ xs) said other =
    edges_beside k list xs (lists list x ∷ said) other ∙ ap (λ (t : Bool). cond t (edges_of k said ++ x ∷ []) (edges_of k said)) other

-- The numbers of a valid instance are small.

edge_after : (p : Problem) (i : ℕ) → edge_at p (i + 1) ≡ get_or p.edges i no_edge
edge_after p i = rw add-one refl

at_fine : (p : Problem) (i : ℕ) (d : Edge) → IsValid p → i < length p.edges → IsFineEdge p (get_or p.edges i d)
at_fine p i d valid below =
    let fine = valid.edges (i + 1) (record { from_one = omega arith; in_range = omega arith }) in
    subst (λ (x : Edge). IsFineEdge p x) (edge_after p i ∙ get_or_default p.edges i no_edge d below) fine

at_task : (p : Problem) (i : ℕ) (d : Edge) → IsValid p → i < p.required → (get_or p.edges i d).demand ≤ 30000 × (get_or p.edges i d).service ≤ 1000000
at_task p i d valid below =
    let task = valid.tasks (i + 1) (record { from_one = omega arith; in_range = omega arith }) in
    let within : i < length p.edges = omega (arith, valid.required_in) in
    subst (λ (x : Edge). (x.demand ≤ 30000) × (x.service ≤ 1000000)) (edge_after p i ∙ get_or_default p.edges i no_edge d within)
    (omega (arith, task.demand_fits, valid.capacity_in), task.service_in)

at_idle : (p : Problem) (i : ℕ) (d : Edge) → IsValid p → p.required ≤ i → i < length p.edges → IsIdle (get_or p.edges i d)
at_idle p i d valid from below =
    let idle = valid.idle (i + 1) (record { from_one = omega arith; in_range = omega arith }) (omega arith) in
    subst (λ (x : Edge). IsIdle x) (edge_after p i ∙ get_or_default p.edges i no_edge d below) idle

pub small_required : (p : Problem) → IsValid p → All (λ (x : Edge). IsSmall x × (x.demand ≤ 30000) × (x.service ≤ 1000000)) (required_edges p)
small_required p valid i d below =
    let long : length (required_edges p) ≡ p.required = length-take-le p.required p.edges valid.required_in in
    let short : i < p.required = omega (arith, below, long) in
    let fine = at_fine p i d valid (omega (arith, valid.required_in)) in
    let task = at_task p i d valid short in
    rw get_or-take (
      record {
        u = omega (arith, fine.u_in.in_range, valid.few_vertices);
        v = omega (arith, fine.v_in.in_range, valid.few_vertices);
        cost = omega (arith, fine.cost_in);
        demand = omega (arith, task.0);
        service = omega (arith, task.1);
      },
      task.0,
      task.1,
    )

pub small_others : (p : Problem) → IsValid p → All (λ (x : Edge). IsSmall x × IsIdle x) (other_edges p)
small_others p valid i d below =
    let within : p.required + i < length p.edges = omega (arith, below, length-drop p.required p.edges) in
    let fine = at_fine p (p.required + i) d valid within in
    let idle = at_idle p (p.required + i) d valid (omega arith) within in
    rw get_or-drop (
      record {
        u = omega (arith, fine.u_in.in_range, valid.few_vertices);
        v = omega (arith, fine.v_in.in_range, valid.few_vertices);
        cost = omega (arith, fine.cost_in);
        demand = omega (arith, idle.no_demand);
        service = omega (arith, idle.no_service);
      },
      idle,
    )

pub small_demand : (p : Problem) → IsValid p → total_demand p ≤ p.required * 30000
small_demand p valid =
    omega (arith, length-take-le p.required p.edges valid.required_in, sum_by-le (λ x. x.demand) 30000 (required_edges p) (λ i d below. (small_required p valid i d below).1))

pub small_cost : (p : Problem) → IsValid p → required_cost p ≤ p.required * 1000000
small_cost p valid =
    omega (arith, length-take-le p.required p.edges valid.required_in, sum_by-le (λ x. x.service) 1000000 (required_edges p) (λ i d below. (small_required p valid i d below).2))

pub small_vehicles : (demand capacity : ℕ) → demand ≤ 18000000 → div_ceil demand capacity < 10 ^ 18
small_vehicles demand capacity small = omega (arith, div-le_self demand capacity)

-- What the text says.

abbrev counts_said : Problem → LatestFirst
counts_said p = states OtherCount (Some (length (other_edges p))) ∷ states RequiredCount (Some p.required) ∷ states Vertices (Some p.vertices) ∷ nothing ∷ nothing ∷ []

abbrev totals_said : Problem → LatestFirst
totals_said p = nothing ∷ nothing ∷ states Capacity (Some p.capacity) ∷ nothing ∷ counts_said p

abbrev required_said : Problem → LatestFirst
required_said p = listed RequiredList (map required_raw (required_edges p)) (states RequiredList None ∷ totals_said p)

abbrev others_said : Problem → LatestFirst
others_said p = listed OtherList (map other_raw (other_edges p)) (states OtherList None ∷ required_said p)

abbrev dat_said : Problem → LatestFirst
dat_said p = states Depot (Some p.depot) ∷ others_said p

counts_add : (p : Problem) → IsValid p → Adds (counts_text p) [] (counts_said p)
unfolding counts_text
counts_add p valid =
    let few_others : length (other_edges p) < 10 ^ 18 = omega (arith, length-drop p.required p.edges, valid.few_edges) in
    Adds-append
    (Adds-append
    (Adds-append
    (Adds-append (name_skipped []) (comment_skipped (nothing ∷ [])))
    (number_adds Vertices p.vertices _ (omega (arith, valid.few_vertices)) refl refl))
    (number_adds RequiredCount p.required _ (omega (arith, valid.few_required)) refl refl))
    (number_adds OtherCount (length (other_edges p)) _ few_others refl refl)

totals_add : (p : Problem) → IsValid p → Adds (totals_text p) (counts_said p) (totals_said p)
unfolding totals_text
totals_add p valid =
    let vehicles = small_vehicles (total_demand p) p.capacity (omega (arith, small_demand p valid, valid.few_required)) in
    let cost : required_cost p < 10 ^ 18 = omega (arith, small_cost p valid, valid.few_required) in
    Adds-append
    (Adds-append
    (Adds-append
    (vehicles_skipped (div_ceil (total_demand p) p.capacity) vehicles (counts_said p))
    (number_adds Capacity p.capacity _ (omega (arith, valid.capacity_in)) refl refl))
    (costs_skipped _))
    (total_skipped (required_cost p) cost _)

dat_adds : (p : Problem) → IsValid p → Adds (dat_of p) [] (dat_said p)
unfolding dat_of
dat_adds p valid =
    let small = recursion_from_All IsSmall (required_edges p) (λ i d below. (small_required p valid i d below).0) in
    let small_too = recursion_from_All IsSmall (other_edges p) (λ i d below. (small_others p valid i d below).0) in
    let no_others : stands OtherList (required_said p) ≡ false = stands_listed OtherList RequiredList (map required_raw (required_edges p)) (states RequiredList None ∷ totals_said p) in
    let no_depot : stands Depot (others_said p) ≡ false =
    stands_listed Depot OtherList (map other_raw (other_edges p)) (states OtherList None ∷ required_said p)
    ∙ stands_listed Depot RequiredList (map required_raw (required_edges p)) (states RequiredList None ∷ totals_said p) in
    Adds-append
    (Adds-append
    (Adds-append
    (Adds-append
    (Adds-append
    (Adds-append (counts_add p valid) (totals_add p valid))
    (list_adds RequiredList (totals_said p) refl refl))
    (all_required_add (required_edges p) (states RequiredList None ∷ totals_said p) small refl))
    (list_adds OtherList (required_said p) refl no_others))
    (all_others_add (other_edges p) (states OtherList None ∷ required_said p) small_too refl))
    (number_adds Depot p.depot (others_said p) (omega (arith, valid.depot_in.in_range, valid.few_vertices)) refl no_depot)

-- What the text describes.

abbrev description_for : Problem → Description
description_for p = record {
  vertices = p.vertices;
  depot = p.depot;
  capacity = p.capacity;
  required = map required_raw (required_edges p);
  others = map other_raw (other_edges p);
}

number_before : (k : Key) (p : Problem) → number_of k (others_said p) ≡ number_of k (states OtherList None ∷ states RequiredList None ∷ totals_said p)
number_before k p =
    number_listed k OtherList (map other_raw (other_edges p)) (states OtherList None ∷ required_said p)
    ∙ ap (λ (n : Option ℕ). cond (same_key OtherList k) None n) (number_listed k RequiredList (map required_raw (required_edges p)) (states RequiredList None ∷ totals_said p))

dat_complete : (p : Problem) → IsValid p → IsComplete (nothing ∷ dat_said p) (description_for p)
dat_complete p valid =
    let required = map required_raw (required_edges p) in
    let others = map other_raw (other_edges p) in
    let required_long : p.required ≡ length required = sym (length-map (required_edges p) required_raw ∙ length-take-le p.required p.edges valid.required_in) in
    let others_long : length (other_edges p) ≡ length others = sym (length-map (other_edges p) other_raw) in
    record {
      vertices = number_before Vertices p;
      depot = refl;
      capacity = number_before Capacity p;
      required_count = number_before RequiredCount p ∙ ap Some required_long;
      other_count = rw (number_before OtherCount p) others_long;
      required = sym (edges_beside RequiredList OtherList others (states OtherList None ∷ required_said p) refl ∙ edges_listed RequiredList required (states RequiredList None ∷ totals_said p) refl);
      others = sym (edges_listed OtherList others (states OtherList None ∷ required_said p) refl
          ∙ ap (λ (xs : List RawEdge). xs ++ others) (edges_beside OtherList RequiredList required (states RequiredList None ∷ totals_said p) refl));
    }

required_back : (xs : List Edge) → map required_edge (map required_raw xs) ≡ xs
required_back [] = refl
required_back (x ∷ xs) = ap (λ (ys : List Edge). x ∷ ys) (required_back xs)

other_back : (xs : List Edge) → AllByRecursion IsIdle xs → map other_edge (map other_raw xs) ≡ xs
other_back [] idle = refl
other_back (x ∷ xs) idle =
    let with : ℕ → ℕ → Edge = λ demand service. record { u = x.u; v = x.v; cost = x.cost; demand = demand; service = service } in
    let same : with 0 0 ≡ x = sym (ap (λ (n : ℕ). with n x.service) idle.0.no_demand ∙ ap (with 0) idle.0.no_service) in
    ap (λ (y : Edge). y ∷ map other_edge (map other_raw xs)) same ∙ ap (λ (ys : List Edge). x ∷ ys) (other_back xs idle.1)

problem_back : (p : Problem) → IsValid p → p ≡ problem_of (description_for p)
problem_back p valid =
    let made : ℕ → List Edge → Problem = λ required edges. record { vertices = p.vertices; depot = p.depot; capacity = p.capacity; required = required; edges = edges } in
    let long : length (map required_raw (required_edges p)) ≡ p.required = length-map (required_edges p) required_raw ∙ length-take-le p.required p.edges valid.required_in in
    let idle = recursion_from_All IsIdle (other_edges p) (λ i d below. (small_others p valid i d below).1) in
    let edges : map required_edge (map required_raw (required_edges p)) ++ map other_edge (map other_raw (other_edges p)) ≡ p.edges =
    ap (λ (xs : List Edge). xs ++ map other_edge (map other_raw (other_edges p))) (required_back (required_edges p))
    ∙ ap (λ (xs : List Edge). required_edges p ++ xs) (other_back (other_edges p) idle) ∙ take-append-drop p.required p.edges in
    sym (ap (λ (k : ℕ). made k (map required_edge (map required_raw (required_edges p)) ++ map other_edge (map other_raw (other_edges p)))) long ∙ ap (made p.required) edges)

pub written_text : (p : Problem) → IsValid p → IsTextOf (dat_of p) p
written_text p valid =
    let said = nothing ∷ dat_said p in
    let lines : AreGood [] (lines_of (dat_of p)) said =
    subst (λ (text : List ℕ). AreGood [] (lines_of text) said) (append-nil (dat_of p)) ((dat_adds p valid).adds [] said (nothing, empty_skipped, refl)) in
    record {
      description = description_for p;
      describes = record { said = said; lines = lines; complete = dat_complete p valid };
      is = problem_back p valid;
      valid = valid;
    }
