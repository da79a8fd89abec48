-- The text that is written of an instance is short.
use Rattle.std.proofs.Common.{◌≡◌, ℕ, ◌+◌, ◌*◌, ◌^◌, ◌<◌, ◌≤◌, Bool, true, false, cond, eqb, List, [], ◌∷◌, ◌++◌, length, refl, length-append, length-drop, arith, lit<}
use Rattle.std.specs.Prelude.{codes, decimal}
use Rattle.std.specs.Int.{div_ceil}
use Rattle.std.specs.List.{AllByRecursion, flat_map}
use Rattle.std.proofs.lemmas.Fmt.{length-decimal-le}
use Rattle.std.proofs.lemmas.List.{length-take-le}
use Rattle.std.proofs.lemmas.List.Elements.{recursion_from_All}
use Rattle.carp_base.specs.declared.edge.Edge.{Edge}
use Rattle.carp_base.specs.Problem.{Problem, IsValid, required_edges, other_edges, total_demand, required_cost}
use Rattle.dat_text.specs.DatText.{key_line, ends_and_cost, service_cost, required_line, other_line, counts_text, totals_text, dat_of}
use Rattle.dat_text.proofs.WrittenEdges.{IsSmall}
use Rattle.dat_text.proofs.RoundTrip.{small_required, small_others, small_demand, small_cost, small_vehicles}

-- a text of at most so many bytes
record Within (most : ℕ) (text : List ℕ) : Type 0 where
  fits : length text ≤ most

within-append : {m n : ℕ} {text more : List ℕ} → Within m text → Within n more → Within (m + n) (text ++ more)
within-append {m} {n} {text} {more} first rest = record { fits = omega (arith, first.fits, rest.fits, length-append text more) }

literal : (k : ℕ) (text : List ℕ) → length text ≡ k → Within k text
literal k text long = record { fits = omega (arith, long) }

number : (n : ℕ) → n < 10 ^ 18 → Within 18 (decimal n)
number n small = record { fits = length-decimal-le 18 n (lit< tt) small (omega arith) }

key : (k : ℕ) (name : List ℕ) (n : ℕ) → length name ≡ k → n < 10 ^ 18 → Within (k + 3 + 18 + 1) (key_line name n)
unfolding key_line
key k name n long small = within-append (within-append (within-append (literal k name long) (literal 3 (codes " : ") refl)) (number n small)) (literal 1 (codes "\n") refl)

-- Edges.

ends : (x : Edge) → IsSmall x → Within 66 (ends_and_cost x)
unfolding ends_and_cost
ends x small =
    within-append
    (within-append
    (within-append
    (within-append (within-append (literal 2 (codes "( ") refl) (number x.u small.u)) (literal 2 (codes ", ") refl))
    (number x.v small.v))
    (literal 8 (codes ") coste ") refl))
    (number x.cost small.cost)

service : (x : Edge) → IsSmall x → Within 28 (service_cost x)
unfolding service_cost
service x small = where_same (eqb x.service x.cost)
  where
    where_same : (same : Bool) → Within 28 (cond same [] (codes " servicio " ++ decimal x.service))
    where_same true = record { fits = omega arith }
    where_same false = within-append (literal 10 (codes " servicio ") refl) (number x.service small.service)

required_short : (x : Edge) → IsSmall x → Within 122 (required_line x)
unfolding required_line
required_short x small =
    within-append
    (within-append (within-append (within-append (ends x small) (literal 9 (codes " demanda ") refl)) (number x.demand small.demand)) (service x small))
    (literal 1 (codes "\n") refl)

other_short : (x : Edge) → IsSmall x → Within 67 (other_line x)
unfolding other_line
other_short x small = within-append (ends x small) (literal 1 (codes "\n") refl)

all_required : (xs : List Edge) → AllByRecursion IsSmall xs → Within (122 * length xs) (flat_map required_line xs)
all_required [] all = record { fits = omega arith }
all_required (x ∷ xs) all = record { fits = omega (arith, (within-append (required_short x all.0) (all_required xs all.1)).fits) }

all_others : (xs : List Edge) → AllByRecursion IsSmall xs → Within (67 * length xs) (flat_map other_line xs)
all_others [] all = record { fits = omega arith }
all_others (x ∷ xs) all = record { fits = omega (arith, (within-append (other_short x all.0) (all_others xs all.1)).fits) }

-- The whole.

counts : (p : Problem) → IsValid p → Within 150 (counts_text p)
unfolding counts_text
counts p valid =
    let few_others : length (other_edges p) < 10 ^ 18 = omega (arith, length-drop p.required p.edges, valid.few_edges) in
    let whole =
    within-append
    (within-append
    (within-append
    (within-append (literal 14 (codes "NOMBRE : carp\n") refl) (literal 18 (codes "COMENTARIO : none\n") refl))
    (key 8 (codes "VERTICES") p.vertices refl (omega (arith, valid.few_vertices))))
    (key 11 (codes "ARISTAS_REQ") p.required refl (omega (arith, valid.few_required))))
    (key 13 (codes "ARISTAS_NOREQ") (length (other_edges p)) refl few_others) in
    record { fits = omega (arith, whole.fits) }

totals : (p : Problem) → IsValid p → Within 150 (totals_text p)
unfolding totals_text
totals p valid =
    let vehicles = small_vehicles (total_demand p) p.capacity (omega (arith, small_demand p valid, valid.few_required)) in
    let price : required_cost p < 10 ^ 18 = omega (arith, small_cost p valid, valid.few_required) in
    let whole =
    within-append
    (within-append
    (within-append
    (key 9 (codes "VEHICULOS") (div_ceil (total_demand p) p.capacity) refl vehicles)
    (key 9 (codes "CAPACIDAD") p.capacity refl (omega (arith, valid.capacity_in))))
    (literal 33 (codes "TIPO_COSTES_ARISTAS : EXPLICITOS\n") refl))
    (key 15 (codes "COSTE_TOTAL_REQ") (required_cost p) refl price) in
    record { fits = omega (arith, whole.fits) }

pub written_short : (p : Problem) → IsValid p → length (dat_of p) ≤ 4194304
unfolding dat_of
written_short p valid =
    let required = recursion_from_All IsSmall (required_edges p) (λ i d below. (small_required p valid i d below).0) in
    let others = recursion_from_All IsSmall (other_edges p) (λ i d below. (small_others p valid i d below).0) in
    let whole =
    within-append
    (within-append
    (within-append
    (within-append
    (within-append
    (within-append (counts p valid) (totals p valid))
    (literal 20 (codes "LISTA_ARISTAS_REQ :\n") refl))
    (all_required (required_edges p) required))
    (literal 22 (codes "LISTA_ARISTAS_NOREQ :\n") refl))
    (all_others (other_edges p) others))
    (key 8 (codes "DEPOSITO") p.depot refl (omega (arith, valid.depot_in.in_range, valid.few_vertices))) in
    omega (arith, whole.fits, valid.few_edges, length-take-le p.required p.edges valid.required_in, length-drop p.required p.edges, valid.required_in)
