-- What a network keeps, from what its parts are.
use Rattle.std.proofs.Common.{◌≡◌, ℕ, ◌+◌, ◌<◌, ◌≤◌, true, List, length, take, drop, get_or, min, sym, ap, ◌∙◌, arith, subst}
use Rattle.std.specs.List.{count_by}
use Rattle.std.proofs.lemmas.List.{get_or-take, get_or-drop, get_or_read}
use Rattle.carp_base.specs.declared.edge.Edge.{Edge}
use Rattle.carp_base.specs.Problem.{Problem, IsValid, IsEdgeNumber, edge_at}
use Rattle.road_network.specs.Incidence.{has_end, incident, incident_among, required_degree_of}
use Rattle.road_network.specs.Lists.{AreLists}
use Rattle.road_network.proofs.Incident.{incident_is, required_count}

pub lists_same : (last last' : ℕ) (edges edges' : List Edge) (starts starts' incident : List ℕ) → last ≡ last' → edges ≡ edges' → starts ≡ starts' →
    AreLists last edges starts incident → AreLists last' edges' starts' incident
lists_same last last' edges edges' starts starts' incident same_last same_edges same_starts lists = rw (← same_last, ← same_edges, ← same_starts) lists

pub degrees_are : (p : Problem) → IsValid p → (required : ℕ) (edges : List Edge) (degrees : List ℕ) → required ≡ p.required → edges ≡ p.edges →
    ((v : ℕ) → v ≤ p.vertices → get_or degrees v 0 ≡ count_by (has_end v) (take required edges)) →
    (v : ℕ) → v ≤ p.vertices → get_or degrees v 0 ≡ required_degree_of p v
degrees_are p valid required edges degrees same_required same_edges counted v within =
    let least : min (length p.edges) p.required ≡ p.required = omega (arith, valid.required_in) in
    counted v within
    ∙ ap (λ n. count_by (has_end v) (take n edges)) same_required
    ∙ ap (λ xs. count_by (has_end v) (take p.required xs)) same_edges
    ∙ ap (λ n. count_by (has_end v) (take n p.edges)) (sym least)
    ∙ sym (required_count p.edges v p.required (length p.edges) (omega arith))

-- what stands at a place of a vertex's list is an edge there
pub edge_there : (p : Problem) (starts laid : List ℕ) → AreLists p.vertices p.edges starts laid → (v i start e : ℕ) → v ≤ p.vertices → i < length (incident p v) →
    start ≡ get_or starts v start → e ≡ get_or laid (start + i) e → IsEdgeNumber p e × (has_end v (edge_at p e) ≡ true)
edge_there p starts laid lists v i start e within below is_start is_e =
    let start_is : start ≡ get_or starts v 0 = get_or_read starts v start (omega (arith, lists.long)) is_start 0 in
    let fits : start + i < length laid = omega (arith, lists.next v within, lists.within v within) in
    let list = incident_among p.edges (length p.edges) v in
    let is : e ≡ get_or list i 0 =
    get_or_read laid (start + i) e fits is_e 0
    ∙ ap (λ n. get_or laid (n + i) 0) start_is
    ∙ sym (get_or-drop (get_or starts v 0) laid i 0)
    ∙ sym (get_or-take (length list) (drop (get_or starts v 0) laid) i 0 below)
    ∙ ap (λ xs. get_or xs i 0) (lists.lists v within) in
    let found = incident_is p v (length p.edges) i below in
    subst (λ n. IsEdgeNumber p n × (has_end v (edge_at p n) ≡ true)) (sym is) (record { from_one = found.0; in_range = found.1 }, found.2)
