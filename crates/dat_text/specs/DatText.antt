-- The text of an instance: the layout of `.dat` files for arc routing, in which the data set gdb is kept.
use Rattle.std.specs.Prelude.{ℕ, ◌++◌, ◌==◌, List, [], length, if◌then◌else◌, codes, decimal}
use Rattle.std.specs.Int.{div_ceil}
use Rattle.std.specs.List.{flat_map}
use Rattle.carp_base.specs.declared.edge.Edge.{Edge}
use Rattle.carp_base.specs.Problem.{Problem, required_edges, other_edges, total_demand, required_cost}

-- a line with a key and its number
unfoldable pub key_line : List ℕ → ℕ → List ℕ
key_line key n = key ++ codes " : " ++ decimal n ++ codes "\n"

-- the ends of an edge and its cost, with which each edge line begins
unfoldable pub ends_and_cost : Edge → List ℕ
ends_and_cost x = codes "( " ++ decimal x.u ++ codes ", " ++ decimal x.v ++ codes ") coste " ++ decimal x.cost

-- the service cost, which stands only where it differs from the cost
unfoldable pub service_cost : Edge → List ℕ
service_cost x = if x.service == x.cost then [] else codes " servicio " ++ decimal x.service

-- the line of an edge that is to be served
unfoldable pub required_line : Edge → List ℕ
required_line x = ends_and_cost x ++ codes " demanda " ++ decimal x.demand ++ service_cost x ++ codes "\n"

-- the line of an edge that need not be served
unfoldable pub other_line : Edge → List ℕ
other_line x = ends_and_cost x ++ codes "\n"

-- the lines that tell how many vertices, required edges and other edges there are
unfoldable pub counts_text : Problem → List ℕ
counts_text p =
    codes "NOMBRE : carp\n"
    ++ codes "COMENTARIO : none\n"
    ++ key_line (codes "VERTICES") p.vertices
    ++ key_line (codes "ARISTAS_REQ") p.required
    ++ key_line (codes "ARISTAS_NOREQ") (length (other_edges p))

-- the lines that tell the capacity and the totals: as many vehicles as the total demand fills, and the cost of all services
unfoldable pub totals_text : Problem → List ℕ
totals_text p =
    key_line (codes "VEHICULOS") (div_ceil (total_demand p) p.capacity)
    ++ key_line (codes "CAPACIDAD") p.capacity
    ++ codes "TIPO_COSTES_ARISTAS : EXPLICITOS\n"
    ++ key_line (codes "COSTE_TOTAL_REQ") (required_cost p)

-- the text of an instance
unfoldable pub dat_of : Problem → List ℕ
dat_of p =
    counts_text p
    ++ totals_text p
    ++ codes "LISTA_ARISTAS_REQ :\n"
    ++ flat_map required_line (required_edges p)
    ++ codes "LISTA_ARISTAS_NOREQ :\n"
    ++ flat_map other_line (other_edges p)
    ++ key_line (codes "DEPOSITO") p.depot
