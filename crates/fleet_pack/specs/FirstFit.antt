-- First fit by falling demand (Johnson 1973; Martello and Toth 1990, section 8.2).
use Rattle.std.specs.Prelude.{ℕ, zero, suc, ◌+◌, List, [], ◌∷◌, if◌then◌else◌, nat_lt, nat_le, length, map}
use Rattle.carp_base.specs.Problem.{Problem, edge_at}

-- the demand of the edge of a number
abbrev pub demand_of : Problem → ℕ → ℕ
demand_of p e = (edge_at p e).demand

-- an edge goes behind all edges that demand no less
abbrev pub put_edge : Problem → ℕ → List ℕ → List ℕ
put_edge p e [] = e ∷ []
put_edge p e (f ∷ edges) = if nat_lt (demand_of p f) (demand_of p e) then e ∷ (f ∷ edges) else f ∷ put_edge p e edges

-- the edges from 1 to n by falling demand, and those of one demand by their numbers
abbrev pub falling : Problem → ℕ → List ℕ
falling p zero = []
falling p (suc n) = put_edge p (suc n) (falling p n)

-- the loads of the groups after one more demand, which goes into the first group with room, or else into a new one
abbrev pub put_demand : (capacity demand : ℕ) → List ℕ → List ℕ
put_demand capacity demand [] = demand ∷ []
put_demand capacity demand (load ∷ loads) =
    if nat_le (load + demand) capacity then (load + demand) ∷ loads else load ∷ put_demand capacity demand loads

-- the loads of the groups after these demands, one after another
abbrev pub loads_after : (capacity : ℕ) → (demands loads : List ℕ) → List ℕ
loads_after capacity [] loads = loads
loads_after capacity (demand ∷ demands) loads = loads_after capacity demands (put_demand capacity demand loads)

-- how many groups first fit takes
abbrev pub first_fit_count : Problem → ℕ
first_fit_count p = length (loads_after p.capacity (map (demand_of p) (falling p p.required)) [])
