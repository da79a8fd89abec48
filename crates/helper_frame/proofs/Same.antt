-- Instances that are equal number by number.
use Rattle.std.proofs.Common.{rules, ◌≡◌, Bool, true, false, List, [], ◌∷◌, nat_eq, ◌&&◌, refl}
use Rattle.std.specs.Cmp.Lexicographic.{pointwise}
use Rattle.carp_base.specs.declared.edge.Edge.{Edge}
use Rattle.carp_base.specs.Problem.{Problem}

-- what `==` computes of two edges
abbrev pub edge_eq : Edge → Edge → Bool
edge_eq x y = nat_eq x.u y.u && (nat_eq x.v y.v && (nat_eq x.cost y.cost && (nat_eq x.demand y.demand && nat_eq x.service y.service)))

same_edge : (x y : Edge) → edge_eq x y ≡ true → x ≡ y
same_edge x y e = search rules

own_edge : (x : Edge) → edge_eq x x ≡ true
own_edge x = search rules

both_true : (a b : Bool) → (a && b) ≡ true → (a ≡ true) × (b ≡ true)
both_true true b e = (refl, e)
both_true false b e = search rules

pub same_edges : (xs ys : List Edge) → pointwise edge_eq xs ys ≡ true → xs ≡ ys
same_edges [] [] e = refl
same_edges [] (y ∷ ys) e = search rules
same_edges (x ∷ xs) [] e = search rules
same_edges (x ∷ xs) (y ∷ ys) e =
    let b = both_true (edge_eq x y) (pointwise edge_eq xs ys) e in
    λ i. same_edge x y b.0 i ∷ same_edges xs ys b.1 i

pub own_edges : (xs : List Edge) → pointwise edge_eq xs xs ≡ true
own_edges [] = refl
own_edges (x ∷ xs) = let first = own_edge x in let rest = own_edges xs in search rules

-- an instance is its numbers and its edges
pub same_problem :
    (p q : Problem) → p.vertices ≡ q.vertices → p.depot ≡ q.depot → p.capacity ≡ q.capacity → p.required ≡ q.required →
    p.edges ≡ q.edges → p ≡ q
same_problem p q vertices depot capacity required edges =
    λ i. record { vertices = vertices i; depot = depot i; capacity = capacity i; required = required i; edges = edges i }
