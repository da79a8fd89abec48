-- The depths of all vertices for a set, from a table of distances.
use Rattle.std.proofs.Common.{◌≡◌, ℕ, ◌+◌, ◌-◌, ◌*◌, ◌<◌, ◌≤◌, min, List, [], ◌∷◌, ◌++◌, length, get_or, refl, ap, ◌∙◌, arith, inl, inr}
use Rattle.std.specs.List.{AllByRecursion}
use Rattle.std.proofs.lemmas.Bool.{cases_lt}
use Rattle.std.proofs.lemmas.List.{get_or_append_left, get_or_push, get_or_past, length_push}
use Rattle.std.proofs.Math.Nat.{min-le_right, mul-le-mul_right}
use Rattle.carp_base.specs.Problem.{Problem, IsVertex}
use Rattle.matching_duals.specs.OddSets.{OddSet, enclosing_weight, least_depth}
use Rattle.matching_duals.specs.Paths.{reach}
use Rattle.matching_duals.specs.Sets.{depth_by}

pub depth_push : (table : List ℕ) (start : ℕ) (enclosing : List ℕ) (most v : ℕ) (members : List ℕ) →
    depth_by table start enclosing most (members ++ (v ∷ [])) ≡ min (2 * get_or table (start + v) 0 - get_or enclosing v 0) (depth_by table start enclosing most members)
depth_push table start enclosing most v [] = refl
depth_push table start enclosing most v (w ∷ members) = omega (arith, depth_push table start enclosing most v members)

pub depth_most : (table : List ℕ) (start : ℕ) (enclosing : List ℕ) (most : ℕ) (members : List ℕ) → depth_by table start enclosing most members ≤ most
depth_most table start enclosing most [] = omega arith
depth_most table start enclosing most (v ∷ members) =
    omega (arith, min-le_right (2 * get_or table (start + v) 0 - get_or enclosing v 0) (depth_by table start enclosing most members), depth_most table start enclosing most members)

-- where the lists say the distances and the weights, it is the depth
pub depth_is : (p : Problem) (table enclosing : List ℕ) (smaller : List OddSet) (x most : ℕ) (members : List ℕ) →
    AllByRecursion (λ v. get_or enclosing v 0 ≡ enclosing_weight smaller v) members →
    depth_by table (x * (p.vertices + 1)) enclosing most members ≡ least_depth (reach p table) smaller x most members
depth_is p table enclosing smaller x most [] say = refl
depth_is p table enclosing smaller x most (v ∷ members) say = rw (say.0, depth_is p table enclosing smaller x most members say.1) refl

-- a vertex's place in the row of another
pub in_table : (n x v : ℕ) → x ≤ n → v ≤ n → x * (n + 1) + v < (n + 1) * (n + 1)
in_table n x v x_in v_in =
    let room : (x + 1) * (n + 1) ≤ (n + 1) * (n + 1) = mul-le-mul_right (n + 1) (omega (arith, x_in)) in
    omega (arith, room, v_in)

-- the depths as far as a vertex
pub record DepthsTo (p : Problem) (table enclosing members : List ℕ) (most x : ℕ) (depths : List ℕ) : Type 0 where
  pub long : length depths ≡ x
  pub each : (w : ℕ) → IsVertex p w → w < x → get_or depths w 0 ≡ depth_by table (w * (p.vertices + 1)) enclosing most members
  pub low : (k : ℕ) → get_or depths k 0 ≤ most

low_push : (depths : List ℕ) (n most : ℕ) → ((k : ℕ) → get_or depths k 0 ≤ most) → n ≤ most → (k : ℕ) → get_or (depths ++ n ∷ []) k 0 ≤ most
low_push depths n most low least k = elim (cases_lt k (length depths)) [
  | inl before ↦ omega (arith, get_or_append_left depths (n ∷ []) 0 k before, low k)
  | inr after ↦ elim (cases_lt (length depths) k) [
    | inl past ↦ omega (arith, get_or_past (depths ++ n ∷ []) k 0 (omega (arith, past, length_push depths n)))
    | inr at ↦ omega (arith, get_or_push depths n 0 k (omega (arith, after, at)), least)
  ]
]

pub depths_more : (p : Problem) (table enclosing members : List ℕ) (most x n : ℕ) (depths : List ℕ) → DepthsTo p table enclosing members most x depths →
    n ≡ depth_by table (x * (p.vertices + 1)) enclosing most members → DepthsTo p table enclosing members most (x + 1) (depths ++ n ∷ [])
depths_more p table enclosing members most x n depths is value = record {
  long = omega (arith, is.long, length_push depths n);
  each = λ w vertex less. elim (cases_lt w x) [
    | inl before ↦ get_or_append_left depths (n ∷ []) 0 w (omega (arith, before, is.long)) ∙ is.each w vertex before
    | inr last ↦
        let same : x ≡ w = omega (arith, last, less) in
        get_or_push depths n 0 w (is.long ∙ same) ∙ value ∙ ap (λ u. depth_by table (u * (p.vertices + 1)) enclosing most members) same
  ];
  low = low_push depths n most is.low (omega (arith, value, depth_most table (x * (p.vertices + 1)) enclosing most members));
}
