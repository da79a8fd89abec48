-- The side of a least cut is violated most.
use Rattle.std.proofs.Common.{◌≡◌, ℕ, zero, suc, ◌+◌, ◌-◌, ◌*◌, ◌≤◌, ◌==◌, Bool, true, false, ◌||◌, List, [], ◌∷◌, ◌++◌, length, get_or, refl, sym, ap, ◌∙◌, arith, inl, inr, length-append}
use Rattle.std.proofs.lemmas.Bool.{cases_lt, eq-eqb, ne_eqb, or_left}
use Rattle.std.proofs.lemmas.List.{get_or_append_left, get_or-append_right}
use Rattle.carp_base.specs.Problem.{Problem, IsValid, IsVertex}
use Rattle.cut_pool.specs.Shores.{required_crossings}
use Rattle.flow_cut.specs.Flows.{IsSide, is_on, cut_room}
use Rattle.edge_components.specs.Parts.{parts_over}
use Rattle.edge_components.specs.Laws.{EqualSetsHaveOneBorder, HaveOneBorder}
use Rattle.capacity_cuts.specs.Violation.{gain, loss, IsMostViolated}
use Rattle.capacity_cuts.specs.Network.{network, source}
use Rattle.capacity_cuts.proofs.Cuts.{cut_law}

-- the answers of a test at 1 to n
abbrev pub answers : (ℕ → Bool) → ℕ → List Bool
answers f zero = []
answers f (suc n) = answers f n ++ (f (suc n) ∷ [])

length-answers : (f : ℕ → Bool) (n : ℕ) → length (answers f n) ≡ n
length-answers f zero = refl
length-answers f (suc n) = simp (length-append, length-answers f n) (omega arith)

answers-at : (f : ℕ → Bool) (n v : ℕ) → 1 ≤ v → v ≤ n → get_or (answers f n) (v - 1) false ≡ f v
answers-at f zero v one below = absurd (omega (arith, one, below))
answers-at f (suc n) v one below = elim (cases_lt v (suc n)) [
  | inl less ↦
      get_or_append_left (answers f n) (f (suc n) ∷ []) false (v - 1) (rw (length-answers f n) (omega (arith, one, less)))
      ∙ answers-at f n v one (omega (arith, less))
  | inr last ↦
      let same : v ≡ suc n = omega (arith, last, below) in
      let at : suc n - 1 ≡ n = omega arith in
      let start : n - n ≡ 0 = omega arith in
      rw (same, at) (get_or-append_right (answers f n) (f (suc n) ∷ []) n n false (length-answers f n) (omega arith) ∙ rw start refl)
]

on_at : (f : ℕ → Bool) (n v : ℕ) → 1 ≤ v → v ≤ n → is_on (answers f n) v ≡ f v
on_at f n zero one below = absurd (omega (arith, one))
on_at f n (suc k) one below =
    let at : suc k - 1 ≡ k = omega arith in
    sym (ap (λ i. get_or (answers f n) i false) at) ∙ answers-at f n (suc k) one below

-- tests that agree at the vertices have one gain and one loss
pub gain-same : (p : Problem) (unit : ℕ) (x : List ℕ) (f g : ℕ → Bool) → HaveOneBorder p x f g → gain p unit f ≡ gain p unit g
gain-same p unit x f g one = ap (λ k. 2 * (unit * k)) one.demand

pub loss-same : (p : Problem) (unit : ℕ) (x : List ℕ) (f g : ℕ → Bool) → HaveOneBorder p x f g → loss p unit x f ≡ loss p unit x g
loss-same p unit x f g one =
    ap (λ k. p.capacity * (unit * k + parts_over p x f)) one.crossings ∙ ap (λ k. p.capacity * (unit * required_crossings p g + k)) one.parts

-- the side of a test, with the source
abbrev pub with_source : Problem → (ℕ → Bool) → ℕ → Bool
with_source p other v = (v == source p) || other v

abbrev pub side_with : Problem → (ℕ → Bool) → List Bool
side_with p other = answers (with_source p other) (source p)

or_false : (b c : Bool) → b ≡ false → (b || c) ≡ c
or_false true c is = cc
or_false false c is = refl

side_agrees : (p : Problem) (other : ℕ → Bool) (v : ℕ) → IsVertex p v → is_on (side_with p other) v ≡ other v
side_agrees p other v vertex =
    on_at (with_source p other) (source p) v vertex.from_one (omega (arith, vertex.in_range))
    ∙ or_false (v == source p) (other v) (ne_eqb v (source p) (λ same. omega (arith, same, vertex.in_range)))

is_side : (p : Problem) (other : ℕ → Bool) → IsValid p → other p.depot ≡ false → IsSide (side_with p other) (source p) p.depot
is_side p other valid out = record {
  source =
      on_at (with_source p other) (source p) (source p) (omega arith) (omega arith)
      ∙ or_left (source p == source p) (other (source p)) (eq-eqb (source p) (source p) refl);
  target = side_agrees p other p.depot valid.depot_in ∙ out;
}

pub least_law : EqualSetsHaveOneBorder → (p : Problem) (unit : ℕ) (x : List ℕ) (side : List Bool) → IsValid p → IsSide side (source p) p.depot →
    ((other : List Bool) → IsSide other (source p) p.depot → cut_room (network p unit x) side ≤ cut_room (network p unit x) other) →
    IsMostViolated p unit x (is_on side)
least_law one_border p unit x side valid is least = record {
  no_depot = is.target;
  most = λ other out.
      let also = is_side p other valid out in
      let border = one_border p x (is_on (side_with p other)) other valid (side_agrees p other) in
      omega (
        arith,
        cut_law p unit x side valid is,
        cut_law p unit x (side_with p other) valid also,
        least (side_with p other) also,
        gain-same p unit x (is_on (side_with p other)) other border,
        loss-same p unit x (is_on (side_with p other)) other border,
      );
}
