-- What it means that a set is opened: its children are outermost nodes, and matched.
use Rattle.std.proofs.Common.{◌≡◌, ◌≢◌, ◌⊎◌, ℕ, suc, ◌*◌, ◌-◌, ◌/◌, ◌%◌, ◌<◌, ◌≤◌, Bool, true, false, cond, List, Option, Some, slice_index, refl, sym, subst, ap, ◌∙◌, arith, inl, inr}
use Rattle.std.proofs.lemmas.Bool.{cases_eq, false≢true, false_from_ne_true}
use Rattle.blossom_match.specs.declared.costs.Costs.{Costs}
use Rattle.blossom_match.specs.declared.state.Pair.{Pair}
use Rattle.blossom_match.specs.Matching.{parts}
use Rattle.blossom_match.specs.Table.{cost}
use Rattle.blossom_match.specs.Views.{holds, turned, link_at, mate_at, between}
use Rattle.blossom_match.specs.Between.{IsCycle, AreSets, after}
use Rattle.blossom_match.specs.Cycles.{IsOpened, IsWhole}
use Rattle.blossom_match.proofs.Totals.{total-ext}
use Rattle.blossom_match.proofs.RowsAround.{turned_cycle, whole_len, placed}

parts_turned : (a b : Bool) → parts a b ≡ parts b a
parts_turned true true = refl
parts_turned true false = refl
parts_turned false true = refl
parts_turned false false = refl

pub between_turned : (n : ℕ) (held : List Bool) (halves : List ℕ) (u v : ℕ) → between n held halves u v ≡ between n held halves v u
between_turned n held halves u v =
    total-ext (2 * n) (λ s. cond (parts (holds n held s u) (holds n held s v)) (slice_index halves s) 0) (λ s. cond (parts (holds n held s v) (holds n held s u)) (slice_index halves s) 0)
    (λ s s_in. ap (λ b. cond b (slice_index halves s) 0) (parts_turned (holds n held s u) (holds n held s v)))

-- the child with which the child at a place is matched
pub record IsPartner (costs : Costs) (n : ℕ) (held : List Bool) (halves : List ℕ) (next : List ℕ) (base len : ℕ) (mate : List (Option Pair)) (k : ℕ) : Type 0 where
  pub pair : Pair
  pub other : ℕ
  pub near : ((k % 2 ≡ 1) × (other ≡ suc k)) ⊎ ((k % 2 ≡ 0) × (k ≡ suc other))
  pub other_some : 1 ≤ other
  pub other_in : other < len
  pub is : mate_at mate (after next k base) ≡ Some pair
  pub inside_in : pair.inside < n
  pub outside_in : pair.outside < n
  pub here : holds n held (after next k base) pair.inside ≡ true
  pub there : holds n held (after next other base) pair.outside ≡ true
  pub tight : between n held halves pair.inside pair.outside ≡ 2 * cost costs pair.inside pair.outside
  pub back : mate_at mate (after next other base) ≡ Some (turned pair)

-- a set is opened, and its children are numbered from the one that takes its pair
pub record IsOpening (costs : Costs) (n : ℕ) (held : List Bool) (halves : List ℕ) (child : List (Option ℕ)) (next : List ℕ) (link : List Pair) (s base : ℕ) (p : Pair)
    (top top' : List ℕ) (mate mate' : List (Option Pair)) : Type 0 where
  pub cycle : IsCycle costs n held halves child next link s base
  pub own : (k v : ℕ) → k < cycle.len → v < n → holds n held (after next k base) v ≡ true → slice_index top' v ≡ after next k base
  pub off : (v : ℕ) → v < n → holds n held s v ≡ false → slice_index top' v ≡ slice_index top v
  pub inside_in : p.inside < n
  pub base_holds : holds n held base p.inside ≡ true
  pub at_base : mate_at mate' base ≡ Some p
  pub partner : (k : ℕ) → 1 ≤ k → k < cycle.len → IsPartner costs n held halves next base cycle.len mate' k
  pub mates_off : (t : ℕ) → ((k : ℕ) → k < cycle.len → t ≢ after next k base) → mate_at mate' t ≡ mate_at mate t

odd_partner : (costs : Costs) (n : ℕ) (held : List Bool) (halves : List ℕ) (child : List (Option ℕ)) (next : List ℕ) (link : List Pair) (s base : ℕ) (mate : List (Option Pair)) →
    (y : IsCycle costs n held halves child next link s base) → (k i : ℕ) → 1 ≤ k → k < y.len → k ≡ suc (2 * i) →
    mate_at mate (after next k base) ≡ Some (link_at link (after next k base)) → mate_at mate (after next (suc k) base) ≡ Some (turned (link_at link (after next k base))) →
    IsPartner costs n held halves next base y.len mate k
odd_partner costs n held halves child next link s base mate y k i some k_in odd here there =
    let l = y.links k k_in in
    record {
      pair = link_at link (after next k base);
      other = suc k;
      near = inl (omega (arith, odd), refl);
      other_some = omega arith;
      other_in = omega (arith, odd, k_in, y.odd);
      is = here;
      inside_in = l.inside_in;
      outside_in = l.outside_in;
      here = l.leaves;
      there = l.enters;
      tight = l.tight;
      back = there;
    }

even_partner : (costs : Costs) (n : ℕ) (held : List Bool) (halves : List ℕ) (child : List (Option ℕ)) (next : List ℕ) (link : List Pair) (s base : ℕ) (mate : List (Option Pair)) →
    ((u v : ℕ) → u < n → v < n → cost costs u v ≡ cost costs v u) →
    (y : IsCycle costs n held halves child next link s base) → (k j : ℕ) → k < y.len → k % 2 ≡ 0 → 1 ≤ j → k ≡ suc j →
    mate_at mate (after next j base) ≡ Some (link_at link (after next j base)) → mate_at mate (after next k base) ≡ Some (turned (link_at link (after next j base))) →
    IsPartner costs n held halves next base y.len mate k
even_partner costs n held halves child next link s base mate same y k j k_in even some follows here there =
    let l = y.links j (omega (arith, k_in, follows)) in
    record {
      pair = turned (link_at link (after next j base));
      other = j;
      near = inr (even, follows);
      other_some = some;
      other_in = omega (arith, k_in, follows);
      is = there;
      inside_in = l.outside_in;
      outside_in = l.inside_in;
      here = ap (λ x. holds n held (after next x base) (link_at link (after next j base)).outside) follows ∙ l.enters;
      there = l.leaves;
      tight = between_turned n held halves (link_at link (after next j base)).outside (link_at link (after next j base)).inside ∙ l.tight
          ∙ ap (λ x. 2 * x) (same (link_at link (after next j base)).inside (link_at link (after next j base)).outside l.inside_in l.outside_in);
      back = here;
    }

parity_cases : (k : ℕ) → 1 ≤ k → ((k % 2 ≡ 1) × (k ≡ suc (2 * (k / 2)))) ⊎ ((k % 2 ≡ 0) × (k ≡ suc (suc (2 * (k / 2 - 1)))))
parity_cases k some = elim (cases_eq (k % 2) 1) [
  | inl odd ↦ inl (odd, omega (arith, odd))
  | inr other ↦ (let even : k % 2 ≡ 0 = omega (arith, other) in inr (even, omega (arith, even, some)))
]

-- what is asked of the set that is opened
pub record IsOpenable (costs : Costs) (n : ℕ) (held : List Bool) (halves : List ℕ) (child : List (Option ℕ)) (next : List ℕ) (link : List Pair) (s c : ℕ) (p : Pair) : Type 0 where
  pub sets : AreSets n held halves child
  pub same : (u v : ℕ) → u < n → v < n → cost costs u v ≡ cost costs v u
  pub cycle : IsCycle costs n held halves child next link s c
  pub inside_in : p.inside < n
  pub inside_held : holds n held s p.inside ≡ true

pub first_place : (costs : Costs) (n : ℕ) (held : List Bool) (halves : List ℕ) (child : List (Option ℕ)) (next : List ℕ) (link : List Pair) (s c : ℕ) (p : Pair) →
    IsOpenable costs n held halves child next link s c p → (len : ℕ) → IsWhole next len c → (k : ℕ) × (k < len) × (holds n held (after next k c) p.inside ≡ true)
first_place costs n held halves child next link s c p o len w =
    let i = o.cycle.covers p.inside o.inside_in o.inside_held in
    (i.0, omega (arith, i.1, whole_len costs n held halves child next link s c o.sets o.cycle len w), i.2)

opening_at : (costs : Costs) (n : ℕ) (held : List Bool) (halves : List ℕ) (child : List (Option ℕ)) (next : List ℕ) (link : List Pair) (s c base len : ℕ) (p : Pair)
    (top top' : List ℕ) (mate mate' : List (Option Pair)) → (o : IsOpenable costs n held halves child next link s c p) → IsOpened n held next link c len p top top' mate mate' → len ≡ o.cycle.len →
    slice_index top' p.inside ≡ base → holds n held base p.inside ≡ true → (z : IsCycle costs n held halves child next link s base) → z.len ≡ o.cycle.len →
    ((k : ℕ) → k < z.len → (j : ℕ) × (j < o.cycle.len) × (after next k base ≡ after next j c)) →
    IsOpening costs n held halves child next link s base p top top' mate mate'
opening_at costs n held halves child next link s c base len p top top' mate mate' o d len_is base_is base_on z z_is place =
    let odd : (i : ℕ) → i < len / 2 → mate_at mate' (after next (suc (2 * i)) base) ≡ Some (link_at link (after next (suc (2 * i)) base)) =
    subst (λ x. (i : ℕ) → i < len / 2 → mate_at mate' (after next (suc (2 * i)) x) ≡ Some (link_at link (after next (suc (2 * i)) x))) base_is d.odd in
    let even : (i : ℕ) → i < len / 2 → mate_at mate' (after next (suc (suc (2 * i))) base) ≡ Some (turned (link_at link (after next (suc (2 * i)) base))) =
    subst (λ x. (i : ℕ) → i < len / 2 → mate_at mate' (after next (suc (suc (2 * i))) x) ≡ Some (turned (link_at link (after next (suc (2 * i)) x)))) base_is d.even in
    let off : (t : ℕ) → t ≢ base → ((k : ℕ) → 1 ≤ k → k ≤ 2 * (len / 2) → t ≢ after next k base) → mate_at mate' t ≡ mate_at mate t =
    subst (λ x. (t : ℕ) → t ≢ x → ((k : ℕ) → 1 ≤ k → k ≤ 2 * (len / 2) → t ≢ after next k x) → mate_at mate' t ≡ mate_at mate t) base_is d.off in
    record {
      cycle = z;
      own = λ k v k_in v_in on.
          let j = place k k_in in
          d.released.own j.0 v (omega (arith, j.1, len_is)) v_in (ap (λ x. holds n held x v) (sym j.2) ∙ on) ∙ sym j.2;
      off = λ v v_in not_on. d.released.off v v_in (λ k k_in. false_from_ne_true (holds n held (after next k c) v) (λ on. false≢true (sym not_on ∙ o.cycle.inner k v (omega (arith, k_in, len_is)) v_in on)));
      inside_in = o.inside_in;
      base_holds = base_on;
      at_base = ap (λ x. mate_at mate' x) (sym base_is) ∙ d.at_base;
      partner = λ k some k_in. elim (parity_cases k some) [
        | inl is ↦ odd_partner costs n held halves child next link s base mate' z k (k / 2) some k_in is.1
            (subst (λ x. mate_at mate' (after next x base) ≡ Some (link_at link (after next x base))) (sym is.1) (odd (k / 2) (omega (arith, is.1, k_in, len_is, z_is, z.odd))))
            (subst (λ x. mate_at mate' (after next (suc x) base) ≡ Some (turned (link_at link (after next x base)))) (sym is.1) (even (k / 2) (omega (arith, is.1, k_in, len_is, z_is, z.odd))))
        | inr is ↦ even_partner costs n held halves child next link s base mate' o.same z k (suc (2 * (k / 2 - 1))) k_in is.0 (omega arith) is.1
            (odd (k / 2 - 1) (omega (arith, is.1, k_in, len_is, z_is, z.odd)))
            (subst (λ x. mate_at mate' (after next x base) ≡ Some (turned (link_at link (after next (suc (2 * (k / 2 - 1))) base)))) (sym is.1) (even (k / 2 - 1) (omega (arith, is.1, k_in, len_is, z_is, z.odd))))
      ];
      mates_off = λ t none. off t (none 0 (omega (arith, z.several))) (λ k some k_in. none k (omega (arith, k_in, len_is, z_is, z.odd)));
    }

pub opening_of : (costs : Costs) (n : ℕ) (held : List Bool) (halves : List ℕ) (child : List (Option ℕ)) (next : List ℕ) (link : List Pair) (s c len : ℕ) (p : Pair)
    (top top' : List ℕ) (mate mate' : List (Option Pair)) → IsOpenable costs n held halves child next link s c p → IsOpened n held next link c len p top top' mate mate' →
    (o : IsOpening costs n held halves child next link s (slice_index top' p.inside) p top top' mate mate') × (o.cycle.len ≡ len)
unfolding opening_at
opening_of costs n held halves child next link s c len p top top' mate mate' o d =
    let len_is = whole_len costs n held halves child next link s c o.sets o.cycle len d.whole in
    let i = o.cycle.covers p.inside o.inside_in o.inside_held in
    let base_is : slice_index top' p.inside ≡ after next i.0 c = d.released.own i.0 p.inside (omega (arith, i.1, len_is)) o.inside_in i.2 in
    let z = turned_cycle costs n held halves child next link s c o.cycle i.0 i.1 in
    let at : (o : IsOpening costs n held halves child next link s (after next i.0 c) p top top' mate mate') × (o.cycle.len ≡ len) = (
      opening_at costs n held halves child next link s c (after next i.0 c) len p top top' mate mate' o d len_is base_is i.2 z.0 z.1
          (λ k k_in. (let w = placed next o.cycle.len c o.cycle.closes k i.0 (omega (arith, k_in, z.1)) i.1 in (w.0, w.1, w.2))),
      z.1 ∙ sym len_is,
    ) in
    subst (λ x. (o : IsOpening costs n held halves child next link s x p top top' mate mate') × (o.cycle.len ≡ len)) (sym base_is) at
