-- A pair that is matched, and the mates on the way up.
use Rattle.std.proofs.Common.{◌≡◌, ◌≢◌, ◌⊎◌, ℕ, ◌<◌, List, Option, Some, None, IfSome, length, slice_index, set, refl, sym, subst, ap, ◌∙◌, arith, inl, inr}
use Rattle.std.proofs.lemmas.Bool.{cases_eq}
use Rattle.std.proofs.lemmas.List.{get_or-set_same, get_or-set_other}
use Rattle.std.proofs.Math.ListN.{length-set}
use Rattle.blossom_match.specs.declared.costs.Costs.{Costs}
use Rattle.blossom_match.specs.declared.state.State.{State}
use Rattle.blossom_match.specs.declared.state.Pair.{Pair}
use Rattle.blossom_match.specs.Table.{cost, IsTable}
use Rattle.blossom_match.specs.Views.{mate_at, turned}
use Rattle.blossom_match.specs.Between.{AreMatched, IsBetween, IsTight, IsMatched}
use Rattle.blossom_match.specs.Branching.{IsBranching}
use Rattle.blossom_match.proofs.Moving.{if_some_map, some_not_none}

-- all but the mates and the labels is the same
pub record IsRematched (before now : State) : Type 0 where
  pub size : now.size ≡ before.size
  pub held : now.held ≡ before.held
  pub halves : now.halves ≡ before.halves
  pub top : now.top ≡ before.top
  pub sums : now.sums ≡ before.sums
  pub child : now.child ≡ before.child
  pub next : now.next ≡ before.next
  pub link : now.link ≡ before.link
  pub entry : now.entry ≡ before.entry
  pub one_way : now.one_way ≡ before.one_way
  pub other_way : now.other_way ≡ before.other_way
  pub base : now.base ≡ before.base
  pub root : now.root ≡ before.root
  pub mate_len : length now.mate.items ≡ length before.mate.items
  pub label_len : length now.label.items ≡ length before.label.items

pub rematched : (costs : Costs) (before now : State) → IsRematched before now → AreMatched costs before.size before.top.items before.sums.items now.mate.items → IsBetween costs before → IsBetween costs now
rematched costs before now r matched b = record {
  shape = record {
    size_is = r.size ∙ b.shape.size_is;
    held_len = rw (r.held, r.size) b.shape.held_len;
    halves_len = rw (r.halves, r.size) b.shape.halves_len;
    top_len = rw (r.top, r.size) b.shape.top_len;
    sums_len = rw (r.sums, r.size) b.shape.sums_len;
    child_len = rw (r.child, r.size) b.shape.child_len;
    next_len = rw (r.next, r.size) b.shape.next_len;
    link_len = rw (r.link, r.size) b.shape.link_len;
    mate_len = r.mate_len ∙ rw r.size b.shape.mate_len;
    label_len = r.label_len ∙ rw r.size b.shape.label_len;
    entry_len = rw (r.entry, r.size) b.shape.entry_len;
    one_way_len = rw (r.one_way, r.size) b.shape.one_way_len;
    other_way_len = rw (r.other_way, r.size) b.shape.other_way_len;
    base_len = rw (r.base, r.size) b.shape.base_len;
  };
  sets = rw (r.size, r.held, r.halves, r.child) b.sets;
  tops = rw (r.size, r.held, r.top) b.tops;
  weights = rw (r.size, r.held, r.halves, r.top, r.sums) b.weights;
  cycles = rw (r.size, r.held, r.halves, r.child, r.next, r.link) b.cycles;
  matched = rw (r.size, r.top, r.sums) matched;
  based = rw (r.size, r.held, r.child, r.base) b.based;
}

abbrev pub pair : ℕ → ℕ → Pair
pair u v = record { inside = u; outside = v }

pub tight_turned : (costs : Costs) (n : ℕ) (top sums : List ℕ) (u v : ℕ) → (u < n → v < n → cost costs u v ≡ cost costs v u) → IsTight costs n top sums (pair u v) → IsTight costs n top sums (pair v u)
tight_turned costs n top sums u v same t = record {
  inside_in = t.outside_in;
  outside_in = t.inside_in;
  apart = λ e. t.apart (sym e);
  tight = omega (arith, t.tight, same t.inside_in t.outside_in);
}

-- two nodes are matched with each other, and the others stay or lose their mates
pub matched_anew : (costs : Costs) (n : ℕ) (top sums : List ℕ) (mate mate' : List (Option Pair)) (u v : ℕ) → AreMatched costs n top sums mate → IsTight costs n top sums (pair u v) → IsTight costs n top sums (pair v u) →
    mate_at mate' (slice_index top u) ≡ Some (pair u v) → mate_at mate' (slice_index top v) ≡ Some (pair v u) →
    ((w : ℕ) → w < n → slice_index top w ≢ slice_index top u → slice_index top w ≢ slice_index top v →
    (mate_at mate' (slice_index top w) ≡ None) ⊎ ((mate_at mate' (slice_index top w) ≡ mate_at mate (slice_index top w)) ×
    ((p : Pair) → mate_at mate (slice_index top w) ≡ Some p → IsMatched costs n top sums mate (slice_index top w) p → mate_at mate' (slice_index top p.outside) ≡ mate_at mate (slice_index top p.outside)))) →
    AreMatched costs n top sums mate'
matched_anew costs n top sums mate mate' u v matched tight back at_u at_v others = λ w w_in. elim (cases_eq (slice_index top w) (slice_index top u)) [
  | inl e ↦ subst (λ s. IfSome (mate_at mate' s) (IsMatched costs n top sums mate' s)) (sym e)
      (subst (λ o. IfSome o (IsMatched costs n top sums mate' (slice_index top u))) (sym at_u) (record { tight = tight; here = refl; back = at_v }))
  | inr not_u ↦ elim (cases_eq (slice_index top w) (slice_index top v)) [
    | inl e ↦ subst (λ s. IfSome (mate_at mate' s) (IsMatched costs n top sums mate' s)) (sym e)
        (subst (λ o. IfSome o (IsMatched costs n top sums mate' (slice_index top v))) (sym at_v) (record { tight = back; here = refl; back = at_u }))
    | inr not_v ↦ elim (others w w_in not_u not_v) [
      | inl none ↦ subst (λ o. IfSome o (IsMatched costs n top sums mate' (slice_index top w))) (sym none) tt
      | inr same ↦ subst (λ o. IfSome o (IsMatched costs n top sums mate' (slice_index top w))) (sym same.0)
          (if_some_map (mate_at mate (slice_index top w)) (IsMatched costs n top sums mate (slice_index top w)) (IsMatched costs n top sums mate' (slice_index top w))
          (λ p is m. record { tight = m.tight; here = m.here; back = same.1 p is m ∙ m.back }) (matched w w_in))
    ]
  ]
]

pub none_or_some : (o : Option Pair) (p : Pair) → o ≡ None → o ≡ Some p → ⊥
none_or_some o p none some = some_not_none p (sym some ∙ none)

pub some_same : (p q : Pair) → Some p ≡ Some q → p ≡ q
some_same p q e = cc

-- both nodes had no mate
pub closed : (costs : Costs) (before now : State) (u v : ℕ) → IsTable costs → IsBranching costs before u v → mate_at before.mate.items (slice_index before.top.items u) ≡ None →
    IsRematched before now → now.mate.items ≡ set (set before.mate.items (slice_index before.top.items u) (Some (pair u v))) (slice_index before.top.items v) (Some (pair v u)) → IsBetween costs now
closed costs before now u v table b none r is =
    let n = before.size in
    let top = before.top.items in
    let mate = before.mate.items in
    let o = slice_index before.top.items u in
    let t = slice_index before.top.items v in
    let o_in : o < length mate = omega (arith, b.so_far.tops.top_in u b.tight.inside_in, b.so_far.shape.mate_len) in
    let t_in : t < length (set mate o (Some (pair u v))) = omega (arith, b.so_far.tops.top_in v b.tight.outside_in, b.so_far.shape.mate_len, length-set mate o (Some (pair u v))) in
    let off : (s : ℕ) → s ≢ o → s ≢ t → mate_at (set (set mate o (Some (pair u v))) t (Some (pair v u))) s ≡ mate_at mate s =
    λ s not_o not_t. get_or-set_other (set mate o (Some (pair u v))) t s (Some (pair v u)) None not_t ∙ get_or-set_other mate o s (Some (pair u v)) None not_o in
    let same : u < n → v < n → cost costs u v ≡ cost costs v u = λ p q. table.same u v (omega (arith, b.so_far.shape.size_is, p)) (omega (arith, b.so_far.shape.size_is, q)) in
    rematched costs before now r
    (rw is (matched_anew costs n top before.sums.items mate (set (set mate o (Some (pair u v))) t (Some (pair v u))) u v b.so_far.matched b.tight
    (tight_turned costs n top before.sums.items u v same b.tight)
    (get_or-set_other (set mate o (Some (pair u v))) t o (Some (pair v u)) None b.tight.apart ∙ get_or-set_same mate o (Some (pair u v)) None o_in)
    (get_or-set_same (set mate o (Some (pair u v))) t (Some (pair v u)) None t_in)
    (λ w w_in not_o not_t. inr (
      off (slice_index top w) not_o not_t,
      λ p p_is m.
          off (slice_index top p.outside)
          (λ e. none_or_some (mate_at mate (slice_index top p.outside)) (turned p) (ap (λ x. mate_at mate x) e ∙ none) m.back)
          (λ e. none_or_some (mate_at mate (slice_index top p.outside)) (turned p) (ap (λ x. mate_at mate x) e ∙ b.unmatched) m.back),
    ))))
    b.so_far
