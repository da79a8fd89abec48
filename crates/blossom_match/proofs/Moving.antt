-- A raise by a lawful amount keeps all that holds between two turns.
use Rattle.std.proofs.Common.{◌≡◌, ◌≢◌, ℕ, suc, ◌+◌, ◌*◌, ◌%◌, ◌<◌, ◌≤◌, Bool, true, List, Option, Some, None, IfSome, IsSomeAnd, length, slice_index, refl, sym, subst, ap, ◌∙◌, arith, inl, inr}
use Rattle.std.proofs.lemmas.Bool.{cases_eq, false≢true}
use Rattle.blossom_match.specs.declared.costs.Costs.{Costs}
use Rattle.blossom_match.specs.declared.state.State.{State}
use Rattle.blossom_match.specs.declared.state.Pair.{Pair}
use Rattle.blossom_match.specs.declared.state.Label.{Label}
use Rattle.blossom_match.specs.declared.state.Label.TheVariants.{Free, Outer, Inner}
use Rattle.blossom_match.specs.Table.{cost, IsTable}
use Rattle.blossom_match.specs.Views.{holds, held_sum, label_at, mate_at, link_at, child_at, turned, to_do}
use Rattle.blossom_match.specs.Between.{AreTops, AreSets, AreWeights, AreCycles, AreMatched, DoPack, IsCycle, IsLink, IsMatched, IsTight, IsTree, IsReached, IsShape, IsSearching, after}
use Rattle.blossom_match.specs.Turns.{FitsMoved, IsLawful, IsMoved, moved}
use Rattle.blossom_match.proofs.Raising.{Raised, free_or_not, pack_cases, even_alike, even_both, kept_sums, enough_sum, between_apart, between_inside, outer_not_free, inner_not_free, top_below}

-- labels that balance each other
abbrev pub Bal : Label → Label → Type 0
Bal Free Free = Unit {0}
Bal Outer Inner = Unit {0}
Bal Inner Outer = Unit {0}
Bal Free Outer = ⊥
Bal Free Inner = ⊥
Bal Outer Free = ⊥
Bal Outer Outer = ⊥
Bal Inner Free = ⊥
Bal Inner Inner = ⊥

bal_from : (l m : Label) → l ≡ Free → m ≡ Free → Bal l m
bal_from Free Free p q = tt
bal_from Free Outer p q = absurd (outer_not_free q)
bal_from Free Inner p q = absurd (inner_not_free q)
bal_from Outer m p q = absurd (outer_not_free p)
bal_from Inner m p q = absurd (inner_not_free p)

inner_not_outer : Inner ≡ Outer → ⊥
inner_not_outer e = cc

bal_down : (l m : Label) → l ≡ Outer → m ≡ Inner → Bal l m
bal_down Outer Inner p q = tt
bal_down Outer Free p q = absurd (inner_not_free (sym q))
bal_down Outer Outer p q = absurd (inner_not_outer (sym q))
bal_down Free m p q = absurd (outer_not_free (sym p))
bal_down Inner m p q = absurd (inner_not_outer p)

bal_up : (l m : Label) → l ≡ Inner → m ≡ Outer → Bal l m
bal_up Inner Outer p q = tt
bal_up Inner Free p q = absurd (outer_not_free (sym q))
bal_up Inner Inner p q = absurd (inner_not_outer q)
bal_up Free m p q = absurd (inner_not_free (sym p))
bal_up Outer m p q = absurd (inner_not_outer (sym p))

balanced_sum : (l m : Label) (x y amount : ℕ) → Bal l m → (l ≡ Inner → amount ≤ x) → (m ≡ Inner → amount ≤ y) → moved l x amount + moved m y amount ≡ x + y
balanced_sum Free Free x y amount bal p q = refl
balanced_sum Outer Inner x y amount bal p q = let e = q refl in omega (arith, e)
balanced_sum Inner Outer x y amount bal p q = let e = p refl in omega (arith, e)
balanced_sum Free Outer x y amount bal p q = absurd bal
balanced_sum Free Inner x y amount bal p q = absurd bal
balanced_sum Outer Free x y amount bal p q = absurd bal
balanced_sum Outer Outer x y amount bal p q = absurd bal
balanced_sum Inner Free x y amount bal p q = absurd bal
balanced_sum Inner Inner x y amount bal p q = absurd bal

pub if_some_map : (o : Option Pair) (P Q : Pair → Type 0) → ((p : Pair) → o ≡ Some p → P p → Q p) → IfSome o P → IfSome o Q
if_some_map None P Q f h = tt
if_some_map (Some p) P Q f h = f p refl h

pub is_some_map : (o : Option Pair) (P Q : Pair → Type 0) → ((p : Pair) → o ≡ Some p → P p → Q p) → IsSomeAnd o P → IsSomeAnd o Q
is_some_map None P Q f h = absurd h
is_some_map (Some p) P Q f h = f p refl h

pub is_some_at : (o : Option Pair) (P : Pair → Type 0) (p : Pair) → o ≡ Some p → IsSomeAnd o P → P p
is_some_at o P p is h = subst (λ x. IsSomeAnd x P) is h

pub some_not_none : (p : Pair) → Some p ≡ None → ⊥
some_not_none p e = cc

outer_next : (costs : Costs) (n : ℕ) (top sums : List ℕ) (mate : List (Option Pair)) (label : List Label) (entry : List Pair) (root : ℕ) → IsTree costs n top sums mate label entry root →
    (s : ℕ) (p : Pair) → s < 2 * n → mate_at mate s ≡ Some p → label_at label s ≡ Outer → label_at label (slice_index top p.outside) ≡ Inner
outer_next costs n top sums mate label entry root tree s p s_in is outer = elim (tree.outer s s_in outer) [
  | inl at_root ↦ absurd (some_not_none p (sym is ∙ ap (λ x. mate_at mate x) at_root ∙ tree.root_open))
  | inr some ↦ is_some_at (mate_at mate s) (λ q. label_at label (slice_index top q.outside) ≡ Inner) p is some
]

inner_next : (costs : Costs) (n : ℕ) (top sums : List ℕ) (mate : List (Option Pair)) (label : List Label) (entry : List Pair) (root : ℕ) → IsTree costs n top sums mate label entry root →
    (s : ℕ) (p : Pair) → s < 2 * n → mate_at mate s ≡ Some p → label_at label s ≡ Inner → label_at label (slice_index top p.outside) ≡ Outer
inner_next costs n top sums mate label entry root tree s p s_in is inner =
    (is_some_at (mate_at mate s) (IsReached costs n top sums label (link_at entry s) s) p is (tree.inner s s_in inner)).below

pub label_cases : (l : Label) (P : Type 0) → (l ≡ Free → P) → (l ≡ Outer → P) → (l ≡ Inner → P) → P
label_cases Free P a b c = a refl
label_cases Outer P a b c = b refl
label_cases Inner P a b c = c refl

-- matched nodes are both outside the tree, or one is outer and one inner
pub matched_balance : (costs : Costs) (n : ℕ) (held : List Bool) (top sums : List ℕ) (mate : List (Option Pair)) (label : List Label) (entry : List Pair) (root : ℕ) →
    AreTops n held top → IsTree costs n top sums mate label entry root →
    (s : ℕ) (p : Pair) → s < 2 * n → mate_at mate s ≡ Some p → IsMatched costs n top sums mate s p →
    Bal (label_at label (slice_index top p.inside)) (label_at label (slice_index top p.outside))
matched_balance costs n held top sums mate label entry root tops tree s p s_in is m =
    let l = label_at label s in
    let t = slice_index top p.outside in
    let t_in = tops.top_in p.outside m.tight.outside_in in
    let here : label_at label (slice_index top p.inside) ≡ label_at label s = ap (λ x. label_at label x) m.here in
    label_cases (label_at label s) (Bal (label_at label (slice_index top p.inside)) (label_at label t))
    (λ free. label_cases (label_at label t) (Bal (label_at label (slice_index top p.inside)) (label_at label t))
    (λ also. bal_from (label_at label (slice_index top p.inside)) (label_at label t) (here ∙ free) also)
    (λ outer. absurd (inner_not_free (sym (outer_next costs n top sums mate label entry root tree t (turned p) t_in m.back outer) ∙ here ∙ free)))
    (λ inner. absurd (outer_not_free (sym (inner_next costs n top sums mate label entry root tree t (turned p) t_in m.back inner) ∙ here ∙ free))))
    (λ outer. bal_down (label_at label (slice_index top p.inside)) (label_at label t) (here ∙ outer) (outer_next costs n top sums mate label entry root tree s p s_in is outer))
    (λ inner. bal_up (label_at label (slice_index top p.inside)) (label_at label t) (here ∙ inner) (inner_next costs n top sums mate label entry root tree s p s_in is inner))

-- a tight pair between balanced nodes stays tight
tight_kept : (costs : Costs) (n : ℕ) (held : List Bool) (halves halves' top sums sums' : List ℕ) (label : List Label) (amount : ℕ) → Raised n held halves halves' top sums sums' label amount →
    (p : Pair) → Bal (label_at label (slice_index top p.inside)) (label_at label (slice_index top p.outside)) → IsTight costs n top sums p → IsTight costs n top sums' p
tight_kept costs n held halves halves' top sums sums' label amount r p bal t = record {
  inside_in = t.inside_in;
  outside_in = t.outside_in;
  apart = t.apart;
  tight =
      omega (
        arith,
        r.new_sums p.inside t.inside_in,
        r.new_sums p.outside t.outside_in,
        t.tight,
        balanced_sum (label_at label (slice_index top p.inside)) (label_at label (slice_index top p.outside)) (slice_index sums p.inside) (slice_index sums p.outside) amount bal
            (enough_sum n held halves halves' top sums sums' label amount r p.inside t.inside_in) (enough_sum n held halves halves' top sums sums' label amount r p.outside t.outside_in),
      );
}

sets_kept : (n : ℕ) (held : List Bool) (halves halves' top sums sums' : List ℕ) (label : List Label) (amount : ℕ) → Raised n held halves halves' top sums sums' label amount →
    (child : List (Option ℕ)) → AreSets n held halves child → AreSets n held halves' child
sets_kept n held halves halves' top sums sums' label amount r child sets = record {
  odd = sets.odd;
  laminar = sets.laminar;
  distinct = sets.distinct;
  empty = sets.empty;
  weightless = λ s s_in unused. elim (free_or_not (label_at label s)) [
    | inl free ↦ r.new_halves s s_in ∙ ap (λ l. moved l (slice_index halves s) amount) free ∙ sets.weightless s s_in unused
    | inr labelled ↦
        let w = r.outermost s s_in labelled in
        let own : holds n held s w.0 ≡ true = subst (λ x. holds n held x w.0 ≡ true) w.2 (r.tops.own w.0 w.1) in
        absurd (false≢true (sym (sets.empty s w.0 s_in w.1 unused) ∙ own))
  ];
}

-- the packing is kept
packing_kept : (costs : Costs) (n : ℕ) (held : List Bool) (halves halves' top sums sums' : List ℕ) (label : List Label) (amount : ℕ) → Raised n held halves halves' top sums sums' label amount →
    ((u v : ℕ) → u < n → v < n → cost costs u v ≡ cost costs v u) → DoPack costs n held halves →
    ((u v : ℕ) → u < n → v < n → slice_index top u ≢ slice_index top v → label_at label (slice_index top u) ≡ Outer → label_at label (slice_index top v) ≡ Outer → slice_index sums u + slice_index sums v + 2 * amount ≤ 2 * cost costs u v) →
    ((u v : ℕ) → u < n → v < n → label_at label (slice_index top u) ≡ Outer → label_at label (slice_index top v) ≡ Free → slice_index sums u + slice_index sums v + amount ≤ 2 * cost costs u v) →
    DoPack costs n held halves'
packing_kept costs n held halves halves' top sums sums' label amount r both packs meets reaches = λ u v u_in v_in other. elim (cases_eq (slice_index top u) (slice_index top v)) [
  | inl same ↦ omega (arith, between_inside n held halves halves' top sums sums' label amount r u v u_in v_in same, packs u v u_in v_in other)
  | inr apart ↦
      let before : slice_index sums u + slice_index sums v ≤ 2 * cost costs u v =
      omega (arith, packs u v u_in v_in other, between_apart n held top halves r.tops u v u_in v_in apart, r.kept u u_in, r.kept v v_in) in
      omega (
        arith,
        between_apart n held top halves' r.tops u v u_in v_in apart,
        kept_sums n held halves halves' top sums sums' label amount r u u_in,
        kept_sums n held halves halves' top sums sums' label amount r v v_in,
        r.new_sums u u_in,
        r.new_sums v v_in,
        pack_cases (label_at label (slice_index top u)) (label_at label (slice_index top v)) (slice_index sums u) (slice_index sums v) amount (2 * cost costs u v)
            (enough_sum n held halves halves' top sums sums' label amount r u u_in) (enough_sum n held halves halves' top sums sums' label amount r v v_in) before
            (meets u v u_in v_in apart) (reaches u v u_in v_in)
            (λ at_v at_u. omega (arith, reaches v u v_in u_in at_v at_u, both u v u_in v_in)),
      )
]

weights_kept : (costs : Costs) (n : ℕ) (held : List Bool) (halves halves' top sums sums' : List ℕ) (label : List Label) (amount : ℕ) → Raised n held halves halves' top sums sums' label amount →
    AreWeights costs n held halves top sums → DoPack costs n held halves' → AreWeights costs n held halves' top sums'
weights_kept costs n held halves halves' top sums sums' label amount r w packs = record {
  kept = kept_sums n held halves halves' top sums sums' label amount r;
  packing = packs;
  parity = λ u v u_in v_in same.
      let l = label_at label (slice_index top u) in
      let new_v : slice_index sums' v ≡ moved (label_at label (slice_index top u)) (slice_index sums v) amount = r.new_sums v v_in ∙ ap (λ t. moved (label_at label t) (slice_index sums v) amount) (sym same) in
      let even = even_alike (label_at label (slice_index top u)) (slice_index sums u) (slice_index sums v) amount
      (λ inner. (
        enough_sum n held halves halves' top sums sums' label amount r u u_in inner,
        enough_sum n held halves halves' top sums sums' label amount r v v_in (ap (λ t. label_at label t) (sym same) ∙ inner),
      )) (w.parity u v u_in v_in same) in
      subst (λ x. (x + slice_index sums' v) % 2 ≡ 0) (sym (r.new_sums u u_in))
      (subst (λ x. (moved (label_at label (slice_index top u)) (slice_index sums u) amount + x) % 2 ≡ 0) (sym new_v) even);
}

link_kept : (costs : Costs) (n : ℕ) (held : List Bool) (halves halves' top sums sums' : List ℕ) (label : List Label) (amount : ℕ) → Raised n held halves halves' top sums sums' label amount →
    (p : Pair) (part following : ℕ) → slice_index top p.inside ≡ slice_index top p.outside → IsLink costs n held halves p part following → IsLink costs n held halves' p part following
link_kept costs n held halves halves' top sums sums' label amount r p part following same k = record {
  inside_in = k.inside_in;
  outside_in = k.outside_in;
  leaves = k.leaves;
  enters = k.enters;
  tight = between_inside n held halves halves' top sums sums' label amount r p.inside p.outside k.inside_in k.outside_in same ∙ k.tight;
}

-- the next child of a set holds only members of the set
next_inner : (costs : Costs) (n : ℕ) (held : List Bool) (halves : List ℕ) (child : List (Option ℕ)) (next : List ℕ) (link : List Pair) (s c : ℕ) → (y : IsCycle costs n held halves child next link s c) →
    (k v : ℕ) → k < y.len → v < n → holds n held (after next (suc k) c) v ≡ true → holds n held s v ≡ true
next_inner costs n held halves child next link s c y k v k_in v_in on = elim (cases_eq (suc k) y.len) [
  | inl last ↦
      let first : after next (suc k) c ≡ c = ap (λ j. after next j c) last ∙ y.closes in
      y.inner 0 v (omega (arith, y.several)) v_in (subst (λ x. holds n held x v ≡ true) first on)
  | inr more ↦ y.inner (suc k) v (omega arith) v_in on
]

cycle_kept : (costs : Costs) (n : ℕ) (held : List Bool) (halves halves' top sums sums' : List ℕ) (label : List Label) (amount : ℕ) → Raised n held halves halves' top sums sums' label amount →
    (child : List (Option ℕ)) (next : List ℕ) (link : List Pair) (s c : ℕ) → s < 2 * n → IsCycle costs n held halves child next link s c → IsCycle costs n held halves' child next link s c
cycle_kept costs n held halves halves' top sums sums' label amount r child next link s c s_in y = record {
  len = y.len;
  odd = y.odd;
  several = y.several;
  closes = y.closes;
  in_slots = y.in_slots;
  used = y.used;
  inner = y.inner;
  covers = y.covers;
  disjoint = y.disjoint;
  links = λ k k_in.
      let at = y.links k k_in in
      let p = link_at link (after next k c) in
      link_kept costs n held halves halves' top sums sums' label amount r (link_at link (after next k c)) (after next k c) (after next (suc k) c)
      (r.tops.inside s (link_at link (after next k c)).inside (link_at link (after next k c)).outside s_in at.inside_in at.outside_in
      (y.inner k (link_at link (after next k c)).inside k_in at.inside_in at.leaves)
      (next_inner costs n held halves child next link s c y k (link_at link (after next k c)).outside k_in at.outside_in at.enters))
      at;
}

if_some_nat : (o : Option ℕ) (P Q : ℕ → Type 0) → ((p : ℕ) → P p → Q p) → IfSome o P → IfSome o Q
if_some_nat None P Q f h = tt
if_some_nat (Some p) P Q f h = f p h

cycles_kept : (costs : Costs) (n : ℕ) (held : List Bool) (halves halves' top sums sums' : List ℕ) (label : List Label) (amount : ℕ) → Raised n held halves halves' top sums sums' label amount →
    (child : List (Option ℕ)) (next : List ℕ) (link : List Pair) → AreCycles costs n held halves child next link → AreCycles costs n held halves' child next link
cycles_kept costs n held halves halves' top sums sums' label amount r child next link y = record {
  single = y.single;
  no_child = y.no_child;
  larger = λ s s_in. if_some_nat (child_at child s) (IsCycle costs n held halves child next link s) (IsCycle costs n held halves' child next link s)
      (λ c at. cycle_kept costs n held halves halves' top sums sums' label amount r child next link s c s_in at) (y.larger s s_in);
}

matched_kept : (costs : Costs) (n : ℕ) (held : List Bool) (halves halves' top sums sums' : List ℕ) (label : List Label) (amount : ℕ) → Raised n held halves halves' top sums sums' label amount →
    (mate : List (Option Pair)) (entry : List Pair) (root : ℕ) → IsTree costs n top sums mate label entry root → AreMatched costs n top sums mate → AreMatched costs n top sums' mate
matched_kept costs n held halves halves' top sums sums' label amount r mate entry root tree matched = λ v v_in.
    if_some_map (mate_at mate (slice_index top v)) (IsMatched costs n top sums mate (slice_index top v)) (IsMatched costs n top sums' mate (slice_index top v))
    (λ p is m. record {
      tight = tight_kept costs n held halves halves' top sums sums' label amount r p
          (matched_balance costs n held top sums mate label entry root r.tops tree (slice_index top v) p (r.tops.top_in v v_in) is m) m.tight;
      here = m.here;
      back = m.back;
    }) (matched v v_in)

tree_kept : (costs : Costs) (n : ℕ) (held : List Bool) (halves halves' top sums sums' : List ℕ) (label : List Label) (amount : ℕ) → Raised n held halves halves' top sums sums' label amount →
    (mate : List (Option Pair)) (entry : List Pair) (root : ℕ) → IsTree costs n top sums mate label entry root → IsTree costs n top sums' mate label entry root
tree_kept costs n held halves halves' top sums sums' label amount r mate entry root tree = record {
  root_in = tree.root_in;
  root_outer = tree.root_outer;
  root_open = tree.root_open;
  outermost = tree.outermost;
  outer = tree.outer;
  inner = λ s s_in inner.
      is_some_map (mate_at mate s) (IsReached costs n top sums label (link_at entry s) s) (IsReached costs n top sums' label (link_at entry s) s)
      (λ p is e. record {
        entry_tight = tight_kept costs n held halves halves' top sums sums' label amount r (link_at entry s)
            (bal_up (label_at label (slice_index top (link_at entry s).inside)) (label_at label (slice_index top (link_at entry s).outside)) (ap (λ x. label_at label x) e.entry_here ∙ inner) e.above) e.entry_tight;
        entry_here = e.entry_here;
        above = e.above;
        below = e.below;
        forks = e.forks;
      }) (tree.inner s s_in inner);
  parity = λ u v u_in v_in at_u at_v.
      let even = even_both (label_at label (slice_index top u)) (label_at label (slice_index top v)) (slice_index sums u) (slice_index sums v) amount at_u at_v
      (enough_sum n held halves halves' top sums sums' label amount r u u_in) (enough_sum n held halves halves' top sums sums' label amount r v v_in) (tree.parity u v u_in v_in at_u at_v) in
      subst (λ x. (x + slice_index sums' v) % 2 ≡ 0) (sym (r.new_sums u u_in))
      (subst (λ x. (moved (label_at label (slice_index top u)) (slice_index sums u) amount + x) % 2 ≡ 0) (sym (r.new_sums v v_in)) even);
  depth = tree.depth;
  deeper = tree.deeper;
}

shape_kept : (costs : Costs) (before now : State) (amount : ℕ) → IsMoved amount before now → IsShape costs before → IsShape costs now
shape_kept costs before now amount m s = record {
  size_is = m.size ∙ s.size_is;
  held_len = rw (m.held, m.size) s.held_len;
  halves_len = m.halves_len ∙ rw m.size s.halves_len;
  top_len = rw (m.top, m.size) s.top_len;
  sums_len = m.sums_len ∙ rw m.size s.sums_len;
  child_len = rw (m.child, m.size) s.child_len;
  next_len = rw (m.next, m.size) s.next_len;
  link_len = rw (m.link, m.size) s.link_len;
  mate_len = rw (m.mate, m.size) s.mate_len;
  label_len = rw (m.label, m.size) s.label_len;
  entry_len = rw (m.entry, m.size) s.entry_len;
  one_way_len = rw (m.one_way, m.size) s.one_way_len;
  other_way_len = rw (m.other_way, m.size) s.other_way_len;
  base_len = rw (m.base, m.size) s.base_len;
}

pub raised_by : (costs : Costs) (before now : State) (amount : ℕ) → IsSearching costs before → IsLawful costs before amount → IsMoved amount before now →
    Raised before.size before.held.items before.halves.items now.halves.items before.top.items before.sums.items now.sums.items before.label.items amount
raised_by costs before now amount s lawful m = record {
  tops = s.so_far.tops;
  outermost = s.tree.outermost;
  kept = s.so_far.weights.kept;
  enough = lawful.enough;
  new_halves = m.halves;
  new_sums = m.sums;
}

pub searching_kept : (costs : Costs) (before now : State) (amount : ℕ) → IsTable costs → IsSearching costs before → IsLawful costs before amount → IsMoved amount before now → IsSearching costs now
searching_kept costs before now amount table s lawful m =
    let n = before.size in
    let held = before.held.items in
    let halves = before.halves.items in
    let top = before.top.items in
    let sums = before.sums.items in
    let label = before.label.items in
    let r = raised_by costs before now amount s lawful m in
    let both : (u v : ℕ) → u < n → v < n → cost costs u v ≡ cost costs v u =
    λ u v u_in v_in. table.same u v (omega (arith, s.so_far.shape.size_is, u_in)) (omega (arith, s.so_far.shape.size_is, v_in)) in
    let packs = packing_kept costs n held halves now.halves.items top sums now.sums.items label amount r both s.so_far.weights.packing lawful.meets lawful.reaches in
    record {
      so_far = record {
        shape = shape_kept costs before now amount m s.so_far.shape;
        sets = rw (m.size, m.held, m.child) (sets_kept n held halves now.halves.items top sums now.sums.items label amount r before.child.items s.so_far.sets);
        tops = rw (m.size, m.held, m.top) s.so_far.tops;
        weights = rw (m.size, m.held, m.top) (weights_kept costs n held halves now.halves.items top sums now.sums.items label amount r s.so_far.weights packs);
        cycles = rw (m.size, m.held, m.child, m.next, m.link)
            (cycles_kept costs n held halves now.halves.items top sums now.sums.items label amount r before.child.items before.next.items before.link.items s.so_far.cycles);
        matched = rw (m.size, m.top, m.mate) (matched_kept costs n held halves now.halves.items top sums now.sums.items label amount r before.mate.items before.entry.items before.root s.tree s.so_far.matched);
        based = rw (m.size, m.held, m.child, m.base) s.so_far.based;
      };
      tree = rw (m.size, m.top, m.mate, m.label, m.entry, m.root) (tree_kept costs n held halves now.halves.items top sums now.sums.items label amount r before.mate.items before.entry.items before.root s.tree);
    }

pub to_do_kept : (before now : State) (amount : ℕ) → IsMoved amount before now → to_do now ≡ to_do before
unfolding to_do
to_do_kept before now amount m = rw (m.size, m.held, m.top, m.child, m.label) refl

fits_case : (l : Label) (x amount : ℕ) → (l ≡ Outer → x + amount < 18446744073709551616) → (l ≡ Inner → amount ≤ x) → FitsMoved l x amount
fits_case Free x amount outer inner = tt
fits_case Outer x amount outer inner = outer refl
fits_case Inner x amount outer inner = inner refl

pub fits_halves : (costs : Costs) (before : State) (amount : ℕ) → IsSearching costs before → IsLawful costs before amount →
    (s : ℕ) → s < length before.halves.items → FitsMoved (label_at before.label.items s) (slice_index before.halves.items s) amount
fits_halves costs before amount searching lawful s s_in =
    let below : s < 2 * before.size = omega (arith, searching.so_far.shape.halves_len, s_in) in
    fits_case (label_at before.label.items s) (slice_index before.halves.items s) amount
    (λ outer.
    let w = searching.tree.outermost s below (λ free. outer_not_free (sym outer ∙ free)) in
    let at : label_at before.label.items (slice_index before.top.items w.0) ≡ Outer = ap (λ x. label_at before.label.items x) w.2 ∙ outer in
    let part : slice_index before.halves.items s ≤ held_sum before.size before.held.items before.halves.items w.0 =
    subst (λ x. slice_index before.halves.items x ≤ held_sum before.size before.held.items before.halves.items w.0) w.2
    (top_below before.size before.held.items before.halves.items before.top.items searching.so_far.tops w.0 w.1) in
    omega (arith, part, searching.so_far.weights.kept w.0 w.1, lawful.fits w.0 w.1 at))
    (lawful.enough s below)

pub fits_sums : (costs : Costs) (before : State) (amount : ℕ) → IsSearching costs before → IsLawful costs before amount →
    (v : ℕ) → v < length before.sums.items → FitsMoved (label_at before.label.items (slice_index before.top.items v)) (slice_index before.sums.items v) amount
fits_sums costs before amount searching lawful v v_in =
    let below : v < before.size = omega (arith, searching.so_far.shape.sums_len, v_in) in
    let top = slice_index before.top.items v in
    fits_case (label_at before.label.items (slice_index before.top.items v)) (slice_index before.sums.items v) amount
    (λ outer. omega (arith, lawful.fits v below outer))
    (λ inner. omega (
      arith,
      lawful.enough (slice_index before.top.items v) (searching.so_far.tops.top_in v below) inner,
      top_below before.size before.held.items before.halves.items before.top.items searching.so_far.tops v below,
      searching.so_far.weights.kept v below,
    ))
