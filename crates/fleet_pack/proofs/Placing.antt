-- One more item in its group.
use Rattle.std.proofs.Common.{◌≡◌, ◌≢◌, ℕ, zero, suc, ◌+◌, ◌-◌, ◌≤◌, ◌<◌, ◌==◌, false, if◌then◌else◌, List, [], ◌∷◌, ◌++◌, length, get_or, set, drop, take, refl, sym, ap, ◌∙◌, subst, arith, inl, inr}
use Rattle.std.specs.Prelude.{slice_index}
use Rattle.std.proofs.lemmas.List.Elements.{All-tail, All-head}
use Rattle.std.proofs.lemmas.List.{length-set, length_push, get_or-set_same, get_or-set_other, get_or_past, get_or_push, get_or_append_left, drop_more}
use Rattle.std.proofs.Math.Seq.{take-append_seam}
use Rattle.std.proofs.lemmas.Bool.{cases_eq, cases_lt, eq-eqb, ne_eqb, le-leb, lt-leb}
use Rattle.carp_base.specs.Problem.{Problem, IsRequired}
use Rattle.carp_base.specs.Packings.{IsGroup, IsPacking, group_of, demand_in, group_load}
use Rattle.fleet_pack.specs.declared.item.Item.{Item}
use Rattle.fleet_pack.specs.FirstFit.{demand_of, put_demand, loads_after}
use Rattle.fleet_pack.specs.Groups.{IsFirstRoom, IsItem, IsPlaced, IsPut, times, demands_of}

-- A demand among loads.

put_at : (capacity demand : ℕ) (loads : List ℕ) (place : ℕ) → IsFirstRoom capacity demand loads place → place < length loads →
    set loads place (slice_index loads place + demand) ≡ put_demand capacity demand loads
put_at capacity demand [] place first within = absurd (omega (arith, within))
put_at capacity demand (load ∷ loads) zero first within = rw (le-leb (load + demand) capacity (first.room (omega arith))) refl
put_at capacity demand (load ∷ loads) (suc place) first within =
    rw (lt-leb (load + demand) capacity (first.full 0 (omega arith)))
    (ap (λ xs. load ∷ xs) (put_at capacity demand loads place (record {
      within = omega (arith, within);
      full = λ k less. first.full (suc k) (omega (arith, less));
      room = λ less. first.room (omega (arith, less));
    }) (omega (arith, within))))

put_behind : (capacity demand : ℕ) (loads : List ℕ) (place : ℕ) → IsFirstRoom capacity demand loads place → length loads ≤ place → loads ++ demand ∷ [] ≡ put_demand capacity demand loads
put_behind capacity demand [] place first past = refl
put_behind capacity demand (load ∷ loads) zero first past = absurd (omega (arith, past))
put_behind capacity demand (load ∷ loads) (suc place) first past =
    rw (lt-leb (load + demand) capacity (first.full 0 (omega arith)))
    (ap (λ xs. load ∷ xs) (put_behind capacity demand loads place (record {
      within = omega (arith, first.within);
      full = λ k less. first.full (suc k) (omega (arith, less));
      room = λ less. first.room (omega (arith, less));
    }) (omega (arith, past))))

pub put_room : (capacity demand : ℕ) (loads : List ℕ) (place : ℕ) → IsFirstRoom capacity demand loads place → place < length loads →
    IsPut capacity demand loads (set loads place (slice_index loads place + demand)) place
put_room capacity demand loads place first within =
    let more = slice_index loads place + demand in
    let long : length (set loads place more) ≡ length loads = length-set loads place more in
    let now : slice_index (set loads place more) place ≡ more = get_or-set_same loads place more 0 within in record {
      within = omega (arith, long, within);
      no_fewer = omega (arith, long);
      one_more = omega (arith, long);
      here = now;
      fits = omega (arith, now, first.room within);
      others = λ k less other. (omega (arith, less, long), get_or-set_other loads place k more 0 other);
      is = put_at capacity demand loads place first within;
    }

pub put_new : (capacity demand : ℕ) (loads : List ℕ) (place : ℕ) → demand ≤ capacity → IsFirstRoom capacity demand loads place → length loads ≤ place →
    IsPut capacity demand loads (loads ++ demand ∷ []) place
put_new capacity demand loads place fits first past =
    let long : length (loads ++ demand ∷ []) ≡ length loads + 1 = length_push loads demand in
    let at : length loads ≡ place = omega (arith, past, first.within) in
    let now : slice_index (loads ++ demand ∷ []) place ≡ demand = get_or_push loads demand 0 place at in record {
      within = omega (arith, long, at);
      no_fewer = omega (arith, long);
      one_more = omega (arith, long);
      here = omega (arith, now, get_or_past loads place 0 past);
      fits = omega (arith, now, fits);
      others = λ k less other. let early : k < length loads = omega (arith, less, long, at, other) in (early, get_or_append_left loads (demand ∷ []) 0 k early);
      is = put_behind capacity demand loads place first past;
    }

-- An edge that gets a group.

group_same : (groups : List ℕ) (e g : ℕ) → 1 ≤ e → e ≤ length groups → group_of (set groups (e - 1) g) e ≡ g
group_same groups zero g low high = absurd (omega (arith, low))
group_same groups (suc k) g low high = let back : suc k - 1 ≡ k = omega arith in rw back (get_or-set_same groups k g 0 (omega (arith, high)))

group_other : (groups : List ℕ) (e g f : ℕ) → 1 ≤ e → f ≢ e → group_of (set groups (e - 1) g) f ≡ group_of groups f
group_other groups e g zero low other = refl
group_other groups zero g (suc j) low other = absurd (omega (arith, low))
group_other groups (suc k) g (suc j) low other = let back : suc k - 1 ≡ k = omega arith in rw back (get_or-set_other groups k j g 0 (λ same. other (ap suc same)))

-- after the edge e, which had no group, got the group g
record IsGiven (groups after : List ℕ) (e g : ℕ) : Type 0 where
  before : group_of groups e ≡ 0
  now : group_of after e ≡ g
  others : (f : ℕ) → f ≢ e → group_of after f ≡ group_of groups f

module _ (p : Problem) (groups after : List ℕ) (e g : ℕ) (given : IsGiven groups after e g) where
  below_e : (h n : ℕ) → n < e → demand_in p after h n ≡ demand_in p groups h n
  below_e h zero less = refl
  below_e h (suc n) less =
      let same : group_of after (suc n) ≡ group_of groups (suc n) = given.others (suc n) (λ is. absurd (omega (arith, is, less))) in
      rw (below_e h n (omega (arith, less)), same) refl

  gains : (h n : ℕ) → 1 ≤ h → 1 ≤ e → e ≤ n → demand_in p after h n ≡ demand_in p groups h n + (if g == h then demand_of p e else 0)
  gains h zero some low high = absurd (omega (arith, low, high))
  gains h (suc n) some low high = elim (cases_eq (suc n) e) [
    | inl same ↦
        let now : group_of after (suc n) ≡ g = ap (group_of after) same ∙ given.now in
        let free : group_of groups (suc n) ≡ 0 = ap (group_of groups) same ∙ given.before in
        let before : (group_of groups (suc n) == h) ≡ false = ne_eqb (group_of groups (suc n)) h (λ is. absurd (omega (arith, is, some, free))) in
        let here : (if group_of groups (suc n) == h then demand_of p (suc n) else 0) ≡ 0 = rw before refl in
        let there : (if group_of after (suc n) == h then demand_of p (suc n) else 0) ≡ (if g == h then demand_of p e else 0) =
        ap (λ x. if x == h then demand_of p (suc n) else 0) now ∙ ap (λ d. if g == h then d else 0) (ap (demand_of p) same) in
        omega (arith, here, there, below_e h n (omega (arith, same)))
    | inr other ↦
        let same : (if group_of after (suc n) == h then demand_of p (suc n) else 0) ≡ (if group_of groups (suc n) == h then demand_of p (suc n) else 0) = rw (given.others (suc n) other) refl in
        omega (arith, same, gains h n some low (omega (arith, high, other)))
  ]

none_there : (p : Problem) (groups : List ℕ) (h n : ℕ) → ((f : ℕ) → 1 ≤ f → f ≤ n → group_of groups f ≢ h) → demand_in p groups h n ≡ 0
none_there p groups h zero none = refl
none_there p groups h (suc n) none =
    let here : (if group_of groups (suc n) == h then demand_of p (suc n) else 0) ≡ 0 = rw (ne_eqb (group_of groups (suc n)) h (none (suc n) (omega arith) (omega arith))) refl in
    omega (arith, here, none_there p groups h n (λ f low high. none f low (omega (arith, high))))

times_other : (e : ℕ) (x : Item) (left : List Item) → (x.edge ≡ e → ⊥) → times e (x ∷ left) ≡ times e left
times_other e x left other = rw (ne_eqb x.edge e other) (omega arith)

times_same : (e : ℕ) (x : Item) (left : List Item) → x.edge ≡ e → times e (x ∷ left) ≡ 1 + times e left
times_same e x left same = rw (eq-eqb x.edge e same) refl

module _ (p : Problem) (x : Item) (left : List Item) (groups before after : List ℕ) (place : ℕ)
    (was : IsPlaced p (x ∷ left) groups before) (put : IsPut p.capacity x.demand before after place) where
  item : IsItem p x
  item = All-head (IsItem p) x left was.each

  gone : times x.edge left ≡ 0
  gone = omega (arith, times_same x.edge x left refl, was.once x.edge)

  now_groups : List ℕ
  now_groups = set groups (x.edge - 1) (place + 1)

  free_before : group_of groups x.edge ≡ 0
  free_before = was.free x.edge (omega (arith, times_same x.edge x left refl, gone))

  given : IsGiven groups now_groups x.edge (place + 1)
  unfolding now_groups
  given = record {
    before = free_before;
    now = group_same groups x.edge (place + 1) item.required.from_one (omega (arith, item.required.in_range, was.one_each));
    others = λ f other. group_other groups x.edge (place + 1) f item.required.from_one other;
  }

  empty_behind : (f : ℕ) → 1 ≤ f → f ≤ p.required → group_of groups f ≢ length before + 1
  empty_behind f low high is = elim (cases_eq (times f (x ∷ left)) 0) [
    | inl none ↦ absurd (omega (arith, (was.placed f (record { from_one = low; in_range = high }) none).in_range, is))
    | inr some ↦ absurd (omega (arith, was.free f (omega (arith, some, was.once f)), is))
  ]

  load_before : slice_index before place ≡ group_load p groups (place + 1)
  load_before = elim (cases_lt place (length before)) [
    | inl within ↦ was.loaded.are place within
    | inr past ↦
        let at : place ≡ length before = omega (arith, past, put.within, put.one_more) in
        let none : group_load p groups (place + 1) ≡ 0 = rw at (none_there p groups (length before + 1) p.required empty_behind) in
        omega (arith, none, get_or_past before place 0 past)
  ]

  load_now : (h : ℕ) → 1 ≤ h → group_load p now_groups h ≡ group_load p groups h + (if place + 1 == h then demand_of p x.edge else 0)
  load_now h some = gains p groups now_groups x.edge (place + 1) given h p.required some item.required.from_one item.required.in_range

  loads_are : (k : ℕ) → k < length after → slice_index after k ≡ group_load p now_groups (k + 1)
  loads_are k less = elim (cases_eq (place + 1) (k + 1)) [
    | inl same ↦
        let at : k ≡ place = omega (arith, same) in
        let more : (if place + 1 == k + 1 then demand_of p x.edge else 0) ≡ demand_of p x.edge = rw (eq-eqb (place + 1) (k + 1) same) refl in
        let here : slice_index after k ≡ slice_index before place + x.demand = rw at put.here in
        let old : slice_index before place ≡ group_load p groups (k + 1) = rw at load_before in
        omega (arith, load_now (k + 1) (omega arith), more, here, old, item.demand_is)
    | inr other ↦
        let more : (if place + 1 == k + 1 then demand_of p x.edge else 0) ≡ 0 = rw (ne_eqb (place + 1) (k + 1) other) refl in
        let kept = put.others k less (λ same. other (ap (λ n. n + 1) (sym same))) in
        omega (arith, load_now (k + 1) (omega arith), more, kept.1, was.loaded.are k kept.0)
  ]

  filled_now : (k : ℕ) → k < length after → (e : ℕ) × IsRequired p e × (group_of now_groups e ≡ k + 1)
  filled_now k less = elim (cases_eq k place) [
    | inl same ↦ (x.edge, item.required, given.now ∙ ap (λ n. n + 1) (sym same))
    | inr other ↦
        let kept = put.others k less other in
        let old = was.loaded.filled k kept.0 in
        (old.0, old.1, given.others old.0 (λ same. absurd (omega (arith, free_before, ap (group_of groups) same, old.2))) ∙ old.2)
  ]

  light_now : (k : ℕ) → k < length after → slice_index after k ≤ p.capacity
  light_now k less = elim (cases_eq k place) [
    | inl same ↦ rw same put.fits
    | inr other ↦ let kept = put.others k less other in omega (arith, kept.1, was.loaded.light k kept.0)
  ]

  placed_now : (e : ℕ) → IsRequired p e → times e left ≡ 0 → IsGroup (length after) (group_of now_groups e)
  placed_now e required none = elim (cases_eq e x.edge) [
    | inl same ↦
        let is : group_of now_groups e ≡ place + 1 = rw same given.now in
        record { from_one = omega (arith, is); in_range = omega (arith, is, put.within) }
    | inr other ↦
        let is : group_of now_groups e ≡ group_of groups e = given.others e other in
        let old = was.placed e required (times_other e x left (λ same. other (sym same)) ∙ none) in
        record { from_one = omega (arith, is, old.from_one); in_range = omega (arith, is, old.in_range, put.no_fewer) }
  ]

  times_less : (e : ℕ) → times e left ≤ times e (x ∷ left)
  times_less e = omega arith

  free_now : (e : ℕ) → times e left ≡ 1 → group_of now_groups e ≡ 0
  free_now e one =
      let other : e ≢ x.edge = λ same. absurd (omega (arith, gone, one, ap (λ f. times f left) same)) in
      given.others e other ∙ was.free e (times_other e x left (λ same. other (sym same)) ∙ one)

  pub placed_more : IsPlaced p left (set groups (x.edge - 1) (place + 1)) after
  unfolding now_groups
  placed_more = record {
    one_each = length-set groups (x.edge - 1) (place + 1) ∙ was.one_each;
    few = omega (arith, was.few, put.one_more);
    each = All-tail (IsItem p) x left was.each;
    once = λ e. omega (arith, times_less e, was.once e);
    free = free_now;
    placed = placed_now;
    loaded = record { are = loads_are; filled = filled_now; light = light_now };
  }

back_one : (g : ℕ) → 1 ≤ g → g - 1 + 1 ≡ g
back_one g some = omega (arith, some)

-- after the last item the groups are a packing
pub all_placed : (p : Problem) (groups loads : List ℕ) → IsPlaced p [] groups loads → IsPacking p groups (length loads)
all_placed p groups loads was = record {
  one_each = was.one_each;
  placed = λ e required. was.placed e required refl;
  none_empty = λ g group.
      let filled = was.loaded.filled (g - 1) (omega (arith, group.from_one, group.in_range)) in
      (filled.0, filled.1, filled.2 ∙ back_one g group.from_one);
  loads = λ g group.
      let less : g - 1 < length loads = omega (arith, group.from_one, group.in_range) in
      let same : group_load p groups (g - 1 + 1) ≡ group_load p groups g = ap (group_load p groups) (back_one g group.from_one) in
      omega (arith, same, was.loaded.are (g - 1) less, was.loaded.light (g - 1) less);
}

-- the next of the items
pub at_item : (p : Problem) (items : List Item) (i : ℕ) (d : Item) (groups loads : List ℕ) → i < length items → IsPlaced p (drop i items) groups loads →
    IsPlaced p (get_or items i d ∷ drop (i + 1) items) groups loads
at_item p items i d groups loads less was = subst (λ xs. IsPlaced p xs groups loads) (drop_more items i d less) was

pub loads_step : (capacity : ℕ) (items : List Item) (i : ℕ) (d : Item) (before after : List ℕ) (place : ℕ) → i < length items → IsPut capacity (get_or items i d).demand before after place →
    loads_after capacity (demands_of (drop (i + 1) items)) after ≡ loads_after capacity (demands_of (drop i items)) before
loads_step capacity items i d before after place less put =
    ap (loads_after capacity (demands_of (drop (i + 1) items))) put.is
    ∙ ap (λ xs. loads_after capacity (demands_of xs) before) (sym (drop_more items i d less))

-- the same of a slice that was lent whole
pub packed : (p : Problem) (n count : ℕ) (new old loads : List ℕ) → IsPlaced p [] new loads → n ≡ length new → length loads ≡ count → IsPacking p (take n (new ++ drop (length new) old)) count
packed p n count new old loads placed long is =
    let back : take n (new ++ drop (length new) old) ≡ new = rw long (take-append_seam new (drop (length new) old)) in
    subst (λ k. IsPacking p (take n (new ++ drop (length new) old)) k) is (subst (λ xs. IsPacking p xs (length loads)) (sym back) (all_placed p new loads placed))
