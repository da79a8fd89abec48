-- How much is left to try.
use Rattle.std.proofs.Common.{◌≡◌, ◌≢◌, ℕ, ◌+◌, ◌-◌, ◌*◌, ◌<◌, ◌≤◌, Option, Some, None, List, length, get_or, slice_index, set, sum, drop, IfNone, IfSome, sym, ◌∙◌, arith, inl, inr}
use Rattle.std.proofs.Math.Nat.{mul-le-mul_right}
use Rattle.std.proofs.lemmas.Bool.{cases_eq}
use Rattle.std.proofs.lemmas.List.{length-set, length-drop, get_or-drop, get_or-set_same, get_or-set_other, get_or_read}
use Rattle.std.proofs.lemmas.List.Sums.{sum_by-set}
use Rattle.flow_cut.specs.declared.network.Arc.{Arc}
use Rattle.flow_cut.specs.declared.residual.ResidualArc.{ResidualArc}
use Rattle.flow_cut.specs.Residual.{residual_tail, residual_head}
use Rattle.flow_cut.specs.Adjacency.{IsAdjacency, no_residual, residual_at}
use Rattle.flow_cut.specs.Layers.{IsLayered, IsUntried, LeadsOn, to_try}
use Rattle.flow_cut.proofs.Ways.{reached_in}

-- what is left to try where the search stands, and nothing where it ended
abbrev pub to_turn : ℕ → List ℕ → List ℕ → Option ℕ → ℕ
to_turn n level untried None = 0
to_turn n level untried (Some v) = to_try n level untried v + 1

-- fewer to try outweigh any level
pub fewer_to_try : (n x y a b : ℕ) → x < y → x * (n + 2) + (n + 1 - a) < y * (n + 2) + (n + 1 - b)
fewer_to_try n x y a b less = let more = mul-le-mul_right (n + 2) less in omega (arith, more)

pub untried_set : (n : ℕ) (starts untried : List ℕ) (v end : ℕ) → v ≤ n → end ≤ slice_index untried v → IsUntried n starts untried → IsUntried n starts (set untried v end)
untried_set n starts untried v end small low is =
    let there : v < length untried = omega (arith, is.untried_len, small) in
    record {
      untried_len = length-set untried v end ∙ is.untried_len;
      within = λ u below. elim (cases_eq u v) [
        | inl same ↦ rw (same, get_or-set_same untried v end 0 there) (omega (arith, low, is.within v small))
        | inr other ↦ rw (get_or-set_other untried v u end 0 other) (is.within u below)
      ];
    }

pub sum_set : (untried : List ℕ) (v end : ℕ) → v < length untried → sum (set untried v end) + slice_index untried v ≡ sum untried + end
sum_set untried v end there = sum_by-set (λ x. x) untried v end 0 there

-- one level further outweighs nothing that is tried
pub further_to_try : (n x y a b : ℕ) → x ≤ y → a ≡ b + 1 → a ≤ n + 1 → x * (n + 2) + (n + 1 - a) < y * (n + 2) + (n + 1 - b)
further_to_try n x y a b most further low = let more = mul-le-mul_right (n + 2) most in omega (arith, more)

pub some_fewer : (n : ℕ) (level : List ℕ) (o : Option ℕ) (x y z b : ℕ) → y ≤ z → IfSome o (λ w. x < y) → IfSome o (λ w. x * (n + 2) + (n + 1 - slice_index level w) < z * (n + 2) + (n + 1 - b))
some_fewer n level None x y z b most less = tt
some_fewer n level (Some w) x y z b most less = fewer_to_try n x z (slice_index level w) b (omega (arith, less, most))

pub all_untried : (n : ℕ) (starts : List ℕ) → length starts ≡ n + 2 → IsUntried n starts (drop 1 starts)
all_untried n starts long = record {
  untried_len = omega (arith, length-drop 1 starts, long);
  within = λ v small. let next : 1 + v ≡ v + 1 = omega arith in rw (get_or-drop 1 starts v 0, next) (omega arith);
}

-- a residual arc over which a node one level further is reached
pub layered_set : (arcs : List Arc) (n s w : ℕ) (level : List ℕ) (via : List ResidualArc) (r : ResidualArc) → IsLayered arcs n s level via → r.arc < length arcs → residual_head arcs r ≡ w →
    slice_index level w ≡ slice_index level (residual_tail arcs r) + 1 → slice_index level (residual_tail arcs r) ≢ 0 → IsLayered arcs n s level (set via w r)
layered_set arcs n s w level via r layered in_arcs ends further begins =
    let reached : slice_index level w ≢ 0 = λ none. omega (arith, none, further) in
    let there : w < length via = omega (arith, reached_in level w reached, layered.level_len, layered.via_len) in
    record {
      level_len = layered.level_len;
      via_len = length-set via w r ∙ layered.via_len;
      source = layered.source;
      reached = λ u apart on. elim (cases_eq u w) [
        | inl same ↦ let here : residual_at (set via w r) w ≡ r = get_or-set_same via w r no_residual there in
            rw same (record { in_arcs = rw here in_arcs; ends = rw here ends; nearer = rw here (sym further); begins = rw here begins })
        | inr other ↦ let here : residual_at (set via w r) u ≡ residual_at via u = get_or-set_other via w u r no_residual other in
            let was = layered.reached u apart on in
            record { in_arcs = rw here was.in_arcs; ends = rw here was.ends; nearer = rw here was.nearer; begins = rw here was.begins }
      ];
      bounded = layered.bounded;
    }

-- what is read where a residual arc leads on
pub led_on : (arcs : List Arc) (flows : List ℕ) (n s : ℕ) (starts : List ℕ) (list : List ResidualArc) (level : List ℕ) (via : List ResidualArc) (untried : List ℕ) (v end start : ℕ) (r : ResidualArc) →
    IsAdjacency arcs n starts list → IsLayered arcs n s level via → IsUntried n starts untried → slice_index level v ≢ 0 → end ≤ slice_index untried v →
    start ≡ get_or starts v start → start < end → (slice_index starts v < end → LeadsOn arcs flows level (residual_at list (end - 1))) → r ≡ get_or list (end - 1) r →
    (r.arc < length arcs) × (residual_tail arcs r ≡ v) × LeadsOn arcs flows level r
led_on arcs flows n s starts list level via untried v end start r adjacency layered free reached most first some found item =
    let small : v ≤ n = omega (arith, reached_in level v reached, layered.level_len) in
    let lists = adjacency.lists v small in
    let there : v < length starts = omega (arith, adjacency.starts_len, small) in
    let from = get_or_read starts v start there first 0 in
    let low : slice_index starts v ≤ end - 1 = omega (arith, from, some) in
    let high : end - 1 < slice_index starts (v + 1) = omega (arith, most, some, free.within v small) in
    let is = get_or_read list (end - 1) r (omega (arith, high, lists.in_list)) item no_residual in
    (rw is (lists.in_arcs (end - 1) low high), rw is (lists.own (end - 1) low high), rw is (found (omega (arith, from, some))))

-- a search that ends has nothing to try at the source
pub spent_at_end : (o : Option ℕ) (old new starts : List ℕ) (v s end : ℕ) → IfNone o (v ≢ s → slice_index new s ≤ slice_index starts s) → IfNone o (new ≡ set old v end) →
    v < length old → end ≤ slice_index starts v → IfNone o (slice_index new s ≤ slice_index starts s)
spent_at_end None old new starts v s end spent kept there low = elim (cases_eq v s) [
  | inl same ↦ let at : slice_index (set old v end) v ≡ end = get_or-set_same old v end 0 there in
      rw (kept, ← same) (omega (arith, at, low))
  | inr other ↦ spent other
]
spent_at_end (Some w) old new starts v s end spent kept there low = tt

-- the same, where the search went back from another node than the source
pub spent_now : (o : Option ℕ) (P Q : Type 0) → P → IfNone o (P → Q) → IfNone o Q
spent_now None P Q here spent = spent here
spent_now (Some w) P Q here spent = tt
