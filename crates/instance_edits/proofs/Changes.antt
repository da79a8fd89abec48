-- The table of what edits do, and the edited lists.
use Rattle.std.proofs.Common.{◌≡◌, ℕ, zero, suc, ◌+◌, ◌-◌, ◌*◌, ◌^◌, ◌<◌, ◌≤◌, Bool, true, false, cond, eqb, List, [], ◌∷◌, ◌++◌, length, take, refl, sym, ap, subst, ◌∙◌, arith}
use Rattle.std.specs.Prelude.{slice_index_or, sum_by}
use Rattle.std.specs.List.{All, AllByRecursion}
use Rattle.std.proofs.lemmas.List.Sums.{sum_by-cons, sum_by-take-le}
use Rattle.std.proofs.lemmas.List.Elements.{recursion_from_All, All-from_recursion}
use Rattle.carp_base.specs.declared.edge.RawEdge.{RawEdge}
use Rattle.carp_base.specs.Problem.{Problem, IsValid, described, edge_at}
use Rattle.instance_edits.specs.declared.edit.Edit.{Edit}
use Rattle.instance_edits.specs.declared.edit.Edit.TheVariants.{Cost, Service, Demand, Close}
use Rattle.instance_edits.specs.declared.change.Change.{Change}
use Rattle.instance_edits.specs.Edits.{AreKnown, IsKnown, cost_added, service_added, demand_added, changed_from, edited}
use Rattle.instance_edits.specs.Texts.{HasShortNumbers}
use Rattle.instance_edits.specs.Changing.{IsApplied, IsAtMost, IsTable, change_by, nothing, kept, kept_from}

-- what short edits add is small
cond_small : (t : Bool) (n : ℕ) → n < 10 ^ 12 → cond t n 0 ≤ 10 ^ 12
cond_small true n short = omega arith
cond_small false n short = omega arith

cost_small : (count e : ℕ) (x : Edit) → IsApplied count x → cost_added e x ≤ 10 ^ 12
cost_small count e (Cost d n) applied = cond_small (eqb d e) n applied.short
cost_small count e (Service d n) applied = omega arith
cost_small count e (Demand d n) applied = omega arith
cost_small count e (Close d) applied = omega arith

demand_small : (count e : ℕ) (x : Edit) → IsApplied count x → demand_added e x ≤ 10 ^ 12
demand_small count e (Demand d n) applied = cond_small (eqb d e) n applied.short
demand_small count e (Service d n) applied = omega arith
demand_small count e (Cost d n) applied = omega arith
demand_small count e (Close d) applied = omega arith

service_small : (count e : ℕ) (x : Edit) → IsApplied count x → service_added e x ≤ 10 ^ 12
service_small count e (Service d n) applied = cond_small (eqb d e) n applied.short
service_small count e (Cost d n) applied = omega arith
service_small count e (Demand d n) applied = omega arith
service_small count e (Close d) applied = omega arith

sum_small : (f : Edit → ℕ) (count most : ℕ) (xs : List Edit) → AllByRecursion (IsApplied count) xs → ((x : Edit) → IsApplied count x → f x ≤ most) → sum_by f xs ≤ length xs * most
sum_small f count most [] all each = omega arith
sum_small f count most (x ∷ xs) all each = omega (arith, sum_by-cons f x xs, sum_small f count most xs all.1 each, each x all.0)

sum_within : (f : Edit → ℕ) (count : ℕ) (xs : List Edit) (i : ℕ) → All (IsApplied count) xs → length xs ≤ 2 ^ 20 → ((x : Edit) → IsApplied count x → f x ≤ 10 ^ 12) → sum_by f (take i xs) ≤ 10 ^ 12 * 2 ^ 20
sum_within f count xs i all few each =
    let whole : sum_by f xs ≤ length xs * 10 ^ 12 = sum_small f count (10 ^ 12) xs (recursion_from_All (IsApplied count) xs all) each in
    omega (arith, whole, few, sum_by-take-le f xs i)

pub change_small : (count : ℕ) (xs : List Edit) (i e : ℕ) (change : Change) → All (IsApplied count) xs → length xs ≤ 2 ^ 20 → change ≡ change_by (take i xs) e → IsAtMost (10 ^ 12 * 2 ^ 20) change
change_small count xs i e change all few is = subst (λ (c : Change). IsAtMost (10 ^ 12 * 2 ^ 20) c) (sym is) (record {
  cost = sum_within (cost_added e) count xs i all few (cost_small count e);
  demand = sum_within (demand_added e) count xs i all few (demand_small count e);
  service = sum_within (service_added e) count xs i all few (service_small count e);
})

-- edits that name edges that they may name are within the table
one_applied : (p : Problem) (before : List Edit) (x : Edit) → p.required ≤ length p.edges → IsKnown p before x → HasShortNumbers x → IsApplied (length p.edges + 1) x
one_applied p before (Cost e n) within known short = record { in_range = omega (arith, known.0.in_range); short = short.1 }
one_applied p before (Service e n) within known short = record { in_range = omega (arith, known.in_range, within); short = short.1 }
one_applied p before (Demand e n) within known short = record { in_range = omega (arith, known.in_range, within); short = short.1 }
one_applied p before (Close e) within known short = omega (arith, known.0.in_range)

applied_from : (p : Problem) (xs before : List Edit) → p.required ≤ length p.edges → AreKnown p before xs → AllByRecursion HasShortNumbers xs → AllByRecursion (IsApplied (length p.edges + 1)) xs
applied_from p [] before within known short = tt
applied_from p (x ∷ xs) before within known short = (one_applied p before x within known.0 short.0, applied_from p xs (before ++ x ∷ []) within known.1 short.1)

pub all_applied : (p : Problem) (xs : List Edit) → IsValid p → AreKnown p [] xs → All HasShortNumbers xs → All (IsApplied (length p.edges + 1)) xs
all_applied p xs valid known short =
    All-from_recursion (IsApplied (length p.edges + 1)) xs (applied_from p xs [] valid.required_in known (recursion_from_All HasShortNumbers xs short))

-- the edges that are kept, by the table and by the edits
pub kept_is : (p : Problem) (changes : List Change) (edits : List Edit) (first n : ℕ) → IsTable changes edits → length changes ≡ length p.edges + 1 → first + n ≤ length p.edges →
    kept_from p changes first n ≡ changed_from p edits first n
kept_is p changes edits first zero table all within = refl
kept_is p changes edits first (suc n) table all within =
    ap (λ (xs : List RawEdge). xs ++ kept (edge_at p (first + suc n)) (slice_index_or changes (first + suc n) nothing)) (kept_is p changes edits first n table all (omega arith))
    ∙ ap (λ (c : Change). changed_from p edits first n ++ kept (edge_at p (first + suc n)) c) (table (first + suc n) (omega (arith, all, within)))

pub same_problem : (p : Problem) (edits : List Edit) (vertices depot capacity : ℕ) (required others : List RawEdge) → vertices ≡ p.vertices → depot ≡ p.depot → capacity ≡ p.capacity →
    required ≡ changed_from p edits 0 p.required → others ≡ changed_from p edits p.required (length p.edges - p.required) → described vertices depot capacity required others ≡ edited p edits
same_problem p edits vertices depot capacity required others v d c r o =
    ap (λ (n : ℕ). described n depot capacity required others) v
    ∙ ap (λ (n : ℕ). described p.vertices n capacity required others) d
    ∙ ap (λ (n : ℕ). described p.vertices p.depot n required others) c
    ∙ ap (λ (xs : List RawEdge). described p.vertices p.depot p.capacity xs others) r
    ∙ ap (λ (xs : List RawEdge). described p.vertices p.depot p.capacity (changed_from p edits 0 p.required) xs) o

pub lists_same : (p : Problem) (changes table : List Change) (edits : List Edit) (items lent : List RawEdge) (first n from count edges : ℕ) → lent ≡ items → items ≡ kept_from p changes first n → changes ≡ table →
    first ≡ from → n ≡ count → IsTable table edits → length table ≡ edges + 1 → edges ≡ length p.edges → from + count ≤ length p.edges → lent ≡ changed_from p edits from count
lists_same p changes table edits items lent first n from count edges l k c f m is all many within =
    l
    ∙ k
    ∙ ap (λ (t : List Change). kept_from p t first n) c
    ∙ ap (λ (i : ℕ). kept_from p table i n) f
    ∙ ap (λ (i : ℕ). kept_from p table from i) m
    ∙ kept_is p table edits from count is (omega (arith, all, many)) within
