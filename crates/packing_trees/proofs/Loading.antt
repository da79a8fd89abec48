-- The demand of groups, and which of them are empty.
use Rattle.std.proofs.Common.{◌≡◌, ℕ, zero, suc, ◌+◌, ◌-◌, ◌*◌, ◌≤◌, ◌<◌, ◌==◌, cond, Option, Some, None, List, length, slice_index, refl, sym, ap, ◌∙◌, arith, inl, inr}
use Rattle.std.specs.Prelude.{if◌then◌else◌}
use Rattle.std.proofs.lemmas.Bool.{cases_eq, cases_lt, eq-eqb, ne_eqb, eqb-true}
use Rattle.carp_base.specs.Problem.{Problem, IsRequired, IsValid, edge_at}
use Rattle.carp_base.specs.Packings.{IsGroup, demand_in, group_load, group_of}
use Rattle.plan_model.specs.Sums.{sum_to}
use Rattle.packing_trees.specs.declared.node.PackNode.{PackNode}
use Rattle.packing_trees.specs.declared.reason.PackReason.{PackReason}
use Rattle.packing_trees.specs.declared.reason.PackReason.TheVariants.{GroupEmpty, Overload}
use Rattle.packing_trees.specs.Reasons.{GroupsArePlaced, IsFirstEmpty, IsFirstOverload}
use Rattle.packing_trees.specs.Layers.{AllSomething, GroupsSay, IsFirstAbove, IsFirstNothing, LoadsSay, PlacesSay, claimed}
use Rattle.packing_trees.proofs.Sums.{sum_to-one, sum_to-more, sum_to-term, sum_to-swap, at_most_one}

pub demand_sum : (p : Problem) (groups : List ℕ) (g n : ℕ) → sum_to n (λ e. cond (group_of groups e == g) (edge_at p e).demand 0) ≡ demand_in p groups g n
demand_sum p groups g zero = refl
demand_sum p groups g (suc n) = omega (arith, demand_sum p groups g n)

-- One edge more.
module _ (p : Problem) (groups old new : List ℕ) (edge place demand : ℕ) (from_one : 1 ≤ edge) (place_is : place ≡ slice_index groups (edge - 1)) (demand_is : demand ≡ (edge_at p edge).demand) (long : length new ≡ length old)
    (here : place < length old → slice_index new place ≡ slice_index old place + demand) (elsewhere : (k : ℕ) → k < length old → (k ≡ place → ⊥) → slice_index new k ≡ slice_index old k) where
  group_at : (e : ℕ) → 1 ≤ e → group_of groups e ≡ slice_index groups (e - 1)
  group_at zero some = absurd (omega arith)
  group_at (suc k) some = let same : suc k - 1 ≡ k = omega arith in ap (slice_index groups) (sym same)

  one_more : (g e : ℕ) → 1 ≤ e → demand_in p groups g (e + 1 - 1) ≡ demand_in p groups g (e - 1) + (if group_of groups e == g then (edge_at p e).demand else 0)
  one_more g zero some = absurd (omega arith)
  one_more g (suc k) some =
      let now : suc k + 1 - 1 ≡ suc k = omega arith in
      let was : suc k - 1 ≡ k = omega arith in
      ap (demand_in p groups g) now ∙ sym (ap (λ n. demand_in p groups g n + (if group_of groups (suc k) == g then (edge_at p (suc k)).demand else 0)) was)

  counts : (g : ℕ) → place ≡ g → (if group_of groups edge == g then (edge_at p edge).demand else 0) ≡ demand
  counts g is = ap (λ b. if b then (edge_at p edge).demand else 0) (eq-eqb (group_of groups edge) g (group_at edge from_one ∙ sym place_is ∙ is)) ∙ sym demand_is

  counts_not : (g : ℕ) → (place ≡ g → ⊥) → (if group_of groups edge == g then (edge_at p edge).demand else 0) ≡ 0
  counts_not g other = ap (λ b. if b then (edge_at p edge).demand else 0) (ne_eqb (group_of groups edge) g (λ is. other (place_is ∙ sym (group_at edge from_one) ∙ is)))

  pub load_step : ((g : ℕ) → g < length old → slice_index old g ≡ demand_in p groups g (edge - 1)) → (g : ℕ) → g < length new → slice_index new g ≡ demand_in p groups g (edge + 1 - 1)
  load_step before g less =
      let less' : g < length old = omega (arith, less, long) in
      elim (cases_eq g place) [
        | inl is ↦
            let at : slice_index new g ≡ slice_index old g + demand = ap (slice_index new) is ∙ here (omega (arith, less', is)) ∙ ap (λ k. slice_index old k + demand) (sym is) in
            omega (arith, at, before g less', one_more g edge from_one, counts g (sym is))
        | inr other ↦ omega (arith, elsewhere g less' other, before g less', one_more g edge from_one, counts_not g (λ is. other (sym is)))
      ]

  pub small_step : demand ≤ 30000 → ((g : ℕ) → g < length old → slice_index old g ≤ 30000 * (edge - 1)) → (g : ℕ) → g < length new → slice_index new g ≤ 30000 * (edge + 1 - 1)
  small_step few before g less =
      let less' : g < length old = omega (arith, less, long) in
      elim (cases_eq g place) [
        | inl is ↦
            let at : slice_index new g ≡ slice_index old g + demand = ap (slice_index new) is ∙ here (omega (arith, less', is)) ∙ ap (λ k. slice_index old k + demand) (sym is) in
            omega (arith, at, before g less', few, from_one)
        | inr other ↦ omega (arith, elsewhere g less' other, before g less', from_one)
      ]

-- A group is empty exactly where its demand is 0.
module _ (p : Problem) (groups : List ℕ) (valid : IsValid p) where
  abbrev HasEdge : ℕ → Type 0
  HasEdge g = (e : ℕ) × IsRequired p e × (group_of groups e ≡ g)

  edge_below : (g n : ℕ) → n ≤ p.required → 1 ≤ demand_in p groups g n → HasEdge g
  edge_below g zero most some = absurd (omega arith)
  edge_below g (suc n) most some = elim (cases_eq (group_of groups (suc n)) g) [
    | inl is ↦ (suc n, record { from_one = omega arith; in_range = most }, is)
    | inr other ↦ edge_below g n (omega arith) (omega (arith, some, ap (λ b. if b then (edge_at p (suc n)).demand else 0) (ne_eqb (group_of groups (suc n)) g other)))
  ]

  edge_in : (g : ℕ) → 1 ≤ group_load p groups g → HasEdge g
  edge_in g some = edge_below g p.required (omega arith) some

  pub some_load : (g : ℕ) → HasEdge g → 1 ≤ group_load p groups g
  some_load g (e, required, is) =
      omega (
        arith,
        demand_sum p groups g p.required,
        sum_to-term p.required e (λ d. cond (group_of groups d == g) (edge_at p d).demand 0) required.from_one required.in_range,
        ap (λ b. cond b (edge_at p e).demand 0) (eq-eqb (group_of groups e) g is),
        (valid.tasks e required).some_demand,
      )

  -- no more groups have an edge than there are edges
  pub few_filled : (n : ℕ) → ((g : ℕ) → 1 ≤ g → g ≤ n → HasEdge g) → n ≤ p.required
  few_filled n filled =
      omega (
        arith,
        sum_to-one n,
        sum_to-one p.required,
        sum_to-more n (λ _. 1) (λ g. sum_to p.required (λ e. cond (group_of groups e == g) 1 0)) (λ g one below. here g (filled g one below)),
        sum_to-swap n p.required (λ g e. cond (group_of groups e == g) 1 0),
        sum_to-more p.required (λ e. sum_to n (λ g. cond (group_of groups e == g) 1 0)) (λ _. 1)
            (λ e _ _. at_most_one n (λ g. group_of groups e == g) (λ g h _ less _ is also. omega (arith, less, eqb-true (group_of groups e) g is, eqb-true (group_of groups e) h also))),
      )
    where
      here : (g : ℕ) → HasEdge g → 1 ≤ sum_to p.required (λ e. cond (group_of groups e == g) 1 0)
      here g (e, required, is) =
          omega (
            arith,
            sum_to-term p.required e (λ d. cond (group_of groups d == g) 1 0) required.from_one required.in_range,
            let one : ◌≡◌ {A = ℕ} (cond (group_of groups e == g) 1 0) 1 = ap (λ b. cond b 1 0) (eq-eqb (group_of groups e) g is) in one,
          )

  module _ (count most : ℕ) (loads : List ℕ) (each : length groups ≡ p.required) (places : PlacesSay groups count None) (within : most ≤ count) (all : most < count → most ≡ p.required + 1)
      (long : length loads ≡ most + 1) (are : (g : ℕ) → g < length loads → slice_index loads g ≡ group_load p groups g) where
    placed : (e : ℕ) → IsRequired p e → IsGroup count (group_of groups e)
    placed zero required = absurd (omega (arith, required.from_one))
    placed (suc k) required = places k (omega (arith, required.in_range, each))

    edge_at_place : (g : ℕ) → g < length loads → 1 ≤ slice_index loads g → HasEdge g
    edge_at_place g less some = edge_in g (omega (arith, some, are g less))

    -- where no group that is looked at is empty, all are looked at
    whole : AllSomething loads → most ≡ count
    whole something = elim (cases_lt most count) [
      | inl less ↦ absurd (omega (arith, all less, few_filled most (λ g one below. edge_at_place g (omega (arith, below, long)) (something g one (omega (arith, below, long))))))
      | inr more ↦ omega (arith, more, within)
    ]

    filled : AllSomething loads → (g : ℕ) → IsGroup count g → HasEdge g
    filled something g is =
        let less : g < length loads = omega (arith, whole something, is.in_range, long) in
        edge_at_place g less (something g is.from_one less)

    groups_placed : (bound : ℕ) (nodes : List PackNode) → GroupsArePlaced p (claimed groups count bound nodes)
    groups_placed bound nodes = record { one_each = each; placed = placed }

    first_empty : (bound : ℕ) (nodes : List PackNode) (g : ℕ) → IsFirstNothing loads g → IsFirstEmpty p (claimed groups count bound nodes) g
    first_empty bound nodes g first = record {
      group = record { from_one = first.from_one; in_range = omega (arith, first.in_range, long, within) };
      empty = λ has. omega (arith, some_load g has, are g first.in_range, first.nothing);
      before = λ h is less. edge_at_place h (omega (arith, less, first.in_range)) (first.before h is.from_one less);
    }

    first_overload : (bound : ℕ) (nodes : List PackNode) (g load : ℕ) → AllSomething loads → IsFirstAbove loads p.capacity g → load ≡ slice_index loads g → IsFirstOverload p (claimed groups count bound nodes) g load
    first_overload bound nodes g load something first is = record {
      group = record { from_one = first.from_one; in_range = omega (arith, first.in_range, long, within) };
      load_is = is ∙ are g first.in_range;
      above = omega (arith, first.above, is);
      before = λ h group less. omega (arith, are h (omega (arith, less, first.in_range)), first.before h group.from_one less);
    }

    pub groups_say : (reason : Option PackReason) → LoadsSay loads p.capacity reason → GroupsSay p groups count reason
    groups_say None says = record {
      one_each = each;
      placed = placed;
      none_empty = filled says.0;
      loads = λ g is.
          let less : g < length loads = omega (arith, whole says.0, is.in_range, long) in
          omega (arith, are g less, says.1 g is.from_one less);
    }
    groups_say (Some (GroupEmpty g)) says = λ bound nodes. (groups_placed bound nodes, first_empty bound nodes g says)
    groups_say (Some (Overload g load)) says = λ bound nodes. (record { groups = groups_placed bound nodes; filled = filled says.0 }, first_overload bound nodes g load says.0 says.1 says.2)
    groups_say (Some _) says = absurd says
