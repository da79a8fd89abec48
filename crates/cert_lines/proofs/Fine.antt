-- A certificate in plain ranges can be spelled.
use Rattle.std.proofs.Common.{◌≡◌, ℕ, ◌^◌, ◌<◌, ◌≤◌, Bool, true, false, List, [], ◌∷◌, ◌++◌, map, length, Option, Some, None, IfSome, IsTrue, refl, sym, ap, subst, ◌∙◌, arith}
use Rattle.std.proofs.lemmas.Bool.{false≢true, eq-eqb}
use Rattle.std.proofs.lemmas.List.Elements.{recursion_from_All}
use Rattle.cut_pool.specs.Pools.{AreDifferent}
use Rattle.branch_rules.specs.Prices.{Prices}
use Rattle.cert_lines.specs.declared.counts.Counts.{Counts}
use Rattle.cert_lines.specs.declared.next.Next.TheVariants as stands
use Rattle.cert_lines.specs.Lines.{Line, cost, bound, tours, shores, sets}
use Rattle.cert_lines.specs.Order.{version_of, next_of}
use Rattle.cert_lines.specs.Certificates.{Certificate, steps_of, shores_of, sets_of, has_groups}
use Rattle.cert_lines.specs.Ranges.{AreCountsInRange}
use Rattle.cert_lines.specs.Spelling.{AreGood, HasCountsForGroups, IsSpellable, IsFine, IsFineShore, IsFineSet, IsFineNode, version_lines, tour_line}
use Rattle.cert_lines.proofs.Listed.{listed}
use Rattle.cert_lines.proofs.Spelled.{tours_said, shores_said, prices_are, pool_version, head_said, plan_said, pool_said, prices_said}
use Rattle.cert_lines.proofs.InOrder.{grouped_lines, node_lines, price_lines, pool_lines}
use Rattle.cert_lines.proofs.FineLists.{tours_good, shores_good, sets_good}
use Rattle.cert_lines.proofs.FineNodes.{nodes_good}

-- What is said before each group.

pub no_steps : (c : Certificate) (size : Option Counts) (grouped : Bool) → steps_of (tours (length c.plan) ∷ bound c.bound ∷ cost c.cost ∷ listed (version_lines size grouped) []) ≡ 0
no_steps c None grouped = refl
no_steps c (Some x) false = refl
no_steps c (Some x) true = refl

no_shores : (c : Certificate) (size : Option Counts) (grouped : Bool) → shores_of (tours (length c.plan) ∷ bound c.bound ∷ cost c.cost ∷ listed (version_lines size grouped) []) ≡ []
no_shores c None grouped = refl
no_shores c (Some x) false = refl
no_shores c (Some x) true = refl

no_sets : (c : Certificate) (size : Option Counts) (grouped : Bool) → sets_of (tours (length c.plan) ∷ bound c.bound ∷ cost c.cost ∷ listed (version_lines size grouped) []) ≡ []
no_sets c None grouped = refl
no_sets c (Some x) false = refl
no_sets c (Some x) true = refl

pub shores_of_plan : (c : Certificate) → shores_of (plan_said c) ≡ []
shores_of_plan c = ap (λ (d : Certificate). d.shores) (tours_said c.plan (head_said c)) ∙ no_shores c c.counts (has_groups c.sets)

pub shores_of_pool : (c : Certificate) → shores_of (pool_said c) ≡ c.shores
shores_of_pool c =
    ap (λ (d : Certificate). d.shores) (shores_said c.shores (shores (length c.shores) ∷ plan_said c)) ∙ ap (λ (pool : List (List ℕ)). pool ++ c.shores) (shores_of_plan c)

pub sets_of_pool : (c : Certificate) → sets_of (pool_said c) ≡ []
sets_of_pool c =
    ap (λ (d : Certificate). d.sets) (shores_said c.shores (shores (length c.shores) ∷ plan_said c))
    ∙ ap (λ (d : Certificate). d.sets) (tours_said c.plan (head_said c)) ∙ no_sets c c.counts (has_groups c.sets)

pub shores_of_prices : (c : Certificate) → HasCountsForGroups c → shores_of (prices_said c) ≡ c.shores
shores_of_prices c counted = ap (λ (d : Certificate). d.shores) (prices_are c counted) ∙ shores_of_pool c

pub sets_of_prices : (c : Certificate) → HasCountsForGroups c → sets_of (prices_said c) ≡ c.sets
sets_of_prices c counted = ap (λ (d : Certificate). d.sets) (prices_are c counted) ∙ ap (λ (all : List Prices). all ++ c.sets) (sets_of_pool c)

-- The groups of lines, from the last to the first.

nodes_fit : (c : Certificate) → IsFine c → next_of (prices_said c) ≡ stands.Nodes → AreGood (prices_said c) (node_lines c.nodes)
nodes_fit c fine at =
    nodes_good c.nodes fine.tree (length c.shores) (length c.sets) fine.in_preorder fine.few_nodes
    (recursion_from_All (IsFineNode (length c.shores) (length c.sets)) c.nodes fine.nodes_fine) (prices_said c) at
    (record { borders_are = ap length (shores_of_prices c fine.counted); units_are = ap length (sets_of_prices c fine.counted) })

-- where some set has a group, there is a set
some_set : (all : List Prices) → has_groups all ≡ true → 1 ≤ length all
some_set [] some = absurd (false≢true some)
some_set (set ∷ all) some = omega arith

sets_fit : (c : Certificate) → IsFine c → next_of (pool_said c) ≡ stands.Sets → AreGood (pool_said c) (price_lines (has_groups c.sets) c.sets c.nodes)
sets_fit c fine at = (
  rw at refl,
  fine.few_sets,
  λ four. some_set c.sets (sym (pool_version c fine.counted) ∙ eq-eqb (version_of (pool_said c)) 4 four),
  sets_good (has_groups c.sets) c.sets c.shores (sets (length c.sets) ∷ pool_said c) (node_lines c.nodes) refl (shores_of_pool c) (pool_version c fine.counted)
      (λ some. subst (λ (all : List Prices). IsTrue (has_groups (all ++ c.sets))) (sym (sets_of_pool c)) some)
      (recursion_from_All (IsFineSet c.shores) c.sets fine.sets_fine) (nodes_fit c fine),
)

shores_fit : (c : Certificate) → IsFine c → next_of (plan_said c) ≡ stands.Shores → AreGood (plan_said c) (pool_lines (has_groups c.sets) c.shores c.sets c.nodes)
shores_fit c fine at = (
  rw at refl,
  fine.few_shores,
  tt,
  shores_good c.shores (shores (length c.shores) ∷ plan_said c) (price_lines (has_groups c.sets) c.sets c.nodes) refl
      (subst AreDifferent (sym (ap (λ (pool : List (List ℕ)). pool ++ c.shores) (shores_of_plan c))) fine.different)
      (recursion_from_All IsFineShore c.shores fine.shores_fine) (sets_fit c fine),
)

plan_fits : (c : Certificate) → IsFine c → AreGood (head_said c) (map tour_line c.plan ++ pool_lines (has_groups c.sets) c.shores c.sets c.nodes)
plan_fits c fine =
    let none = no_steps c c.counts (has_groups c.sets) in
    tours_good c.plan (head_said c) (pool_lines (has_groups c.sets) c.shores c.sets c.nodes) refl (omega (arith, none, fine.few_steps))
    (recursion_from_All _ c.plan fine.edges_in) (shores_fit c fine)

head_fits : (size : Option Counts) (grouped : Bool) (price low n : ℕ) (lines : List Line) → IfSome size AreCountsInRange → price < 10 ^ 18 → low < 10 ^ 18 → n ≤ 100000 →
    AreGood (tours n ∷ bound low ∷ cost price ∷ listed (version_lines size grouped) []) lines →
    AreGood [] (version_lines size grouped ++ (cost price ∷ (bound low ∷ (tours n ∷ lines))))
head_fits None grouped price low n lines size_in price_in low_in few good = (refl, tt, tt, (refl, price_in, tt, (refl, low_in, tt, (refl, few, tt, good))))
head_fits (Some x) false price low n lines size_in price_in low_in few good =
    (refl, tt, tt, (refl, size_in, tt, (refl, price_in, tt, (refl, low_in, tt, (refl, few, tt, good)))))
head_fits (Some x) true price low n lines size_in price_in low_in few good =
    (refl, tt, tt, (refl, size_in, tt, (refl, price_in, tt, (refl, low_in, tt, (refl, few, tt, good)))))

pub fine_spellable : (c : Certificate) → IsFine c → IsSpellable c
fine_spellable c fine =
    let lines = map tour_line c.plan ++ pool_lines (has_groups c.sets) c.shores c.sets c.nodes in
    record {
      lines = subst (λ (lines : List Line). AreGood [] lines) (sym (grouped_lines c))
          (head_fits c.counts (has_groups c.sets) c.cost c.bound (length c.plan) lines fine.counts_in fine.cost_in fine.bound_in fine.few_tours (plan_fits c fine));
      counted = fine.counted;
    }
