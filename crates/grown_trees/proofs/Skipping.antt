-- Nodes are read on from a state, and a block is gone past without a look at its nodes.
use Rattle.std.proofs.Common.{◌≡◌, ℕ, zero, suc, ◌+◌, ◌-◌, ◌≤◌, List, [], ◌∷◌, ◌++◌, length, refl, sym, ap, ◌∙◌, subst, arith}
use Rattle.decision_chains.specs.declared.decision.Decision.{Decision}
use Rattle.decision_chains.specs.declared.decision.Decision.TheVariants.{Yes, No, Low, High}
use Rattle.branch_rules.specs.declared.node.Node.{Node}
use Rattle.branch_rules.specs.declared.node.Node.TheVariants as nodes
use Rattle.grown_trees.specs.Backward.{Found, split_read, node_read, read_from}
use Rattle.grown_trees.specs.Blocks.{inner_skipped, leaf_skipped, skip_of}
use Rattle.grown_trees.specs.declared.block.Skip.{Skip}

pub read_append : (f : Found) (xs ys : List Node) → read_from f (xs ++ ys) ≡ read_from (read_from f ys) xs
read_append f [] ys = refl
read_append f (x ∷ xs) ys = ap (λ (g : Found). node_read g x) (read_append f xs ys)

-- a skip counts each node once
pub skip_long : (xs : List Node) → (skip_of xs).leaves + (skip_of xs).inner ≡ length xs
skip_long [] = refl
skip_long (nodes.Pair a b ∷ xs) = omega (arith, skip_long xs)
skip_long (nodes.Cut shore k ∷ xs) = omega (arith, skip_long xs)
skip_long (nodes.Price set ∷ xs) = omega (arith, skip_long xs)
skip_long (nodes.Void ∷ xs) = omega (arith, skip_long xs)
skip_long (nodes.Fixed ∷ xs) = omega (arith, skip_long xs)

-- an inner node that joins two of the whole subtrees behind it
split_skips : (ds : List Decision) (w : ℕ) (first second : Decision) → 2 ≤ w → split_read ds w first second ≡ record { decisions = ds; whole = w - 1 }
split_skips ds zero first second two = absurd (omega (arith, two))
split_skips ds (suc zero) first second two = absurd (omega (arith, two))
split_skips ds (suc (suc n)) first second two =
    let same : suc n ≡ suc (suc n) - 1 = omega arith in
    ap (λ (m : ℕ). record { decisions = ds; whole = m }) same

-- no decision was found on the way from a state to another one, and each inner node has joined two subtrees
record Skips (f g : Found) (s : Skip) : Type 0 where
  same : g.decisions ≡ f.decisions
  whole : g.whole + s.inner ≡ f.whole + s.leaves

inner_skips : (f g : Found) (s : Skip) (first second : Decision) → (inner_skipped s).need ≤ f.whole → Skips f g s → Skips f (split_read g.decisions g.whole first second) (inner_skipped s)
inner_skips f g s first second enough is =
    let two : 2 ≤ g.whole = omega (arith, enough, is.whole) in
    subst (λ (h : Found). Skips f h (inner_skipped s)) (sym (split_skips g.decisions g.whole first second two))
    (record { same = is.same; whole = omega (arith, two, is.whole) })

leaf_skips : (f g : Found) (s : Skip) → Skips f g s → Skips f (record { decisions = g.decisions; whole = suc g.whole }) (leaf_skipped s)
leaf_skips f g s is = record { same = is.same; whole = omega (arith, is.whole) }

skips : (f : Found) (xs : List Node) → (skip_of xs).need ≤ f.whole → Skips f (read_from f xs) (skip_of xs)
skips f [] enough = record { same = refl; whole = refl }
skips f (nodes.Pair a b ∷ xs) enough = inner_skips f (read_from f xs) (skip_of xs) (Yes a b) (No a b) enough (skips f xs (omega (arith, enough)))
skips f (nodes.Cut shore k ∷ xs) enough = inner_skips f (read_from f xs) (skip_of xs) (Low shore k) (High shore k) enough (skips f xs (omega (arith, enough)))
skips f (nodes.Price set ∷ xs) enough = leaf_skips f (read_from f xs) (skip_of xs) (skips f xs enough)
skips f (nodes.Void ∷ xs) enough = leaf_skips f (read_from f xs) (skip_of xs) (skips f xs enough)
skips f (nodes.Fixed ∷ xs) enough = leaf_skips f (read_from f xs) (skip_of xs) (skips f xs enough)

found_same : (ds es : List Decision) (w v : ℕ) → ds ≡ es → w ≡ v → ◌≡◌ {A = Found} (record { decisions = ds; whole = w }) (record { decisions = es; whole = v })
found_same ds es w v first second =
    ap (λ (xs : List Decision). record { decisions = xs; whole = w }) first ∙ ap (λ (n : ℕ). record { decisions = es; whole = n }) second

-- a block is gone past
module _ (f : Found) (xs : List Node) (s : Skip) (is : s ≡ skip_of xs) (enough : s.need ≤ f.whole) where
  all_skips : Skips f (read_from f xs) s
  all_skips = subst (λ (t : Skip). Skips f (read_from f xs) t) (sym is) (skips f xs (omega (arith, enough, ap (λ (t : Skip). t.need) is)))

  pub skip_fits : s.inner ≤ f.whole + s.leaves
  skip_fits = omega (arith, all_skips.whole)

  pub skip_few : f.whole + s.leaves ≤ f.whole + length xs
  skip_few = omega (arith, skip_long xs, ap (λ (t : Skip). t.leaves) is)

  pub skipped : ◌≡◌ {A = Found} (record { decisions = f.decisions; whole = f.whole + s.leaves - s.inner }) (read_from f xs)
  skipped = found_same f.decisions (read_from f xs).decisions (f.whole + s.leaves - s.inner) (read_from f xs).whole (sym all_skips.same) (omega (arith, all_skips.whole))
