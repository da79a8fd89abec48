-- What a turn leaves to do is less.
use Rattle.std.proofs.Common.{◌≡◌, ℕ, zero, suc, ◌+◌, ◌*◌, ◌-◌, ◌<◌, ◌≤◌, Bool, true, false, not, ◌&&◌, cond, List, slice_index, refl, sym, subst, arith, inl, inr}
use Rattle.std.proofs.lemmas.Bool.{cases_eq}
use Rattle.std.proofs.Math.Nat.{mul-le-mul_left}
use Rattle.blossom_match.specs.declared.state.State.{State}
use Rattle.blossom_match.specs.declared.state.Label.{Label}
use Rattle.blossom_match.specs.declared.state.Label.TheVariants.{Free, Outer, Inner}
use Rattle.blossom_match.specs.Matching.{total}
use Rattle.blossom_match.specs.Views.{label_at, is_outer, outer_members, bare_nodes, has_outer, is_used, to_do}
use Rattle.blossom_match.proofs.Totals.{total-le}

pub total-less : (n : ℕ) (f g : ℕ → ℕ) (a : ℕ) → ((v : ℕ) → v < n → f v ≤ g v) → a < n → f a < g a → total n f < total n g
total-less zero f g a less a_in strict = absurd (omega arith)
total-less (suc n) f g a less a_in strict = elim (cases_eq a n) [
  | inl same ↦ let at : f n < g n = subst (λ x. f x < g x) same strict in omega (arith, at, total-le n f g (λ v below. less v (omega arith)))
  | inr other ↦ omega (arith, total-less n f g a (λ v below. less v (omega arith)) (omega arith) strict, less n (omega arith))
]

total-ones : (n : ℕ) (b : ℕ → Bool) → total n (λ v. cond (b v) 1 0) ≤ n
total-ones zero b = omega arith
total-ones (suc n) b = omega (arith, total-ones n b, at_most_one (b n))
  where
    at_most_one : (x : Bool) → cond x 1 0 ≤ 1
    at_most_one true = omega arith
    at_most_one false = omega arith

pub one_le : (l m : Label) → (l ≡ Outer → m ≡ Outer) → cond (is_outer l) 1 0 ≤ cond (is_outer m) 1 0
one_le Outer m keeps = subst (λ x. 1 ≤ cond (is_outer x) 1 0) (sym (keeps refl)) (omega arith)
one_le Free m keeps = omega arith
one_le Inner m keeps = omega arith

one_less : (l m : Label) → l ≡ Free → m ≡ Outer → cond (is_outer l) 1 0 < cond (is_outer m) 1 0
one_less l m free outer = subst (λ x. cond (is_outer x) 1 0 < cond (is_outer m) 1 0) (sym free) (subst (λ x. 0 < cond (is_outer x) 1 0) (sym outer) (omega arith))

-- outer members stay so, and one that was free is outer now
pub outer_more : (n : ℕ) (top : List ℕ) (label label' : List Label) (a : ℕ) → ((s : ℕ) → label_at label s ≡ Outer → label_at label' s ≡ Outer) →
    a < n → label_at label (slice_index top a) ≡ Free → label_at label' (slice_index top a) ≡ Outer → outer_members n top label < outer_members n top label'
outer_more n top label label' a keeps a_in free outer =
    total-less n (λ v. cond (is_outer (label_at label (slice_index top v))) 1 0) (λ v. cond (is_outer (label_at label' (slice_index top v))) 1 0) a
    (λ v below. one_le (label_at label (slice_index top v)) (label_at label' (slice_index top v)) (keeps (slice_index top v))) a_in
    (one_less (label_at label (slice_index top a)) (label_at label' (slice_index top a)) free outer)

less_steps : (x y k b b' : ℕ) → suc x ≤ y → b' < k → x * k + b' < y * k + b
less_steps x y k b b' less small = omega (arith, mul-le-mul_left k less)

pub less_to_do : (before now : State) → now.size ≡ before.size →
    outer_members before.size before.top.items before.label.items < outer_members now.size now.top.items now.label.items → to_do now < to_do before
unfolding to_do
less_to_do before now size more =
    let n = now.size in
    let all = total-ones now.size (λ v. is_outer (label_at now.label.items (slice_index now.top.items v))) in
    let bare = total-ones (2 * now.size) (λ s. is_used now.size now.child.items s && not (has_outer now.size now.held.items now.top.items now.label.items s)) in
    let step : suc (now.size - outer_members now.size now.top.items now.label.items) ≤ before.size - outer_members before.size before.top.items before.label.items = omega (arith, all, more, size) in
    let small : bare_nodes now.size now.held.items now.top.items now.child.items now.label.items < 2 * now.size + 1 = omega (arith, bare) in
    subst (λ k. (now.size - outer_members now.size now.top.items now.label.items) * (2 * now.size + 1) + bare_nodes now.size now.held.items now.top.items now.child.items now.label.items
    < (before.size - outer_members before.size before.top.items before.label.items) * (2 * k + 1) + bare_nodes before.size before.held.items before.top.items before.child.items before.label.items) size
    (less_steps (now.size - outer_members now.size now.top.items now.label.items) (before.size - outer_members before.size before.top.items before.label.items) (2 * now.size + 1)
    (bare_nodes before.size before.held.items before.top.items before.child.items before.label.items) (bare_nodes now.size now.held.items now.top.items now.child.items now.label.items) step small)
