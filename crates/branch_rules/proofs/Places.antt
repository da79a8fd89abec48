-- The lower number from its parts, and what holds at each place.
use Rattle.std.proofs.Common.{◌≡◌, ℕ, ◌+◌, ◌%◌, ◌<◌, List, length, get_or, ap, ◌∙◌, subst, arith, max, inl, inr}
use Rattle.std.specs.List.{All}
use Rattle.std.proofs.lemmas.List.{get_or_default}
use Rattle.std.proofs.lemmas.Bool.{cases_eq}
use Rattle.branch_rules.specs.Decisions.{to_parity}

-- the lower number, from the numbers that make it
pub lower_by : (r wanted high n h s least : ℕ) → least ≡ max n h → n ≡ wanted → h ≡ high → s ≡ r → least + (least % 2 + s % 2) % 2 ≡ to_parity r (max wanted high)
lower_by r wanted high n h s least least_is n_is h_is s_is =
    let parts : least + (least % 2 + s % 2) % 2 ≡ least + (least + s) % 2 = omega arith in
    let same : least ≡ max wanted high = omega (arith, least_is, n_is, h_is) in
    parts ∙ ap (λ m. m + (m + s) % 2) same ∙ ap (λ m. max wanted high + (max wanted high + m) % 2) s_is

pub all_at : {X : Type 0} (P : X → Type 0) (xs : List X) (d : X) → ((k : ℕ) → k < length xs → P (get_or xs k d)) → All P xs
all_at P xs d each k e less = subst P (get_or_default xs k d e less) (each k less)

-- what holds at each place below the next one
pub one_more : (P : ℕ → Type 0) (i : ℕ) → ((k : ℕ) → k < i → P k) → P i → (k : ℕ) → k < i + 1 → P k
one_more P i before here k less = elim (cases_eq k i) [
  | inl last ↦ rw last here
  | inr other ↦ before k (omega (arith, less, other))
]

-- an item of a list that was read is the item there, whatever stands where there is none
pub item_at : {X : Type 0} (read xs : List X) (i : ℕ) (x d : X) → read ≡ xs → i < length read → x ≡ get_or read i x → x ≡ get_or xs i d
item_at read xs i x d same within is = is ∙ get_or_default read i x d within ∙ ap (λ l. get_or l i d) same
