-- What yes and no to a pair say, and what yes pairs join.
use Rattle.std.proofs.Common.{◌≡◌, ℕ, suc, ◌==◌, true, ◌||◌, ◌&&◌, List, [], ◌∷◌, ◌++◌, refl, sym, arith, inl, inr, ◌⊎◌}
use Rattle.std.specs.List.{All, list_any}
use Rattle.std.proofs.lemmas.Bool.{or_cases, or_left, or_right, and_parts, eqb-true}
use Rattle.decision_chains.specs.Exclusions.{says_yes, says_no, IsYes, IsNo, YesPath, AreJoined, Detour}
use Rattle.decision_chains.specs.Pairs.{IsPairWithin, HasPairWithin}
use Rattle.decision_chains.specs.Laws.{YesPairsJoin}
use Rattle.decision_chains.specs.declared.decision.Decision.{Decision}
use Rattle.decision_chains.specs.declared.decision.Decision.TheVariants.{Yes, No, Low, High}

-- what a test on the pair of a decision says
pub pair_is : (a b c d : ℕ) → (((c == a) && (d == b)) || ((c == b) && (d == a))) ≡ true → ((c ≡ a) × (d ≡ b)) ⊎ ((c ≡ b) × (d ≡ a))
pair_is a b c d is = elim (or_cases ((c == a) && (d == b)) ((c == b) && (d == a)) is) [
  | inl straight ↦ let both = and_parts (c == a) (d == b) straight in inl (eqb-true c a both.0, eqb-true d b both.1)
  | inr turned ↦ let both = and_parts (c == b) (d == a) turned in inr (eqb-true c b both.0, eqb-true d a both.1)
]

names_yes : (a b : ℕ) (d : Decision) → says_yes a b d ≡ true → (d ≡ Yes a b) ⊎ (d ≡ Yes b a)
names_yes a b (Yes c d) is = elim (pair_is a b c d is) [
  | inl same ↦ inl (rw (same.0, same.1) refl)
  | inr turned ↦ inr (rw (turned.0, turned.1) refl)
]
names_yes a b (No c d) is = cc
names_yes a b (Low shore k) is = cc
names_yes a b (High shore k) is = cc

names_no : (a b : ℕ) (d : Decision) → says_no a b d ≡ true → (d ≡ No a b) ⊎ (d ≡ No b a)
names_no a b (No c d) is = elim (pair_is a b c d is) [
  | inl same ↦ inl (rw (same.0, same.1) refl)
  | inr turned ↦ inr (rw (turned.0, turned.1) refl)
]
names_no a b (Yes c d) is = cc
names_no a b (Low shore k) is = cc
names_no a b (High shore k) is = cc

-- the order of a yes pair is free
says_turn : (a b : ℕ) (d : Decision) → says_yes a b d ≡ true → says_yes b a d ≡ true
says_turn a b (Yes c d) is = elim (or_cases ((c == a) && (d == b)) ((c == b) && (d == a)) is) [
  | inl straight ↦ or_right ((c == b) && (d == a)) ((c == a) && (d == b)) straight
  | inr turned ↦ or_left ((c == b) && (d == a)) ((c == a) && (d == b)) turned
]
says_turn a b (No c d) is = is
says_turn a b (Low shore k) is = is
says_turn a b (High shore k) is = is

pub yes_turn : (branch : List Decision) (a b : ℕ) → IsYes branch a b → IsYes branch b a
yes_turn [] a b is = is
yes_turn (d ∷ branch) a b is = elim (or_cases (says_yes a b d) (list_any (says_yes a b) branch) is) [
  | inl here ↦ or_left (says_yes b a d) (list_any (says_yes b a) branch) (says_turn a b d here)
  | inr later ↦ or_right (says_yes b a d) (list_any (says_yes b a) branch) (yes_turn branch a b later)
]

-- the order of a no is free
no_says_turn : (a b : ℕ) (d : Decision) → says_no a b d ≡ true → says_no b a d ≡ true
no_says_turn a b (Yes c d) is = is
no_says_turn a b (No c d) is = elim (or_cases ((c == a) && (d == b)) ((c == b) && (d == a)) is) [
  | inl straight ↦ or_right ((c == b) && (d == a)) ((c == a) && (d == b)) straight
  | inr turned ↦ or_left ((c == b) && (d == a)) ((c == a) && (d == b)) turned
]
no_says_turn a b (Low shore k) is = is
no_says_turn a b (High shore k) is = is

pub no_turn : (branch : List Decision) (a b : ℕ) → IsNo branch a b → IsNo branch b a
no_turn [] a b is = is
no_turn (d ∷ branch) a b is = elim (or_cases (says_no a b d) (list_any (says_no a b) branch) is) [
  | inl here ↦ or_left (says_no b a d) (list_any (says_no b a) branch) (no_says_turn a b d here)
  | inr later ↦ or_right (says_no b a d) (list_any (says_no b a) branch) (no_turn branch a b later)
]

-- a yes pair is of two different edges in range
says_pair : (m a b : ℕ) (d : Decision) → says_yes a b d ≡ true → HasPairWithin m d → IsPairWithin m a b
says_pair m a b (Yes c d) says pair = elim (pair_is a b c d says) [
  | inl straight ↦ rw (sym straight.0, sym straight.1) pair
  | inr turned ↦ rw (sym turned.1, sym turned.0) record {
    a_from_one = pair.b_from_one;
    a_in_range = pair.b_in_range;
    b_from_one = pair.a_from_one;
    b_in_range = pair.a_in_range;
    different = λ same. pair.different (sym same);
  }
]
says_pair m a b (No c d) says pair = cc
says_pair m a b (Low shore k) says pair = cc
says_pair m a b (High shore k) says pair = cc

pub yes_pair : (m a b : ℕ) (ds : List Decision) → All (HasPairWithin m) ds → IsYes ds a b → IsPairWithin m a b
yes_pair m a b [] pairs is = cc
yes_pair m a b (d ∷ ds) pairs is = elim (or_cases (says_yes a b d) (list_any (says_yes a b) ds) is) [
  | inl here ↦ says_pair m a b d here (pairs 0 d (omega arith))
  | inr later ↦ yes_pair m a b ds (λ k e less. pairs (suc k) e (omega (arith, less))) later
]

-- a path of yes pairs is a detour where the pair itself is no yes pair
pub detour_of : (branch : List Decision) (a b x : ℕ) (path : List ℕ) (y : ℕ) → ¬ (IsYes branch a b) → YesPath branch x path y → Detour branch a b x path y
detour_of branch a b x [] y never joined = joined
detour_of branch a b x (z ∷ path) y never joined = (
  joined.0,
  (λ is. never (rw is.1 at (rw is.0 at joined.0))),
  (λ is. never (yes_turn branch b a (rw is.1 at (rw is.0 at joined.0)))),
  detour_of branch a b z path y never joined.1,
)

-- paths of yes pairs, joined and turned
pub path_append : (branch : List Decision) (a b c : ℕ) (xs ys : List ℕ) → YesPath branch a xs b → YesPath branch b ys c → YesPath branch a (xs ++ ys) c
path_append branch a b c [] ys one two = rw one two
path_append branch a b c (x ∷ xs) ys one two = (one.0, path_append branch x b c xs ys one.1 two)

pub path_back : (branch : List Decision) (a b : ℕ) (path : List ℕ) → YesPath branch a path b → AreJoined branch b a
path_back branch a b [] joined = ([], sym joined)
path_back branch a b (x ∷ path) joined =
    let rest = path_back branch x b path joined.1 in
    (rest.0 ++ a ∷ [], path_append branch b x a rest.0 (a ∷ []) rest.1 (yes_turn branch a x joined.0, refl))

pub yes_pairs_law : YesPairsJoin
yes_pairs_law = record {
  names_yes = names_yes;
  names_no = names_no;
  yes_turned = yes_turn;
  no_turned = no_turn;
  within = yes_pair;
  turned = λ branch a b joined. path_back branch a b joined.0 joined.1;
  on = λ branch a b c one two. (one.0 ++ two.0, path_append branch a b c one.0 two.0 one.1 two.1);
  detour = detour_of;
}
