-- The turns of a round, one after the other, and the rounds.
use Rattle.std.proofs.Common.{◌≡◌, ℕ, suc, ◌+◌, ◌<◌, ◌≤◌, Bool, true, false, List, [], ◌∷◌, ◌++◌, length, map, take, drop, set, get_or, replicate, None, refl, sym, ap, ◌∙◌, subst, arith, inl, inr}
use Rattle.std.specs.Prelude.{All, ◌||◌}
use Rattle.std.proofs.Math.ListN.{drop_of_length-le, get_or-map}
use Rattle.std.proofs.lemmas.List.{append-nil, append_assoc, drop-set-lt, drop_more, length-map, map-set, take_more_set, take_all}
use Rattle.carp_base.specs.Problem.{Problem}
use Rattle.plan_model.specs.declared.step.Step.{Step}
use Rattle.plan_model.specs.Offers.{Tally}
use Rattle.plan_model.specs.Plans.{plan_cost}
use Rattle.helper_rounds.specs.Asking.{AreBetterRounds, AreRounds, AreTurns, IsRound, IsTurn, Moment, Standing, TellsOfBetter, fresh, standings}

-- two turns, one after the other
pub tells_both : (p : Problem) (b c : Bool) (best mid now : List (List Step)) → TellsOfBetter p b best mid → TellsOfBetter p c mid now → TellsOfBetter p (b || c) best now
tells_both p true true best mid now one other = omega (arith, one, other)
tells_both p true false best mid now one other = omega (arith, one, ap (plan_cost p) other)
tells_both p false true best mid now one other = omega (arith, ap (plan_cost p) one, other)
tells_both p false false best mid now one other = other ∙ one

-- whatever becomes of the helpers from a place on, all turns of the round are these and those that are done
abbrev pub Follow : Problem → Moment → List Standing → ℕ → List (List Step) → Type 0
Follow p start now i best = (rest : List Standing) (end : List (List Step)) → AreTurns p best (drop i now) rest end → AreTurns p start.best start.helpers (take i now ++ rest) end

-- one more turn
more_turns : (p : Problem) (start : Moment) (now : List Standing) (i : ℕ) (before after : Standing) (best next : List (List Step)) → i < length now → before ≡ get_or now i before →
    Follow p start now i best → IsTurn p best before after next → Follow p start (set now i after) (i + 1) next
more_turns p start now i before after best next within read follow turn = λ rest end turns.
    let here : drop i now ≡ before ∷ drop (i + 1) now = drop_more now i before within ∙ ap (λ (x : Standing). x ∷ drop (i + 1) now) (sym read) in
    let others : AreTurns p next (drop (i + 1) now) rest end = subst (λ (xs : List Standing). AreTurns p next xs rest end) (drop-set-lt (i + 1) now i after (omega arith)) turns in
    let all : AreTurns p start.best start.helpers (take i now ++ (after ∷ rest)) end =
    follow (after ∷ rest) end (subst (λ (xs : List Standing). AreTurns p best xs (after ∷ rest) end) (sym here) (next, turn, others)) in
    subst (λ (xs : List Standing). AreTurns p start.best start.helpers xs end)
    (sym (ap (λ (xs : List Standing). xs ++ rest) (take_more_set now i after within) ∙ append_assoc (take i now) (after ∷ []) rest)) all

both : {A B C : Type 0} (f : A → B → C) {a b : A} {c d : B} → a ≡ b → c ≡ d → f a c ≡ f b d
both f {a} {b} {c} {d} one other = ap (λ x. f x c) one ∙ ap (f b) other

-- the same for helpers of any type
module _ {X : Type 0} (asked : X → ℕ) (tally : X → Tally) where
  abbrev standing : X → Standing
  standing x = record { asked = asked x; tally = tally x }

  pub asked_more : (p : Problem) (start : Moment) (xs : List X) (i : ℕ) (x y : X) (best next : List (List Step)) → i < length xs → x ≡ get_or xs i x →
      Follow p start (map standing xs) i best → IsTurn p best (standing x) (standing y) next → Follow p start (map standing (set xs i y)) (i + 1) next
  asked_more p start xs i x y best next within read follow turn =
      let inside : i < length (map standing xs) = omega (arith, within, length-map xs standing) in
      let there : standing x ≡ get_or (map standing xs) i (standing x) = ap standing read ∙ sym (get_or-map standing xs i x) in
      subst (λ (hs : List Standing). Follow p start hs (i + 1) next) (sym (map-set standing xs i y))
      (more_turns p start (map standing xs) i (standing x) (standing y) best next inside there follow turn)

  pub none_left : (p : Problem) (start : Moment) (xs : List X) (i : ℕ) (best : List (List Step)) → length xs ≤ i → Follow p start (map standing xs) i best →
      IsRound p start (record { best = best; helpers = standings asked tally xs })
  none_left p start xs i best past follow =
      let past_all : length (map standing xs) ≤ i = omega (arith, past, length-map xs standing) in
      subst (λ (hs : List Standing). AreTurns p start.best start.helpers hs best) (append-nil (take i (map standing xs)) ∙ take_all i (map standing xs) past_all)
      (follow [] best (subst (λ (hs : List Standing). AreTurns p best hs [] best) (sym (drop_of_length-le (map standing xs) past_all)) refl))

  -- helpers that were seeded are fresh
  pub all_fresh : (xs : List X) → All (λ x. (asked x ≡ 0) × (tally x ≡ record { fouls = 0; least = None; last = None })) xs → standings asked tally xs ≡ replicate (length xs) fresh
  all_fresh [] each = refl
  all_fresh (x ∷ xs) each =
      let first = each 0 x (omega arith) in
      both (λ (h : Standing) (hs : List Standing). h ∷ hs) (both (λ (n : ℕ) (t : Tally). record { asked = n; tally = t }) first.0 first.1)
      (all_fresh xs (λ k d within. each (suc k) d (omega (arith, within))))

-- the rounds so far: each but the last found a cheaper plan
pub record AreRoundsSoFar (p : Problem) (start now : Moment) (found : Bool) (rounds : ℕ) : Type 0 where
  pub better : ℕ
  pub counted : rounds ≡ better + 1
  pub last : Moment
  pub before : AreBetterRounds p better start last
  pub round : IsRound p last now
  pub told : TellsOfBetter p found last.best now.best

pub first_round : (p : Problem) (start now : Moment) (found : Bool) → IsRound p start now → TellsOfBetter p found start.best now.best → AreRoundsSoFar p start now found 1
first_round p start now found round told = record { better = 0; counted = refl; last = start; before = refl; round = round; told = told }

pub next_round : (p : Problem) (start now next : Moment) (first found : Bool) (rounds : ℕ) → first ≡ true → AreRoundsSoFar p start now first rounds → IsRound p now next →
    TellsOfBetter p found now.best next.best → AreRoundsSoFar p start next found (rounds + 1)
next_round p start now next first found rounds better so_far round told = record {
  better = suc so_far.better;
  counted = omega (arith, so_far.counted);
  last = now;
  before = (so_far.last, so_far.before, so_far.round, subst (λ (b : Bool). TellsOfBetter p b so_far.last.best now.best) better so_far.told);
  round = round;
  told = told;
}

pub stopped : (p : Problem) (start now : Moment) (found : Bool) (rounds : ℕ) → found ≡ false → rounds ≤ 4 → AreRoundsSoFar p start now found rounds → AreRounds p start now
stopped p start now found rounds none few so_far = record {
  better = so_far.better;
  few = omega (arith, few, so_far.counted);
  last = so_far.last;
  before = so_far.before;
  round = so_far.round;
  ended = inr (subst (λ (b : Bool). TellsOfBetter p b so_far.last.best now.best) none so_far.told);
}

pub all_rounds : (p : Problem) (start now : Moment) (found : Bool) (rounds : ℕ) → rounds ≡ 4 → AreRoundsSoFar p start now found rounds → AreRounds p start now
all_rounds p start now found rounds four so_far = record {
  better = so_far.better;
  few = omega (arith, four, so_far.counted);
  last = so_far.last;
  before = so_far.before;
  round = so_far.round;
  ended = inl (omega (arith, four, so_far.counted));
}
