-- One step along a cycle of children.
use Rattle.std.proofs.Common.{◌≡◌, ◌≢◌, ℕ, suc, ◌*◌, ◌/◌, ◌<◌, ◌≤◌, Bool, true, false, cond, List, Option, Some, length, slice_index, sym, subst, ap, ◌∙◌, arith, inl, inr}
use Rattle.std.proofs.lemmas.Bool.{cases_eq, cases_lt, cases_order}
use Rattle.blossom_match.specs.declared.state.Pair.{Pair}
use Rattle.blossom_match.specs.Views.{holds, turned, link_at, mate_at}
use Rattle.blossom_match.specs.Between.{after}
use Rattle.blossom_match.specs.Cycles.{ArePaired, IsOpened, IsReleased, IsRound, IsTrip, IsWhole}

chosen : (b : Bool) (x y z : ℕ) → z ≡ cond b x y → b ≡ true → z ≡ x
chosen b x y z is on = is ∙ ap (λ a. cond a x y) on

not_chosen : (b : Bool) (x y z : ℕ) → z ≡ cond b x y → b ≡ false → z ≡ y
not_chosen b x y z is off = is ∙ ap (λ a. cond a x y) off

-- no round is over before its end
pub before_end : (n : ℕ) (held : List Bool) (next : List ℕ) (first count : ℕ) (r : IsRound n held next first) → ((j : ℕ) → 1 ≤ j → j ≤ count → after next j first ≢ first) → count < r.len
before_end n held next first count r goes = elim (cases_lt count r.len) [
  | inl less ↦ less
  | inr more ↦ absurd (goes r.len (omega (arith, r.odd)) more r.closes)
]

pub part_in : (n : ℕ) (held : List Bool) (next : List ℕ) (first count part : ℕ) (r : IsRound n held next first) → ((j : ℕ) → 1 ≤ j → j ≤ count → after next j first ≢ first) → part ≡ after next count first → part < 2 * n
part_in n held next first count part r goes at = subst (λ x. x < 2 * n) (sym at) (r.in_slots count (before_end n held next first count r goes))

pub released_more : (n : ℕ) (held : List Bool) (next : List ℕ) (first count count' part : ℕ) (top top' top'' : List ℕ) (r : IsRound n held next first) →
    ((j : ℕ) → 1 ≤ j → j ≤ count → after next j first ≢ first) → part ≡ after next count first → count' ≡ suc count →
    IsReleased n held next count first top top' → ((v : ℕ) → v < n → slice_index top'' v ≡ cond (holds n held part v) part (slice_index top' v)) →
    IsReleased n held next count' first top top''
released_more n held next first count count' part top top' top'' r goes at more so_far step =
    let len = before_end n held next first count r goes in
    record {
      own = λ k v k_in v_in on. elim (cases_eq k count) [
        | inl same ↦
            let here : holds n held part v ≡ true = ap (λ x. holds n held x v) (at ∙ ap (λ x. after next x first) (sym same)) ∙ on in
            chosen (holds n held part v) part (slice_index top' v) (slice_index top'' v) (step v v_in) here ∙ at ∙ ap (λ x. after next x first) (sym same)
        | inr other ↦
            let less : k < count = omega (arith, other, k_in, more) in
            let not_here : holds n held part v ≡ false = ap (λ x. holds n held x v) at ∙ r.disjoint k count v less len v_in on in
            not_chosen (holds n held part v) part (slice_index top' v) (slice_index top'' v) (step v v_in) not_here ∙ so_far.own k v less v_in on
      ];
      off = λ v v_in none.
          not_chosen (holds n held part v) part (slice_index top' v) (slice_index top'' v) (step v v_in) (ap (λ x. holds n held x v) at ∙ none count (omega (arith, more)))
          ∙ so_far.off v v_in (λ k k_in. none k (omega (arith, k_in, more)));
    }

pub goes_more : (next : List ℕ) (first count count' part' : ℕ) → ((j : ℕ) → 1 ≤ j → j ≤ count → after next j first ≢ first) → part' ≡ after next (suc count) first → part' ≢ first → count' ≡ suc count →
    (j : ℕ) → 1 ≤ j → j ≤ count' → after next j first ≢ first
goes_more next first count count' part' goes at other more j some j_in = elim (cases_eq j (suc count)) [
  | inl same ↦ λ e. other (at ∙ ap (λ x. after next x first) (sym same) ∙ e)
  | inr less ↦ goes j some (omega (arith, less, j_in, more))
]

pub one_further : (next : List ℕ) (base i i' part after_part : ℕ) → part ≡ after next (2 * i) base → after_part ≡ slice_index next (slice_index next part) → i' ≡ suc i → after_part ≡ after next (2 * i') base
one_further next base i i' part after_part at step more =
    let same : suc (suc (2 * i)) ≡ 2 * i' = omega (arith, more) in
    step ∙ ap (λ x. slice_index next (slice_index next x)) at ∙ ap (λ x. after next x base) same

pub paired_more : (next : List ℕ) (link : List Pair) (base i i' part : ℕ) (mate mate' mate'' : List (Option Pair)) → part ≡ after next (2 * i) base → i' ≡ suc i → IsTrip next (length next) (2 * i') base →
    ArePaired next link base i mate mate' →
    mate_at mate'' (slice_index next part) ≡ Some (link_at link (slice_index next part)) →
    mate_at mate'' (slice_index next (slice_index next part)) ≡ Some (turned (link_at link (slice_index next part))) →
    ((t : ℕ) → t ≢ slice_index next part → t ≢ slice_index next (slice_index next part) → mate_at mate'' t ≡ mate_at mate' t) →
    ArePaired next link base i' mate mate''
paired_more next link base i i' part mate mate' mate'' at more trip so_far here there off =
    let one : slice_index next part ≡ after next (suc (2 * i)) base = ap (λ x. slice_index next x) at in
    let two : slice_index next (slice_index next part) ≡ after next (suc (suc (2 * i))) base = ap (λ x. slice_index next (slice_index next x)) at in
    let before : (k : ℕ) → k ≤ 2 * i → mate_at mate'' (after next k base) ≡ mate_at mate' (after next k base) =
    λ k k_in. off (after next k base)
    (λ e. trip.apart k (suc (2 * i)) (omega (arith, k_in)) (omega (arith, more)) (e ∙ one))
    (λ e. trip.apart k (suc (suc (2 * i))) (omega (arith, k_in)) (omega (arith, more)) (e ∙ two)) in
    record {
      odd = λ j j_in. elim (cases_eq j i) [
        | inl same ↦ subst (λ x. mate_at mate'' (after next (suc (2 * x)) base) ≡ Some (link_at link (after next (suc (2 * x)) base))) (sym same)
            (subst (λ x. mate_at mate'' x ≡ Some (link_at link x)) one here)
        | inr other ↦ before (suc (2 * j)) (omega (arith, other, j_in, more)) ∙ so_far.odd j (omega (arith, other, j_in, more))
      ];
      even = λ j j_in. elim (cases_eq j i) [
        | inl same ↦ subst (λ x. mate_at mate'' (after next (suc (suc (2 * x))) base) ≡ Some (turned (link_at link (after next (suc (2 * x)) base)))) (sym same)
            (subst (λ x. mate_at mate'' (slice_index next x) ≡ Some (turned (link_at link x))) one there)
        | inr other ↦ before (suc (suc (2 * j))) (omega (arith, other, j_in, more)) ∙ so_far.even j (omega (arith, other, j_in, more))
      ];
      off = λ t none.
          off t (λ e. none (suc (2 * i)) (omega arith) (omega (arith, more)) (e ∙ one)) (λ e. none (suc (suc (2 * i))) (omega arith) (omega (arith, more)) (e ∙ two))
          ∙ so_far.off t (λ k some k_in. none k some (omega (arith, k_in, more)));
    }

pub next_in : (next : List ℕ) (base i pairs part : ℕ) → IsTrip next (length next) (2 * pairs) base → part ≡ after next (2 * i) base → i < pairs → slice_index next part < length next
next_in next base i pairs part trip at i_in = subst (λ x. slice_index next x < length next) (sym at) (trip.in_slots (suc (2 * i)) (omega (arith, i_in)))

pub second_in : (next : List ℕ) (base i pairs part : ℕ) → IsTrip next (length next) (2 * pairs) base → part ≡ after next (2 * i) base → i < pairs → slice_index next (slice_index next part) < length next
second_in next base i pairs part trip at i_in = subst (λ x. slice_index next (slice_index next x) < length next) (sym at) (trip.in_slots (suc (suc (2 * i))) (omega (arith, i_in)))

pub second_apart : (next : List ℕ) (base i pairs part : ℕ) → IsTrip next (length next) (2 * pairs) base → part ≡ after next (2 * i) base → i < pairs → slice_index next (slice_index next part) ≢ slice_index next part
second_apart next base i pairs part trip at i_in = subst (λ x. slice_index next (slice_index next x) ≢ slice_index next x) (sym at)
    (λ e. trip.apart (suc (2 * i)) (suc (suc (2 * i))) (omega arith) (omega (arith, i_in)) (sym e))

pub shorter_trip : (next : List ℕ) (slots count less base : ℕ) → less ≤ count → IsTrip next slots count base → IsTrip next slots less base
shorter_trip next slots count less base within trip = record {
  in_slots = λ k k_in. trip.in_slots k (omega (arith, k_in, within));
  apart = λ j k before k_in. trip.apart j k before (omega (arith, k_in, within));
}

-- the base of a cycle takes the pair, and the others are matched two by two
pub opened_now : (n : ℕ) (held : List Bool) (next : List ℕ) (link : List Pair) (first len base : ℕ) (p : Pair) (top top' : List ℕ) (mate mate' mate'' : List (Option Pair)) → base ≡ slice_index top' p.inside →
    IsWhole next len first → IsReleased n held next len first top top' → IsTrip next (length next) (2 * (len / 2)) base → mate_at mate' base ≡ Some p → ((t : ℕ) → t ≢ base → mate_at mate' t ≡ mate_at mate t) →
    ArePaired next link base (len / 2) mate' mate'' → IsOpened n held next link first len p top top' mate mate''
opened_now n held next link first len base p top top' mate mate' mate'' is whole released trip at off paired = record {
  whole = whole;
  released = released;
  at_base = subst (λ x. mate_at mate'' x ≡ Some p) is (paired.off base (λ k some k_in. trip.apart 0 k (omega (arith, some)) k_in) ∙ at);
  odd = subst (λ x. (i : ℕ) → i < len / 2 → mate_at mate'' (after next (suc (2 * i)) x) ≡ Some (link_at link (after next (suc (2 * i)) x))) is paired.odd;
  even = subst (λ x. (i : ℕ) → i < len / 2 → mate_at mate'' (after next (suc (suc (2 * i))) x) ≡ Some (turned (link_at link (after next (suc (2 * i)) x)))) is paired.even;
  off = subst (λ x. (t : ℕ) → t ≢ x → ((k : ℕ) → 1 ≤ k → k ≤ 2 * (len / 2) → t ≢ after next k x) → mate_at mate'' t ≡ mate_at mate t) is (λ t other none. paired.off t none ∙ off t other);
}

-- a walk ends after one round
pub round_len : (n : ℕ) (held : List Bool) (next : List ℕ) (first len : ℕ) (r : IsRound n held next first) → IsWhole next len first → len ≡ r.len
round_len n held next first len r w = elim (cases_order len r.len) [
  | inl same ↦ same
  | inr (inl less) ↦ absurd ((r.trip 0 (omega (arith, less))).apart 0 len (omega (arith, w.some)) (omega (arith, less, r.odd)) (sym w.closes))
  | inr (inr more) ↦ absurd (w.least r.len (omega (arith, r.odd)) more r.closes)
]

pub base_trip : (n : ℕ) (held : List Bool) (next : List ℕ) (first len slots : ℕ) (p : Pair) (top top' : List ℕ) (r : IsRound n held next first) → IsWhole next len first → IsReleased n held next len first top top' → p.inside < n →
    2 * n ≡ slots → (k : ℕ) × (k < len) × (holds n held (after next k first) p.inside ≡ true) → IsTrip next slots (2 * (len / 2)) (slice_index top' p.inside)
base_trip n held next first len slots p top top' r whole released p_in slots_is at =
    let same = round_len n held next first len r whole in
    subst (λ x. IsTrip next x (2 * (len / 2)) (slice_index top' p.inside)) slots_is
    (subst (λ x. IsTrip next (2 * n) (2 * (len / 2)) x) (sym (released.own at.0 p.inside at.1 p_in at.2))
    (subst (λ x. IsTrip next (2 * n) (2 * (x / 2)) (after next at.0 first)) (sym same) (r.trip at.0 (omega (arith, same, at.1)))))

pub one_more : (next : List ℕ) (first count count' part : ℕ) → part ≡ after next count first → count' ≡ suc count → slice_index next part ≡ after next count' first
one_more next first count count' part at more = ap (λ x. slice_index next x) at ∙ ap (λ k. after next k first) (sym more)
