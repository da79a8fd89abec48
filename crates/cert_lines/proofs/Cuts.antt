-- Texts of which the front is kept, and numbers at their front.
use Rattle.std.proofs.Common.{◌≡◌, ◌≢◌, ℕ, zero, suc, ◌+◌, ◌-◌, ◌*◌, ◌^◌, ◌<◌, ◌≤◌, min, Bool, true, false, IsTrue, not, eqb, ◌&&◌, ◌||◌, List, [], ◌∷◌, ◌++◌, length, get_or, take, refl, sym, ap, subst, ◌∙◌, length-append, map, drop, neg_ℤ, pos, negsuc, lit≤, ◌⊎◌, inl, inr, lit<, arith, MatchOption, Option, None, Some}
use Rattle.std.specs.List.{list_all}
use Rattle.std.specs.Char.{is_ascii_digit}
use Rattle.std.specs.Str.Parse.{digits_value}
use Rattle.std.proofs.lemmas.Bool.{and_parts, and_from, or_cases, not-true, eqb-false, eqb-true, eq-eqb, ne_eqb, cases_eq, cases_lt}
use Rattle.std.proofs.lemmas.List.{append-nil}
use Rattle.std.proofs.lemmas.Int.Digits.{digits_value_more}
use Rattle.std.proofs.lemmas.List.Folds.{list_all-append}
use Rattle.std.specs.Int.Digits.{digits_of}
use Rattle.std.proofs.lemmas.Int.Digits.{first_digits_of}
use Rattle.plan_model.specs.declared.step.Step.{Step}
use Rattle.cert_lines.specs.Lines.{step_word}
use Rattle.cert_lines.specs.Numerals.{numeral, signed_numeral}
use Rattle.cert_lines.specs.Numbers.{IsNumeral, IsNatural, IsNoNatural, IsMarkedNumber, IsNoMarkedNumber, IsWhole, IsNoWhole, IsStep, IsNoStep, mark_with, limit}
use Rattle.cert_lines.specs.Words.{IsCut}
use Rattle.cert_lines.proofs.Numerals.{digit_is, numeral_spells, natural_numeral, natural_short}

-- a text of which nothing is kept is empty
pub kept_none : {least : ℕ} {text : List ℕ} {more digits : Bool} → 0 < least → IsCut least [] more digits text → text ≡ []
kept_none {least} {text} {more} {digits} some cut =
    elim more as (λ m. more ≡ m → text ≡ []) [ true ↦ λ e. absurd (omega (arith, cut.long e, some)) | false ↦ λ e. cut.parts ∙ cut.whole e ] refl

-- what is left of a text behind its first byte
pub record IsTail (least : ℕ) (c : ℕ) (cs text : List ℕ) (more digits : Bool) : Type 0 where
  pub tail : List ℕ
  pub parts : text ≡ c ∷ tail
  pub cut : IsCut least cs more digits tail

pub tail_of : {least : ℕ} {c : ℕ} {cs text : List ℕ} {more digits : Bool} → IsCut (suc least) (c ∷ cs) more digits text → IsTail least c cs text more digits
tail_of {least} {c} {cs} {text} {more} {digits} cut = record {
  tail = cs ++ cut.rest;
  parts = cut.parts;
  cut = record { rest = cut.rest; parts = refl; whole = cut.whole; longer = cut.longer; long = λ e. omega (arith, cut.long e); digits = cut.digits };
}

pub weaker : {least : ℕ} {front text : List ℕ} {more digits : Bool} → IsCut (suc least) front more digits text → IsCut least front more digits text
weaker {least} {front} {text} {more} {digits} cut = record { rest = cut.rest; parts = cut.parts; whole = cut.whole; longer = cut.longer; long = λ e. omega (arith, cut.long e); digits = cut.digits }

all_split : (xs ys : List ℕ) → list_all is_ascii_digit (xs ++ ys) ≡ true → (list_all is_ascii_digit xs ≡ true) × (list_all is_ascii_digit ys ≡ true)
all_split xs ys all = and_parts _ _ (sym (list_all-append is_ascii_digit xs ys) ∙ all)

append_empty : (xs ys : List ℕ) → xs ++ ys ≡ [] → ys ≡ []
append_empty [] ys e = e
append_empty (x ∷ xs) ys e = cc

front_empty : (xs ys : List ℕ) → xs ++ ys ≡ [] → xs ≡ []
front_empty [] ys e = refl
front_empty (x ∷ xs) ys e = cc

-- what a text that is a is_one says of its front and its rest
pub record IsNumeralCut (front : List ℕ) (goes_on all_digits : Bool) : Type 0 where
  pub is_one : IsNumeral front
  pub digits : all_digits ≡ true
  pub more : get_or front 0 0 ≡ 48 → goes_on ≡ false

numeral_front : (front rest : List ℕ) → front ≢ [] → IsNumeral (front ++ rest) → IsNumeral front × (list_all is_ascii_digit rest ≡ true) × (get_or front 0 0 ≡ 48 → rest ≡ [])
numeral_front [] rest some is_one = absurd (some refl)
numeral_front (c ∷ cs) rest some is_one =
    let all = all_split (c ∷ cs) rest is_one.0 in
    ((all.0, λ e. front_empty cs rest (is_one.1 e)), all.1, λ e. append_empty cs rest (is_one.1 e))

not_more : {least : ℕ} {front text : List ℕ} {more digits : Bool} → (cut : IsCut least front more digits text) → cut.rest ≡ [] → more ≡ false
not_more {least} {front} {text} {more} {digits} cut none = elim more as (λ m. more ≡ m → m ≡ false) [ true ↦ λ e. absurd (cut.longer e none) | false ↦ λ e. refl ] refl

pub numeral_cut : {least : ℕ} {front text : List ℕ} {more digits : Bool} → 0 < least → IsCut least front more digits text → IsNumeral text → IsNumeralCut front more digits
numeral_cut {least} {front} {text} {more} {digits} some cut is_one =
    let filled : front ≢ [] = λ e. (let none : text ≡ [] = kept_none some (subst (λ (x : List ℕ). IsCut least x more digits text) e cut) in subst IsNumeral none is_one) in
    let parts = numeral_front front cut.rest filled (subst IsNumeral cut.parts is_one) in
    record { is_one = parts.0; digits = cut.digits ∙ parts.1; more = λ e. not_more cut (parts.2 e) }

numeral_whole : (front rest : List ℕ) → IsNumeral front → list_all is_ascii_digit rest ≡ true → (get_or front 0 0 ≡ 48 → rest ≡ []) → IsNumeral (front ++ rest)
numeral_whole [] rest is_one all zero_first = absurd is_one
numeral_whole (c ∷ cs) rest is_one all zero_first = (
  list_all-append is_ascii_digit (c ∷ cs) rest ∙ and_from _ _ is_one.0 all,
  λ e. ap (λ (x : List ℕ). cs ++ x) (zero_first e) ∙ append-nil cs ∙ is_one.1 e,
)

pub cut_numeral : {least : ℕ} {front text : List ℕ} {more digits : Bool} → IsCut least front more digits text → IsNumeralCut front more digits → IsNumeral text
cut_numeral {least} {front} {text} {more} {digits} cut whole =
    subst IsNumeral (sym cut.parts) (numeral_whole front cut.rest whole.is_one (sym cut.digits ∙ whole.digits) (λ e. cut.whole (whole.more e)))

-- a text that is no is_one spells no number
pub no_natural : {front text : List ℕ} {more digits : Bool} → IsCut 19 front more digits text → (IsNumeralCut front more digits → ⊥) → IsNoNatural text
no_natural {front} {text} {more} {digits} cut none = λ n e. none (numeral_cut (lit< tt) cut (subst IsNumeral (sym e) (natural_numeral n)))

-- the number of a is_one of which all is kept
pub natural_whole : {front text : List ℕ} {more digits : Bool} → IsCut 19 front more digits text → more ≡ false → IsNumeral front → (told : ℕ) → told ≡ min (digits_value 10 front) limit → IsNatural text told
natural_whole {front} {text} {more} {digits} cut ends is_one told is = record {
  n = digits_value 10 front;
  spelled = cut.parts ∙ ap (λ (x : List ℕ). front ++ x) (cut.whole ends) ∙ append-nil front ∙ numeral_spells front is_one;
  value = is;
}

longer_than : (front rest : List ℕ) → rest ≢ [] → length front < length (front ++ rest)
longer_than front [] some = absurd (some refl)
longer_than front (x ∷ rest) some = omega (arith, length-append front (x ∷ rest))

-- a long is_one does not begin with `0`
long_first : (front : List ℕ) → IsNumeral front → 19 ≤ length front → get_or front 0 0 ≢ 48
long_first [] is_one long = absurd is_one
long_first (c ∷ cs) is_one long = λ e. (let none : cs ≡ [] = is_one.1 e in omega (arith, long, ap length none))

-- a is_one of which not all is kept spells a number past the limit
pub natural_long : {front text : List ℕ} {more digits : Bool} → IsCut 19 front more digits text → more ≡ true → IsNumeral front → digits ≡ true → IsNatural text limit
natural_long {front} {text} {more} {digits} cut goes begins all =
    let whole : IsNumeralCut front more digits = record { is_one = begins; digits = all; more = λ e. absurd (long_first front begins (cut.long goes) e) } in
    let is_one : IsNumeral text = cut_numeral cut whole in
    let spelled : text ≡ numeral (digits_value 10 text) = numeral_spells text is_one in
    let long : length front < length text = subst (λ (x : List ℕ). length front < length x) (sym cut.parts) (longer_than front cut.rest (cut.longer goes)) in
    let least : 19 ≤ length front = cut.long goes in
    let same : length text ≡ length (numeral (digits_value 10 text)) = ap length spelled in
    let large : limit ≤ digits_value 10 text = elim (cases_lt (digits_value 10 text) (10 ^ 18)) [
      | inl small ↦ absurd (omega (arith, natural_short (digits_value 10 text) small, same, long, least))
      | inr large ↦ large
    ] in
    record { n = digits_value 10 text; spelled = spelled; value = omega (arith, large) }

no_length : (xs : List ℕ) → length xs ≡ 0 → xs ≡ []
no_length [] e = refl
no_length (x ∷ xs) e = absurd (omega (arith, e))

or_left : (x y : Bool) → x ≡ true → (x || y) ≡ true
or_left true y e = refl
or_left false y e = cc

or_right : (x y : Bool) → y ≡ true → (x || y) ≡ true
or_right true y e = refl
or_right false y e = e

-- whether bytes are a is_one, by what is tested of them
pub numeral_tested : (c : ℕ) (cs : List ℕ) → (IsTrue (list_all is_ascii_digit (c ∷ cs) && (not (eqb c 48) || eqb (length (c ∷ cs)) 1)) → IsNumeral (c ∷ cs)) × (IsNumeral (c ∷ cs) → IsTrue (list_all is_ascii_digit (c ∷ cs) && (not (eqb c 48) || eqb (length (c ∷ cs)) 1)))
numeral_tested c cs = (
  λ e. (let parts = and_parts (list_all is_ascii_digit (c ∷ cs)) _ e in (
    parts.0,
    λ same. elim (or_cases (not (eqb c 48)) (eqb (length (c ∷ cs)) 1) parts.1) [
      | inl other ↦ absurd (eqb-false c 48 (not-true (eqb c 48) other) same)
      | inr one ↦ no_length cs (omega (arith, eqb-true (length (c ∷ cs)) 1 one))
    ],
  )),
  λ is_one. and_from (list_all is_ascii_digit (c ∷ cs)) _ is_one.0 (elim (cases_eq c 48) [
    | inl same ↦ or_right (not (eqb c 48)) _ (eq-eqb (length (c ∷ cs)) 1 (ap (λ (x : List ℕ). length (c ∷ x)) (is_one.1 same)))
    | inr other ↦ or_left _ (eqb (length (c ∷ cs)) 1) (ap not (ne_eqb c 48 other))
  ]),
)

-- the number behind a mark
pub marked_is : {mark told : ℕ} {text tail : List ℕ} → text ≡ mark ∷ tail → IsNatural tail told → IsMarkedNumber mark text told
marked_is {mark} {told} {text} {tail} parts natural = record { n = natural.n; spelled = parts ∙ ap (λ (x : List ℕ). mark ∷ x) natural.spelled; value = natural.value }

pub marked_told : {mark c : ℕ} {cs text : List ℕ} {more digits : Bool} → (told : Option ℕ) → c ≡ mark → IsCut 20 (c ∷ cs) more digits text →
    ((tail : List ℕ) → IsCut 19 cs more digits tail → MatchOption told (IsNoNatural tail) (IsNatural tail)) → MatchOption told (IsNoMarkedNumber mark text) (IsMarkedNumber mark text)
marked_told {mark} {c} {cs} {text} {more} {digits} None same cut tells =
    let t = tail_of {least = 19} cut in
    λ n e. tells t.tail t.cut n (let both : c ∷ t.tail ≡ mark ∷ numeral n = sym t.parts ∙ e in cc)
marked_told {mark} {c} {cs} {text} {more} {digits} (Some k) same cut tells =
    let t = tail_of {least = 19} cut in
    marked_is (t.parts ∙ ap (λ (x : ℕ). x ∷ t.tail) same) (tells t.tail t.cut)

pub marked_other : {mark c : ℕ} {cs text : List ℕ} {more digits : Bool} → c ≢ mark → IsCut 20 (c ∷ cs) more digits text → IsNoMarkedNumber mark text
marked_other {mark} {c} {cs} {text} {more} {digits} other cut = λ n e. other (let both : c ∷ (cs ++ cut.rest) ≡ mark ∷ numeral n = sym cut.parts ∙ e in cc)

digit_at : (digits : List ℕ) (i : ℕ) → list_all is_ascii_digit digits ≡ true → i < length digits → is_ascii_digit (get_or digits i 0) ≡ true
digit_at [] i all below = absurd (omega (arith, below))
digit_at (c ∷ cs) zero all below = (and_parts (is_ascii_digit c) (list_all is_ascii_digit cs) all).0
digit_at (c ∷ cs) (suc i) all below = digit_at cs i (and_parts (is_ascii_digit c) (list_all is_ascii_digit cs) all).1 (omega (arith, below))

-- the number up to the limit, one digit further
pub value_turn : (digits : List ℕ) (i value : ℕ) → list_all is_ascii_digit digits ≡ true → i < length digits → value ≡ min (digits_value 10 (take i digits)) limit →
    min (10 * value + (get_or digits i 0 - 48)) limit ≡ min (digits_value 10 (take (i + 1) digits)) limit
value_turn digits i value all below is =
    let d = digit_is (get_or digits i 0) (digit_at digits i all below) in
    let more = digits_value_more 10 digits i below in
    omega (arith, d, is, more)

eqb-false_suc : (n : ℕ) → eqb (suc n) 0 ≡ true → ⊥
eqb-false_suc n e = omega (arith, eqb-true (suc n) 0 e)

-- whether a text is empty, by what is kept of it
pub is_empty_told : {more digits : Bool} (kept text : List ℕ) (told : Bool) → IsCut 20 kept more digits text → told ≡ eqb (length kept) 0 → (IsTrue told → text ≡ []) × (text ≡ [] → IsTrue told)
is_empty_told [] text told cut is = (λ e. kept_none (lit< tt) cut, λ e. is)
is_empty_told (c ∷ cs) text told cut is = (λ e. absurd (eqb-false_suc (length cs) (sym is ∙ e)), λ e. absurd (let both : c ∷ (cs ++ cut.rest) ≡ [] = sym cut.parts ∙ e in cc))

some_length : (c : ℕ) (cs : List ℕ) → eqb (length (c ∷ cs)) 0 ≡ true → ⊥
some_length c cs e = omega (arith, eqb-true (length (c ∷ cs)) 0 e)

-- no bytes are no is_one
pub none_tested : (text : List ℕ) → eqb (length text) 0 ≡ true → (IsTrue false → IsNumeral text) × (IsNumeral text → IsTrue false)
none_tested [] e = (λ said. absurd (let both : false ≡ true = said in cc), λ said. absurd said)
none_tested (c ∷ cs) e = absurd (some_length c cs e)

-- a text that is kept, behind its first byte
pub marked_kept : {mark : ℕ} {text : List ℕ} {more digits : Bool} (kept : List ℕ) (told : Option ℕ) → eqb (length kept) 0 ≡ false → get_or kept 0 0 ≡ mark → IsCut 20 kept more digits text →
    ((tail : List ℕ) → IsCut 19 (drop 1 kept) more digits tail → MatchOption told (IsNoNatural tail) (IsNatural tail)) → MatchOption told (IsNoMarkedNumber mark text) (IsMarkedNumber mark text)
marked_kept {mark} {text} {more} {digits} [] told some same cut tells = absurd (let both : true ≡ false = some in cc)
marked_kept {mark} {text} {more} {digits} (c ∷ cs) told some same cut tells = marked_told told same cut tells

pub unmarked : {mark : ℕ} {text : List ℕ} {more digits : Bool} (kept : List ℕ) → (eqb (length kept) 0 ≡ true) ⊎ (get_or kept 0 0 ≢ mark) → IsCut 20 kept more digits text → IsNoMarkedNumber mark text
unmarked {mark} {text} {more} {digits} [] why cut = λ n e. (let both : [] ≡ mark ∷ numeral n = sym (kept_none (lit< tt) cut) ∙ e in cc)
unmarked {mark} {text} {more} {digits} (c ∷ cs) why cut = elim why [ inl e ↦ absurd (some_length c cs e) | inr other ↦ marked_other other cut ]

-- a number is a whole number
pub natural_is_whole : {text : List ℕ} (told : ℕ) → IsNatural text told → IsWhole text (pos told)
natural_is_whole {text} told natural = record { z = pos natural.n; spelled = natural.spelled; value = ap pos natural.value }

pub no_whole : {text : List ℕ} → IsNoNatural text → IsNoMarkedNumber 45 text → IsNoWhole text
no_whole {text} no_natural no_mark = λ z. elim z as (λ w. text ≡ signed_numeral w → ⊥) [ pos n ↦ no_natural n | negsuc n ↦ no_mark (suc n) ]

first_glyph : (ds : List ℕ) → map (λ d. 48 + d) ds ≡ 48 ∷ [] → 0 < get_or ds 0 0 → ⊥
first_glyph [] e some = omega (arith, some)
first_glyph (d ∷ ds) e some = (let same : 48 + d ≡ 48 = cc in omega (arith, same, some))

some_word : (n : ℕ) → numeral (suc n) ≡ numeral 0 → ⊥
unfolding numeral
some_word n e = first_glyph (digits_of 10 (suc n)) e (first_digits_of 10 (suc n) (lit≤ tt) (omega arith))

pub no_zero : {text : List ℕ} → IsNoNatural text → IsMarkedNumber 45 text 0 → IsNoWhole text
no_zero {text} no_natural marked = λ z. elim z as (λ w. text ≡ signed_numeral w → ⊥) [
  | pos n ↦ no_natural n
  | negsuc n ↦ λ e. (let zero_told : marked.n ≡ 0 = omega (arith, marked.value) in
      let both : 45 ∷ numeral (suc n) ≡ 45 ∷ numeral 0 = sym e ∙ marked.spelled ∙ ap (λ (k : ℕ). 45 ∷ numeral k) zero_told in
      some_word n (let inner : numeral (suc n) ≡ numeral 0 = cc in inner))
]

marked_negative : {text : List ℕ} (n told : ℕ) → text ≡ 45 ∷ numeral n → told ≡ min n limit → 0 < told → IsWhole text (neg_ℤ (pos told))
marked_negative {text} zero told spelled value some = absurd (omega (arith, value, some))
marked_negative {text} (suc n) told spelled value some = record {
  z = negsuc n;
  spelled = spelled;
  value = ap (λ (k : ℕ). neg_ℤ (pos k)) (let e : told ≡ suc (min n (limit - 1)) = omega (arith, value) in e);
}

pub marked_whole : {text : List ℕ} (told : ℕ) → IsMarkedNumber 45 text told → 0 < told → IsWhole text (neg_ℤ (pos told))
marked_whole {text} told marked some = marked_negative marked.n told marked.spelled marked.value some

-- the step of a mark
ap2_mark : (a b x y : Bool) → a ≡ b → x ≡ y → mark_with a x ≡ mark_with b y
ap2_mark a b x y p q = ap (λ (k : Bool). mark_with k x) p ∙ ap (mark_with b) q

pub marked_step : {text : List ℕ} (mark told : ℕ) (served forward : Bool) (edge : ℕ) → mark ≡ mark_with served forward → IsMarkedNumber mark text told → edge ≡ min told 1000000 → IsStep text (record { edge = edge; forward = forward; served = served })
marked_step {text} mark told served forward edge same marked small = record {
  step = record { edge = marked.n; forward = forward; served = served };
  spelled = marked.spelled ∙ ap (λ (k : ℕ). k ∷ numeral marked.n) same;
  edge = omega (arith, small, marked.value);
  forward = refl;
  served = refl;
}

pub unmarked_step : {text : List ℕ} (mark : ℕ) (served forward : Bool) → mark ≡ mark_with served forward → IsNoMarkedNumber mark text → (s : Step) → s.served ≡ served → s.forward ≡ forward → text ≡ step_word s → ⊥
unmarked_step {text} mark served forward same unmarked s is_served is_forward e =
    unmarked s.edge (e ∙ ap (λ (k : ℕ). k ∷ numeral s.edge) (ap2_mark s.served served s.forward forward is_served is_forward ∙ sym same))

abbrev pub NoStepOf : List ℕ → Bool → Bool → Type 0
NoStepOf text served forward = (s : Step) → s.served ≡ served → s.forward ≡ forward → text ≡ step_word s → ⊥

no_step_with : {text : List ℕ} (s : Step) (served forward : Bool) → s.served ≡ served → s.forward ≡ forward → NoStepOf text true true → NoStepOf text true false → NoStepOf text false true → NoStepOf text false false → text ≡ step_word s → ⊥
no_step_with {text} s true true p q a b c d = a s p q
no_step_with {text} s true false p q a b c d = b s p q
no_step_with {text} s false true p q a b c d = c s p q
no_step_with {text} s false false p q a b c d = d s p q

pub no_step : {text : List ℕ} → NoStepOf text true true → NoStepOf text true false → NoStepOf text false true → NoStepOf text false false → IsNoStep text
no_step {text} a b c d = λ s. no_step_with s s.served s.forward refl refl a b c d

take_length : (xs : List ℕ) → take (length xs) xs ≡ xs
take_length [] = refl
take_length (x ∷ xs) = ap (λ (k : List ℕ). x ∷ k) (take_length xs)

take_whole : (xs : List ℕ) (n : ℕ) → n ≡ length xs → take n xs ≡ xs
take_whole xs n e = ap (λ (k : ℕ). take k xs) e ∙ take_length xs

pub tail_take : (xs : List ℕ) → take (length xs - 1) (drop 1 xs) ≡ drop 1 xs
tail_take [] = refl
tail_take (x ∷ xs) = take_whole xs (length (x ∷ xs) - 1) (omega arith)
