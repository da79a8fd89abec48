-- The parts of a line: what the functions read is what the definition says, and only that.
use Rattle.std.proofs.Common.{◌≡◌, ℕ, ◌+◌, ◌<◌, ◌≤◌, Bool, true, false, cond, eqb, ltb, leb, List, [], ◌∷◌, ◌++◌, length, map, take, drop, Option, Some, None, refl, sym, ap, subst, ◌∙◌, inl, inr, arith}
use Rattle.std.specs.List.{prefix_len}
use Rattle.std.specs.Char.{is_ascii_digit, to_ascii_lowercase}
use Rattle.std.specs.Str.{str_eq_ignore_ascii_case}
use Rattle.std.proofs.lemmas.Bool.{cases_Bool, cases_lt, false≢true, eqb-true, eqb-false, lt-ltb, le-ltb, cond-true, cond-false, cond_both, or_from, ne_eqb, and_right, and_parts, lt-leb, leb-true}
use Rattle.std.proofs.lemmas.Slice.Eq.{bytes_eq-Decides}
use Rattle.std.proofs.lemmas.List.{length-map, length-append, take_at, drop_at, take-append-drop}
use Rattle.std.proofs.lemmas.List.Folds.{length-prefix_len}
use Rattle.std.proofs.lemmas.Option.{cond_some}
use Rattle.dat_text.specs.Lines.{is_blank, Each, StartsWith, SameLetters, IsNumber, Part, IsPart, Begins, IsBlank, IsSkippedEnd}
use Rattle.dat_text.specs.Lines.Part.{byte, word, number}
use Rattle.dat_text.specs.Reading.{run_at, after_run, after_first, after_byte, after_letters, after_word, digits_at, number_at}
use Rattle.dat_text.proofs.Runs.{run_whole, run_passes, rest_stops, run_is}

-- blanks, and a text that begins with none, are cut apart in one way
pub behind_blanks : (blanks text : List ℕ) → Each is_blank blanks → ¬ (StartsWith is_blank text) → after_run is_blank (blanks ++ text) ≡ text
behind_blanks blanks text each stops = (run_is is_blank blanks text each stops).1

-- One byte.

pub first_found : (b : ℕ) (text rest : List ℕ) → after_first b text ≡ Some rest → text ≡ b ∷ rest
first_found b [] rest e = absurd cc
first_found b (c ∷ text) rest e =
    let p = cond_some (eqb c b) text rest e in
    ap (λ (x : ℕ). x ∷ text) (eqb-true c b p.0) ∙ ap (λ (x : List ℕ). b ∷ x) p.1

pub byte_begins : (b : ℕ) (text rest : List ℕ) → after_byte b text ≡ Some rest → Begins (byte b) text rest
unfolding after_byte
byte_begins b text rest e = record {
  blanks = run_at is_blank text;
  own = b ∷ [];
  are_blank = run_passes is_blank text;
  is_part = refl;
  whole = run_whole is_blank text ∙ ap (λ (x : List ℕ). run_at is_blank text ++ x) (first_found b (after_run is_blank text) rest e);
}

eqb-same : (b : ℕ) → eqb b b ≡ true
eqb-same b = grind arith

pub byte_found : (b : ℕ) (text rest : List ℕ) → is_blank b ≡ false → Begins (byte b) text rest → after_byte b text ≡ Some rest
unfolding after_byte
byte_found b text rest no_blank begins =
    let whole : text ≡ begins.blanks ++ (b ∷ rest) = begins.whole ∙ ap (λ (x : List ℕ). begins.blanks ++ (x ++ rest)) begins.is_part in
    let behind : after_run is_blank text ≡ b ∷ rest =
    ap (after_run is_blank) whole ∙ behind_blanks begins.blanks (b ∷ rest) begins.are_blank (λ starts. false≢true (sym no_blank ∙ starts)) in
    ap (after_first b) behind ∙ ap (λ (t : Bool). cond t (Some rest) None) (eqb-same b)

-- A word.

-- there is a first byte, and it does not pass
abbrev pub Apart : (ℕ → Bool) → List ℕ → Type 0
Apart p [] = ⊥
Apart p (b ∷ text) = p b ≡ false

-- the test does not look at the case of letters
abbrev pub IgnoresCase : (ℕ → Bool) → Type 0
IgnoresCase p = (b : ℕ) → p (to_ascii_lowercase b) ≡ p b

low_same : (b : ℕ) → b < 65 → to_ascii_lowercase b ≡ b
low_same b low = cond-true (ltb b 65) b (cond (ltb b 91) (b + 32) b) (lt-ltb b 65 low)

high_stays : (b : ℕ) → 65 ≤ b → 65 ≤ to_ascii_lowercase b
high_stays b high =
    let e : to_ascii_lowercase b ≡ cond (ltb b 91) (b + 32) b = cond-false (ltb b 65) b (cond (ltb b 91) (b + 32) b) (le-ltb b 65 high) in
    let h : 65 ≤ cond (ltb b 91) (b + 32) b = cond_both (ltb b 91) (b + 32) b (λ x. 65 ≤ x) (λ _. omega arith) (λ _. high) in
    omega (arith, e, h)

no_high_blank : (b : ℕ) → 65 ≤ b → is_blank b ≡ false
no_high_blank b high =
    or_from _ _ (or_from _ _ (or_from _ _ (ne_eqb b 9 (λ e. omega arith)) (ne_eqb b 13 (λ e. omega arith))) (ne_eqb b 26 (λ e. omega arith))) (ne_eqb b 32 (λ e. omega arith))

no_high_digit : (b : ℕ) → 65 ≤ b → is_ascii_digit b ≡ false
no_high_digit b high = and_right (leb 48 b) (leb b 57) (lt-leb b 57 (omega arith))

-- a test that no byte from `A` on passes
ignores : (p : ℕ → Bool) → ((b : ℕ) → 65 ≤ b → p b ≡ false) → IgnoresCase p
ignores p none b = elim (cases_lt b 65) [
  | inl low ↦ ap p (low_same b low)
  | inr high ↦ none (to_ascii_lowercase b) (high_stays b high) ∙ sym (none b high)
]

pub blank_ignores_case : IgnoresCase is_blank
blank_ignores_case = ignores is_blank no_high_blank

pub digit_ignores_case : IgnoresCase is_ascii_digit
digit_ignores_case = ignores is_ascii_digit no_high_digit

pub letters_apart : (p : ℕ → Bool) (own letters : List ℕ) → IgnoresCase p → SameLetters own letters → Apart p letters → Apart p own
letters_apart p own [] ignores same apart = absurd apart
letters_apart p [] (c ∷ letters) ignores same apart = absurd cc
letters_apart p (b ∷ own) (c ∷ letters) ignores same apart =
    let first : to_ascii_lowercase b ≡ to_ascii_lowercase c = cc in
    sym (ignores b) ∙ ap p first ∙ ignores c ∙ apart

pub apart_stops : (p : ℕ → Bool) (own rest : List ℕ) → Apart p own → ¬ (StartsWith p (own ++ rest))
apart_stops p [] rest apart = absurd apart
apart_stops p (b ∷ own) rest apart = λ starts. false≢true (sym apart ∙ starts)

none_or : {A : Type 0} (t : Bool) (o : Option A) (x : A) → cond t None o ≡ Some x → o ≡ Some x
none_or true o x e = absurd cc
none_or false o x e = e

letters_found : (letters text rest : List ℕ) → after_letters letters text ≡ Some rest → (own : List ℕ) × SameLetters own letters × (text ≡ own ++ rest)
letters_found letters text rest e =
    let n = length letters in
    let inner = cond (str_eq_ignore_ascii_case (take n text) letters) (Some (drop n text)) None in
    let long : inner ≡ Some rest = none_or (ltb (length text) n) inner rest e in
    let p = cond_some (str_eq_ignore_ascii_case (take n text) letters) (drop n text) rest long in (
      take n text,
      (bytes_eq-Decides (map to_ascii_lowercase (take n text)) (map to_ascii_lowercase letters)).0 p.0,
      sym (take-append-drop n text) ∙ ap (λ (x : List ℕ). take n text ++ x) p.1,
    )

pub word_begins : (letters text rest : List ℕ) → after_word letters text ≡ Some rest → Begins (word letters) text rest
unfolding after_word
word_begins letters text rest e =
    let found = letters_found letters (after_run is_blank text) rest e in
    record {
      blanks = run_at is_blank text;
      own = found.0;
      are_blank = run_passes is_blank text;
      is_part = found.1;
      whole = run_whole is_blank text ∙ ap (λ (x : List ℕ). run_at is_blank text ++ x) found.2;
    }

letters_read : (letters own rest : List ℕ) → SameLetters own letters → after_letters letters (own ++ rest) ≡ Some rest
letters_read letters own rest same =
    let n = length letters in
    let long : length own ≡ n = sym (length-map own to_ascii_lowercase) ∙ ap length same ∙ length-map letters to_ascii_lowercase in
    let enough : ltb (length (own ++ rest)) n ≡ false = le-ltb (length (own ++ rest)) n (omega (arith, length-append own rest, long)) in
    let front : take n (own ++ rest) ≡ own = take_at own rest n long in
    let back : drop n (own ++ rest) ≡ rest = drop_at own rest n long in
    let equal : str_eq_ignore_ascii_case own letters ≡ true = (bytes_eq-Decides (map to_ascii_lowercase own) (map to_ascii_lowercase letters)).1 same in
    rw (enough, front, equal, back) refl

pub word_found : (letters text rest : List ℕ) → Apart is_blank letters → Begins (word letters) text rest → after_word letters text ≡ Some rest
unfolding after_word
word_found letters text rest apart begins =
    let behind : after_run is_blank text ≡ begins.own ++ rest =
    ap (after_run is_blank) begins.whole ∙ behind_blanks begins.blanks (begins.own ++ rest) begins.are_blank (apart_stops is_blank begins.own rest (letters_apart is_blank begins.own letters blank_ignores_case begins.is_part apart)) in
    ap (after_letters letters) behind ∙ letters_read letters begins.own rest begins.is_part

-- A number.

-- a byte is no digit and a blank, both
no_blank_digit : (b : ℕ) → is_ascii_digit b ≡ true → is_blank b ≡ false
no_blank_digit b digit =
    let low : 48 ≤ b = leb-true 48 b (and_parts (leb 48 b) (leb b 57) digit).0 in
    or_from _ _ (or_from _ _ (or_from _ _ (ne_eqb b 9 (λ e. omega arith)) (ne_eqb b 13 (λ e. omega arith))) (ne_eqb b 26 (λ e. omega arith))) (ne_eqb b 32 (λ e. omega arith))

digits_apart : (digits : List ℕ) → IsNumber digits → Apart is_blank digits
digits_apart [] is_number = absurd (omega (arith, is_number.some))
digits_apart (b ∷ digits) is_number = no_blank_digit b is_number.each.0

digits_found : (text digits rest : List ℕ) → digits_at text ≡ Some (digits, rest) →
    IsNumber digits × (text ≡ digits ++ rest) × ¬ (StartsWith is_ascii_digit rest)
digits_found text digits rest e =
    let n = prefix_len is_ascii_digit text in
    let p = none_else (eqb n 0) (run_at is_ascii_digit text, after_run is_ascii_digit text) (digits, rest) e in
    let front : run_at is_ascii_digit text ≡ digits = ap (λ (x : List ℕ × List ℕ). x.0) p.1 in
    let back : after_run is_ascii_digit text ≡ rest = ap (λ (x : List ℕ × List ℕ). x.1) p.1 in
    let long : length digits ≡ n = ap length (sym front) ∙ length-prefix_len is_ascii_digit text in
    let some : n ≡ 0 → ⊥ = eqb-false n 0 p.0 in (
      record { some = omega (arith, long, some); each = subst (λ (x : List ℕ). Each is_ascii_digit x) front (run_passes is_ascii_digit text) },
      run_whole is_ascii_digit text ∙ ap (λ (x : List ℕ). x ++ after_run is_ascii_digit text) front ∙ ap (λ (x : List ℕ). digits ++ x) back,
      subst (λ (x : List ℕ). ¬ (StartsWith is_ascii_digit x)) back (rest_stops is_ascii_digit text),
    )
  where
    none_else : {A : Type 0} (t : Bool) (x y : A) → cond t None (Some x) ≡ Some y → (t ≡ false) × (x ≡ y)
    none_else true x y e = absurd cc
    none_else false x y e = (refl, cc)

pub number_begins : (digits text rest : List ℕ) → number_at text ≡ Some (digits, rest) → Begins (number digits) text rest × ¬ (StartsWith is_ascii_digit rest)
unfolding number_at
number_begins digits text rest e =
    let found = digits_found (after_run is_blank text) digits rest e in (
      record {
        blanks = run_at is_blank text;
        own = digits;
        are_blank = run_passes is_blank text;
        is_part = (refl, found.0);
        whole = run_whole is_blank text ∙ ap (λ (x : List ℕ). run_at is_blank text ++ x) found.1;
      },
      found.2,
    )

digits_read : (digits rest : List ℕ) → IsNumber digits → ¬ (StartsWith is_ascii_digit rest) → digits_at (digits ++ rest) ≡ Some (digits, rest)
digits_read digits rest is_number stops =
    let text = digits ++ rest in
    let cut = run_is is_ascii_digit digits rest is_number.each stops in
    let long : length digits ≡ prefix_len is_ascii_digit text = ap length (sym cut.0) ∙ length-prefix_len is_ascii_digit text in
    let some : eqb (prefix_len is_ascii_digit text) 0 ≡ false = ne_eqb (prefix_len is_ascii_digit text) 0 (λ e. omega (arith, long, is_number.some)) in
    cond-false (eqb (prefix_len is_ascii_digit text) 0) None (Some (run_at is_ascii_digit text, after_run is_ascii_digit text)) some
    ∙ ap (λ (x : List ℕ). Some (x, after_run is_ascii_digit text)) cut.0 ∙ ap (λ (x : List ℕ). Some (digits, x)) cut.1

pub number_found : (digits text rest : List ℕ) → Begins (number digits) text rest → ¬ (StartsWith is_ascii_digit rest) → number_at text ≡ Some (digits, rest)
unfolding number_at
number_found digits text rest begins stops =
    let own : begins.own ≡ digits = begins.is_part.0 in
    let whole : text ≡ begins.blanks ++ (digits ++ rest) = begins.whole ∙ ap (λ (x : List ℕ). begins.blanks ++ (x ++ rest)) own in
    let behind : after_run is_blank text ≡ digits ++ rest =
    ap (after_run is_blank) whole ∙ behind_blanks begins.blanks (digits ++ rest) begins.are_blank (apart_stops is_blank digits rest (digits_apart digits begins.is_part.1)) in
    ap digits_at behind ∙ digits_read digits rest begins.is_part.1 stops

-- What begins with no digit.

no_digit_blank : (b : ℕ) → is_blank b ≡ true → is_ascii_digit b ≡ false
no_digit_blank b blank = elim (cases_Bool (is_ascii_digit b)) [
  | inl digit ↦ absurd (false≢true (sym (no_blank_digit b digit) ∙ blank))
  | inr other ↦ other
]

-- the part is a byte that is no digit, or a word that begins with none
abbrev pub NoDigits : Part → Type 0
NoDigits (byte b) = is_ascii_digit b ≡ false
NoDigits (word letters) = Apart is_ascii_digit letters
NoDigits (number digits) = ⊥

own_apart : (part : Part) (own : List ℕ) → NoDigits part → IsPart part own → Apart is_ascii_digit own
own_apart (byte b) own no_digits is_part = subst (λ (x : List ℕ). Apart is_ascii_digit x) (sym is_part) no_digits
own_apart (word letters) own no_digits is_part = letters_apart is_ascii_digit own letters digit_ignores_case is_part no_digits
own_apart (number digits) own no_digits is_part = absurd no_digits

blanks_stop : (blanks text : List ℕ) → Each is_blank blanks → ¬ (StartsWith is_ascii_digit text) → ¬ (StartsWith is_ascii_digit (blanks ++ text))
blanks_stop [] text each stops = stops
blanks_stop (b ∷ blanks) text each stops = λ starts. false≢true (sym (no_digit_blank b each.0) ∙ starts)

pub part_stops : (part : Part) (text rest : List ℕ) → NoDigits part → Begins part text rest → ¬ (StartsWith is_ascii_digit text)
part_stops part text rest no_digits begins =
    subst (λ (x : List ℕ). ¬ (StartsWith is_ascii_digit x)) (sym begins.whole)
    (blanks_stop begins.blanks (begins.own ++ rest) begins.are_blank (apart_stops is_ascii_digit begins.own rest (own_apart part begins.own no_digits begins.is_part)))

pub blank_stops : (text : List ℕ) → IsBlank text → ¬ (StartsWith is_ascii_digit text)
blank_stops [] blank = λ starts. starts
blank_stops (b ∷ text) blank = λ starts. false≢true (sym (no_digit_blank b blank.0) ∙ starts)

pub end_stops : (text : List ℕ) → IsSkippedEnd text → ¬ (StartsWith is_ascii_digit text)
end_stops [] ends = λ starts. starts
end_stops (b ∷ text) ends = λ starts. false≢true (sym (no_digit_blank b ends) ∙ starts)
