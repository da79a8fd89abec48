-- The lines that are written, and what each says.
use Rattle.std.proofs.Common.{◌≡◌, ℕ, ◌^◌, ◌<◌, ◌≤◌, Bool, true, false, not, eqb, List, [], ◌∷◌, ◌++◌, length, map, Some, None, IsTrue, refl, sym, ap, subst, ◌∙◌, append_assoc, inr, lit<, arith}
use Rattle.std.specs.Prelude.{codes, decimal}
use Rattle.std.specs.List.{AllByRecursion, list_all}
use Rattle.std.specs.Char.{is_ascii_digit}
use Rattle.std.specs.Str.{str_eq_ignore_ascii_case}
use Rattle.std.specs.Str.Parse.{digits_value, AllDigits}
use Rattle.std.specs.Char.{to_ascii_lowercase}
use Rattle.std.proofs.lemmas.Bool.{false≢true, and_parts}
use Rattle.std.proofs.lemmas.Bool.Decides.{nat_tests}
use Rattle.std.proofs.lemmas.Fmt.{decimal_is_IsNumeral, length-decimal-le}
use Rattle.std.proofs.lemmas.List.{append-nil}
use Rattle.std.proofs.lemmas.List.Elements.{All-from_recursion}
use Rattle.std.proofs.lemmas.List.Folds.{list_all-append}
use Rattle.std.proofs.lemmas.List.Splits.{slice_split_at}
use Rattle.std.proofs.lemmas.Slice.Eq.{bytes_eq-Decides}
use Rattle.std.proofs.lemmas.Str.Parse.{digit_from_value}
use Rattle.dat_text.specs.declared.key.Key.{Key}
use Rattle.dat_text.specs.declared.key.Key.TheVariants.{Vertices, RequiredCount, OtherCount, Capacity, Depot, RequiredList, OtherList}
use Rattle.dat_text.specs.DatText.{key_line}
use Rattle.dat_text.specs.Lines.{is_blank, is_key_byte, Each, StartsWith, SameLetters, IsNumber, key_name, HasKey, has_number, IsKeyLine, IsStated, IsSkipped}
use Rattle.dat_text.specs.Kinds.{NamesNone}
use Rattle.dat_text.specs.Reading.{after_run, after_byte}
use Rattle.dat_text.specs.Text.{Statement, lines_of, stands, Says, AreGood, LatestFirst}
use Rattle.dat_text.specs.Text.Statement.{nothing, states}
use Rattle.dat_text.proofs.Runs.{run_passes, run_is}
use Rattle.dat_text.proofs.KeyLines.{is_skipped}

-- Numbers.

digit_by_value : (c : ℕ) → 48 ≤ c → c ≤ 57 → is_ascii_digit c ≡ true
digit_by_value c low high = grind (arith, nat_tests)

each_digit : (digits : List ℕ) → AllDigits 10 digits → Each is_ascii_digit digits
each_digit [] each = tt
each_digit (c ∷ digits) each =
    let range = digit_from_value c each.0 in
    (digit_by_value c range.0 range.1, each_digit digits each.1)

-- a number that is written with at most 18 digits
pub record IsWritten (n : ℕ) : Type 0 where
  pub is_number : IsNumber (decimal n)
  pub short : length (decimal n) ≤ 18
  pub value : digits_value 10 (decimal n) ≡ n

pub is_written : (n : ℕ) → n < 10 ^ 18 → IsWritten n
is_written n small =
    let numeral = decimal_is_IsNumeral n (omega arith) in
    record {
      is_number = record { some = numeral.0.0; each = each_digit (decimal n) numeral.0.1 };
      short = length-decimal-le 18 n (lit< tt) small (omega arith);
      value = numeral.1;
    }

-- No byte 10.

abbrev is_other : ℕ → Bool
is_other b = not (eqb b 10)

pub record IsOneLine (text : List ℕ) : Type 0 where
  pub test : list_all is_other text ≡ true

pub one_line : (text : List ℕ) → list_all is_other text ≡ true → IsOneLine text
one_line text test = record { test = test }

pub one_line-append : {a b : List ℕ} → IsOneLine a → IsOneLine b → IsOneLine (a ++ b)
one_line-append {a} {b} left right = record { test = rw (list_all-append, left.test, right.test) refl }

digit_is_other : (b : ℕ) → is_ascii_digit b ≡ true → is_other b ≡ true
digit_is_other b digit = grind (arith, nat_tests)

digits_one_line : (digits : List ℕ) → Each is_ascii_digit digits → IsOneLine digits
digits_one_line [] each = record { test = refl }
digits_one_line (b ∷ digits) each = record { test = rw (digit_is_other b each.0) (digits_one_line digits each.1).test }

pub decimal_one_line : (n : ℕ) → n < 10 ^ 18 → IsOneLine (decimal n)
decimal_one_line n small = digits_one_line (decimal n) (is_written n small).is_number.each

not_true : (b : Bool) → not b ≡ true → b ≡ false
not_true true e = sym e
not_true false e = refl

other_bytes : (text : List ℕ) → list_all is_other text ≡ true → AllByRecursion (λ b. eqb b 10 ≡ false) text
other_bytes [] one = tt
other_bytes (b ∷ text) one =
    let parts = and_parts (is_other b) (list_all is_other text) one in
    (not_true (eqb b 10) parts.0, other_bytes text parts.1)

-- Whole lines.

-- the text is good lines after the entries before, and then the entries after are said
pub record Adds (text : List ℕ) (before after : LatestFirst) : Type 0 where
  pub adds : (rest : List ℕ) (said : LatestFirst) → AreGood after (lines_of rest) said → AreGood before (lines_of (text ++ rest)) said

pub Adds-append : {a b : List ℕ} {before between after : LatestFirst} → Adds a before between → Adds b between after → Adds (a ++ b) before after
Adds-append {a} {b} {before} {between} {after} left right = record {
  adds = λ rest said says. subst (λ (x : List ℕ). AreGood before (lines_of x) said) (sym (append_assoc a b rest)) (left.adds (b ++ rest) said (right.adds rest said says));
}

pub line_adds : (line : List ℕ) (before : LatestFirst) (entry : Statement) → IsOneLine line → Says before line entry → Adds (line ++ codes "\n") before (entry ∷ before)
line_adds line before entry one says = record {
  adds = λ rest said more.
      let cut : lines_of ((line ++ codes "\n") ++ rest) ≡ line ∷ lines_of rest =
      ap lines_of (append_assoc line (codes "\n") rest) ∙ slice_split_at (λ b. eqb b 10) line 10 rest (All-from_recursion (λ b. eqb b 10 ≡ false) line (other_bytes line one.test)) refl in
      subst (λ (x : List (List ℕ)). AreGood before x said) (sym cut) (entry, says, more);
}

-- Key lines.

name_is_run : (key : Key) → Each is_key_byte (key_name key)
name_is_run Vertices = run_passes is_key_byte (codes "VERTICES")
name_is_run RequiredCount = run_passes is_key_byte (codes "ARISTAS_REQ")
name_is_run OtherCount = run_passes is_key_byte (codes "ARISTAS_NOREQ")
name_is_run Capacity = run_passes is_key_byte (codes "CAPACIDAD")
name_is_run Depot = run_passes is_key_byte (codes "DEPOSITO")
name_is_run RequiredList = run_passes is_key_byte (codes "LISTA_ARISTAS_REQ")
name_is_run OtherList = run_passes is_key_byte (codes "LISTA_ARISTAS_NOREQ")

name_one_line : (key : Key) → IsOneLine (key_name key)
name_one_line Vertices = record { test = refl }
name_one_line RequiredCount = record { test = refl }
name_one_line OtherCount = record { test = refl }
name_one_line Capacity = record { test = refl }
name_one_line Depot = record { test = refl }
name_one_line RequiredList = record { test = refl }
name_one_line OtherList = record { test = refl }

named : (key : Key) (rest : List ℕ) → ¬ (StartsWith is_key_byte rest) → HasKey key (key_name key ++ rest) rest
named key rest ends = record {
  blanks = [];
  run = key_name key;
  are_blank = tt;
  is_run = name_is_run key;
  whole = refl;
  is_longest = ends;
  is_key = refl;
}

stated : (digits : List ℕ) → IsNumber digits → IsStated digits (codes " : " ++ digits)
stated digits is_number = inr (
  codes " " ++ digits,
  record { blanks = codes " "; own = codes ":"; are_blank = (refl, tt); is_part = refl; whole = refl },
  ([], record { blanks = codes " "; own = digits; are_blank = (refl, tt); is_part = (refl, is_number); whole = ap (λ (x : List ℕ). 32 ∷ x) (sym (append-nil digits)) }, tt),
)

pub number_adds : (key : Key) (n : ℕ) (before : LatestFirst) → n < 10 ^ 18 → IsTrue (has_number key) → stands key before ≡ false →
    Adds (key_line (key_name key) n) before (states key (Some n) ∷ before)
unfolding key_line
number_adds key n before small numbered once =
    let written = is_written n small in
    let line = key_name key ++ codes " : " ++ decimal n in
    let whole : key_name key ++ (codes " : " ++ decimal n) ≡ line = sym (append_assoc (key_name key) (codes " : ") (decimal n)) in
    let is_line : IsKeyLine key (Some (decimal n)) line = record {
      rest = codes " : " ++ decimal n;
      has_key = subst (λ (x : List ℕ). HasKey key x (codes " : " ++ decimal n)) whole (named key (codes " : " ++ decimal n) false≢true);
      has_shape = (numbered, stated (decimal n) written.is_number);
    } in
    line_adds line before (states key (Some n))
    (one_line-append (one_line-append (name_one_line key) (one_line (codes " : ") refl)) (decimal_one_line n small))
    (record { digits = Some (decimal n); is_line = is_line; short = written.short; value = ap Some (sym written.value); once = once })

pub list_adds : (key : Key) (before : LatestFirst) → has_number key ≡ false → stands key before ≡ false → Adds (key_name key ++ codes " :" ++ codes "\n") before (states key None ∷ before)
list_adds key before numbered once =
    line_adds (key_name key ++ codes " :") before (states key None)
    (one_line-append (name_one_line key) (one_line (codes " :") refl))
    (record { digits = None; is_line = record { rest = codes " :"; has_key = named key (codes " :") false≢true; has_shape = numbered }; short = tt; value = refl; once = once })

-- Lines that are skipped.

-- a name that differs from each key
pub record IsNoKey (name : List ℕ) : Type 0 where
  pub vertices : str_eq_ignore_ascii_case name (codes "VERTICES") ≡ false
  pub required_count : str_eq_ignore_ascii_case name (codes "ARISTAS_REQ") ≡ false
  pub other_count : str_eq_ignore_ascii_case name (codes "ARISTAS_NOREQ") ≡ false
  pub capacity : str_eq_ignore_ascii_case name (codes "CAPACIDAD") ≡ false
  pub depot : str_eq_ignore_ascii_case name (codes "DEPOSITO") ≡ false
  pub required_list : str_eq_ignore_ascii_case name (codes "LISTA_ARISTAS_REQ") ≡ false
  pub other_list : str_eq_ignore_ascii_case name (codes "LISTA_ARISTAS_NOREQ") ≡ false

differs : (name key : List ℕ) → str_eq_ignore_ascii_case name key ≡ false → ¬ (SameLetters name key)
differs name key test same = false≢true (sym test ∙ (bytes_eq-Decides (map to_ascii_lowercase name) (map to_ascii_lowercase key)).1 same)

names_none : (name : List ℕ) → IsNoKey name → NamesNone name
names_none name other Vertices = differs name (codes "VERTICES") other.vertices
names_none name other RequiredCount = differs name (codes "ARISTAS_REQ") other.required_count
names_none name other OtherCount = differs name (codes "ARISTAS_NOREQ") other.other_count
names_none name other Capacity = differs name (codes "CAPACIDAD") other.capacity
names_none name other Depot = differs name (codes "DEPOSITO") other.depot
names_none name other RequiredList = differs name (codes "LISTA_ARISTAS_REQ") other.required_list
names_none name other OtherList = differs name (codes "LISTA_ARISTAS_NOREQ") other.other_list

skipped : (name rest : List ℕ) → after_run is_blank (name ++ rest) ≡ name ++ rest → after_byte 40 (name ++ rest) ≡ None → Each is_key_byte name → ¬ (StartsWith is_key_byte rest) →
    IsNoKey name → IsSkipped (name ++ rest)
skipped name rest starts closed run ends other =
    is_skipped (name ++ rest) (name ++ rest) (sym starts) closed (subst NamesNone (sym (run_is is_key_byte name rest run ends).0) (names_none name other))

abbrev Skips : List ℕ → Type 0
Skips text = (before : LatestFirst) → Adds text before (nothing ∷ before)

pub name_skipped : Skips (codes "NOMBRE : carp\n")
unfolding after_byte
name_skipped before =
    line_adds (codes "NOMBRE : carp") before nothing (record { test = refl })
    (skipped (codes "NOMBRE") (codes " : carp") refl refl (run_passes is_key_byte (codes "NOMBRE")) false≢true
    (record { vertices = refl; required_count = refl; other_count = refl; capacity = refl; depot = refl; required_list = refl; other_list = refl }))

pub comment_skipped : Skips (codes "COMENTARIO : none\n")
unfolding after_byte
comment_skipped before =
    line_adds (codes "COMENTARIO : none") before nothing (record { test = refl })
    (skipped (codes "COMENTARIO") (codes " : none") refl refl (run_passes is_key_byte (codes "COMENTARIO")) false≢true
    (record { vertices = refl; required_count = refl; other_count = refl; capacity = refl; depot = refl; required_list = refl; other_list = refl }))

pub costs_skipped : Skips (codes "TIPO_COSTES_ARISTAS : EXPLICITOS\n")
unfolding after_byte
costs_skipped before =
    line_adds (codes "TIPO_COSTES_ARISTAS : EXPLICITOS") before nothing (record { test = refl })
    (skipped (codes "TIPO_COSTES_ARISTAS") (codes " : EXPLICITOS") refl refl (run_passes is_key_byte (codes "TIPO_COSTES_ARISTAS")) false≢true
    (record { vertices = refl; required_count = refl; other_count = refl; capacity = refl; depot = refl; required_list = refl; other_list = refl }))

pub vehicles_skipped : (n : ℕ) → n < 10 ^ 18 → Skips (key_line (codes "VEHICULOS") n)
unfolding key_line after_byte
vehicles_skipped n small before =
    line_adds (codes "VEHICULOS : " ++ decimal n) before nothing (one_line-append (one_line (codes "VEHICULOS : ") refl) (decimal_one_line n small))
    (skipped (codes "VEHICULOS") (codes " : " ++ decimal n) refl refl (run_passes is_key_byte (codes "VEHICULOS")) false≢true
    (record { vertices = refl; required_count = refl; other_count = refl; capacity = refl; depot = refl; required_list = refl; other_list = refl }))

pub total_skipped : (n : ℕ) → n < 10 ^ 18 → Skips (key_line (codes "COSTE_TOTAL_REQ") n)
unfolding key_line after_byte
total_skipped n small before =
    line_adds (codes "COSTE_TOTAL_REQ : " ++ decimal n) before nothing (one_line-append (one_line (codes "COSTE_TOTAL_REQ : ") refl) (decimal_one_line n small))
    (skipped (codes "COSTE_TOTAL_REQ") (codes " : " ++ decimal n) refl refl (run_passes is_key_byte (codes "COSTE_TOTAL_REQ")) false≢true
    (record { vertices = refl; required_count = refl; other_count = refl; capacity = refl; depot = refl; required_list = refl; other_list = refl }))

pub empty_skipped : IsSkipped []
unfolding after_byte
empty_skipped =
    skipped [] [] refl refl tt (λ starts. starts)
    (record { vertices = refl; required_count = refl; other_count = refl; capacity = refl; depot = refl; required_list = refl; other_list = refl })
