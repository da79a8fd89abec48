-- The line at the front of a text.
use Rattle.std.proofs.Common.{◌≡◌, ℕ, ◌^◌, ◌<◌, Bool, true, false, cond, List, [], ◌∷◌, ◌++◌, length, take, drop, Option, Some, None, refl, sym, ap, subst, ◌∙◌, arith, append_assoc}
use Rattle.std.specs.Prelude.{codes}
use Rattle.std.specs.Fmt.{decimal}
use Rattle.std.specs.Option.{option_and_then}
use Rattle.std.specs.Cmp.Lexicographic.{same_text}
use Rattle.std.proofs.lemmas.Bool.{false≢true}
use Rattle.std.proofs.lemmas.List.{take-append-drop}
use Rattle.std.proofs.lemmas.Option.{option_and_then_some}
use Rattle.instance_edits.specs.declared.edit.Edit.{Edit}
use Rattle.instance_edits.specs.declared.edit.Edit.TheVariants as edits
use Rattle.instance_edits.specs.declared.line.Keyword.{Keyword}
use Rattle.instance_edits.specs.declared.line.Keyword.TheVariants.{Cost, Service, Demand, Close}
use Rattle.instance_edits.specs.Texts.{edit_text, HasShortNumbers, NoEditBegins}
use Rattle.instance_edits.specs.Reading.{begins, keyword_at, number_before, numbers_at, adding_at, closing_at, edit_with, line_at}
use Rattle.instance_edits.proofs.Pairs.{firsts, seconds}
use Rattle.instance_edits.proofs.Numbers.{number_read, number_told}

abbrev pub word_of : Keyword → List ℕ
word_of Cost = codes "cost "
word_of Service = codes "service "
word_of Demand = codes "demand "
word_of Close = codes "close "

keyword_read : (w : Keyword) (rest : List ℕ) → keyword_at (word_of w ++ rest) ≡ Some (w, rest)
unfolding keyword_at
keyword_read Cost rest = refl
keyword_read Service rest = refl
keyword_read Demand rest = refl
keyword_read Close rest = refl

begins_with : (word text : List ℕ) → begins word text ≡ true → text ≡ word ++ drop (length word) text
begins_with word text is = sym (take-append-drop (length word) text) ∙ ap (λ (x : List ℕ). x ++ drop (length word) text) (same_text (take (length word) text) word (sym is))

abbrev found : Keyword → List ℕ → Option (Keyword × List ℕ)
found w rest = Some (w, rest)

choose : (w k : Keyword) (t : Bool) (text rest : List ℕ) (others : Option (Keyword × List ℕ)) → begins (word_of w) text ≡ t →
    cond t (found w (drop (length (word_of w)) text)) others ≡ Some (k, rest) → (others ≡ Some (k, rest) → text ≡ word_of k ++ rest) → text ≡ word_of k ++ rest
choose w k false text rest others is here go = go here
choose w k true text rest others is here go =
    let same : w ≡ k = firsts (w, drop (length (word_of w)) text) (k, rest) here in
    let behind : drop (length (word_of w)) text ≡ rest = seconds (w, drop (length (word_of w)) text) (k, rest) here in
    begins_with (word_of w) text is ∙ ap (λ (x : List ℕ). word_of w ++ x) behind ∙ ap (λ (v : Keyword). word_of v ++ rest) same

keyword_told : (k : Keyword) (text rest : List ℕ) → keyword_at text ≡ Some (k, rest) → text ≡ word_of k ++ rest
unfolding keyword_at
keyword_told k text rest here =
    choose Cost k (begins (word_of Cost) text) text rest _ refl here (λ here2.
    choose Service k (begins (word_of Service) text) text rest _ refl here2 (λ here3.
    choose Demand k (begins (word_of Demand) text) text rest _ refl here3 (λ here4.
    choose Close k (begins (word_of Close) text) text rest None refl here4 (λ none. (cc)))))

-- the numbers behind the word
regroup : (word e n rest : List ℕ) → (((((word ++ e) ++ 32 ∷ []) ++ n) ++ 10 ∷ []) ++ rest) ≡ word ++ (e ++ 32 ∷ (n ++ 10 ∷ rest))
regroup word e n rest = simp append_assoc

regroup_close : (word e rest : List ℕ) → (((word ++ e) ++ 10 ∷ []) ++ rest) ≡ word ++ (e ++ 10 ∷ rest)
regroup_close word e rest = simp append_assoc

-- what stands behind the word
abbrev tail_of : Keyword → ℕ → ℕ → List ℕ → List ℕ
tail_of Close e n rest = decimal e ++ 10 ∷ rest
tail_of Cost e n rest = decimal e ++ 32 ∷ (decimal n ++ 10 ∷ rest)
tail_of Service e n rest = decimal e ++ 32 ∷ (decimal n ++ 10 ∷ rest)
tail_of Demand e n rest = decimal e ++ 32 ∷ (decimal n ++ 10 ∷ rest)

text_is : (w : Keyword) (e n : ℕ) (rest : List ℕ) → edit_text (edit_with w e n) ++ rest ≡ word_of w ++ tail_of w e n rest
text_is Cost e n rest = regroup (word_of Cost) (decimal e) (decimal n) rest
text_is Service e n rest = regroup (word_of Service) (decimal e) (decimal n) rest
text_is Demand e n rest = regroup (word_of Demand) (decimal e) (decimal n) rest
text_is Close e n rest = regroup_close (word_of Close) (decimal e) rest

adding_read : (w : Keyword) (e n : ℕ) (rest : List ℕ) → e < 10 ^ 12 → n < 10 ^ 12 → adding_at w (decimal e ++ 32 ∷ (decimal n ++ 10 ∷ rest)) ≡ Some (edit_with w e n, rest)
adding_read w e n rest small little = rw (number_read 32 e (decimal n ++ 10 ∷ rest) refl small, number_read 10 n rest refl little) refl

closing_read : (e : ℕ) (rest : List ℕ) → e < 10 ^ 12 → closing_at (decimal e ++ 10 ∷ rest) ≡ Some (edits.Close e, rest)
closing_read e rest small = rw (number_read 10 e rest refl small) refl

line_from : (w : Keyword) (e n : ℕ) (rest : List ℕ) → numbers_at w (tail_of w e n rest) ≡ Some (edit_with w e n, rest) → line_at (edit_text (edit_with w e n) ++ rest) ≡ Some (edit_with w e n, rest)
unfolding line_at
line_from w e n rest read =
    ap line_at (text_is w e n rest)
    ∙ ap (option_and_then (λ (k : Keyword × List ℕ). numbers_at k.0 k.1)) (keyword_read w (tail_of w e n rest))
    ∙ read

-- a line is read
pub line_read : (edit : Edit) (rest : List ℕ) → HasShortNumbers edit → line_at (edit_text edit ++ rest) ≡ Some (edit, rest)
line_read (edits.Cost e n) rest short = line_from Cost e n rest (adding_read Cost e n rest short.0 short.1)
line_read (edits.Service e n) rest short = line_from Service e n rest (adding_read Service e n rest short.0 short.1)
line_read (edits.Demand e n) rest short = line_from Demand e n rest (adding_read Demand e n rest short.0 short.1)
line_read (edits.Close e) rest short = line_from Close e 0 rest (closing_read e rest short)

-- and what is read is a line
pub record IsLine (text : List ℕ) (edit : Edit) (rest : List ℕ) : Type 0 where
  pub cut : text ≡ edit_text edit ++ rest
  pub short : HasShortNumbers edit

abbrev is_adding : Keyword → Bool
is_adding Close = false
is_adding Cost = true
is_adding Service = true
is_adding Demand = true

both_short : (w : Keyword) (e n : ℕ) → e < 10 ^ 12 → n < 10 ^ 12 → HasShortNumbers (edit_with w e n)
both_short Cost e n small little = (small, little)
both_short Service e n small little = (small, little)
both_short Demand e n small little = (small, little)
both_short Close e n small little = small

tail_adding : (w : Keyword) (e n : ℕ) (rest : List ℕ) → is_adding w ≡ true → tail_of w e n rest ≡ decimal e ++ 32 ∷ (decimal n ++ 10 ∷ rest)
tail_adding Cost e n rest is = refl
tail_adding Service e n rest is = refl
tail_adding Demand e n rest is = refl
tail_adding Close e n rest is = absurd (false≢true is)

abbrev made : Keyword → ℕ → ℕ × List ℕ → Option (Edit × List ℕ)
made w e n = Some (edit_with w e n.0, n.1)

adding_told : (w : Keyword) (text : List ℕ) (edit : Edit) (rest : List ℕ) → is_adding w ≡ true → adding_at w text ≡ Some (edit, rest) → IsLine (word_of w ++ text) edit rest
adding_told w text edit rest adds here =
    option_and_then_some (λ (e : ℕ × List ℕ). option_and_then (made w e.0) (number_before 10 e.1)) (number_before 32 text) (edit, rest) here (λ e first more.
    option_and_then_some (made w e.0) (number_before 10 e.1) (edit, rest) more (λ n second gives. (
    let one = number_told 32 e.0 text e.1 first in
    let two = number_told 10 n.0 e.1 n.1 second in
    let same : edit_with w e.0 n.0 ≡ edit = firsts (edit_with w e.0 n.0, n.1) (edit, rest) gives in
    let follows : n.1 ≡ rest = seconds (edit_with w e.0 n.0, n.1) (edit, rest) gives in
    subst (λ (x : Edit). IsLine (word_of w ++ text) x rest) same (record {
      cut =
          ap (λ (x : List ℕ). word_of w ++ x) (one.cut ∙ ap (λ (x : List ℕ). decimal e.0 ++ 32 ∷ x) (two.cut ∙ ap (λ (x : List ℕ). decimal n.0 ++ 10 ∷ x) follows) ∙ sym (tail_adding w e.0 n.0 rest adds))
          ∙ sym (text_is w e.0 n.0 rest);
      short = both_short w e.0 n.0 one.small two.small;
    }))))

abbrev closed : ℕ × List ℕ → Option (Edit × List ℕ)
closed e = Some (edits.Close e.0, e.1)

closing_told : (text : List ℕ) (edit : Edit) (rest : List ℕ) → closing_at text ≡ Some (edit, rest) → IsLine (word_of Close ++ text) edit rest
closing_told text edit rest here =
    option_and_then_some closed (number_before 10 text) (edit, rest) here (λ e first gives. (
    let one = number_told 10 e.0 text e.1 first in
    let same : edits.Close e.0 ≡ edit = firsts (edits.Close e.0, e.1) (edit, rest) gives in
    let follows : e.1 ≡ rest = seconds (edits.Close e.0, e.1) (edit, rest) gives in
    subst (λ (x : Edit). IsLine (word_of Close ++ text) x rest) same (record {
      cut = ap (λ (x : List ℕ). word_of Close ++ x) (one.cut ∙ ap (λ (x : List ℕ). decimal e.0 ++ 10 ∷ x) follows) ∙ sym (text_is Close e.0 0 rest);
      short = one.small;
    })))

numbers_told : (w : Keyword) (text : List ℕ) (edit : Edit) (rest : List ℕ) → numbers_at w text ≡ Some (edit, rest) → IsLine (word_of w ++ text) edit rest
numbers_told Cost text edit rest here = adding_told Cost text edit rest refl here
numbers_told Service text edit rest here = adding_told Service text edit rest refl here
numbers_told Demand text edit rest here = adding_told Demand text edit rest refl here
numbers_told Close text edit rest here = closing_told text edit rest here

pub line_told : (text : List ℕ) (edit : Edit) (rest : List ℕ) → line_at text ≡ Some (edit, rest) → IsLine text edit rest
unfolding line_at
line_told text edit rest here =
    option_and_then_some (λ (k : Keyword × List ℕ). numbers_at k.0 k.1) (keyword_at text) (edit, rest) here (λ k word more.
    subst (λ (x : List ℕ). IsLine x edit rest) (sym (keyword_told k.0 text k.1 word)) (numbers_told k.0 k.1 edit rest more))

pub none_told : (text : List ℕ) → line_at text ≡ None → NoEditBegins text
none_told text none = λ edit rest short is. (let read : line_at text ≡ Some (edit, rest) = ap line_at is ∙ line_read edit rest short in cc)

-- a text begins with one line in one way
pub record IsSameLine (a b : Edit) (r s : List ℕ) : Type 0 where
  pub edit : a ≡ b
  pub rest : r ≡ s

pub line_same : (a b : Edit) (r s : List ℕ) → HasShortNumbers a → HasShortNumbers b → edit_text a ++ r ≡ edit_text b ++ s → IsSameLine a b r s
line_same a b r s short other e =
    let both = sym (line_read a r short) ∙ ap line_at e ∙ line_read b s other in
    record { edit = firsts (a, r) (b, s) both; rest = seconds (a, r) (b, s) both }

some_text : (a b : List ℕ) → 0 < length a → a ++ b ≡ [] → ⊥
some_text [] b some e = omega (arith, some)
some_text (x ∷ a) b some e = cc

-- a line has bytes
pub line_some : (a : Edit) (r : List ℕ) → edit_text a ++ r ≡ [] → ⊥
line_some (edits.Cost e n) r is = (let same = sym (text_is Cost e n r) ∙ is in cc)
line_some (edits.Service e n) r is = (let same = sym (text_is Service e n r) ∙ is in cc)
line_some (edits.Demand e n) r is = (let same = sym (text_is Demand e n r) ∙ is in cc)
line_some (edits.Close e) r is = (let same = sym (text_is Close e 0 r) ∙ is in cc)
