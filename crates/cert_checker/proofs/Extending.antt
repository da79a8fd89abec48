-- Bytes that go on: their good lines go on from those before.
use Rattle.std.proofs.Common.{◌≡◌, ℕ, ◌+◌, ◌==◌, Bool, List, [], ◌∷◌, ◌++◌, refl, sym, ap, subst, ◌∙◌, inl, inr}
use Rattle.std.specs.List.{slice_split, onto_first}
use Rattle.std.proofs.lemmas.Bool.{cases_Bool}
use Rattle.std.proofs.lemmas.List.Splits.{slice_split-cons_yes, slice_split-cons_no}
use Rattle.cert_lines.specs.Laws.{ReadingIsUnique}
use Rattle.cert_lines.specs.Lines.{Line}
use Rattle.cert_lines.specs.Order.{LatestFirst}
use Rattle.cert_lines.specs.Spelling.{AreGood}
use Rattle.cert_lines.specs.Texts.{AreRead, ReadsAs}

-- what is said after some lines
abbrev pub after_lines : List Line → LatestFirst → LatestFirst
after_lines [] said = said
after_lines (line ∷ lines) said = after_lines lines (line ∷ said)

-- good lines lead from what was said to what is said
pub record GoesOn (before said : LatestFirst) : Type 0 where
  pub lines : List Line
  pub good : AreGood before lines
  pub is : said ≡ after_lines lines before

pub read_goes_on : (parts : List (List ℕ)) (before said : LatestFirst) (rest : List ℕ) → AreRead before parts said rest → GoesOn before said
read_goes_on [] before said rest read = absurd read
read_goes_on (last ∷ []) before said rest read = record { lines = []; good = tt; is = read.0 }
read_goes_on (bytes ∷ next ∷ parts) before said rest read =
    let line = read.0 in
    let more = read_goes_on (next ∷ parts) (line ∷ before) said rest read.2 in
    record { lines = line ∷ more.lines; good = (read.1.shape.follows, read.1.in_range, read.1.agrees, more.good); is = more.is }

-- two lists of parts that begin in the same way; the one ends there with one part, and the other goes on with one or more
record BeginAlike (short long : List (List ℕ)) : Type 0 where
  front : List (List ℕ)
  last : List ℕ
  next : List ℕ
  more : List (List ℕ)
  short_is : short ≡ front ++ last ∷ []
  long_is : long ≡ front ++ next ∷ more

record HasFirst (parts : List (List ℕ)) : Type 0 where
  first : List ℕ
  more : List (List ℕ)
  is : parts ≡ first ∷ more

first_onto : (x : ℕ) (parts : List (List ℕ)) → HasFirst parts → HasFirst (onto_first x parts)
first_onto x [] has = (let both : [] ≡ has.first ∷ has.more = has.is in cc)
first_onto x (part ∷ parts) has = record { first = x ∷ part; more = parts; is = refl }

has_first : (test : ℕ → Bool) (xs : List ℕ) → HasFirst (slice_split test xs)
has_first test [] = record { first = []; more = []; is = refl }
has_first test (x ∷ xs) = elim (cases_Bool (test x)) [
  | inl cut ↦ record { first = []; more = slice_split test xs; is = slice_split-cons_yes test x xs cut }
  | inr on ↦ subst HasFirst (sym (slice_split-cons_no test x xs on)) (first_onto x (slice_split test xs) (has_first test xs))
]

alike_onto : (x : ℕ) (front : List (List ℕ)) (last next : List ℕ) (more : List (List ℕ)) → BeginAlike (onto_first x (front ++ last ∷ [])) (onto_first x (front ++ next ∷ more))
alike_onto x [] last next more = record { front = []; last = x ∷ last; next = x ∷ next; more = more; short_is = refl; long_is = refl }
alike_onto x (part ∷ front) last next more = record { front = (x ∷ part) ∷ front; last = last; next = next; more = more; short_is = refl; long_is = refl }

alike : (test : ℕ → Bool) (xs ys : List ℕ) → BeginAlike (slice_split test xs) (slice_split test (xs ++ ys))
alike test [] ys = let has = has_first test ys in record { front = []; last = []; next = has.first; more = has.more; short_is = refl; long_is = has.is }
alike test (x ∷ xs) ys =
    let a = alike test xs ys in
    elim (cases_Bool (test x)) [
      | inl cut ↦ record {
        front = [] ∷ a.front;
        last = a.last;
        next = a.next;
        more = a.more;
        short_is = slice_split-cons_yes test x xs cut ∙ ap (λ (ps : List (List ℕ)). [] ∷ ps) a.short_is;
        long_is = slice_split-cons_yes test x (xs ++ ys) cut ∙ ap (λ (ps : List (List ℕ)). [] ∷ ps) a.long_is;
      }
      | inr on ↦ (
          let b = alike_onto x a.front a.last a.next a.more in
          record {
            front = b.front;
            last = b.last;
            next = b.next;
            more = b.more;
            short_is = slice_split-cons_no test x xs on ∙ ap (onto_first x) a.short_is ∙ b.short_is;
            long_is = slice_split-cons_no test x (xs ++ ys) on ∙ ap (onto_first x) a.long_is ∙ b.long_is;
          }
          )
    ]

-- what the first parts say, and that the others go on from there
record ReadFrom (start : LatestFirst) (front : List (List ℕ)) (last : List ℕ) (said : LatestFirst) : Type 0 where
  before : LatestFirst
  reads : AreRead start (front ++ last ∷ []) before last
  goes_on : GoesOn before said

read_from : (front : List (List ℕ)) (start : LatestFirst) (last next : List ℕ) (more : List (List ℕ)) (said : LatestFirst) (rest : List ℕ) → AreRead start (front ++ next ∷ more) said rest →
    ReadFrom start front last said
read_from [] start last next more said rest read = record { before = start; reads = (refl, refl); goes_on = read_goes_on (next ∷ more) start said rest read }
read_from (part ∷ []) start last next more said rest read =
    record { before = read.0 ∷ start; reads = (read.0, read.1, (refl, refl)); goes_on = read_goes_on (next ∷ more) (read.0 ∷ start) said rest read.2 }
read_from (part ∷ second ∷ front) start last next more said rest read =
    let from = read_from (second ∷ front) (read.0 ∷ start) last next more said rest read.2 in
    record { before = from.before; reads = (read.0, read.1, from.reads); goes_on = from.goes_on }

-- what more bytes say goes on from what the bytes said
pub bytes_go_on : ReadingIsUnique → (bytes more : List ℕ) (before said : LatestFirst) (rest later : List ℕ) → ReadsAs bytes before rest → ReadsAs (bytes ++ more) said later → GoesOn before said
bytes_go_on one bytes more before said rest later read reads =
    let a = alike (λ b. b == 10) bytes more in
    let from = read_from a.front [] a.last a.next a.more said later (subst (λ (ps : List (List ℕ)). AreRead [] ps said later) a.long_is reads) in
    let first : ReadsAs bytes from.before a.last = subst (λ (ps : List (List ℕ)). AreRead [] ps from.before a.last) (sym a.short_is) from.reads in
    subst (λ (x : LatestFirst). GoesOn x said) (one bytes from.before before a.last rest first read).0 from.goes_on
