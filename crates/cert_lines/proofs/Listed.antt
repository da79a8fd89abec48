-- Lines in their order, and the list with the latest first.
use Rattle.std.proofs.Common.{◌≡◌, ℕ, ◌<◌, eqb, List, [], ◌∷◌, ◌++◌, map, length, refl, sym, ap, ◌∙◌, append_assoc, length-append, arith}
use Rattle.std.specs.List.{flat_map, slice_split, join_with_byte}
use Rattle.std.proofs.lemmas.List.Splits.{slice_split_at, join_with_byte-slice_split}
use Rattle.cert_lines.specs.Lines.{Line, line_text}
use Rattle.cert_lines.specs.Order.{LatestFirst}
use Rattle.cert_lines.specs.Spelling.{whole_line, AreGood}
use Rattle.cert_lines.specs.Texts.{AreRead, Says, parts_of}
use Rattle.cert_lines.proofs.Words.{no_end}
use Rattle.cert_lines.proofs.LineWords.{line_is_text}

-- what is said after some lines
abbrev pub listed : List Line → LatestFirst → LatestFirst
listed [] said = said
listed (line ∷ lines) said = listed lines (line ∷ said)

pub listed-append : (lines more : List Line) (said : LatestFirst) → listed (lines ++ more) said ≡ listed more (listed lines said)
listed-append [] more said = refl
listed-append (line ∷ lines) more said = listed-append lines more (line ∷ said)

-- From lines to bytes.

pub text_is_cut : (lines : List Line) → parts_of (flat_map whole_line lines) ≡ map line_text lines ++ [] ∷ []
text_is_cut [] = refl
text_is_cut (line ∷ lines) =
    ap (slice_split (λ b. eqb b 10)) (append_assoc (line_text line) (10 ∷ []) (flat_map whole_line lines))
    ∙ slice_split_at (λ b. eqb b 10) (line_text line) 10 (flat_map whole_line lines) (no_end (line_text line) (line_is_text line)) refl
    ∙ ap (λ (parts : List (List ℕ)). line_text line ∷ parts) (text_is_cut lines)

read_first : (before : LatestFirst) (bytes : List ℕ) (parts : List (List ℕ)) (said : LatestFirst) (rest : List ℕ) (line : Line) →
    Says before bytes line → AreRead (line ∷ before) parts said rest → AreRead before (bytes ∷ parts) said rest
read_first before bytes [] said rest line says more = absurd more
read_first before bytes (next ∷ parts) said rest line says more = (line, says, more)

pub good_are_read : (before : LatestFirst) (lines : List Line) → AreGood before lines → AreRead before (map line_text lines ++ [] ∷ []) (listed lines before) []
good_are_read before [] good = (refl, refl)
good_are_read before (line ∷ lines) good =
    let says : Says before (line_text line) line = record { shape = record { follows = good.0; spelled = refl }; in_range = good.1; agrees = good.2 } in
    read_first before (line_text line) (map line_text lines ++ [] ∷ []) (listed lines (line ∷ before)) [] line says (good_are_read (line ∷ before) lines good.3)

-- From bytes to lines.

pub record IsListed (before : LatestFirst) (parts : List (List ℕ)) (said : LatestFirst) (rest : List ℕ) : Type 0 where
  pub lines : List Line
  pub spelled : parts ≡ map line_text lines ++ rest ∷ []
  pub good : AreGood before lines
  pub is : said ≡ listed lines before

pub read_lines : (before : LatestFirst) (parts : List (List ℕ)) (said : LatestFirst) (rest : List ℕ) → AreRead before parts said rest → IsListed before parts said rest
read_lines before [] said rest read = absurd read
read_lines before (last ∷ []) said rest read = record { lines = []; spelled = ap (λ (r : List ℕ). r ∷ []) (sym read.1); good = tt; is = read.0 }
read_lines before (bytes ∷ next ∷ parts) said rest (line, says, read) =
    let later = read_lines (line ∷ before) (next ∷ parts) said rest read in
    record {
      lines = line ∷ later.lines;
      spelled = λ i. says.shape.spelled i ∷ later.spelled i;
      good = (says.shape.follows, says.in_range, says.agrees, later.good);
      is = later.is;
    }

join_first : (part : List ℕ) (parts : List (List ℕ)) → 0 < length parts → join_with_byte 10 (part ∷ parts) ≡ part ++ (10 ∷ join_with_byte 10 parts)
join_first part [] some = absurd (omega arith)
join_first part (next ∷ parts) some = refl

joined : (lines : List Line) (rest : List ℕ) → join_with_byte 10 (map line_text lines ++ rest ∷ []) ≡ flat_map whole_line lines ++ rest
joined [] rest = refl
joined (line ∷ lines) rest =
    join_first (line_text line) (map line_text lines ++ rest ∷ []) (omega (arith, length-append (map line_text lines) (rest ∷ [])))
    ∙ ap (λ (bytes : List ℕ). line_text line ++ (10 ∷ bytes)) (joined lines rest)
    ∙ sym (append_assoc (line_text line) (10 ∷ []) (flat_map whole_line lines ++ rest))
    ∙ sym (append_assoc (whole_line line) (flat_map whole_line lines) rest)

pub text_of_lines : (bytes : List ℕ) (said : LatestFirst) (rest : List ℕ) (is : IsListed [] (parts_of bytes) said rest) → bytes ≡ flat_map whole_line is.lines ++ rest
text_of_lines bytes said rest is = sym (join_with_byte-slice_split 10 bytes) ∙ ap (join_with_byte 10) is.spelled ∙ joined is.lines rest
