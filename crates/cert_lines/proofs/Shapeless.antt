-- Bytes that are no line, and faults of short texts.
use Rattle.std.proofs.Common.{◌≡◌, ℕ, true, false, eqb, List, [], ◌∷◌, IsTrue, inl, inr, codes, refl, sym, ap, subst, ◌∙◌, arith}
use Rattle.std.specs.List.{slice_split}
use Rattle.std.specs.Str.{bytes_eq}
use Rattle.std.proofs.lemmas.Bool.{and_from, eq-eqb, true≢false, false≢true}
use Rattle.cert_lines.specs.declared.fault.CertFault.TheVariants.{Syntax, Limit, Truncated}
use Rattle.cert_lines.specs.Numerals.{numeral}
use Rattle.cert_lines.specs.declared.next.Next.TheVariants.{Version}
use Rattle.cert_lines.specs.Lines.{Line, version, counts, line_text}
use Rattle.cert_lines.specs.Order.{LatestFirst, follows}
use Rattle.cert_lines.specs.Texts.{IsShapeless, Says, IsFaultOf}
use Rattle.cert_lines.proofs.NumberWords.{signed_value}
use Rattle.cert_lines.proofs.LineWords.{line_of, line_in, list_in, number_in, text_read}

equal_bytes : (bytes : List ℕ) → bytes_eq bytes bytes ≡ true
equal_bytes [] = refl
equal_bytes (b ∷ bytes) = and_from (eqb b b) (bytes_eq bytes bytes) (eq-eqb b b refl) (equal_bytes bytes)

-- what would be spelled otherwise is no line
abbrev spelled_again : List ℕ → List ℕ
spelled_again bytes = line_text (line_of (slice_split (λ b. eqb b 32) bytes))

not_spelled : (said : LatestFirst) (bytes : List ℕ) → bytes_eq bytes (spelled_again bytes) ≡ false → IsShapeless said bytes
not_spelled said bytes other line shape =
    let read : line_of (slice_split (λ b. eqb b 32) bytes) ≡ line = ap (λ (b : List ℕ). line_of (slice_split (λ b. eqb b 32) b)) shape.spelled ∙ text_read line in
    let same : bytes ≡ spelled_again bytes = shape.spelled ∙ ap line_text (sym read) in
    true≢false (sym (equal_bytes bytes) ∙ ap (bytes_eq bytes) same ∙ other)

pub two_blanks : (said : LatestFirst) → IsShapeless said (codes "cost  16")
unfolding line_of line_in number_in numeral
two_blanks said = not_spelled said (codes "cost  16") refl

pub one_after_two : (said : LatestFirst) → IsShapeless said (codes "cost  1")
unfolding line_of line_in number_in numeral
one_after_two said = not_spelled said (codes "cost  1") refl

pub blank_at_the_end : (said : LatestFirst) → IsShapeless said (codes "cost 16 ")
unfolding line_of line_in number_in numeral
blank_at_the_end said = not_spelled said (codes "cost 16 ") refl

pub carriage_return : (said : LatestFirst) → IsShapeless said (codes "cost 16\r")
unfolding line_of line_in number_in numeral
carriage_return said = not_spelled said (codes "cost 16\r") refl

pub leading_zero : (said : LatestFirst) → IsShapeless said (codes "cost 016")
unfolding line_of line_in number_in numeral
leading_zero said = not_spelled said (codes "cost 016") refl

pub minus_zero : (said : LatestFirst) → IsShapeless said (codes "prices 1 1 -0")
unfolding line_of line_in list_in number_in signed_value numeral
minus_zero said = not_spelled said (codes "prices 1 1 -0") refl

-- there is no third version
third_version : IsShapeless [] (codes "carp-certificate 3")
unfolding line_of line_in number_in numeral
third_version line shape =
    let read : version 3 ≡ line = ap (λ (b : List ℕ). line_of (slice_split (λ b. eqb b 32) b)) shape.spelled ∙ text_read line in
    false≢true (subst (λ (l : Line). IsTrue (follows Version l)) (sym read) shape.follows)

-- Faults.

pub first_is_bad : IsFaultOf (codes "carp-certificate 3\n") (Syntax 1)
first_is_bad = inl ([], inl (refl, (refl, inl third_version)))

first_version : Says [] (codes "carp-certificate 1") (version 1)
unfolding numeral
first_version = record { shape = record { follows = refl; spelled = refl }; in_range = tt; agrees = tt }

second_version : Says [] (codes "carp-certificate 2") (version 2)
unfolding numeral
second_version = record { shape = record { follows = refl; spelled = refl }; in_range = tt; agrees = tt }

pub stops_in_the_second : IsFaultOf (codes "carp-certificate 1\ncost") (Truncated 2)
stops_in_the_second = inr (version 1 ∷ [], codes "cost", (version 1, first_version, (refl, refl)), (refl, λ same. cc))

pub second_is_bad : IsFaultOf (codes "carp-certificate 1\ncost  1\n") (Syntax 2)
second_is_bad = inl (version 1 ∷ [], inr (version 1, first_version, inl (refl, (refl, inl (one_after_two (version 1 ∷ []))))))

pub second_passes_a_limit : IsFaultOf (codes "carp-certificate 2\ninstance 0 2 2 2 4\n") (Limit 2)
unfolding numeral
second_passes_a_limit =
    inl (
      version 2 ∷ [],
      inr (
        version 2,
        second_version,
        inl (
          refl,
          (
            refl,
            record {
              line = counts (record { vertices = 0; edges = 2; required = 2; capacity = 2; demand = 4 });
              shape = record { follows = refl; spelled = refl };
              past = λ inside. omega (arith, inside.vertices.from_first);
            },
          ),
        ),
      ),
    )
