-- Readers that take more bytes.
use Rattle.std.proofs.Common.{◌≡◌, ◌≢◌, ℕ, zero, suc, ◌+◌, ◌<◌, ◌≤◌, true, false, not, eqb, List, [], ◌∷◌, ◌++◌, length, get_or, take, drop, refl, sym, ap, subst, ◌∙◌, inl, inr, arith}
use Rattle.std.specs.List.{All, list_all, onto_first}
use Rattle.std.proofs.lemmas.Bool.{and_parts, not-true, cases_Bool, eqb-true}
use Rattle.std.proofs.lemmas.List.{append-nil}
use Rattle.std.proofs.lemmas.List.Splits.{slice_split-cons_yes, slice_split-cons_no}
use Rattle.cert_lines.specs.Words.{HoldsWord}
use Rattle.cert_lines.specs.Laws.{LineIsCut}
use Rattle.cert_lines.specs.declared.fault.CertFault.TheVariants.{Syntax, Limit}
use Rattle.cert_lines.specs.declared.item.Item.{Item}
use Rattle.cert_lines.specs.declared.item.Item.TheVariants.{Quiet, Head, Node, Whole}
use Rattle.cert_lines.specs.Lines.{Line, spaced}
use Rattle.cert_lines.specs.Order.{LatestFirst}
use Rattle.cert_lines.specs.Texts.{Says, HasShape, ReadsAs, items_of}
use Rattle.cert_format.specs.declared.draft.Draft.{Draft}
use Rattle.cert_format.specs.declared.judging.Verdict.TheVariants as verdicts
use Rattle.cert_format.specs.declared.line.LineState.{LineState}
use Rattle.cert_format.specs.declared.cert_reader.CertReader.{CertReader}
use Rattle.cert_format.specs.Drafts.{HoldsDraft}
use Rattle.cert_format.specs.Judging.{context_of, IsLine, Judged, item_list, Steady}
use Rattle.cert_format.specs.LineStates.{HoldsLine}
use Rattle.cert_format.specs.Held.{words_in, is_plain, IsGoing, IsBroken, Advances, EndsFor, FillsUp}
use Rattle.cert_format.specs.Readers.{Gives, GivesItem}
use Rattle.cert_format.proofs.Lines.{bytes_more, bytes_line, bytes_bad}
use Rattle.cert_format.proofs.Ranges.{all_hold}
use Rattle.cert_format.proofs.Splitting.{words_more, words_next}

plain_blank : (b : ℕ) → is_plain b ≡ true → eqb b 32 ≡ false
plain_blank b plain = not-true (eqb b 32) (and_parts (not (eqb b 32)) (not (eqb b 10)) plain).0

plain_end : (b : ℕ) → is_plain b ≡ true → eqb b 10 ≡ false
plain_end b plain = not-true (eqb b 10) (and_parts (not (eqb b 32)) (not (eqb b 10)) plain).1

-- bytes of a word
pub going_more : {old : CertReader} {bytes : List ℕ} {said : LatestFirst} {rest : List ℕ} (new : CertReader) (q : List ℕ) → IsGoing old bytes said rest → new.draft ≡ old.draft → new.line ≡ old.line →
    ((text : List ℕ) → HoldsWord old.word text → HoldsWord new.word (text ++ q)) → list_all is_plain q ≡ true → IsGoing new (bytes ++ q) said (rest ++ q)
going_more {old} {bytes} {said} {rest} new q going draft line word plain = record {
  reads = bytes_more bytes q said rest (all_hold is_plain (λ b. eqb b 10 ≡ false) plain_end q plain) going.reads;
  draft = subst (λ (d : Draft). HoldsDraft d said) (sym draft) going.draft;
  words = going.words;
  text = going.text ++ q;
  cut = words_more (λ b. eqb b 32) rest q going.words going.text (all_hold is_plain (λ b. eqb b 32 ≡ false) plain_blank q plain) going.cut;
  line = subst (λ (d : Draft). HoldsLine (context_of d) new.line going.words) (sym draft) (subst (λ (l : LineState). HoldsLine (context_of old.draft) l going.words) (sym line) going.line);
  word = word going.text going.word;
}

blank_plain : All (λ b. eqb b 10 ≡ false) (32 ∷ [])
blank_plain = all_hold (λ b. not (eqb b 10)) (λ b. eqb b 10 ≡ false) (λ b holds. not-true (eqb b 10) holds) (32 ∷ []) refl

-- a blank
pub going_blank : {old : CertReader} {bytes : List ℕ} {said : LatestFirst} {rest : List ℕ} (new : CertReader) → (going : IsGoing old bytes said rest) → new.draft ≡ old.draft →
    HoldsLine (context_of new.draft) new.line (going.words ++ going.text ∷ []) → HoldsWord new.word [] → IsGoing new (bytes ++ 32 ∷ []) said (rest ++ 32 ∷ [])
going_blank {old} {bytes} {said} {rest} new going draft line word = record {
  reads = bytes_more bytes (32 ∷ []) said rest blank_plain going.reads;
  draft = subst (λ (d : Draft). HoldsDraft d said) (sym draft) going.draft;
  words = going.words ++ going.text ∷ [];
  text = [];
  cut = words_next (λ b. eqb b 32) rest 32 going.words going.text refl going.cut;
  line = line;
  word = word;
}

-- words with one blank between each two
spaced_onto : (x : ℕ) (ws : List (List ℕ)) → (w : List ℕ) → spaced (onto_first x (w ∷ ws)) ≡ x ∷ spaced (w ∷ ws)
spaced_onto x ws w = refl

spaced_cut : (w : List ℕ) (ws : List (List ℕ)) → spaced ([] ∷ w ∷ ws) ≡ 32 ∷ spaced (w ∷ ws)
spaced_cut w ws = refl

spaced_words : (x : ℕ) (ws : List (List ℕ)) → ws ≢ [] → spaced (onto_first x ws) ≡ x ∷ spaced ws
spaced_words x [] some = absurd (some refl)
spaced_words x (w ∷ ws) some = spaced_onto x ws w

spaced_after : (ws : List (List ℕ)) → ws ≢ [] → spaced ([] ∷ ws) ≡ 32 ∷ spaced ws
spaced_after [] some = absurd (some refl)
spaced_after (w ∷ ws) some = spaced_cut w ws

onto_not_nil : (x : ℕ) (ws : List (List ℕ)) → onto_first x ws ≢ []
onto_not_nil x [] e = (let both : (x ∷ []) ∷ [] ≡ [] = e in cc)
onto_not_nil x (w ∷ ws) e = (let both : (x ∷ w) ∷ ws ≡ [] = e in cc)

split_not_nil : (xs : List ℕ) → words_in xs ≢ []
split_not_nil [] e = (let both : [] ∷ [] ≡ [] = e in cc)
split_not_nil (x ∷ xs) e = elim (cases_Bool (eqb x 32)) [
  | inl cut ↦ (let both : [] ∷ words_in xs ≡ [] = sym (slice_split-cons_yes (λ b. eqb b 32) x xs cut) ∙ e in cc)
  | inr on ↦ onto_not_nil x (words_in xs) (sym (slice_split-cons_no (λ b. eqb b 32) x xs on) ∙ e)
]

pub spaced_split : (xs : List ℕ) → spaced (words_in xs) ≡ xs
spaced_split [] = refl
spaced_split (x ∷ xs) = elim (cases_Bool (eqb x 32)) [
  | inl cut ↦ ap spaced (slice_split-cons_yes (λ b. eqb b 32) x xs cut) ∙ spaced_after (words_in xs) (split_not_nil xs) ∙ ap (λ (r : List ℕ). 32 ∷ r) (spaced_split xs) ∙ ap (λ (b : ℕ). b ∷ xs) (sym (eqb-true x 32 cut))
  | inr on ↦ ap spaced (slice_split-cons_no (λ b. eqb b 32) x xs on) ∙ spaced_words x (words_in xs) (split_not_nil xs) ∙ ap (λ (r : List ℕ). x ∷ r) (spaced_split xs)
]

line_shape : {old : CertReader} {bytes : List ℕ} {said : LatestFirst} {rest : List ℕ} (line : Line) → (going : IsGoing old bytes said rest) → IsLine said (going.words ++ going.text ∷ []) line → HasShape said rest line
line_shape {old} {bytes} {said} {rest} line going is = record {
  follows = is.follows;
  spelled = sym (spaced_split rest) ∙ ap spaced (going.cut ∙ sym is.spells);
}

shape_line : {old : CertReader} {bytes : List ℕ} {said : LatestFirst} {rest : List ℕ} (line : Line) → LineIsCut → (going : IsGoing old bytes said rest) → HasShape said rest line → IsLine said (going.words ++ going.text ∷ []) line
shape_line {old} {bytes} {said} {rest} line cuts going shape = record {
  follows = shape.follows;
  spells = sym (cuts line) ∙ ap words_in (sym shape.spelled) ∙ going.cut;
}

ends_for : (item : Item) → EndsFor item []
ends_for Quiet = tt
ends_for Head = refl
ends_for (Node x) = refl
ends_for Whole = refl

-- an LF behind a good line
pub line_good : {old : CertReader} {bytes : List ℕ} {said : LatestFirst} {rest : List ℕ} (new : CertReader) (item : Item) → (going : IsGoing old bytes said rest) →
    Judged (verdicts.Good item) said (going.words ++ going.text ∷ []) new.draft → HoldsLine (context_of new.draft) new.line [] → HoldsWord new.word [] → Advances new (bytes ++ 10 ∷ []) said item
line_good {old} {bytes} {said} {rest} new item going judged line word =
    let good = judged.1 in
    let says : Says said rest judged.0 = record { shape = line_shape judged.0 going good.is; in_range = good.in_range; agrees = good.agrees } in
    record {
      said = judged.0 ∷ said;
      rest = [];
      going = record { reads = bytes_line bytes said rest judged.0 going.reads says; draft = good.held; words = []; text = []; cut = refl; line = line; word = word };
      gives = good.gives;
      ends = ends_for item;
      steady = good.steady;
    }

-- an LF behind a bad line
pub line_syntax : {old : CertReader} {bytes : List ℕ} {said : LatestFirst} {rest : List ℕ} (new : CertReader) (at : ℕ) (more : List ℕ) → LineIsCut → (going : IsGoing old bytes said rest) → at ≡ length said + 1 →
    Judged verdicts.Syntax said (going.words ++ going.text ∷ []) new.draft → IsBroken new (bytes ++ 10 ∷ more) (Syntax at)
line_syntax {old} {bytes} {said} {rest} new at more cuts going count judged = record {
  said = said;
  breaks = bytes_bad bytes more said rest (Syntax at) going.reads (
    count,
    elim judged.1 [
      | inl none ↦ inl (λ line shape. none line (shape_line line cuts going shape))
      | inr odd ↦ inr (record { line = odd.0; shape = line_shape odd.0 going odd.1.is; in_range = odd.1.in_range; disagrees = odd.1.disagrees })
    ],
  );
  head = judged.0.head;
}

pub line_limit : {old : CertReader} {bytes : List ℕ} {said : LatestFirst} {rest : List ℕ} (new : CertReader) (at : ℕ) (more : List ℕ) → (going : IsGoing old bytes said rest) → at ≡ length said + 1 →
    Judged verdicts.Limit said (going.words ++ going.text ∷ []) new.draft → IsBroken new (bytes ++ 10 ∷ more) (Limit at)
line_limit {old} {bytes} {said} {rest} new at more going count judged = record {
  said = said;
  breaks = bytes_bad bytes more said rest (Limit at) going.reads (count, record { line = judged.1.0; shape = line_shape judged.1.0 going judged.1.1.is; past = judged.1.1.past });
  head = judged.0.head;
}

-- nothing is given
pub advances_quiet : {new : CertReader} {bytes : List ℕ} {before : LatestFirst} {rest : List ℕ} → IsGoing new bytes before rest → Advances new bytes before Quiet
advances_quiet {new} {bytes} {before} {rest} going = record { said = before; rest = rest; going = going; gives = sym (append-nil (items_of before)); ends = tt; steady = refl }

pub advances_same : {new : CertReader} {before : LatestFirst} {item : Item} (bytes other : List ℕ) → bytes ≡ other → Advances new bytes before item → Advances new other before item
advances_same {new} {before} {item} bytes other same a = subst (λ (b : List ℕ). Advances new b before item) same a

steady_then : (item : Item) (after mid before : LatestFirst) → Steady item after mid → Steady Quiet mid before → Steady item after before
steady_then Quiet after mid before a b = a ∙ b
steady_then Head after mid before a b = a
steady_then (Node x) after mid before a b = a ∙ b
steady_then Whole after mid before a b = a ∙ b

-- one run after others that gave nothing
pub advances_more : {mid new : CertReader} {before : LatestFirst} {item : Item} {bytes : List ℕ} (other : List ℕ) → (a : Advances mid bytes before Quiet) → Advances new other a.said item → Advances new other before item
advances_more {mid} {new} {before} {item} {bytes} other a b = record {
  said = b.said;
  rest = b.rest;
  going = b.going;
  gives = b.gives ∙ ap (λ (x : List Item). x ++ item_list item) (a.gives ∙ append-nil (items_of before));
  ends = b.ends;
  steady = steady_then item b.said a.said before b.steady a.steady;
}

pub take_one : (xs : List ℕ) (i b : ℕ) → i < length xs → get_or xs i 0 ≡ b → take (i + 1) xs ≡ take i xs ++ b ∷ []
take_one [] i b below is = absurd (omega (arith, below))
take_one (x ∷ xs) zero b below is = ap (λ (k : ℕ). k ∷ []) is
take_one (x ∷ xs) (suc i) b below is =
    ap (λ (k : ℕ). take k (x ∷ xs)) (let e : suc i + 1 ≡ suc (i + 1) = omega arith in e) ∙ ap (λ (r : List ℕ). x ∷ r) (take_one xs i b (omega (arith, below)) is)

take_none : (n : ℕ) → take {A = ℕ} n [] ≡ []
take_none zero = refl
take_none (suc n) = refl

none_taken : (i n : ℕ) → take {A = ℕ} i [] ++ take n (drop i []) ≡ take (i + n) []
none_taken zero n = take_none n ∙ sym (take_none (0 + n))
none_taken (suc i) n = take_none n ∙ sym (take_none (suc i + n))

pub take_run_more : (xs : List ℕ) (i n : ℕ) → take i xs ++ take n (drop i xs) ≡ take (i + n) xs
take_run_more [] i n = none_taken i n
take_run_more (x ∷ xs) zero n = ap (λ (k : ℕ). take k (x ∷ xs)) (let e : n ≡ 0 + n = omega arith in e)
take_run_more (x ∷ xs) (suc i) n = ap (λ (r : List ℕ). x ∷ r) (take_run_more xs i n) ∙ ap (λ (k : ℕ). take k (x ∷ xs)) (let e : suc (i + n) ≡ suc i + n = omega arith in e)

gives_item : (item : Item) (before said : LatestFirst) (bytes : List ℕ) (taken size : ℕ) (rest : List ℕ) → items_of said ≡ items_of before ++ item_list item → EndsFor item rest → FillsUp item taken size → ReadsAs bytes said rest → GivesItem before said bytes taken size item
gives_item Quiet before said bytes taken size rest gives ends fills reads = (gives ∙ append-nil (items_of before), fills)
gives_item Head before said bytes taken size rest gives ends fills reads = (gives, subst (ReadsAs bytes said) ends reads)
gives_item (Node x) before said bytes taken size rest gives ends fills reads = (gives, subst (ReadsAs bytes said) ends reads)
gives_item Whole before said bytes taken size rest gives ends fills reads = (gives, subst (ReadsAs bytes said) ends reads)

pub gives_of : {old new : CertReader} {bytes : List ℕ} {before : LatestFirst} {rest : List ℕ} (piece : List ℕ) (taken : ℕ) (item : Item) → IsGoing old bytes before rest → taken ≤ length piece → FillsUp item taken (length piece) →
    Advances new (bytes ++ take taken piece) before item → Gives bytes piece taken item
gives_of {old} {new} {bytes} {before} {rest} piece taken item going within fills a = record {
  within = within;
  before = before;
  said = a.said;
  rest_before = rest;
  rest = a.rest;
  read_before = going.reads;
  read = a.going.reads;
  gives = gives_item item before a.said (bytes ++ take taken piece) taken (length piece) a.rest a.gives a.ends fills a.going.reads;
}
