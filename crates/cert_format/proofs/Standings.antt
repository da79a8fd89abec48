-- What is told of the bytes at the end, and of the head.
use Rattle.std.proofs.Common.{◌≡◌, ◌≢◌, ℕ, zero, suc, ◌+◌, ◌<◌, ◌≤◌, true, false, not, eqb, List, [], ◌∷◌, ◌++◌, length, get_or, take, drop, refl, sym, ap, subst, ◌∙◌, append_assoc, inl, inr, arith, Option, Some, None, MatchOption, Result, Ok, Err, OnOk, IfOk, Bor, ◌-◌}
use Rattle.std.proofs.lemmas.Bool.{and_from, cases_eq, ne_eqb}
use Rattle.std.proofs.lemmas.List.{take_all, take-append-drop}
use Rattle.std.proofs.Common.{length-drop}
use Rattle.cert_lines.specs.declared.item.Item.{Item}
use Rattle.cert_lines.specs.declared.item.Item.TheVariants.{Quiet, Head, Node, Whole}
use Rattle.cert_lines.specs.Laws.{ReadingIsUnique, ReadIsNotBad, BadLineIsUnique}
use Rattle.cert_lines.specs.declared.fault.CertFault.{CertFault}
use Rattle.cert_lines.specs.declared.fault.CertFault.TheVariants.{Syntax, Truncated}
use Rattle.cert_lines.specs.declared.next.Next.TheVariants.{Nothing}
use Rattle.cert_lines.specs.Order.{LatestFirst, next_of}
use Rattle.cert_lines.specs.Texts.{IsUnfinished}
use Rattle.cert_format.specs.declared.cert.CertHead.{CertHead}
use Rattle.cert_format.specs.declared.reader.Standing.{Standing}
use Rattle.cert_format.specs.declared.reader.Standing.TheVariants.{Going, Bad, OutOfMemory}
use Rattle.cert_format.specs.declared.cert_reader.CertReader.{CertReader}
use Rattle.cert_format.specs.Certs.{IsHeadOf, stated_nodes}
use Rattle.cert_format.specs.Readers.{SaysSoFar}
use Rattle.cert_format.specs.Held.{FillsUp, words_in, is_plain, IsGoing, IsBroken, StandingHolds}
use Rattle.cert_lines.specs.Lines.{spaced}
use Rattle.cert_format.proofs.MoreBytes.{spaced_split, take_run_more}
use Rattle.cert_format.proofs.Lines.{bytes_broken}

pub head_of : (standing : Standing) (reader : CertReader) (bytes : List ℕ) (said : LatestFirst) → ReadingIsUnique → ReadIsNotBad → BadLineIsUnique → StandingHolds standing reader bytes → SaysSoFar bytes said → IsHeadOf said reader.draft.head
head_of Going reader bytes said one apart bad holds says = elim says [
  | inl read ↦ subst (λ (x : LatestFirst). IsHeadOf x reader.draft.head) (one bytes holds.0 said holds.1 read.0 holds.2.reads read.1).0 holds.2.draft.head
  | inr broken ↦ absurd (apart bytes holds.0 said holds.1 broken.0 holds.2.reads broken.1)
]
head_of (Bad fault) reader bytes said one apart bad holds says = elim says [
  | inl read ↦ absurd (apart bytes said holds.said read.0 fault read.1 holds.breaks)
  | inr broken ↦ subst (λ (x : LatestFirst). IsHeadOf x reader.draft.head) (bad bytes holds.said said fault broken.0 holds.breaks broken.1).0 holds.head
]
head_of OutOfMemory reader bytes said one apart bad holds says = absurd holds

pub head_told : (told : Option (Bor CertHead)) (head : CertHead) (said : LatestFirst) → MatchOption told (head.nodes ≡ 0) (λ x. (1 ≤ head.nodes) × (x.now ≡ head)) → IsHeadOf said head → MatchOption told (stated_nodes said ≡ 0) (λ x. (1 ≤ stated_nodes said) × IsHeadOf said x.now)
head_told None head said is h = sym h.nodes ∙ is
head_told (Some x) head said is h = (subst (λ (n : ℕ). 1 ≤ n) h.nodes is.0, subst (IsHeadOf said) (sym is.1) h)

pub on_ok_then : {A E P Q : Type 0} (r : Result A E) → OnOk r P → (P → Q) → OnOk r Q
on_ok_then {A} {E} {P} {Q} (Ok x) holds then = then holds
on_ok_then {A} {E} {P} {Q} (Err e) holds then = tt

-- nothing follows the last LF just where no word has come and the word that comes is empty
single : (ws : List (List ℕ)) (w : List ℕ) → [] ∷ [] ≡ ws ++ w ∷ [] → (ws ≡ []) × (w ≡ [])
single [] w e = (refl, (let both : [] ∷ [] ≡ w ∷ [] = e in let same : w ≡ [] = cc in same))
single (v ∷ []) w e = absurd (let both : [] ∷ [] ≡ v ∷ w ∷ [] = e in cc)
single (v ∷ u ∷ ws) w e = absurd (let both : [] ∷ [] ≡ v ∷ u ∷ (ws ++ w ∷ []) = e in cc)

pub rest_none : {reader : CertReader} {bytes : List ℕ} {said : LatestFirst} {rest : List ℕ} → (going : IsGoing reader bytes said rest) → rest ≡ [] → (going.words ≡ []) × (going.text ≡ [])
rest_none {reader} {bytes} {said} {rest} going none = single going.words going.text (sym (ap words_in none) ∙ going.cut)

pub none_rest : {reader : CertReader} {bytes : List ℕ} {said : LatestFirst} {rest : List ℕ} → (going : IsGoing reader bytes said rest) → going.words ≡ [] → going.text ≡ [] → rest ≡ []
none_rest {reader} {bytes} {said} {rest} going words text =
    sym (spaced_split rest) ∙ ap spaced (going.cut ∙ ap (λ (x : List (List ℕ)). x ++ going.text ∷ []) words ∙ ap (λ (x : List ℕ). x ∷ []) text)

pub unfinished_more : (said : LatestFirst) (rest : List ℕ) (n : ℕ) (fault : CertFault) → Syntax n ≡ fault → n ≡ length said + 1 → next_of said ≡ Nothing → rest ≢ [] → IsUnfinished said rest (length said + 1) fault
unfinished_more said rest n fault same count next more = subst (IsUnfinished said rest (length said + 1)) same (count, next, more)

pub unfinished_short : (said : LatestFirst) (rest : List ℕ) (n : ℕ) (fault : CertFault) → Truncated n ≡ fault → n ≡ length said + 1 → next_of said ≢ Nothing → IsUnfinished said rest (length said + 1) fault
unfinished_short said rest n fault same count next = subst (IsUnfinished said rest (length said + 1)) same (count, next)

pub not_plain : (b : ℕ) → is_plain b ≡ false → b ≢ 32 → b ≡ 10
not_plain b fails other = elim (cases_eq b 10) [
  | inl same ↦ same
  | inr no_end ↦ absurd (let both : true ≡ false = sym (and_from (not (eqb b 32)) (not (eqb b 10)) (ap not (ne_eqb b 32 other)) (ap not (ne_eqb b 10 no_end))) ∙ fails in let e : true ≡ false = both in cc)
]

pub piece_parts : (xs : List ℕ) (i b : ℕ) → i < length xs → get_or xs i 0 ≡ b → take i xs ++ b ∷ drop (i + 1) xs ≡ xs
piece_parts [] i b below is = absurd (omega (arith, below))
piece_parts (x ∷ xs) zero b below is = ap (λ (k : ℕ). k ∷ xs) (sym is)
piece_parts (x ∷ xs) (suc i) b below is =
    ap (λ (k : ℕ). x ∷ (take i xs ++ b ∷ drop k (x ∷ xs))) (let e : suc i + 1 ≡ suc (i + 1) = omega arith in e) ∙ ap (λ (r : List ℕ). x ∷ r) (piece_parts xs i b (omega (arith, below)) is)

pub slice_is : (xs : List ℕ) (t : ℕ) → take (length xs - t) (drop t xs) ≡ drop t xs
slice_is xs t = take_all (length xs - t) (drop t xs) (omega (arith, length-drop t xs))

pub slice_rest : (xs : List ℕ) (t : ℕ) → take t xs ++ take (length xs - t) (drop t xs) ≡ xs
slice_rest xs t = ap (λ (x : List ℕ). take t xs ++ x) (slice_is xs t) ∙ take-append-drop t xs

pub slice_run : (bytes xs : List ℕ) (t m : ℕ) → (bytes ++ take t xs) ++ take m (take (length xs - t) (drop t xs)) ≡ bytes ++ take (t + m) xs
slice_run bytes xs t m =
    append_assoc bytes (take t xs) (take m (take (length xs - t) (drop t xs)))
    ∙ ap (λ (x : List ℕ). bytes ++ (take t xs ++ take m x)) (slice_is xs t)
    ∙ ap (λ (x : List ℕ). bytes ++ x) (take_run_more xs t m)

pub slice_length : (xs : List ℕ) (t : ℕ) → length (take (length xs - t) (drop t xs)) ≡ length xs - t
slice_length xs t = ap length (slice_is xs t) ∙ length-drop t xs

pub fills_other : (item : Item) (taken size : ℕ) → (item ≡ Quiet → ⊥) → FillsUp item taken size
fills_other Quiet taken size other = absurd (other refl)
fills_other Head taken size other = tt
fills_other (Node x) taken size other = tt
fills_other Whole taken size other = tt

pub if_ok_then : {A E Q : Type 0} {P R : A → Type 0} (r : Result A E) → IfOk r P → OnOk r Q → ((x : A) → P x → Q → R x) → IfOk r R
if_ok_then {A} {E} {Q} {P} {R} (Ok x) holds also then = then x holds also
if_ok_then {A} {E} {Q} {P} {R} (Err e) holds also then = tt

pub still_broken : {reader : CertReader} {bytes : List ℕ} {fault : CertFault} (more : List ℕ) → IsBroken reader bytes fault → IsBroken reader (bytes ++ more) fault
still_broken {reader} {bytes} {fault} more h = record { said = h.said; breaks = bytes_broken bytes more h.said fault h.breaks; head = h.head }

pub some_bytes : (xs : List ℕ) → xs ≢ [] → 1 ≤ length xs
some_bytes [] some = absurd (some refl)
some_bytes (x ∷ xs) some = omega arith
