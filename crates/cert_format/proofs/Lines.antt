-- Lines of bytes, and more bytes behind them.
use Rattle.std.proofs.Common.{◌≡◌, ℕ, ◌+◌, false, eqb, List, [], ◌∷◌, ◌++◌, length, refl, sym, ap, subst, ◌∙◌, inl, inr, arith}
use Rattle.std.specs.List.{All}
use Rattle.std.proofs.lemmas.List.{append-nil}
use Rattle.std.proofs.lemmas.List.Splits.{slice_split_none}
use Rattle.cert_lines.specs.declared.fault.CertFault.{CertFault}
use Rattle.cert_lines.specs.Lines.{Line}
use Rattle.cert_lines.specs.Order.{LatestFirst}
use Rattle.cert_lines.specs.Texts.{Says, IsBad, parts_of, AreRead, HasBadLine, ReadsAs, BreaksAt}
use Rattle.cert_format.proofs.Splitting.{join, IsSome, split_some, split_append, join_some, some_join}

read_step : (before : LatestFirst) (p : List ℕ) (parts : List (List ℕ)) (said : LatestFirst) (rest : List ℕ) (line : Line) → IsSome parts → Says before p line → AreRead (line ∷ before) parts said rest → AreRead before (p ∷ parts) said rest
read_step before p [] said rest line some says read = (let both : [] ≡ some.first ∷ some.more = some.parts in cc)
read_step before p (q ∷ parts) said rest line some says read = (line, says, read)

pub read_more : (parts : List (List ℕ)) (before said : LatestFirst) (rest q : List ℕ) → AreRead before parts said rest → AreRead before (join parts (q ∷ [])) said (rest ++ q)
read_more [] before said rest q read = absurd read
read_more (last ∷ []) before said rest q read = (read.0, ap (λ (x : List ℕ). x ++ q) read.1)
read_more (p ∷ r ∷ parts) before said rest q read =
    read_step before p (join (r ∷ parts) (q ∷ [])) said (rest ++ q) read.0 (join_some (r ∷ parts) q []) read.1 (read_more (r ∷ parts) (read.0 ∷ before) said rest q read.2)

pub read_line : (parts : List (List ℕ)) (before said : LatestFirst) (rest : List ℕ) (line : Line) → AreRead before parts said rest → Says said rest line → AreRead before (join parts ([] ∷ [] ∷ [])) (line ∷ said) []
read_line [] before said rest line read says = absurd read
read_line (last ∷ []) before said rest line read says = (
  line,
  subst (λ (x : List ℕ). Says before x line) (read.1 ∙ sym (append-nil last)) (subst (λ (x : LatestFirst). Says x rest line) read.0 says),
  (ap (λ (x : LatestFirst). line ∷ x) read.0, refl),
)
read_line (p ∷ r ∷ parts) before said rest line read says =
    read_step before p (join (r ∷ parts) ([] ∷ [] ∷ [])) (line ∷ said) [] read.0 (join_some (r ∷ parts) [] ([] ∷ [])) read.1 (read_line (r ∷ parts) (read.0 ∷ before) said rest line read.2 says)

bad_here : (before : LatestFirst) (at : ℕ) (p : List ℕ) (parts : List (List ℕ)) (said : LatestFirst) (fault : CertFault) → IsSome parts → said ≡ before → IsBad before at p fault → HasBadLine before at (p ∷ parts) said fault
bad_here before at p [] said fault some same bad = (let both : [] ≡ some.first ∷ some.more = some.parts in cc)
bad_here before at p (q ∷ parts) said fault some same bad = inl (same, bad)

bad_later : (before : LatestFirst) (at : ℕ) (p : List ℕ) (parts : List (List ℕ)) (said : LatestFirst) (fault : CertFault) (line : Line) → IsSome parts → Says before p line → HasBadLine (line ∷ before) (at + 1) parts said fault → HasBadLine before at (p ∷ parts) said fault
bad_later before at p [] said fault line some says bad = (let both : [] ≡ some.first ∷ some.more = some.parts in cc)
bad_later before at p (q ∷ parts) said fault line some says bad = inr (line, says, bad)

pub bad_line : (parts : List (List ℕ)) (before said : LatestFirst) (at n : ℕ) (rest q : List ℕ) (qs : List (List ℕ)) (fault : CertFault) → AreRead before parts said rest → IsBad said n rest fault → at + length said ≡ n + length before →
    HasBadLine before at (join parts ([] ∷ q ∷ qs)) said fault
bad_line [] before said at n rest q qs fault read bad count = absurd read
bad_line (last ∷ []) before said at n rest q qs fault read bad count =
    bad_here before at (last ++ []) (q ∷ qs) said fault (record { first = q; more = qs; parts = refl }) read.0
    (subst (λ (x : List ℕ). IsBad before at x fault) (read.1 ∙ sym (append-nil last))
    (subst (λ (x : ℕ). IsBad before x rest fault) (let e : n ≡ at = omega (arith, count, ap (length {A = Line}) read.0) in e)
    (subst (λ (x : LatestFirst). IsBad x n rest fault) read.0 bad)))
bad_line (p ∷ r ∷ parts) before said at n rest q qs fault read bad count =
    bad_later before at p (join (r ∷ parts) ([] ∷ q ∷ qs)) said fault read.0 (join_some (r ∷ parts) [] (q ∷ qs)) read.1
    (bad_line (r ∷ parts) (read.0 ∷ before) said (at + 1) n rest q qs fault read.2 bad (omega (arith, count)))

pub bad_still : (parts : List (List ℕ)) (before said : LatestFirst) (at : ℕ) (qs : List (List ℕ)) (fault : CertFault) → HasBadLine before at parts said fault → HasBadLine before at (join parts qs) said fault
bad_still [] before said at qs fault bad = absurd bad
bad_still (last ∷ []) before said at qs fault bad = absurd bad
bad_still (p ∷ r ∷ parts) before said at qs fault bad = elim bad [
  | inl here ↦ bad_here before at p (join (r ∷ parts) qs) said fault (some_join r parts qs) here.0 here.1
  | inr later ↦ bad_later before at p (join (r ∷ parts) qs) said fault later.0 (some_join r parts qs) later.1 (bad_still (r ∷ parts) (later.0 ∷ before) said (at + 1) qs fault later.2)
]

-- bytes behind the last LF
pub bytes_more : (bytes q : List ℕ) (said : LatestFirst) (rest : List ℕ) → All (λ b. eqb b 10 ≡ false) q → ReadsAs bytes said rest → ReadsAs (bytes ++ q) said (rest ++ q)
bytes_more bytes q said rest plain read =
    subst (λ (parts : List (List ℕ)). AreRead [] parts said (rest ++ q)) (sym (split_append (λ b. eqb b 10) bytes q ∙ ap (join (parts_of bytes)) (slice_split_none (λ b. eqb b 10) q plain)))
    (read_more (parts_of bytes) [] said rest q read)

-- an LF behind a good line
pub bytes_line : (bytes : List ℕ) (said : LatestFirst) (rest : List ℕ) (line : Line) → ReadsAs bytes said rest → Says said rest line → ReadsAs (bytes ++ 10 ∷ []) (line ∷ said) []
bytes_line bytes said rest line read says =
    subst (λ (parts : List (List ℕ)). AreRead [] parts (line ∷ said) []) (sym (split_append (λ b. eqb b 10) bytes (10 ∷ [])))
    (read_line (parts_of bytes) [] said rest line read says)

-- an LF behind a bad line
pub bytes_bad : (bytes more : List ℕ) (said : LatestFirst) (rest : List ℕ) (fault : CertFault) → ReadsAs bytes said rest → IsBad said (length said + 1) rest fault → BreaksAt (bytes ++ 10 ∷ more) said fault
bytes_bad bytes more said rest fault read bad =
    let some = split_some (λ b. eqb b 10) more in
    subst (λ (parts : List (List ℕ)). HasBadLine [] 1 parts said fault)
    (sym (split_append (λ b. eqb b 10) bytes (10 ∷ more) ∙ ap (λ (ps : List (List ℕ)). join (parts_of bytes) ([] ∷ ps)) some.parts))
    (bad_line (parts_of bytes) [] said 1 (length said + 1) rest some.first some.more fault read bad (omega arith))

pub bytes_broken : (bytes more : List ℕ) (said : LatestFirst) (fault : CertFault) → BreaksAt bytes said fault → BreaksAt (bytes ++ more) said fault
bytes_broken bytes more said fault bad =
    subst (λ (parts : List (List ℕ)). HasBadLine [] 1 parts said fault) (sym (split_append (λ b. eqb b 10) bytes more)) (bad_still (parts_of bytes) [] said 1 (parts_of more) fault bad)
