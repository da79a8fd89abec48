-- Lines that are taken one after another.
use Rattle.std.proofs.Common.{◌≡◌, ℕ, ◌+◌, ◌<◌, ◌≤◌, List, [], ◌∷◌, length, get_or, drop, Err, refl, sym, ap, subst, ◌∙◌, inl, inr}
use Rattle.std.proofs.lemmas.List.{drop_more, drop_all}
use Rattle.carp_base.specs.declared.fail.Fail.{Fail}
use Rattle.carp_base.specs.declared.fail.Fail.TheVariants as fails
use Rattle.dat_text.specs.declared.fault.DatFault.{DatFault}
use Rattle.dat_text.specs.declared.draft.Draft.{Draft}
use Rattle.dat_text.specs.Text.{Statement, lines_of, Says, IsBad, AreGood, HasFirstBad, LatestFirst}
use Rattle.dat_text.specs.Drafts.{Takes, ReadsLines}

next_line : (lines : List (List ℕ)) (n : ℕ) (line : List ℕ) → n < length lines → line ≡ get_or lines n line → drop n lines ≡ line ∷ drop (n + 1) lines
next_line lines n line below is = drop_more lines n line below ∙ ap (λ (x : List ℕ). x ∷ drop (n + 1) lines) (sym is)

pub good_more : (said all : LatestFirst) (lines : List (List ℕ)) (n : ℕ) (line : List ℕ) (entry : Statement) → n < length lines → line ≡ get_or lines n line →
    Says said line entry → AreGood (entry ∷ said) (drop (n + 1) lines) all → AreGood said (drop n lines) all
good_more said all lines n line entry below is says rest =
    subst (λ (ls : List (List ℕ)). AreGood said ls all) (sym (next_line lines n line below is)) (entry, says, rest)

pub bad_more : (said : LatestFirst) (fault : DatFault) (lines : List (List ℕ)) (n at : ℕ) (line : List ℕ) (entry : Statement) → n < length lines → line ≡ get_or lines n line →
    Says said line entry → HasFirstBad (entry ∷ said) (at + 1) (drop (n + 1) lines) fault → HasFirstBad said at (drop n lines) fault
bad_more said fault lines n at line entry below is says rest =
    subst (λ (ls : List (List ℕ)). HasFirstBad said at ls fault) (sym (next_line lines n line below is)) (inr (entry, says, rest))

bad_now : (said : LatestFirst) (fault : DatFault) (lines : List (List ℕ)) (n at : ℕ) (line : List ℕ) → n < length lines → line ≡ get_or lines n line →
    IsBad said at line fault → HasFirstBad said at (drop n lines) fault
bad_now said fault lines n at line below is bad =
    subst (λ (ls : List (List ℕ)). HasFirstBad said at ls fault) (sym (next_line lines n line below is)) (inl bad)

pub all_done : (said : LatestFirst) (lines : List (List ℕ)) (n : ℕ) → length lines ≤ n → AreGood said (drop n lines) said
all_done said lines n most = subst (λ (ls : List (List ℕ)). AreGood said ls said) (sym (drop_all n lines most)) refl

-- where a line is refused, the reading is
pub refused_now : (bytes : List ℕ) (said : LatestFirst) (n at number : ℕ) (line : List ℕ) (draft : Draft) (e : Fail DatFault) →
    n < length (lines_of bytes) → line ≡ get_or (lines_of bytes) n line → number ≡ at →
    ((fault : DatFault) → HasFirstBad said at (drop n (lines_of bytes)) fault → HasFirstBad [] 1 (lines_of bytes) fault) →
    Takes said number line draft (Err e) → ReadsLines bytes (Err e)
refused_now bytes said n at number line draft fails.Memory below is same before takes = tt
refused_now bytes said n at number line draft (fails.Refused fault) below is same before takes =
    before fault (bad_now said fault (lines_of bytes) n at line below is (subst (λ (k : ℕ). IsBad said k line fault) same takes))
