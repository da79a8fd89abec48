-- The kind of a line, and its key.
use Rattle.std.proofs.Common.{◌≡◌, ℕ, ◌+◌, ◌<◌, ◌≤◌, List, [], ◌∷◌, ◌++◌, map, get_or, Some, None, refl, sym, ap, subst, ◌∙◌, inl, inr, lit<, arith}
use Rattle.std.specs.Char.{to_ascii_lowercase}
use Rattle.std.proofs.lemmas.Bool.{cases_lt}
use Rattle.std.proofs.lemmas.Option.{none-some}
use Rattle.dat_text.specs.declared.key.Key.{Key}
use Rattle.dat_text.specs.declared.key.Key.TheVariants.{Vertices, RequiredCount, OtherCount, Capacity, Depot, RequiredList, OtherList}
use Rattle.dat_text.specs.Lines.{is_blank, is_key_byte, StartsWith, SameLetters, key_name, HasKey, IsOpened, IsSkipped}
use Rattle.dat_text.specs.Text.{key_place}
use Rattle.dat_text.specs.Kinds.{NamesNone}
use Rattle.dat_text.specs.Reading.{run_at, after_run, after_byte}
use Rattle.dat_text.proofs.Runs.{run_whole, run_passes, rest_stops, run_is}
use Rattle.dat_text.proofs.LineParts.{Apart, behind_blanks, byte_begins, byte_found, letters_apart, apart_stops, blank_ignores_case}

all_keys : List Key
all_keys = Vertices ∷ RequiredCount ∷ OtherCount ∷ Capacity ∷ Depot ∷ RequiredList ∷ OtherList ∷ []

key_at_place : (key : Key) → get_or all_keys (key_place key) Vertices ≡ key
unfolding all_keys
key_at_place Vertices = refl
key_at_place RequiredCount = refl
key_at_place OtherCount = refl
key_at_place Capacity = refl
key_at_place Depot = refl
key_at_place RequiredList = refl
key_at_place OtherList = refl

-- one more key of the list does not have the name
pub none_more : (name : List ℕ) (i : ℕ) (other : List ℕ) →
    other ≡ key_name (get_or (Vertices ∷ RequiredCount ∷ OtherCount ∷ Capacity ∷ Depot ∷ RequiredList ∷ OtherList ∷ []) i Vertices) →
    ¬ (SameLetters name other) → ((key : Key) → key_place key < i → ¬ (SameLetters name (key_name key))) →
    (key : Key) → key_place key < i + 1 → ¬ (SameLetters name (key_name key))
unfolding all_keys
none_more name i other is differs before key below same = elim (cases_lt (key_place key) i) [
  | inl less ↦ before key less same
  | inr more ↦
      let at : key_place key ≡ i = omega (arith, below, more) in
      let named : key_name key ≡ other = ap key_name (sym (key_at_place key) ∙ ap (λ (k : ℕ). get_or all_keys k Vertices) at) ∙ sym is in
      differs (same ∙ ap (map to_ascii_lowercase) named)
]

place_small : (key : Key) → key_place key < 7
place_small Vertices = lit< tt
place_small RequiredCount = lit< tt
place_small OtherCount = lit< tt
place_small Capacity = lit< tt
place_small Depot = lit< tt
place_small RequiredList = lit< tt
place_small OtherList = lit< tt

-- where none of the list has the name, no key has
pub none_of_all : (name : List ℕ) (i : ℕ) → 7 ≤ i → ((key : Key) → key_place key < i → ¬ (SameLetters name (key_name key))) → NamesNone name
none_of_all name i all none key = none key (omega (arith, place_small key))

pub is_opened : (line rest : List ℕ) → after_byte 40 line ≡ Some rest → IsOpened line
is_opened line rest e = record { rest = rest; begins = byte_begins 40 line rest e }

pub has_key : (key : Key) (line text rest : List ℕ) → text ≡ after_run is_blank line → SameLetters (run_at is_key_byte text) (key_name key) →
    rest ≡ after_run is_key_byte text → HasKey key line rest
has_key key line text rest behind same after = record {
  blanks = run_at is_blank line;
  run = run_at is_key_byte text;
  are_blank = run_passes is_blank line;
  is_run = run_passes is_key_byte text;
  whole = run_whole is_blank line ∙ ap (λ (x : List ℕ). run_at is_blank line ++ x) (sym behind ∙ run_whole is_key_byte text ∙ ap (λ (x : List ℕ). run_at is_key_byte text ++ x) (sym after));
  is_longest = subst (λ (x : List ℕ). ¬ (StartsWith is_key_byte x)) (sym after) (rest_stops is_key_byte text);
  is_key = same;
}

no_blank_name : (key : Key) → Apart is_blank (key_name key)
no_blank_name Vertices = refl
no_blank_name RequiredCount = refl
no_blank_name OtherCount = refl
no_blank_name Capacity = refl
no_blank_name Depot = refl
no_blank_name RequiredList = refl
no_blank_name OtherList = refl

-- the key and what follows it are found behind the blanks
pub key_found : (key : Key) (line rest : List ℕ) → (h : HasKey key line rest) →
    (run_at is_key_byte (after_run is_blank line) ≡ h.run) × (after_run is_key_byte (after_run is_blank line) ≡ rest)
key_found key line rest h =
    let behind : after_run is_blank line ≡ h.run ++ rest =
    ap (after_run is_blank) h.whole ∙ behind_blanks h.blanks (h.run ++ rest) h.are_blank (apart_stops is_blank h.run rest (letters_apart is_blank h.run (key_name key) blank_ignores_case h.is_key (no_blank_name key))) in
    let cut = run_is is_key_byte h.run rest h.is_run h.is_longest in
    (ap (run_at is_key_byte) behind ∙ cut.0, ap (after_run is_key_byte) behind ∙ cut.1)

pub is_skipped : (line text : List ℕ) → text ≡ after_run is_blank line → after_byte 40 line ≡ None → NamesNone (run_at is_key_byte text) → IsSkipped line
is_skipped line text behind closed none = record {
  no_edge = λ opened. none-some opened.rest (sym closed ∙ byte_found 40 line opened.rest refl opened.begins);
  no_key = λ key rest h. none key (ap (map to_ascii_lowercase) (ap (run_at is_key_byte) behind ∙ (key_found key line rest h).0) ∙ h.is_key);
}
