-- The bytes at the front of a text that pass a test, and what follows them.
use Rattle.std.proofs.Common.{◌≡◌, ℕ, ◌+◌, Bool, true, false, cond, List, [], ◌∷◌, ◌++◌, take, drop, refl, sym, ap, subst, ◌∙◌}
use Rattle.std.proofs.Math.Numerals.{one-add}
use Rattle.std.specs.List.{prefix_len}
use Rattle.std.proofs.lemmas.Bool.{false≢true}
use Rattle.std.proofs.lemmas.List.{take-append-drop}
use Rattle.dat_text.specs.Lines.{Each, StartsWith}
use Rattle.dat_text.specs.Reading.{run_at, after_run}

front_step : (t : Bool) (n b : ℕ) (text : List ℕ) → take (cond t (1 + n) 0) (b ∷ text) ≡ cond t (b ∷ take n text) []
front_step true n b text = ap (λ k. take k (b ∷ text)) (one-add n)
front_step false n b text = refl

rest_step : (t : Bool) (n b : ℕ) (text : List ℕ) → drop (cond t (1 + n) 0) (b ∷ text) ≡ cond t (drop n text) (b ∷ text)
rest_step true n b text = ap (λ k. drop k (b ∷ text)) (one-add n)
rest_step false n b text = refl

pub run-cons : (p : ℕ → Bool) (b : ℕ) (text : List ℕ) → run_at p (b ∷ text) ≡ cond (p b) (b ∷ run_at p text) []
run-cons p b text = front_step (p b) (prefix_len p text) b text

pub after-cons : (p : ℕ → Bool) (b : ℕ) (text : List ℕ) → after_run p (b ∷ text) ≡ cond (p b) (after_run p text) (b ∷ text)
after-cons p b text = rest_step (p b) (prefix_len p text) b text

pub run_whole : (p : ℕ → Bool) (text : List ℕ) → text ≡ run_at p text ++ after_run p text
run_whole p text = sym (take-append-drop (prefix_len p text) text)

each_step : (p : ℕ → Bool) (t : Bool) (b : ℕ) (run : List ℕ) → p b ≡ t → Each p run → Each p (cond t (b ∷ run) [])
each_step p true b run passes each = (passes, each)
each_step p false b run fails each = tt

-- each byte at the front passes
pub run_passes : (p : ℕ → Bool) (text : List ℕ) → Each p (run_at p text)
run_passes p [] = tt
run_passes p (b ∷ text) =
    subst (λ (run : List ℕ). Each p run) (sym (run-cons p b text)) (each_step p (p b) b (run_at p text) refl (run_passes p text))

stops_step : (p : ℕ → Bool) (t : Bool) (b : ℕ) (text rest : List ℕ) → p b ≡ t → ¬ (StartsWith p rest) → ¬ (StartsWith p (cond t rest (b ∷ text)))
stops_step p true b text rest passes stops = stops
stops_step p false b text rest fails stops = λ starts. false≢true (sym fails ∙ starts)

-- what follows begins with no byte that passes
pub rest_stops : (p : ℕ → Bool) (text : List ℕ) → ¬ (StartsWith p (after_run p text))
rest_stops p [] = λ starts. starts
rest_stops p (b ∷ text) =
    subst (λ (rest : List ℕ). ¬ (StartsWith p rest)) (sym (after-cons p b text)) (stops_step p (p b) b text (after_run p text) refl (rest_stops p text))

none_at : (p : ℕ → Bool) (rest : List ℕ) → ¬ (StartsWith p rest) → (run_at p rest ≡ []) × (after_run p rest ≡ rest)
none_at p [] stops = (refl, refl)
none_at p (b ∷ rest) stops = none_step (p b) refl
  where
    none_step : (t : Bool) → p b ≡ t → (run_at p (b ∷ rest) ≡ []) × (after_run p (b ∷ rest) ≡ b ∷ rest)
    none_step true passes = absurd (stops passes)
    none_step false fails = (run-cons p b rest ∙ ap (λ (t : Bool). cond t (b ∷ run_at p rest) []) fails, after-cons p b rest ∙ ap (λ (t : Bool). cond t (after_run p rest) (b ∷ rest)) fails)

-- a text is cut into a front and a rest in this way only
pub run_is : (p : ℕ → Bool) (front rest : List ℕ) → Each p front → ¬ (StartsWith p rest) → (run_at p (front ++ rest) ≡ front) × (after_run p (front ++ rest) ≡ rest)
run_is p [] rest each stops = none_at p rest stops
run_is p (b ∷ front) rest each stops =
    let more = run_is p front rest each.1 stops in (
      run-cons p b (front ++ rest) ∙ ap (λ (t : Bool). cond t (b ∷ run_at p (front ++ rest)) []) each.0 ∙ ap (λ (run : List ℕ). b ∷ run) more.0,
      after-cons p b (front ++ rest) ∙ ap (λ (t : Bool). cond t (after_run p (front ++ rest)) (b ∷ (front ++ rest))) each.0 ∙ more.1,
    )
