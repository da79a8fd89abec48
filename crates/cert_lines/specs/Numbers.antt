-- Digits that spell a number, and numbers up to a limit.
use Rattle.std.specs.Prelude.{◌≡◌, ℕ, ◌-◌, min, Bool, true, List, [], ◌∷◌, ℤ, pos, negsuc}
use Rattle.std.specs.List.{list_all}
use Rattle.std.specs.Char.{is_ascii_digit}
use Rattle.plan_model.specs.declared.step.Step.{Step}
use Rattle.cert_lines.specs.Lines.{mark_of, step_word}
use Rattle.cert_lines.specs.Numerals.{numeral, signed_numeral}

-- one digit or more, and `0` is the first of no others
abbrev pub IsNumeral : List ℕ → Type 0
IsNumeral [] = ⊥
IsNumeral (c ∷ cs) = (list_all is_ascii_digit (c ∷ cs) ≡ true) × (c ≡ 48 → cs ≡ [])

-- the greatest number that is told apart from greater ones is one less than this, 10^18
abbrev pub limit : ℕ
limit = 1000000000000000000

-- the text spells a number, and this is the lesser of it and the limit
pub record IsNatural (text : List ℕ) (told : ℕ) : Type 0 where
  pub n : ℕ
  pub spelled : text ≡ numeral n
  pub value : told ≡ min n limit

-- the number, or the limit on its side of 0 if it is past the limit
abbrev pub clamped : ℤ → ℤ
clamped (pos n) = pos (min n limit)
clamped (negsuc n) = negsuc (min n (limit - 1))

-- the text spells a whole number, and this is the number up to the limit
pub record IsWhole (text : List ℕ) (told : ℤ) : Type 0 where
  pub z : ℤ
  pub spelled : text ≡ signed_numeral z
  pub value : told ≡ clamped z

-- the text spells a step, and this is the step with an edge of at most 1,000,000
pub record IsStep (text : List ℕ) (told : Step) : Type 0 where
  pub step : Step
  pub spelled : text ≡ step_word step
  pub edge : told.edge ≡ min step.edge 1000000
  pub forward : told.forward ≡ step.forward
  pub served : told.served ≡ step.served

-- the text spells no number
abbrev pub IsNoNatural : List ℕ → Type 0
IsNoNatural text = (n : ℕ) → text ≡ numeral n → ⊥

abbrev pub IsNoWhole : List ℕ → Type 0
IsNoWhole text = (z : ℤ) → text ≡ signed_numeral z → ⊥

abbrev pub IsNoStep : List ℕ → Type 0
IsNoStep text = (s : Step) → text ≡ step_word s → ⊥

-- the text is a mark and a number, and this is the lesser of the number and the limit
pub record IsMarkedNumber (mark : ℕ) (text : List ℕ) (told : ℕ) : Type 0 where
  pub n : ℕ
  pub spelled : text ≡ mark ∷ numeral n
  pub value : told ≡ min n limit

abbrev pub IsNoMarkedNumber : ℕ → List ℕ → Type 0
IsNoMarkedNumber mark text = (n : ℕ) → text ≡ mark ∷ numeral n → ⊥

-- the mark of a step that is served, or not, and forward, or not
abbrev pub mark_with : (served forward : Bool) → ℕ
mark_with served forward = mark_of (record { edge = 0; forward = forward; served = served })
