-- The flow between two services, as a cell of the table that is written.
use Rattle.std.proofs.Common.{◌≡◌, ◌≢◌, ℕ, ◌+◌, ◌*◌, ◌/◌, ◌%◌, ◌<◌, ◌≤◌, ◌==◌, ◌&&◌, Bool, true, false, cond, List, length, get_or, set, refl, sym, ap, ◌∙◌, arith, inl, inr}
use Rattle.std.proofs.lemmas.Bool.{cases_eq, eq-eqb, ne_eqb}
use Rattle.std.proofs.lemmas.List.{get_or-set_same, get_or-set_other}
use Rattle.std.proofs.lemmas.Nat.{div-mul-add, mod-mul-add, mul-add-lt}
use Rattle.group_search.specs.Flows.{IsRaised, is_pair, more}

pub cell_in : (w e f : ℕ) → e < w → f < w → e * w + f < w * w
cell_in w e f row column = mul-add-lt e w f w row column

row_of : (w e f x y : ℕ) → f < w → y < w → x * w + y ≡ e * w + f → e ≡ x
row_of w e f x y f_in y_in same = omega (arith, div-mul-add e w f f_in, div-mul-add x w y y_in, ap (λ n. n / w) same)

column_of : (w e f x y : ℕ) → f < w → y < w → x * w + y ≡ e * w + f → f ≡ y
column_of w e f x y f_in y_in same = omega (arith, mod-mul-add e w f f_in, mod-mul-add x w y y_in, ap (λ n. n % w) same)

and_no : (b : Bool) → (b && false) ≡ false
and_no true = refl
and_no false = refl

same_pair : (e f : ℕ) → is_pair e f e f ≡ true
same_pair e f = ap (λ b. b && (f == f)) (eq-eqb e e refl) ∙ eq-eqb f f refl

other_row : (e f x y : ℕ) → e ≢ x → is_pair e f x y ≡ false
other_row e f x y other = ap (λ b. b && (f == y)) (ne_eqb e x other)

other_column : (e f x y : ℕ) → f ≢ y → is_pair e f x y ≡ false
other_column e f x y other = ap (λ b. (e == x) && b) (ne_eqb f y other) ∙ and_no (e == x)

-- one cell is written
pub raised : (services : ℕ) (amounts written : List ℕ) (e f amount value : ℕ) → length amounts ≡ (services + 1) * (services + 1) → e ≤ services → f ≤ services →
    written ≡ set amounts (e * (services + 1) + f) value → value ≡ more (get_or amounts (e * (services + 1) + f) 0) amount →
    IsRaised e f amount (record { services = services; amounts = amounts }) (record { services = services; amounts = written })
raised services amounts written e f amount value long e_in f_in is value_is = record {
  services = refl;
  each = λ x y x_in y_in. ap (λ l. get_or l (x * (services + 1) + y) 0) is ∙ elim (cases_eq e x) [
    | inl row ↦ elim (cases_eq f y) [
      | inl column ↦ at_pair x y row column
      | inr other ↦
          elsewhere x y (λ same. other (column_of (services + 1) e f x y (omega (arith, f_in)) (omega (arith, y_in)) same))
          ∙ ap (λ b. cond b (more (get_or amounts (x * (services + 1) + y) 0) amount) (get_or amounts (x * (services + 1) + y) 0)) (sym (other_column e f x y other))
    ]
    | inr other ↦
        elsewhere x y (λ same. other (row_of (services + 1) e f x y (omega (arith, f_in)) (omega (arith, y_in)) same))
        ∙ ap (λ b. cond b (more (get_or amounts (x * (services + 1) + y) 0) amount) (get_or amounts (x * (services + 1) + y) 0)) (sym (other_row e f x y other))
  ];
}
  where
    at_pair : (x y : ℕ) → e ≡ x → f ≡ y → get_or (set amounts (e * (services + 1) + f) value) (x * (services + 1) + y) 0 ≡
        cond (is_pair e f x y) (more (get_or amounts (x * (services + 1) + y) 0) amount) (get_or amounts (x * (services + 1) + y) 0)
    at_pair x y row column =
        rw (← row, ← column)
        (get_or-set_same amounts (e * (services + 1) + f) value 0 (omega (arith, long, cell_in (services + 1) e f (omega (arith, e_in)) (omega (arith, f_in)))) ∙ value_is
        ∙ ap (λ b. cond b (more (get_or amounts (e * (services + 1) + f) 0) amount) (get_or amounts (e * (services + 1) + f) 0)) (sym (same_pair e f)))

    elsewhere : (x y : ℕ) → x * (services + 1) + y ≢ e * (services + 1) + f → get_or (set amounts (e * (services + 1) + f) value) (x * (services + 1) + y) 0 ≡ get_or amounts (x * (services + 1) + y) 0
    elsewhere x y other = get_or-set_other amounts (e * (services + 1) + f) (x * (services + 1) + y) value 0 other
