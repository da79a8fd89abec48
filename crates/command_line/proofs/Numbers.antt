-- Plain numbers as the texts that are parsed.
use Rattle.std.proofs.Common.{◌≡◌, ℕ, ◌<◌, ◌^◌, ◌&&◌, Bool, true, false, List, length, refl, sym, arith, true≢false}
use Rattle.std.specs.Prelude.{Result, Ok, nat_le}
use Rattle.std.specs.List.{list_all}
use Rattle.std.specs.Str.Parse.{ParsesUnsigned, digits_value}
use Rattle.std.proofs.lemmas.Bool.{le-leb, leb-true}
use Rattle.std.proofs.lemmas.Str.Parse.{IsDigitsTest, digits_value_short, numerals_by_value, parse_gives}
use Rattle.command_line.specs.Words.{is_digit, is_number, number_of}

pub both : (a b : Bool) → (a && b) ≡ true → (a ≡ true) × (b ≡ true)
both true b e = (refl, e)
both false b e = absurd (true≢false (sym e))

tells : IsDigitsTest (λ ds. list_all is_digit ds ≡ true)
tells = record {
  empty = refl;
  parts = λ c cs e.
      let k = both (is_digit c) (list_all is_digit cs) e in
      let m = both (nat_le 48 c) (nat_le c 57) k.0 in ((leb-true 48 c m.0, leb-true c 57 m.1), k.1);
  more = λ c cs k e. rw (le-leb 48 c k.0, le-leb c 57 k.1) e;
}

-- a plain number is parsed as its number
pub parsed : {E : Type 0} (text : List ℕ) (r : Result ℕ E) → is_number text ≡ true → ParsesUnsigned 64 10 text r → r ≡ Ok (number_of text)
parsed text r is gives =
    let k = both (nat_le 1 (length text) && nat_le (length text) 18) (list_all is_digit text) is in
    let m = both (nat_le 1 (length text)) (nat_le (length text) 18) k.0 in
    let small : digits_value 10 text < 10 ^ 18 = digits_value_short (numerals_by_value (λ ds. list_all is_digit ds ≡ true) tells) text 18 k.1 (leb-true _ _ m.1) in
    let some = leb-true _ _ m.0 in
    parse_gives (numerals_by_value (λ ds. list_all is_digit ds ≡ true) tells) 64 text r gives k.1 (omega (arith, some)) (omega (arith, small))
