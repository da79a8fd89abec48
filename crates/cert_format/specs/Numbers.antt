-- Tests of numbers.
use Rattle.std.specs.Prelude.{ℕ, Bool, ◌&&◌, nat_le, ℤ, pos, neg_ℤ, int_le}

-- the number is one of those from the first to the last
abbrev pub is_within : (first last n : ℕ) → Bool
is_within first last n = nat_le first n && nat_le n last

-- a price or a weight is in its range
abbrev pub price_ok : ℤ → Bool
price_ok z = int_le (neg_ℤ (pos 1000000000000000)) z && int_le z (pos 1000000000000000)
