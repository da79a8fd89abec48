-- What a disjunction of tests says.
use Rattle.std.proofs.Common.{◌≡◌, Bool, true, false, ◌||◌, ◌⊎◌, inl, inr, refl}

pub or_left : (a b : Bool) → a ≡ true → (a || b) ≡ true
or_left true b is = refl
or_left false b is = cc

pub or_right : (a b : Bool) → b ≡ true → (a || b) ≡ true
or_right true b is = refl
or_right false b is = is

pub or_either : (a b : Bool) → (a || b) ≡ true → (a ≡ true) ⊎ (b ≡ true)
or_either true b is = inl refl
or_either false b is = inr is
