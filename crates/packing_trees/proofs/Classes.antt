-- Bundles by their weights: alone, large, middle and small ones.
use Rattle.std.proofs.Common.{◌≡◌, ℕ, zero, suc, ◌+◌, ◌-◌, ◌*◌, ◌≤◌, ◌<◌, ap, arith, inl, inr, ◌⊎◌}
use Rattle.std.specs.Int.{div_ceil}
use Rattle.std.proofs.Math.Nat.{mul-le-mul_left, mul-le-mul_right}
use Rattle.std.proofs.lemmas.Bool.{cases_lt}
use Rattle.std.proofs.lemmas.Bool.Decides.{nat_tests}
use Rattle.std.proofs.lemmas.Grind.{div_ceil_times}
use Rattle.packing_trees.proofs.Weighing.{alone_of, large_of, large_weight_of, middle_weight_of}

record Classed (al la ly mx al' la' ly' mx' : ℕ) : Type 0 where
  pub alone : al ≡ al'
  pub large : la ≡ la'
  pub heavy : ly ≡ ly'
  pub middle : mx ≡ mx'

module _ (q s w : ℕ) (half : 2 * s ≤ q) where
  abbrev Is : (al la ly mx : ℕ) → Type 0
  Is al la ly mx = Classed (alone_of q s w) (large_of q s w) (large_weight_of q s w) (middle_weight_of q s w) al la ly mx

  as_alone : q - s < w → Is 1 0 0 0
  as_alone more = record { alone = grind (arith, nat_tests); large = grind (arith, nat_tests); heavy = grind (arith, nat_tests); middle = grind (arith, nat_tests) }

  as_large : w ≤ q - s → q < 2 * w → Is 0 1 w 0
  as_large less more = record { alone = grind (arith, nat_tests); large = grind (arith, nat_tests); heavy = grind (arith, nat_tests); middle = grind (arith, nat_tests) }

  as_middle : 2 * w ≤ q → s ≤ w → Is 0 0 0 w
  as_middle less more = record { alone = grind (arith, nat_tests); large = grind (arith, nat_tests); heavy = grind (arith, nat_tests); middle = grind (arith, nat_tests) }

  as_small : 2 * w ≤ q → w < s → Is 0 0 0 0
  as_small less small = record { alone = grind (arith, nat_tests); large = grind (arith, nat_tests); heavy = grind (arith, nat_tests); middle = grind (arith, nat_tests) }

  abbrev Pays : Type 0
  Pays = (q + 1) * (alone_of q s w + large_of q s w) ≤ 2 * w

  abbrev Fills : Type 0
  Fills = (q + 1 - s) * alone_of q s w + (large_weight_of q s w + middle_weight_of q s w) ≤ w

  abbrev AllOrNothing : Type 0
  AllOrNothing = (large_weight_of q s w + middle_weight_of q s w ≡ 0) ⊎ (s ≤ large_weight_of q s w + middle_weight_of q s w)

  pays_one : (n : ℕ) → n ≡ 1 → q + 1 ≤ 2 * w → (q + 1) * n ≤ 2 * w
  pays_one n is more = rw is (omega (arith, more))

  pays_none : (n : ℕ) → n ≡ 0 → (q + 1) * n ≤ 2 * w
  pays_none n is = rw is (omega arith)

  fills_one : (n m c : ℕ) → n ≡ 1 → m ≡ 0 → c ≤ w → c * n + m ≤ w
  fills_one n m c is none more = rw (is, none) (omega (arith, more))

  fills_none : (n m c : ℕ) → n ≡ 0 → m ≤ w → c * n + m ≤ w
  fills_none n m c is more = rw is (omega (arith, more))

  pub record Weighs : Type 0 where
    pub pays : Pays
    pub fills : Fills
    pub whole : AllOrNothing

  of_alone : q - s < w → Weighs
  of_alone more = let x = as_alone more in record {
    pays = pays_one _ (omega (arith, x.alone, x.large)) (omega (arith, more, half));
    fills = fills_one _ _ (q + 1 - s) x.alone (omega (arith, x.heavy, x.middle)) (omega (arith, more, half));
    whole = inl (omega (arith, x.heavy, x.middle));
  }

  of_large : w ≤ q - s → q < 2 * w → Weighs
  of_large less more = let x = as_large less more in record {
    pays = pays_one _ (omega (arith, x.alone, x.large)) (omega (arith, more));
    fills = fills_none _ _ (q + 1 - s) x.alone (omega (arith, x.heavy, x.middle));
    whole = inr (omega (arith, x.heavy, x.middle, more, half));
  }

  of_middle : 2 * w ≤ q → s ≤ w → Weighs
  of_middle less more = let x = as_middle less more in record {
    pays = pays_none _ (omega (arith, x.alone, x.large));
    fills = fills_none _ _ (q + 1 - s) x.alone (omega (arith, x.heavy, x.middle));
    whole = inr (omega (arith, x.heavy, x.middle, more));
  }

  of_small : 2 * w ≤ q → w < s → Weighs
  of_small less small = let x = as_small less small in record {
    pays = pays_none _ (omega (arith, x.alone, x.large));
    fills = fills_none _ _ (q + 1 - s) x.alone (omega (arith, x.heavy, x.middle));
    whole = inl (omega (arith, x.heavy, x.middle));
  }

  -- what a bundle of this weight counts is no more than it weighs
  pub weighs : Weighs
  weighs = elim (cases_lt (q - s) w) [
    | inl more ↦ of_alone more
    | inr less ↦ elim (cases_lt q (2 * w)) [
      | inl large ↦ of_large less large
      | inr half_or_less ↦ elim (cases_lt w s) [ inl small ↦ of_small half_or_less small | inr middle ↦ of_middle half_or_less middle ]
    ]
  ]

-- What the bundles of one group count.
at_most : (q n l : ℕ) → (q + 1) * n ≤ 2 * l → l ≤ q → n ≤ 1
at_most q n l pays fits = elim (cases_lt 1 n) [
  | inl two ↦ absurd (omega (arith, mul-le-mul_left (q + 1) two, pays, fits))
  | inr one ↦ one
]

full : (q s a x l : ℕ) → 2 * s ≤ q → a ≤ 1 → (q + 1 - s) * a + x ≤ l → (x < s → x ≡ 0) → l ≤ q → q * a + x ≤ q
full q s zero x l half few fills whole fits = omega (arith, fills, fits)
full q s (suc a) x l half few fills whole fits =
    let is : a ≡ 0 = omega (arith, few) in
    let one : (q + 1 - s) * suc a ≡ q + 1 - s = rw is (omega arith) in
    let none : x ≡ 0 = whole (omega (arith, one, fills, fits, half)) in
    let all : q * suc a ≡ q = rw is (omega arith) in
    omega (arith, none, all)

-- all groups together: no more than there are
short : (q a b k y x : ℕ) → q * a + (y + x) ≤ q * (a + b + k) → x - (b * q - y) ≤ k * q
short q a b k y x fits = omega (arith, fits)

pub ceiling : (n q k : ℕ) → 1 ≤ q → n ≤ k * q → div_ceil n q ≤ k
ceiling n q k some most = elim (cases_lt k (div_ceil n q)) [
  | inl more ↦ absurd (omega (arith, (div_ceil_times n q some).1, most, mul-le-mul_right q more))
  | inr less ↦ less
]

pub share_bound : (q a b y x count : ℕ) → 1 ≤ q → a + b ≤ count → q * a + (y + x) ≤ q * count → a + b + div_ceil (x - (b * q - y)) q ≤ count
share_bound q a b y x count some few fits =
    let k = count - (a + b) in
    let is : count ≡ a + b + k = omega (arith, few) in
    let fits' : q * a + (y + x) ≤ q * (a + b + k) = omega (arith, fits, ap (λ n. q * n) is) in
    omega (arith, ceiling (x - (b * q - y)) q k some (short q a b k y x fits'), is)

pub group_alone : (q a b l : ℕ) → (q + 1) * (a + b) ≤ 2 * l → l ≤ q → a + b ≤ 1
group_alone q a b l pays fits = at_most q (a + b) l pays fits

pub group_full : (q s a b x l : ℕ) → 2 * s ≤ q → a + b ≤ 1 → (q + 1 - s) * a + x ≤ l → (x < s → x ≡ 0) → l ≤ q → q * a + x ≤ q
group_full q s a b x l half few fills whole fits = full q s a x l half (omega (arith, few)) fills whole fits
