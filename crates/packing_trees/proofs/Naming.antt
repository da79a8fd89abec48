-- The number of a bundle is the least of the edges that together choices join.
use Rattle.std.proofs.Common.{◌≡◌, ◌≢◌, ℕ, zero, suc, Bool, true, false, get_or, ◌≤◌, ◌<◌, ◌==◌, List, [], ◌∷◌, ◌++◌, length, refl, sym, ap, ◌∙◌, subst, arith, inl, inr, ◌⊎◌, ◌↔◌, append_assoc, append-nil}
use Rattle.std.specs.Prelude.{if◌then◌else◌, max, min}
use Rattle.std.specs.List.{All, Contains}
use Rattle.std.proofs.Math.Nat.{max-eq_left, min-eq_left, max-eq_right, min-eq_right}
use Rattle.std.proofs.lemmas.List.Elements.{Contains-append_left, Contains-append_right, Contains-append_cases, All-head}
use Rattle.std.proofs.lemmas.Bool.{cases_eq, cases_lt, eq-eqb, ne_eqb}
use Rattle.packing_trees.specs.declared.node.PackChoice.{PackChoice}
use Rattle.packing_trees.specs.declared.node.PackChoice.TheVariants.{Together, Apart}
use Rattle.packing_trees.specs.Bundles.{IsChoice, IsTied, TiesLead, AreBundled, joined, bundles_after, bundle_of}
use Rattle.carp_base.specs.Problem.{Problem, IsRequired}

-- Ways along together choices.
module _ (branch : List PackChoice) where
  ways_on : (a b c : ℕ) (way more : List ℕ) → TiesLead branch a way b → TiesLead branch b more c → TiesLead branch a (way ++ more) c
  ways_on a b c [] more first second = let P : ℕ → Type 0 = λ x. TiesLead branch x more c in subst P (sym first) second
  ways_on a b c (d ∷ way) more first second = (first.0, ways_on d b c way more first.1 second)

  pub bundled_same : (a : ℕ) → AreBundled branch a a
  bundled_same a = record { way = []; leads = refl }

  pub bundled_on : (a b c : ℕ) → AreBundled branch a b → AreBundled branch b c → AreBundled branch a c
  bundled_on a b c first second = record { way = first.way ++ second.way; leads = ways_on a b c first.way second.way first.leads second.leads }

  pub bundled_by : (a b : ℕ) → IsTied branch a b → AreBundled branch a b
  bundled_by a b tie = record { way = b ∷ []; leads = (tie, refl) }

  tied_back : (a b : ℕ) → IsTied branch a b → IsTied branch b a
  tied_back a b (inl one) = inr one
  tied_back a b (inr other) = inl other

  way_back : (a b : ℕ) (way : List ℕ) → TiesLead branch a way b → AreBundled branch b a
  way_back a b [] leads = record { way = []; leads = sym leads }
  way_back a b (c ∷ way) leads = bundled_on b c a (way_back c b way leads.1) (bundled_by c a (tied_back a c leads.0))

  pub bundled_back : (a b : ℕ) → AreBundled branch a b → AreBundled branch b a
  bundled_back a b bundled = way_back a b bundled.way bundled.leads

way_into : (branch other : List PackChoice) → ((a b : ℕ) → IsTied branch a b → IsTied other a b) → (a b : ℕ) (way : List ℕ) → TiesLead branch a way b → TiesLead other a way b
way_into branch other into a b [] leads = leads
way_into branch other into a b (c ∷ way) leads = (into a c leads.0, way_into branch other into c b way leads.1)

pub bundled_into : (branch other : List PackChoice) → ((a b : ℕ) → IsTied branch a b → IsTied other a b) → (a b : ℕ) → AreBundled branch a b → AreBundled other a b
bundled_into branch other into a b bundled = record { way = bundled.way; leads = way_into branch other into a b bundled.way bundled.leads }

-- numbers that tell the bundles of a branch apart, each the least edge of its bundle
pub record Named (branch : List PackChoice) (f : ℕ → ℕ) : Type 0 where
  pub tells : (a b : ℕ) → (f a ≡ f b) ↔ AreBundled branch a b
  pub below : (e : ℕ) → f e ≤ e
  pub itself : (e : ℕ) → f (f e) ≡ f e

-- a greater number is given up for a lesser one
abbrev lowered : (ℕ → ℕ) → (low high : ℕ) → ℕ → ℕ
lowered f low high e = if f e == high then low else f e

module _ (branch longer : List PackChoice) (f : ℕ → ℕ) (named : Named branch f) (x y : ℕ) (tie : IsTied longer x y) (order : f x ≤ f y)
    (kept : (a b : ℕ) → IsTied branch a b → IsTied longer a b)
    (only : (a b : ℕ) → IsTied longer a b → IsTied branch a b ⊎ (((a ≡ x) × (b ≡ y)) ⊎ ((a ≡ y) × (b ≡ x)))) where
  abbrev g : ℕ → ℕ
  g = lowered f (f x) (f y)

  at : (e : ℕ) → f e ≡ f y → g e ≡ f x
  at e is = ap (λ t. if t then f x else f e) (eq-eqb (f e) (f y) is)

  off : (e : ℕ) → f e ≢ f y → g e ≡ f e
  off e unlike = ap (λ t. if t then f x else f e) (ne_eqb (f e) (f y) unlike)

  at_x : g x ≡ f x
  at_x = elim (cases_eq (f x) (f y)) [ inl is ↦ at x is | inr unlike ↦ off x unlike ]

  one_number : g x ≡ g y
  one_number = at_x ∙ sym (at y refl)

  alike : (a b : ℕ) → f a ≡ f b → g a ≡ g b
  alike a b same = ap (λ l. if l == f y then f x else l) same

  tied_alike : (a b : ℕ) → IsTied longer a b → g a ≡ g b
  tied_alike a b tied = elim (only a b tied) [
    | inl old ↦ alike a b ((named.tells a b).1 (bundled_by branch a b old))
    | inr new ↦ elim new [
      | inl straight ↦ ap g straight.0 ∙ one_number ∙ sym (ap g straight.1)
      | inr turned ↦ ap g turned.0 ∙ sym one_number ∙ sym (ap g turned.1)
    ]
  ]

  way_alike : (a b : ℕ) (way : List ℕ) → TiesLead longer a way b → g a ≡ g b
  way_alike a b [] leads = ap g leads
  way_alike a b (c ∷ way) leads = tied_alike a c leads.0 ∙ way_alike c b way leads.1

  old : (a b : ℕ) → f a ≡ f b → AreBundled longer a b
  old a b same = bundled_into branch longer kept a b ((named.tells a b).0 same)

  across : (a b : ℕ) → f a ≡ f x → f b ≡ f y → AreBundled longer a b
  across a b low high = bundled_on longer a x b (old a x low) (bundled_on longer x y b (bundled_by longer x y tie) (old y b (sym high)))

  alike_bundled : (a b : ℕ) → g a ≡ g b → AreBundled longer a b
  alike_bundled a b same = elim (cases_eq (f a) (f y)) [
    | inl a_at ↦ elim (cases_eq (f b) (f y)) [
      | inl b_at ↦ old a b (a_at ∙ sym b_at)
      | inr b_off ↦ bundled_back longer b a (across b a (sym (off b b_off) ∙ sym same ∙ at a a_at) a_at)
    ]
    | inr a_off ↦ elim (cases_eq (f b) (f y)) [
      | inl b_at ↦ across a b (sym (off a a_off) ∙ same ∙ at b b_at) b_at
      | inr b_off ↦ old a b (sym (off a a_off) ∙ same ∙ off b b_off)
    ]
  ]

  at_low : g (f x) ≡ f x
  at_low = elim (cases_eq (f (f x)) (f y)) [ inl is ↦ at (f x) is | inr unlike ↦ off (f x) unlike ∙ named.itself x ]

  lowered_named : Named longer g
  lowered_named = record {
    tells = λ a b. (alike_bundled a b, (λ bundled. way_alike a b bundled.way bundled.leads));
    below = λ e. elim (cases_eq (f e) (f y)) [
      | inl is ↦ rw (at e is) (omega (arith, order, is, named.below e))
      | inr unlike ↦ rw (off e unlike) (named.below e)
    ];
    itself = λ e. elim (cases_eq (f e) (f y)) [
      | inl is ↦ ap g (at e is) ∙ at_low ∙ sym (at e is)
      | inr unlike ↦ ap g (off e unlike) ∙ off (f e) (λ same. unlike (sym (named.itself e) ∙ same)) ∙ named.itself e ∙ sym (off e unlike)
    ];
  }

-- One choice more.
pub last_is : (x y : PackChoice) (k : ℕ) → k < length (x ∷ []) → get_or (x ∷ []) k y ≡ y → x ≡ y
last_is x y zero less is = is
last_is x y (suc k) less is = absurd (omega arith)

in_longer : (branch : List PackChoice) (x y : PackChoice) → Contains (branch ++ x ∷ []) y → Contains branch y ⊎ (x ≡ y)
in_longer branch x y stands = elim (Contains-append_cases branch (x ∷ []) y stands) [
  | inl old ↦ inl old
  | inr new ↦ inr (last_is x y new.0 new.1 new.2)
]

kept_ties : (branch : List PackChoice) (x : PackChoice) (c d : ℕ) → IsTied branch c d → IsTied (branch ++ x ∷ []) c d
kept_ties branch x c d (inl one) = inl (Contains-append_left branch (x ∷ []) (Together c d) one)
kept_ties branch x c d (inr other) = inr (Contains-append_left branch (x ∷ []) (Together d c) other)

new_tie : (branch : List PackChoice) (x : PackChoice) → Contains (branch ++ x ∷ []) x
new_tie branch x = Contains-append_right branch (x ∷ []) x (0, omega arith, refl)

only_ties : (branch : List PackChoice) (a b c d : ℕ) → IsTied (branch ++ Together a b ∷ []) c d → IsTied branch c d ⊎ (((c ≡ a) × (d ≡ b)) ⊎ ((c ≡ b) × (d ≡ a)))
only_ties branch a b c d (inl one) = elim (in_longer branch (Together a b) (Together c d) one) [
  | inl old ↦ inl (inl old)
  | inr same ↦ inr (inl (cc, cc))
]
only_ties branch a b c d (inr other) = elim (in_longer branch (Together a b) (Together d c) other) [
  | inl old ↦ inl (inr old)
  | inr same ↦ inr (inr (cc, cc))
]

turned_ties : (branch : List PackChoice) (a b c d : ℕ) → IsTied (branch ++ Together a b ∷ []) c d → IsTied branch c d ⊎ (((c ≡ b) × (d ≡ a)) ⊎ ((c ≡ a) × (d ≡ b)))
turned_ties branch a b c d tied = elim (only_ties branch a b c d tied) [
  | inl old ↦ inl old
  | inr new ↦ elim new [ inl straight ↦ inr (inr straight) | inr turned ↦ inr (inl turned) ]
]

no_tie : (branch : List PackChoice) (a b c d : ℕ) → IsTied (branch ++ Apart a b ∷ []) c d → IsTied branch c d
no_tie branch a b c d (inl one) = elim (in_longer branch (Apart a b) (Together c d) one) [
  | inl old ↦ inl old
  | inr same ↦ cc
]
no_tie branch a b c d (inr other) = elim (in_longer branch (Apart a b) (Together d c) other) [
  | inl old ↦ inr old
  | inr same ↦ cc
]

named_together : (branch : List PackChoice) (a b : ℕ) (f : ℕ → ℕ) → Named branch f → Named (branch ++ Together a b ∷ []) (joined f a b)
named_together branch a b f named =
    let longer : List PackChoice = branch ++ Together a b ∷ [] in
    let new : Contains longer (Together a b) = new_tie branch (Together a b) in
    elim (cases_lt (f a) (f b)) [
      | inl less ↦
          let order : f a ≤ f b = omega arith in
          let low : min (f a) (f b) ≡ f a = min-eq_left order in
          let high : max (f a) (f b) ≡ f b = max-eq_right order in
          subst (λ h. Named longer (lowered f (min (f a) (f b)) h)) (sym high) (subst (λ l. Named longer (lowered f l (f b))) (sym low)
          (lowered_named branch longer f named a b (inl new) order (kept_ties branch (Together a b)) (only_ties branch a b)))
      | inr order ↦
          let low : min (f a) (f b) ≡ f b = min-eq_right order in
          let high : max (f a) (f b) ≡ f a = max-eq_left order in
          subst (λ h. Named longer (lowered f (min (f a) (f b)) h)) (sym high) (subst (λ l. Named longer (lowered f l (f a))) (sym low)
          (lowered_named branch longer f named b a (inr new) order (kept_ties branch (Together a b)) (turned_ties branch a b)))
    ]

named_apart : (branch : List PackChoice) (a b : ℕ) (f : ℕ → ℕ) → Named branch f → Named (branch ++ Apart a b ∷ []) f
named_apart branch a b f named = record {
  tells = λ c d. (
    (λ same. bundled_into branch (branch ++ Apart a b ∷ []) (kept_ties branch (Apart a b)) c d ((named.tells c d).0 same)),
    (λ bundled. (named.tells c d).1 (bundled_into (branch ++ Apart a b ∷ []) branch (no_tie branch a b) c d bundled)),
  );
  below = named.below;
  itself = named.itself;
}

no_way : (a b : ℕ) (way : List ℕ) → TiesLead [] a way b → a ≡ b
no_way a b [] leads = leads
no_way a b (c ∷ way) leads = absurd (none leads.0)
  where
    none : IsTied [] a c → ⊥
    none (inl one) = omega (arith, one.1)
    none (inr other) = omega (arith, other.1)

named_alone : Named [] (λ e. e)
named_alone = record {
  tells = λ a b. ((λ same. record { way = []; leads = same }), (λ bundled. no_way a b bundled.way bundled.leads));
  below = λ e. omega arith;
  itself = λ e. refl;
}

named_after : (more done : List PackChoice) (f : ℕ → ℕ) → Named done f → Named (done ++ more) (bundles_after f more)
named_after [] done f named = subst (λ xs. Named xs f) (sym (append-nil done)) named
named_after (Together a b ∷ more) done f named =
    subst (λ xs. Named xs (bundles_after (joined f a b) more)) (append_assoc done (Together a b ∷ []) more) (named_after more (done ++ Together a b ∷ []) (joined f a b) (named_together done a b f named))
named_after (Apart a b ∷ more) done f named =
    subst (λ xs. Named xs (bundles_after f more)) (append_assoc done (Apart a b ∷ []) more) (named_after more (done ++ Apart a b ∷ []) f (named_apart done a b f named))

pub named_bundles : (branch : List PackChoice) → Named branch (bundle_of branch)
named_bundles branch = named_after branch [] (λ e. e) named_alone

-- the numbers after one choice more
pub after_together : (branch : List PackChoice) (f : ℕ → ℕ) (a b e : ℕ) → bundles_after f (branch ++ Together a b ∷ []) e ≡ joined (bundles_after f branch) a b e
after_together [] f a b e = refl
after_together (Together c d ∷ branch) f a b e = after_together branch (joined f c d) a b e
after_together (Apart c d ∷ branch) f a b e = after_together branch f a b e

pub after_apart : (branch : List PackChoice) (f : ℕ → ℕ) (a b e : ℕ) → bundles_after f (branch ++ Apart a b ∷ []) e ≡ bundles_after f branch e
after_apart [] f a b e = refl
after_apart (Together c d ∷ branch) f a b e = after_apart branch (joined f c d) a b e
after_apart (Apart c d ∷ branch) f a b e = after_apart branch f a b e

-- edges have numbers from 1
fits_first : (p : Problem) (x : PackChoice) (more : List PackChoice) → All (IsChoice p) (x ∷ more) → IsChoice p x
fits_first p x more fits = All-head (IsChoice p) x more fits

fits_rest : (p : Problem) (x : PackChoice) (more : List PackChoice) → All (IsChoice p) (x ∷ more) → All (IsChoice p) more
fits_rest p x more fits = λ k d less. fits (suc k) d (omega arith)

low_joined : (f : ℕ → ℕ) (a b e : ℕ) → 1 ≤ f a → 1 ≤ f b → 1 ≤ f e → 1 ≤ joined f a b e
low_joined f a b e a_from b_from e_from = go (f e == max (f a) (f b))
  where
    go : (t : Bool) → 1 ≤ (if t then min (f a) (f b) else f e)
    go true = omega arith
    go false = e_from

pub from_one_after : (p : Problem) (more : List PackChoice) (f : ℕ → ℕ) → All (IsChoice p) more → ((e : ℕ) → 1 ≤ e → 1 ≤ f e) → (e : ℕ) → 1 ≤ e → 1 ≤ bundles_after f more e
from_one_after p [] f fits low e from_one = low e from_one
from_one_after p (Together a b ∷ more) f fits low e from_one =
    let pair = fits_first p (Together a b) more fits in
    from_one_after p more (joined f a b) (fits_rest p (Together a b) more fits) (λ d one. low_joined f a b d (low a pair.0) (low b (omega (arith, pair.1))) (low d one)) e from_one
from_one_after p (Apart a b ∷ more) f fits low e from_one = from_one_after p more f (fits_rest p (Apart a b) more fits) low e from_one

-- the number of a required edge's bundle is that of a required edge
pub bundle_required : (p : Problem) (branch : List PackChoice) (e : ℕ) → All (IsChoice p) branch → IsRequired p e → IsRequired p (bundle_of branch e)
bundle_required p branch e fits required = record {
  from_one = from_one_after p branch (λ d. d) fits (λ d one. one) e required.from_one;
  in_range = omega (arith, (named_bundles branch).below e, required.in_range);
}
