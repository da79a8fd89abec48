-- What is told of an item, and the item: equal, where its numbers are in range.
use Rattle.std.proofs.Common.{◌≡◌, ℕ, ◌-◌, ◌<◌, ◌≤◌, min, Bool, true, false, ◌&&◌, nat_le, ℤ, pos, negsuc, to_z, of_z, w64, List, [], ◌∷◌, ◌++◌, Option, Some, None, refl, sym, ap, ◌∙◌, append_assoc, inl, inr, arith}
use Rattle.std.specs.List.{flat_map}
use Rattle.std.specs.Option.{option_map}
use Rattle.std.proofs.lemmas.Bool.{and_parts, leb-true, lt-leb, cases_lt}
use Rattle.std.proofs.lemmas.List.{append-nil}
use Rattle.std.proofs.lemmas.Int.{ints, to_z-of_z}
use Rattle.plan_model.specs.declared.step.Step.{Step}
use Rattle.branch_rules.specs.declared.weight.Weight.{Weight}
use Rattle.cert_lines.specs.Numerals.{numeral, signed_numeral}
use Rattle.cert_lines.specs.Lines.{weight_words}
use Rattle.cert_lines.specs.Numbers.{IsStep, IsNoNatural, IsNoWhole, clamped, limit}
use Rattle.cert_format.specs.Lists.{is_within, step_ok, vertex_ok, price_ok, weight_ok}
use Rattle.cert_format.specs.LineStates.{lesser}
use Rattle.cert_format.specs.Parts.{LineItems, item_words, waiting_words}
use Rattle.cert_format.specs.declared.kind.Kind.{Kind}
use Rattle.cert_format.specs.declared.kind.Kind.TheVariants.{Version, Counts, Cost, Bound, Tours, Tour, Shores, Shore, Sets, Prices, Weights, Bonds, Nodes, Pair, Cut, Price, Void, Fixed, End}
use Rattle.cert_format.proofs.Hopeless.{next_shore, next_weight}

and_false : (b : Bool) → (b && false) ≡ false
and_false true = refl
and_false false = refl

past : (first last n : ℕ) → last < n → is_within first last n ≡ false
past first last n over = ap (λ (b : Bool). nat_le first n && b) (lt-leb n last over) ∙ and_false (nat_le first n)

-- a number that is told up to a limit past the range
pub within_told : (first last cap n told : ℕ) → last < cap → told ≡ min n cap → is_within first last told ≡ is_within first last n
within_told first last cap n told room is = elim (cases_lt n cap) [
  | inl small ↦ ap (is_within first last) (let e : told ≡ n = omega (arith, is, small) in e)
  | inr large ↦ past first last told (omega (arith, is, large, room)) ∙ sym (past first last n (omega (arith, large, room)))
]

pub within_is : (first last cap n told : ℕ) → last < cap → told ≡ min n cap → is_within first last n ≡ true → told ≡ n
within_is first last cap n told room is holds =
    let small : n ≤ last = leb-true n last (and_parts (nat_le first n) (nat_le n last) holds).1 in
    omega (arith, is, small, room)

pub step_told : {text : List ℕ} {told : Step} → (is : IsStep text told) → is_within 1 4000 told.edge ≡ step_ok is.step
step_told {text} {told} is = within_told 1 4000 1000000 is.step.edge told.edge (omega arith) is.edge

step_same : (a b : Step) → a.edge ≡ b.edge → a.forward ≡ b.forward → a.served ≡ b.served → a ≡ b
step_same a b p q r =
    ap (λ (k : ℕ). record a { edge = k }) p ∙ ap (λ (k : Bool). record a { edge = b.edge; forward = k }) q ∙ ap (λ (k : Bool). record b { served = k }) r

pub step_is : {text : List ℕ} {told : Step} → (is : IsStep text told) → step_ok is.step ≡ true → told ≡ is.step
step_is {text} {told} is holds = step_same told is.step (within_is 1 4000 1000000 is.step.edge told.edge (omega arith) is.edge holds) is.forward is.served

pub vertex_told : (n number told : ℕ) → number ≡ min n limit → told ≡ min number 1000000 → is_within 1 1000 number ≡ vertex_ok n
vertex_told n number told p q = within_told 1 1000 limit n number (omega arith) p

pub vertex_is : (n number told : ℕ) → number ≡ min n limit → told ≡ min number 1000000 → vertex_ok n ≡ true → told ≡ n
vertex_is n number told p q holds = within_is 1 1000 1000000 n told (omega arith) (omega (arith, p, q)) holds

pub price_told : (z told : ℤ) → told ≡ clamped z → price_ok told ≡ price_ok z
price_told (pos n) told is = ap price_ok is ∙ elim (cases_lt n limit) [
  | inl small ↦ ap (λ (k : ℕ). price_ok (pos k)) (let e : min n limit ≡ n = omega (arith, small) in e)
  | inr large ↦ lt-leb (min n limit) 1000000000000000 (omega (arith, large)) ∙ sym (lt-leb n 1000000000000000 (omega (arith, large)))
]
price_told (negsuc n) told is = ap price_ok is ∙ elim (cases_lt n limit) [
  | inl small ↦ ap (λ (k : ℕ). price_ok (negsuc k)) (let e : min n (limit - 1) ≡ n = omega (arith, small) in e)
  | inr large ↦ ap (λ (b : Bool). b && true) (lt-leb (min n (limit - 1)) 999999999999999 (omega (arith, large)) ∙ sym (lt-leb n 999999999999999 (omega (arith, large))))
]

pub price_is : (z told : ℤ) → told ≡ clamped z → price_ok z ≡ true → told ≡ z
price_is (pos n) told is holds = is ∙ ap pos (let small : n ≤ 1000000000000000 = leb-true n 1000000000000000 holds in omega (arith, small))
price_is (negsuc n) told is holds = is ∙ ap negsuc (let small : n ≤ 999999999999999 = leb-true n 999999999999999 (and_parts (nat_le n 999999999999999) true holds).0 in omega (arith, small))

weight_same : (a b : Weight) → a.shore ≡ b.shore → a.weight ≡ b.weight → a ≡ b
weight_same a b p q = ap (λ (k : ℕ). record a { shore = k }) p ∙ ap (λ (k : ℤ). record b { weight = k }) q

pub weight_told : (borders n number : ℕ) (z told : ℤ) → borders ≤ 2000 → number ≡ lesser n → told ≡ clamped z → (is_within 1 borders number && price_ok told) ≡ weight_ok borders (record { shore = n; weight = z })
weight_told borders n number z told few p q =
    ap (λ (b : Bool). b && price_ok told) (within_told 1 borders limit n number (omega (arith, few)) p) ∙ ap (λ (b : Bool). is_within 1 borders n && b) (price_told z told q)

pub weight_is : (borders n number shore : ℕ) (z told : ℤ) → borders ≤ 2000 → number ≡ lesser n → shore ≡ min number 1000000 → told ≡ clamped z → weight_ok borders (record { shore = n; weight = z }) ≡ true →
    ◌≡◌ {A = Weight} (record { shore = shore; weight = told }) (record { shore = n; weight = z })
weight_is borders n number shore z told few p r q holds =
    let parts = and_parts (is_within 1 borders n) (price_ok z) holds in
    let small : n ≤ borders = leb-true n borders (and_parts (nat_le 1 n) (nat_le n borders) parts.0).1 in
    weight_same (record { shore = shore; weight = told }) (record { shore = n; weight = z }) (let e : shore ≡ n = omega (arith, p, r, small, few) in e) (price_is z told q parts.1)

-- the number of a shore that waits for its weight

pub no_waiting : (x : Option ℕ) (held : Option ℕ) → held ≡ option_map lesser x → held ≡ None → x ≡ None
no_waiting None held is none = refl
no_waiting (Some n) held is none = (let both : None ≡ Some (lesser n) = sym none ∙ is in cc)

pub record IsWaiting (x : Option ℕ) (number : ℕ) : Type 0 where
  pub n : ℕ
  pub waits : x ≡ Some n
  pub told : number ≡ lesser n

pub waiting_is : (x : Option ℕ) (held : Option ℕ) (number : ℕ) → held ≡ option_map lesser x → held ≡ Some number → IsWaiting x number
waiting_is None held number is some = (let both : Some number ≡ None = sym some ∙ is in cc)
waiting_is (Some n) held number is some = record { n = n; waits = refl; told = (let both : Some number ≡ Some (lesser n) = sym some ∙ is in cc) }

pub shore_words : (ws : List Weight) (waiting : Option ℕ) (n : ℕ) (text : List ℕ) → waiting ≡ None → text ≡ numeral n → flat_map weight_words ws ++ waiting_words (Some n) ≡ (flat_map weight_words ws ++ waiting_words waiting) ++ text ∷ []
shore_words ws waiting n text none same =
    ap (λ (x : List ℕ). flat_map weight_words ws ++ x ∷ []) (sym same)
    ∙ ap (λ (x : List (List ℕ)). x ++ text ∷ []) (sym (append-nil (flat_map weight_words ws)))
    ∙ ap (λ (x : Option ℕ). (flat_map weight_words ws ++ waiting_words x) ++ text ∷ []) (sym none)

flat_more : (ws : List Weight) (w : Weight) → flat_map weight_words (ws ++ w ∷ []) ≡ flat_map weight_words ws ++ weight_words w
flat_more [] w = refl
flat_more (v ∷ ws) w = ap (λ (x : List (List ℕ)). numeral v.shore ∷ signed_numeral v.weight ∷ x) (flat_more ws w)

pub weight_more : (ws : List Weight) (waiting : Option ℕ) (n : ℕ) (z : ℤ) (text : List ℕ) → waiting ≡ Some n → text ≡ signed_numeral z →
    flat_map weight_words (ws ++ record { shore = n; weight = z } ∷ []) ++ waiting_words None ≡ (flat_map weight_words ws ++ waiting_words waiting) ++ text ∷ []
weight_more ws waiting n z text waits same =
    append-nil (flat_map weight_words (ws ++ record { shore = n; weight = z } ∷ []))
    ∙ flat_more ws (record { shore = n; weight = z })
    ∙ ap (λ (x : List ℕ). flat_map weight_words ws ++ numeral n ∷ x ∷ []) (sym same)
    ∙ sym (append_assoc (flat_map weight_words ws) (numeral n ∷ []) (text ∷ []))
    ∙ ap (λ (x : Option ℕ). (flat_map weight_words ws ++ waiting_words x) ++ text ∷ []) (sym waits)

pub shore_fails : (ys ws : List Weight) (later waiting : Option ℕ) (text : List ℕ) (more : List (List ℕ)) → later ≡ None → waiting ≡ None →
    flat_map weight_words ys ++ waiting_words later ≡ (flat_map weight_words ws ++ waiting_words waiting) ++ text ∷ more → IsNoNatural text → ⊥
shore_fails ys ws later waiting text more p q e none =
    next_shore ys ws text more
    (sym (append-nil (flat_map weight_words ys)) ∙ ap (λ (x : Option ℕ). flat_map weight_words ys ++ waiting_words x) (sym p) ∙ e
    ∙ ap (λ (x : Option ℕ). (flat_map weight_words ws ++ waiting_words x) ++ text ∷ more) q ∙ ap (λ (x : List (List ℕ)). x ++ text ∷ more) (append-nil (flat_map weight_words ws))) none

pub weight_fails : (ys ws : List Weight) (later waiting : Option ℕ) (n : ℕ) (text : List ℕ) (more : List (List ℕ)) → later ≡ None → waiting ≡ Some n →
    flat_map weight_words ys ++ waiting_words later ≡ (flat_map weight_words ws ++ waiting_words waiting) ++ text ∷ more → IsNoWhole text → ⊥
weight_fails ys ws later waiting n text more p q e none =
    next_weight ys ws n text more
    (sym (append-nil (flat_map weight_words ys)) ∙ ap (λ (x : Option ℕ). flat_map weight_words ys ++ waiting_words x) (sym p) ∙ e
    ∙ ap (λ (x : Option ℕ). (flat_map weight_words ws ++ waiting_words x) ++ text ∷ more) q ∙ append_assoc (flat_map weight_words ws) (numeral n ∷ []) (text ∷ more)) none

-- a line of another kind has no items
pub plain_fails : (kind : Kind) (x y : LineItems) (text : List ℕ) (more : List (List ℕ)) → (kind ≡ Tour → ⊥) → (kind ≡ Shore → ⊥) → (kind ≡ Prices → ⊥) → (kind ≡ Weights → ⊥) → (kind ≡ Bonds → ⊥) → item_words kind y ≡ item_words kind x ++ text ∷ more → ⊥
plain_fails Version x y text more a b d f g e = (let both : [] ≡ text ∷ more = e in cc)
plain_fails Counts x y text more a b d f g e = (let both : [] ≡ text ∷ more = e in cc)
plain_fails Cost x y text more a b d f g e = (let both : [] ≡ text ∷ more = e in cc)
plain_fails Bound x y text more a b d f g e = (let both : [] ≡ text ∷ more = e in cc)
plain_fails Tours x y text more a b d f g e = (let both : [] ≡ text ∷ more = e in cc)
plain_fails Tour x y text more a b d f g e = a refl
plain_fails Shores x y text more a b d f g e = (let both : [] ≡ text ∷ more = e in cc)
plain_fails Shore x y text more a b d f g e = b refl
plain_fails Sets x y text more a b d f g e = (let both : [] ≡ text ∷ more = e in cc)
plain_fails Prices x y text more a b d f g e = d refl
plain_fails Weights x y text more a b d f g e = f refl
plain_fails Bonds x y text more a b d f g e = g refl
plain_fails Nodes x y text more a b d f g e = (let both : [] ≡ text ∷ more = e in cc)
plain_fails Pair x y text more a b d f g e = (let both : [] ≡ text ∷ more = e in cc)
plain_fails Cut x y text more a b d f g e = (let both : [] ≡ text ∷ more = e in cc)
plain_fails Price x y text more a b d f g e = (let both : [] ≡ text ∷ more = e in cc)
plain_fails Void x y text more a b d f g e = (let both : [] ≡ text ∷ more = e in cc)
plain_fails Fixed x y text more a b d f g e = (let both : [] ≡ text ∷ more = e in cc)
plain_fails End x y text more a b d f g e = (let both : [] ≡ text ∷ more = e in cc)

-- what is told of a whole number keeps its value in 64 bits
bits_of_pos : (n : ℕ) → n ≤ limit → to_z w64 (of_z w64 (pos n)) ≡ pos n
bits_of_pos n small = grind (arith, ints, to_z-of_z)

bits_of_negsuc : (n : ℕ) → n ≤ limit → to_z w64 (of_z w64 (negsuc n)) ≡ negsuc n
bits_of_negsuc n small = grind (arith, ints, to_z-of_z)

clamped_bits : (z : ℤ) → to_z w64 (of_z w64 (clamped z)) ≡ clamped z
clamped_bits (pos n) = bits_of_pos (min n limit) (omega arith)
clamped_bits (negsuc n) = bits_of_negsuc (min n (limit - 1)) (omega arith)

pub told_bits : (z told : ℤ) → told ≡ clamped z → to_z w64 (of_z w64 told) ≡ told
told_bits z told is = ap (λ (k : ℤ). to_z w64 (of_z w64 k)) is ∙ clamped_bits z ∙ sym is
