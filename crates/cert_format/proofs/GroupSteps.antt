-- The groups of a line, of which one word more has come.
use Rattle.std.proofs.Common.{◌≡◌, ℕ, zero, suc, ◌+◌, ◌-◌, ◌≤◌, inl, inr, Bool, true, false, ◌&&◌, nat_le, ℤ, List, [], ◌∷◌, ◌++◌, length, refl, sym, ap, subst, ◌∙◌, append_assoc, arith}
use Rattle.std.specs.List.{All, list_all, flat_map}
use Rattle.std.proofs.lemmas.Bool.{and_parts, and_from, leb-true, le-leb, cases_lt, true≢false}
use Rattle.std.proofs.lemmas.List.{append-nil}
use Rattle.std.proofs.lemmas.List.Folds.{list_all-append}
use Rattle.std.proofs.lemmas.List.Sums.{sum_by-append, sum_by-cons}
use Rattle.branch_rules.specs.Bonds.{GroupWeight}
use Rattle.cert_lines.specs.Numerals.{numeral, signed_numeral}
use Rattle.cert_lines.specs.Numbers.{IsNatural, IsWhole, clamped, limit}
use Rattle.cert_lines.specs.Lines.{Remainder, nothing, weight_alone, short_of, stated_size, group_words}
use Rattle.cert_lines.specs.Agreement.{IsGroupInOrder}
use Rattle.cert_format.specs.Numbers.{is_within, price_ok}
use Rattle.cert_format.specs.Groups.{all_words, sizes, group_ok, rest_ok, groups_ok, LeftIs, Awaits, KnowsGroups, HoldsGroups, IsNoWordAfter, AreMore, Takes}
use Rattle.cert_format.specs.declared.groups.Awaited.{Awaited}
use Rattle.cert_format.specs.declared.groups.Awaited.TheVariants as awaited
use Rattle.cert_format.specs.declared.groups.Groups.{Groups}
use Rattle.cert_format.proofs.Told.{price_told, within_told, within_is}

-- What stands behind the groups, by what is awaited.

pub at_weight : (held : Awaited) (rest : Remainder) → Awaits held rest → held ≡ awaited.Weight → rest ≡ nothing
at_weight awaited.Weight nothing awaits is = refl
at_weight awaited.Weight (weight_alone z) awaits is = absurd awaits
at_weight awaited.Weight (short_of missing z edges) awaits is = absurd awaits
at_weight (awaited.Size weight) rest awaits is = (let both : awaited.Size weight ≡ awaited.Weight = is in cc)
at_weight (awaited.Edge weight left exact) rest awaits is = (let both : awaited.Edge weight left exact ≡ awaited.Weight = is in cc)

-- the weight alone
pub record AtSize (weight : ℤ) (rest : Remainder) : Type 0 where
  pub z : ℤ
  pub is : rest ≡ weight_alone z
  pub told : weight ≡ clamped z

pub at_size : (weight : ℤ) (rest : Remainder) → Awaits (awaited.Size weight) rest → AtSize weight rest
at_size weight nothing awaits = absurd awaits
at_size weight (weight_alone z) awaits = record { z = z; is = refl; told = awaits }
at_size weight (short_of missing z edges) awaits = absurd awaits

-- edges of which so many are missing
pub record AtEdge (weight : ℤ) (left : ℕ) (exact : Bool) (rest : Remainder) : Type 0 where
  pub missing : ℕ
  pub z : ℤ
  pub edges : List ℕ
  pub is : rest ≡ short_of missing z edges
  pub told : weight ≡ clamped z
  pub left_is : LeftIs exact left missing

pub at_edge : (weight : ℤ) (left : ℕ) (exact : Bool) (rest : Remainder) → Awaits (awaited.Edge weight left exact) rest → AtEdge weight left exact rest
at_edge weight left exact nothing awaits = absurd awaits
at_edge weight left exact (weight_alone z) awaits = absurd awaits
at_edge weight left exact (short_of missing z edges) awaits = record { missing = missing; z = z; edges = edges; is = refl; told = awaits.0; left_is = awaits.1 }

-- The words.

weight_words_more : (groups : List GroupWeight) (z : ℤ) (text : List ℕ) → text ≡ signed_numeral z → all_words groups (weight_alone z) ≡ all_words groups nothing ++ text ∷ []
weight_words_more groups z text is =
    ap (λ (word : List ℕ). flat_map group_words groups ++ word ∷ []) (sym is) ∙ ap (λ (words : List (List ℕ)). words ++ text ∷ []) (sym (append-nil (flat_map group_words groups)))

-- a group behind others
pub group_behind : (groups : List GroupWeight) (w : GroupWeight) → all_words (groups ++ w ∷ []) nothing ≡ flat_map group_words groups ++ group_words w
group_behind [] w = append-nil (group_words w ++ []) ∙ append-nil (group_words w)
group_behind (g ∷ groups) w =
    append_assoc (group_words g) (flat_map group_words (groups ++ w ∷ [])) [] ∙ ap (λ (words : List (List ℕ)). group_words g ++ words) (group_behind groups w)
    ∙ sym (append_assoc (group_words g) (flat_map group_words groups) (group_words w))

size_words_none : (groups : List GroupWeight) (z : ℤ) (n : ℕ) (text : List ℕ) → text ≡ numeral n → n ≡ 0 →
    all_words (groups ++ record { edges = []; weight = z } ∷ []) nothing ≡ all_words groups (weight_alone z) ++ text ∷ []
size_words_none groups z n text is none =
    group_behind groups (record { edges = []; weight = z })
    ∙ (λ i. flat_map group_words groups ++ (signed_numeral z ∷ (sym (is ∙ ap numeral none) i ∷ [])))
    ∙ sym (append_assoc (flat_map group_words groups) (signed_numeral z ∷ []) (text ∷ []))

size_words_some : (groups : List GroupWeight) (z : ℤ) (n missing : ℕ) (text : List ℕ) → text ≡ numeral n → n ≡ suc missing →
    all_words groups (short_of missing z []) ≡ all_words groups (weight_alone z) ++ text ∷ []
size_words_some groups z n missing text is some =
    (let same : stated_size missing [] ≡ n = omega (arith, some) in
    λ i. flat_map group_words groups ++ (signed_numeral z ∷ ((ap numeral same ∙ sym is) i ∷ [])))
    ∙ sym (append_assoc (flat_map group_words groups) (signed_numeral z ∷ []) (text ∷ []))

-- The ranges.

pub bool_same : (a b : Bool) → (a ≡ true → b ≡ true) → (b ≡ true → a ≡ true) → a ≡ b
bool_same true true f g = refl
bool_same true false f g = sym (f refl)
bool_same false true f g = g refl
bool_same false false f g = refl

-- the tests of groups, in parts
pub record Fit (groups : List GroupWeight) (rest : Remainder) : Type 0 where
  pub each : list_all group_ok groups ≡ true
  pub behind : rest_ok rest ≡ true
  pub few : sizes groups rest ≤ 60000

pub fit_of : (groups : List GroupWeight) (rest : Remainder) → groups_ok groups rest ≡ true → Fit groups rest
fit_of groups rest holds =
    let a = and_parts (list_all group_ok groups && rest_ok rest) (nat_le (sizes groups rest) 60000) holds in
    let b = and_parts (list_all group_ok groups) (rest_ok rest) a.0 in
    record { each = b.0; behind = b.1; few = leb-true (sizes groups rest) 60000 a.1 }

pub fits : (groups : List GroupWeight) (rest : Remainder) → Fit groups rest → groups_ok groups rest ≡ true
fits groups rest fit =
    and_from (list_all group_ok groups && rest_ok rest) (nat_le (sizes groups rest) 60000)
    (and_from (list_all group_ok groups) (rest_ok rest) fit.each fit.behind) (le-leb (sizes groups rest) 60000 fit.few)

-- the test of groups with a number more, by the test before and that of the number
pub range_more : (head before after test : Bool) (held new : Bool) → held ≡ (head && before) → new ≡ (held && test) → (held ≡ true → before ≡ true → test ≡ true → after ≡ true) →
    (after ≡ true → before ≡ true) → (held ≡ true → before ≡ true → after ≡ true → test ≡ true) → new ≡ (head && after)
range_more head before after test held new is steps both back last =
    bool_same new (head && after)
    (λ good. (let a = and_parts held test (sym steps ∙ good) in let b = and_parts head before (sym is ∙ a.0) in and_from head after b.0 (both a.0 b.1 a.1)))
    (λ good. (let a = and_parts head after good in let b = back a.1 in let c = is ∙ and_from head before a.0 b in steps ∙ and_from held test c (last c b a.1)))

pub and_assoc : (a b c : Bool) → ((a && b) && c) ≡ (a && (b && c))
and_assoc true b c = refl
and_assoc false b c = refl

pub sizes_behind : (groups : List GroupWeight) (edges : List ℕ) (z : ℤ) → sizes (groups ++ record { edges = edges; weight = z } ∷ []) nothing ≡ sizes groups nothing + length edges
sizes_behind groups edges z =
    omega (
      arith,
      sum_by-append (λ (w : GroupWeight). length w.edges) groups (record { edges = edges; weight = z } ∷ []),
      sum_by-cons (λ (w : GroupWeight). length w.edges) (record { edges = edges; weight = z }) [],
    )

-- what is known of groups stays
pub still_kept : (old new : Groups) {groups : List GroupWeight} {rest : Remainder} → KnowsGroups old groups rest → new.in_order ≡ old.in_order → new.kept.items ≡ old.kept.items →
    (new.in_order ≡ true → (new.kept.items ≡ groups) × All IsGroupInOrder groups) × (new.in_order ≡ false → All IsGroupInOrder groups → ⊥)
still_kept old new k order kept = (
  λ good. (let both = k.kept (sym order ∙ good) in (kept ∙ both.0, both.1)),
  λ no. k.odd (sym order ∙ no),
)

-- A weight.

pub weight_step : {old new : Groups} {head : Bool} {groups : List GroupWeight} {text : List ℕ} (told weight : ℤ) → HoldsGroups old head groups nothing → IsWhole text told → weight ≡ told →
    new.awaited ≡ awaited.Size weight → new.in_range ≡ (old.in_range && price_ok weight) → new.room ≡ old.room → new.in_order ≡ old.in_order → new.kept.items ≡ old.kept.items →
    AreMore new head groups nothing text
weight_step {old} {new} {head} {groups} {text} told weight h is same awaits ranges room order kept =
    let value : weight ≡ clamped is.z = same ∙ is.value in
    let price : price_ok weight ≡ price_ok is.z = price_told is.z weight value in
    record {
      more = groups;
      behind = weight_alone is.z;
      words = weight_words_more groups is.z text is.spelled;
      held = record {
        awaits = subst (λ (a : Awaited). Awaits a (weight_alone is.z)) (sym awaits) value;
        in_range = range_more head (groups_ok groups nothing) (groups_ok groups (weight_alone is.z)) (price_ok weight) old.in_range new.in_range h.in_range ranges
            (λ held before test. (let f = fit_of groups nothing before in fits groups (weight_alone is.z) (record { each = f.each; behind = sym price ∙ test; few = f.few })))
            (λ after. (let f = fit_of groups (weight_alone is.z) after in fits groups nothing (record { each = f.each; behind = refl; few = f.few })))
            (λ held before after. price ∙ (fit_of groups (weight_alone is.z) after).behind);
        known = λ good. (
            let k = h.known (and_parts old.in_range (price_ok weight) (sym ranges ∙ good)).0 in
            let still = still_kept old new k order kept in
            record { room = ap (λ (n : ℕ). n + sizes groups nothing) room ∙ k.room; edges = tt; kept = still.0; odd = still.1 }
            );
      };
    }

-- A size.

-- the size of a group without edges is in no range
none_fits : (groups : List GroupWeight) (z : ℤ) → groups_ok (groups ++ record { edges = []; weight = z } ∷ []) nothing ≡ true → ⊥
none_fits groups z good =
    let f = fit_of (groups ++ record { edges = []; weight = z } ∷ []) nothing good in
    let last = (and_parts (list_all group_ok groups) _ (sym (list_all-append group_ok groups (record { edges = []; weight = z } ∷ [])) ∙ f.each)).1 in
    let one = (and_parts (group_ok (record { edges = []; weight = z })) true last).0 in
    let size = (and_parts (price_ok z) (is_within 2 600 0) (and_parts (price_ok z && is_within 2 600 0) true one).0).1 in
    true≢false (sym size)

size_none : {old new : Groups} {head : Bool} {groups : List GroupWeight} {z : ℤ} {text : List ℕ} (told : ℕ) → HoldsGroups old head groups (weight_alone z) → (is : IsNatural text told) → is.n ≡ 0 →
    new.awaited ≡ awaited.Weight → new.in_range ≡ ((old.in_range && is_within 2 600 told) && nat_le told old.room) → AreMore new head groups (weight_alone z) text
size_none {old} {new} {head} {groups} {z} {text} told h is none awaits ranges =
    let w : GroupWeight = record { edges = []; weight = z } in
    let zero_told : told ≡ 0 = omega (arith, is.value, none) in
    let out : new.in_range ≡ false = ranges ∙ ap (λ (n : ℕ). (old.in_range && is_within 2 600 n) && nat_le n old.room) zero_told ∙ and_false_in old.in_range (nat_le 0 old.room) in
    record {
      more = groups ++ w ∷ [];
      behind = nothing;
      words = size_words_none groups z is.n text is.spelled none;
      held = record {
        awaits = subst (λ (a : Awaited). Awaits a nothing) (sym awaits) tt;
        in_range = bool_same new.in_range (head && groups_ok (groups ++ w ∷ []) nothing) (λ good. absurd (true≢false (sym good ∙ out)))
            (λ good. absurd (none_fits groups z (and_parts head (groups_ok (groups ++ w ∷ []) nothing) good).1));
        known = λ good. absurd (true≢false (sym good ∙ out));
      };
    }
  where
    and_false_in : (a b : Bool) → ((a && is_within 2 600 0) && b) ≡ false
    and_false_in true b = refl
    and_false_in false b = refl

size_some : {old new : Groups} {head : Bool} {groups : List GroupWeight} {z : ℤ} {text : List ℕ} (weight : ℤ) (told missing : ℕ) (exact : Bool) → HoldsGroups old head groups (weight_alone z) →
    weight ≡ clamped z → (is : IsNatural text told) → is.n ≡ suc missing → LeftIs exact told missing → new.awaited ≡ awaited.Edge weight told exact →
    new.in_range ≡ ((old.in_range && is_within 2 600 told) && nat_le told old.room) → new.room ≡ old.room - told → new.edges.items ≡ [] → new.in_order ≡ old.in_order →
    new.kept.items ≡ old.kept.items → AreMore new head groups (weight_alone z) text
size_some {old} {new} {head} {groups} {z} {text} weight told missing exact h value is some left awaits ranges room edges order kept =
    let n : ℕ = is.n in
    let size : stated_size missing [] ≡ n = omega (arith, some) in
    let test : Bool = is_within 2 600 told && nat_le told old.room in
    let steps : new.in_range ≡ (old.in_range && test) = ranges ∙ and_assoc old.in_range (is_within 2 600 told) (nat_le told old.room) in
    let within : is_within 2 600 told ≡ is_within 2 600 (stated_size missing []) = within_told 2 600 limit n told (omega arith) is.value ∙ ap (is_within 2 600) (sym size) in
    record {
      more = groups;
      behind = short_of missing z [];
      words = size_words_some groups z n missing text is.spelled some;
      held = record {
        awaits = subst (λ (a : Awaited). Awaits a (short_of missing z [])) (sym awaits) (value, left);
        in_range = range_more head (groups_ok groups (weight_alone z)) (groups_ok groups (short_of missing z [])) test old.in_range new.in_range h.in_range steps
            (λ held before good. (
            let f = fit_of groups (weight_alone z) before in
            let t = and_parts (is_within 2 600 told) (nat_le told old.room) good in
            let same = within_is 2 600 limit n told (omega arith) is.value (sym (within_told 2 600 limit n told (omega arith) is.value) ∙ t.0) in
            let enough = leb-true told old.room t.1 in
            fits groups (short_of missing z []) (record {
              each = f.each;
              behind = and_from (price_ok z && is_within 2 600 (stated_size missing [])) true (and_from (price_ok z) (is_within 2 600 (stated_size missing [])) f.behind (sym within ∙ t.0)) refl;
              few = omega (arith, (h.known held).room, enough, same, size);
            })
            ))
            (λ after. (
            let f = fit_of groups (short_of missing z []) after in
            fits groups (weight_alone z) (record {
              each = f.each;
              behind = (and_parts (price_ok z) (is_within 2 600 (stated_size missing [])) (and_parts (price_ok z && is_within 2 600 (stated_size missing [])) true f.behind).0).0;
              few = omega (arith, f.few);
            })
            ))
            (λ held before after. (
            let f = fit_of groups (short_of missing z []) after in
            let w = (and_parts (price_ok z) (is_within 2 600 (stated_size missing [])) (and_parts (price_ok z && is_within 2 600 (stated_size missing [])) true f.behind).0).1 in
            and_from (is_within 2 600 told) (nat_le told old.room) (within ∙ w) (le-leb told old.room (omega (arith, (h.known held).room, f.few, size, is.value)))
            ));
        known = λ good. (
            let a = and_parts old.in_range test (sym steps ∙ good) in
            let t = and_parts (is_within 2 600 told) (nat_le told old.room) a.1 in
            let k = h.known a.0 in
            let same = within_is 2 600 limit n told (omega arith) is.value (sym (within_told 2 600 limit n told (omega arith) is.value) ∙ t.0) in
            let enough = leb-true told old.room t.1 in
            let still = still_kept old new k order kept in
            record { room = omega (arith, room, k.room, enough, same, size); edges = edges; kept = still.0; odd = still.1 }
            );
      };
    }

by_size : {old new : Groups} {head : Bool} {groups : List GroupWeight} {z : ℤ} {text : List ℕ} (weight : ℤ) (told n : ℕ) → HoldsGroups old head groups (weight_alone z) →
    weight ≡ clamped z → (is : IsNatural text told) → is.n ≡ n → (told ≡ 0 → new.awaited ≡ awaited.Weight) → (1 ≤ told → told + 1 ≤ limit → new.awaited ≡ awaited.Edge weight told true) →
    (limit ≤ told → new.awaited ≡ awaited.Edge weight told false) →
    new.in_range ≡ ((old.in_range && is_within 2 600 told) && nat_le told old.room) → new.room ≡ old.room - told → new.edges.items ≡ [] → new.in_order ≡ old.in_order →
    new.kept.items ≡ old.kept.items → AreMore new head groups (weight_alone z) text
by_size {old} {new} {head} {groups} {z} {text} weight told zero h value is none one two three ranges room edges order kept =
    size_none told h is none (one (omega (arith, is.value, none))) ranges
by_size {old} {new} {head} {groups} {z} {text} weight told (suc missing) h value is some one two three ranges room edges order kept = elim (cases_lt told limit) [
  | inl small ↦ size_some weight told missing true h value is some (omega (arith, is.value, some, small)) (two (omega (arith, is.value, some)) (omega (arith, small))) ranges room edges order kept
  | inr large ↦ size_some weight told missing false h value is some (omega (arith, is.value, some)) (three large) ranges room edges order kept
]

pub size_step : {old new : Groups} {head : Bool} {groups : List GroupWeight} {z : ℤ} {text : List ℕ} (weight : ℤ) (told : ℕ) → HoldsGroups old head groups (weight_alone z) →
    weight ≡ clamped z → (is : IsNatural text told) → (told ≡ 0 → new.awaited ≡ awaited.Weight) → (1 ≤ told → told + 1 ≤ limit → new.awaited ≡ awaited.Edge weight told true) →
    (limit ≤ told → new.awaited ≡ awaited.Edge weight told false) →
    new.in_range ≡ ((old.in_range && is_within 2 600 told) && nat_le told old.room) → new.room ≡ old.room - told → new.edges.items ≡ [] → new.in_order ≡ old.in_order →
    new.kept.items ≡ old.kept.items → AreMore new head groups (weight_alone z) text
size_step weight told h value is one two three ranges room edges order kept = by_size weight told is.n h value is refl one two three ranges room edges order kept

-- what stands behind the groups is this
pub more_at : {new : Groups} {head : Bool} {groups : List GroupWeight} {text : List ℕ} {rest behind : Remainder} → rest ≡ behind → AreMore new head groups behind text → AreMore new head groups rest text
more_at {new} {head} {groups} {text} {rest} {behind} is more = subst (λ (r : Remainder). AreMore new head groups r text) (sym is) more

-- the word may stand there, or not
pub takes_not : (new : Groups) (head : Bool) (groups : List GroupWeight) (rest : Remainder) (text : List ℕ) (fits : Bool) → fits ≡ false → Takes fits new head groups rest text → IsNoWordAfter rest text
takes_not new head groups rest text true is takes = absurd (true≢false is)
takes_not new head groups rest text false is takes = takes

pub takes_one : (new : Groups) (head : Bool) (groups : List GroupWeight) (rest : Remainder) (text : List ℕ) (fits : Bool) → fits ≡ true → Takes fits new head groups rest text → AreMore new head groups rest text
takes_one new head groups rest text true is takes = takes
takes_one new head groups rest text false is takes = absurd (true≢false (sym is))
