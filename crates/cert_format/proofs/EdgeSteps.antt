-- The edges of a group of a line, of which one more has come.
use Rattle.std.proofs.Common.{◌≡◌, ℕ, zero, suc, ◌+◌, ◌-◌, ◌<◌, ◌≤◌, min, inl, inr, Bool, true, false, ◌&&◌, ◌↔◌, nat_le, IsTrue, ℤ, List, [], ◌∷◌, ◌++◌, map, length, refl, sym, ap, subst, ◌∙◌, append_assoc, length-append, arith}
use Rattle.std.specs.List.{All, list_all, flat_map}
use Rattle.std.proofs.lemmas.Bool.{and_parts, and_from, leb-true, cases_Bool, true≢false}
use Rattle.std.proofs.lemmas.List.Folds.{list_all-append}
use Rattle.std.proofs.lemmas.List.Elements.{All-append, All-cons, All-nil}
use Rattle.branch_rules.specs.Bonds.{GroupWeight}
use Rattle.branch_rules.specs.Limits.{IsFineGroup}
use Rattle.cert_lines.specs.Numerals.{numeral, signed_numeral}
use Rattle.cert_lines.specs.Numbers.{IsNatural, clamped, limit}
use Rattle.cert_lines.specs.Lines.{nothing, short_of, stated_size, group_words}
use Rattle.cert_lines.specs.Agreement.{IsGroupInOrder}
use Rattle.cert_format.specs.Numbers.{is_within, price_ok}
use Rattle.cert_format.specs.Groups.{all_words, sizes, edge_ok, group_ok, groups_ok, LeftIs, Awaits, HoldsGroups, AreMore}
use Rattle.cert_format.specs.declared.groups.Awaited.{Awaited}
use Rattle.cert_format.specs.declared.groups.Awaited.TheVariants as awaited
use Rattle.cert_format.specs.declared.groups.Groups.{Groups}
use Rattle.cert_format.proofs.Ranges.{price_holds}
use Rattle.cert_format.proofs.Told.{price_is, within_told, within_is}
use Rattle.cert_format.proofs.GroupSteps.{fit_of, fits, group_behind, range_more, sizes_behind, still_kept}

numerals_append : (edges : List ℕ) (e : ℕ) → map numeral (edges ++ e ∷ []) ≡ map numeral edges ++ numeral e ∷ []
numerals_append [] e = refl
numerals_append (x ∷ edges) e = ap (λ (words : List (List ℕ)). numeral x ∷ words) (numerals_append edges e)

edge_words_last : (groups : List GroupWeight) (z : ℤ) (missing : ℕ) (edges : List ℕ) (e : ℕ) (text : List ℕ) → text ≡ numeral e → missing ≡ 0 →
    all_words (groups ++ record { edges = edges ++ e ∷ []; weight = z } ∷ []) nothing ≡ all_words groups (short_of missing z edges) ++ text ∷ []
edge_words_last groups z missing edges e text is last =
    let size : length (edges ++ e ∷ []) ≡ stated_size missing edges = omega (arith, length-append edges (e ∷ []), last) in
    group_behind groups (record { edges = edges ++ e ∷ []; weight = z })
    ∙ (λ i. flat_map group_words groups ++ (signed_numeral z ∷ (numeral (size i) ∷ numerals_append edges e i)))
    ∙ (λ i. flat_map group_words groups ++ (signed_numeral z ∷ (numeral (stated_size missing edges) ∷ (map numeral edges ++ sym is i ∷ []))))
    ∙ sym (append_assoc (flat_map group_words groups) (signed_numeral z ∷ (numeral (stated_size missing edges) ∷ map numeral edges)) (text ∷ []))

edge_words_more : (groups : List GroupWeight) (z : ℤ) (missing less : ℕ) (edges : List ℕ) (e : ℕ) (text : List ℕ) → text ≡ numeral e → missing ≡ suc less →
    all_words groups (short_of less z (edges ++ e ∷ [])) ≡ all_words groups (short_of missing z edges) ++ text ∷ []
edge_words_more groups z missing less edges e text is some =
    let size : stated_size less (edges ++ e ∷ []) ≡ stated_size missing edges = omega (arith, length-append edges (e ∷ []), some) in
    (λ i. flat_map group_words groups ++ (signed_numeral z ∷ (numeral (size i) ∷ numerals_append edges e i)))
    ∙ (λ i. flat_map group_words groups ++ (signed_numeral z ∷ (numeral (stated_size missing edges) ∷ (map numeral edges ++ sym is i ∷ []))))
    ∙ sym (append_assoc (flat_map group_words groups) (signed_numeral z ∷ (numeral (stated_size missing edges) ∷ map numeral edges)) (text ∷ []))

-- An edge.

-- the test of an edge behind others
edges_hold : (edges : List ℕ) (e : ℕ) → list_all edge_ok edges ≡ true → edge_ok e ≡ true → list_all edge_ok (edges ++ e ∷ []) ≡ true
edges_hold edges e all one = list_all-append edge_ok edges (e ∷ []) ∙ and_from (list_all edge_ok edges) (edge_ok e && true) all (and_from (edge_ok e) true one refl)

edges_parts : (edges : List ℕ) (e : ℕ) → list_all edge_ok (edges ++ e ∷ []) ≡ true → (list_all edge_ok edges ≡ true) × (edge_ok e ≡ true)
edges_parts edges e all =
    let a = and_parts (list_all edge_ok edges) (edge_ok e && true) (sym (list_all-append edge_ok edges (e ∷ [])) ∙ all) in
    (a.0, (and_parts (edge_ok e) true a.1).0)

-- the tests of a group that is not complete, in parts
record Some (z : ℤ) (size : ℕ) (edges : List ℕ) : Type 0 where
  price : price_ok z ≡ true
  size_in : is_within 2 600 size ≡ true
  all : list_all edge_ok edges ≡ true

some_of : (z : ℤ) (size : ℕ) (edges : List ℕ) → (price_ok z && is_within 2 600 size && list_all edge_ok edges) ≡ true → Some z size edges
some_of z size edges good =
    let a = and_parts (price_ok z && is_within 2 600 size) (list_all edge_ok edges) good in
    let b = and_parts (price_ok z) (is_within 2 600 size) a.0 in
    record { price = b.0; size_in = b.1; all = a.1 }

some_fits : (z : ℤ) (size : ℕ) (edges : List ℕ) → Some z size edges → (price_ok z && is_within 2 600 size && list_all edge_ok edges) ≡ true
some_fits z size edges s = and_from (price_ok z && is_within 2 600 size) (list_all edge_ok edges) (and_from (price_ok z) (is_within 2 600 size) s.price s.size_in) s.all

-- one edge more, and others are missing
pub edge_more : {old new : Groups} {head : Bool} {groups : List GroupWeight} {z : ℤ} {edges text : List ℕ} (weight : ℤ) (told kept_as left missing less : ℕ) (exact : Bool) →
    HoldsGroups old head groups (short_of missing z edges) → weight ≡ clamped z → (is : IsNatural text told) → kept_as ≡ min told 1000000 → missing ≡ suc less → LeftIs exact left less →
    new.awaited ≡ awaited.Edge weight left exact → new.in_range ≡ (old.in_range && is_within 1 600 told) →
    (new.in_range ≡ true → new.edges.items ≡ old.edges.items ++ kept_as ∷ []) → new.room ≡ old.room → new.in_order ≡ old.in_order → new.kept.items ≡ old.kept.items →
    AreMore new head groups (short_of missing z edges) text
edge_more {old} {new} {head} {groups} {z} {edges} {text} weight told kept_as left missing less exact h value is small some left_is awaits ranges held_edges room order kept =
    let e : ℕ = is.n in
    let size : stated_size less (edges ++ e ∷ []) ≡ stated_size missing edges = omega (arith, length-append edges (e ∷ []), some) in
    let test : is_within 1 600 told ≡ edge_ok e = within_told 1 600 limit e told (omega arith) is.value in
    record {
      more = groups;
      behind = short_of less z (edges ++ e ∷ []);
      words = edge_words_more groups z missing less edges e text is.spelled some;
      held = record {
        awaits = subst (λ (a : Awaited). Awaits a (short_of less z (edges ++ e ∷ []))) (sym awaits) (value, left_is);
        in_range = range_more head (groups_ok groups (short_of missing z edges)) (groups_ok groups (short_of less z (edges ++ e ∷ []))) (is_within 1 600 told) old.in_range new.in_range
            h.in_range ranges
            (λ held before good. (
            let f = fit_of groups (short_of missing z edges) before in
            let s = some_of z (stated_size missing edges) edges f.behind in
            fits groups (short_of less z (edges ++ e ∷ [])) (record {
              each = f.each;
              behind = some_fits z (stated_size less (edges ++ e ∷ [])) (edges ++ e ∷ []) (record {
                price = s.price;
                size_in = ap (is_within 2 600) size ∙ s.size_in;
                all = edges_hold edges e s.all (sym test ∙ good);
              });
              few = omega (arith, f.few, size);
            })
            ))
            (λ after. (
            let f = fit_of groups (short_of less z (edges ++ e ∷ [])) after in
            let s = some_of z (stated_size less (edges ++ e ∷ [])) (edges ++ e ∷ []) f.behind in
            fits groups (short_of missing z edges) (record {
              each = f.each;
              behind = some_fits z (stated_size missing edges) edges (record {
                price = s.price;
                size_in = ap (is_within 2 600) (sym size) ∙ s.size_in;
                all = (edges_parts edges e s.all).0;
              });
              few = omega (arith, f.few, size);
            })
            ))
            (λ held before after. (
            let f = fit_of groups (short_of less z (edges ++ e ∷ [])) after in
            let s = some_of z (stated_size less (edges ++ e ∷ [])) (edges ++ e ∷ []) f.behind in
            test ∙ (edges_parts edges e s.all).1
            ));
        known = λ good. (
            let a = and_parts old.in_range (is_within 1 600 told) (sym ranges ∙ good) in
            let k = h.known a.0 in
            let same : told ≡ e = within_is 1 600 limit e told (omega arith) is.value (sym test ∙ a.1) in
            let low : told ≤ 600 = leb-true told 600 (and_parts (nat_le 1 told) (nat_le told 600) a.1).1 in
            let exactly : kept_as ≡ e = omega (arith, small, same, low) in
            let still = still_kept old new k order kept in
            record {
              room = omega (arith, room, k.room, size);
              edges = held_edges good ∙ (λ i. k.edges i ++ exactly i ∷ []);
              kept = still.0;
              odd = still.1;
            }
            );
      };
    }

-- the last edge of a group

group_in_order : (w : GroupWeight) → IsFineGroup w → IsGroupInOrder w
group_in_order w fine = record { rising = fine.rising; some = fine.some; pair = fine.pair }

group_is_fine : (w : GroupWeight) → group_ok w ≡ true → IsGroupInOrder w → IsFineGroup w
group_is_fine w good order =
    let s = some_of w.weight (length w.edges) w.edges good in
    let size = and_parts (nat_le 2 (length w.edges)) (nat_le (length w.edges) 600) s.size_in in
    record {
      two = leb-true 2 (length w.edges) size.0;
      few = leb-true (length w.edges) 600 size.1;
      rising = order.rising;
      some = order.some;
      within = price_holds w.weight s.price;
      pair = order.pair;
    }

last_of : (groups : List GroupWeight) (w : GroupWeight) → All IsGroupInOrder (groups ++ w ∷ []) → All IsGroupInOrder groups × IsGroupInOrder w
last_of groups w all = (all_front groups w all, all_last groups w all)
  where
    all_front : (groups : List GroupWeight) (w : GroupWeight) → All IsGroupInOrder (groups ++ w ∷ []) → All IsGroupInOrder groups
    all_front [] w all k d below = absurd (omega (arith, below))
    all_front (g ∷ groups) w all zero d below = all 0 d (omega arith)
    all_front (g ∷ groups) w all (suc k) d below = all_front groups w (λ j x under. all (suc j) x (omega (arith, under))) k d (omega (arith, below))

    all_last : (groups : List GroupWeight) (w : GroupWeight) → All IsGroupInOrder (groups ++ w ∷ []) → IsGroupInOrder w
    all_last [] w all = all 0 w (omega arith)
    all_last (g ∷ groups) w all = all_last groups w (λ j x under. all (suc j) x (omega (arith, under)))

with_last : (groups : List GroupWeight) (w : GroupWeight) → All IsGroupInOrder groups → IsGroupInOrder w → All IsGroupInOrder (groups ++ w ∷ [])
with_last groups w all one = All-append IsGroupInOrder groups (w ∷ []) all (All-cons IsGroupInOrder w [] one (All-nil IsGroupInOrder))

pub edge_last : {old new : Groups} {head : Bool} {groups : List GroupWeight} {z : ℤ} {edges text : List ℕ} (weight : ℤ) (told kept_as missing : ℕ) (held_edges : List ℕ) →
    HoldsGroups old head groups (short_of missing z edges) → weight ≡ clamped z → (is : IsNatural text told) → kept_as ≡ min told 1000000 → missing ≡ 0 →
    new.awaited ≡ awaited.Weight → new.in_range ≡ (old.in_range && is_within 1 600 told) → (new.in_range ≡ true → held_edges ≡ old.edges.items ++ kept_as ∷ []) → new.room ≡ old.room →
    (new.in_range ≡ true → (IsTrue new.in_order ↔ (IsTrue old.in_order × IsFineGroup (record { edges = held_edges; weight = weight })))) →
    (new.in_range ≡ true → new.in_order ≡ true → new.kept.items ≡ old.kept.items ++ record { edges = held_edges; weight = weight } ∷ []) →
    AreMore new head groups (short_of missing z edges) text
edge_last {old} {new} {head} {groups} {z} {edges} {text} weight told kept_as missing held_edges h value is small none awaits ranges pushed room order kept =
    let e : ℕ = is.n in
    let w : GroupWeight = record { edges = edges ++ e ∷ []; weight = z } in
    let size : length (edges ++ e ∷ []) ≡ stated_size missing edges = omega (arith, length-append edges (e ∷ []), none) in
    let test : is_within 1 600 told ≡ edge_ok e = within_told 1 600 limit e told (omega arith) is.value in
    let total : sizes (groups ++ w ∷ []) nothing ≡ sizes groups (short_of missing z edges) = omega (arith, sizes_behind groups (edges ++ e ∷ []) z, size) in
    record {
      more = groups ++ w ∷ [];
      behind = nothing;
      words = edge_words_last groups z missing edges e text is.spelled none;
      held = record {
        awaits = subst (λ (a : Awaited). Awaits a nothing) (sym awaits) tt;
        in_range = range_more head (groups_ok groups (short_of missing z edges)) (groups_ok (groups ++ w ∷ []) nothing) (is_within 1 600 told) old.in_range new.in_range h.in_range ranges
            (λ held before good. (
            let f = fit_of groups (short_of missing z edges) before in
            let s = some_of z (stated_size missing edges) edges f.behind in
            let one : group_ok w ≡ true = some_fits z (length (edges ++ e ∷ [])) (edges ++ e ∷ []) (record {
              price = s.price;
              size_in = ap (is_within 2 600) size ∙ s.size_in;
              all = edges_hold edges e s.all (sym test ∙ good);
            }) in
            fits (groups ++ w ∷ []) nothing (record {
              each = list_all-append group_ok groups (w ∷ []) ∙ and_from (list_all group_ok groups) (group_ok w && true) f.each (and_from (group_ok w) true one refl);
              behind = refl;
              few = omega (arith, f.few, total);
            })
            ))
            (λ after. (
            let f = fit_of (groups ++ w ∷ []) nothing after in
            let a = and_parts (list_all group_ok groups) (group_ok w && true) (sym (list_all-append group_ok groups (w ∷ [])) ∙ f.each) in
            let s = some_of z (length (edges ++ e ∷ [])) (edges ++ e ∷ []) (and_parts (group_ok w) true a.1).0 in
            fits groups (short_of missing z edges) (record {
              each = a.0;
              behind = some_fits z (stated_size missing edges) edges (record {
                price = s.price;
                size_in = ap (is_within 2 600) (sym size) ∙ s.size_in;
                all = (edges_parts edges e s.all).0;
              });
              few = omega (arith, f.few, total);
            })
            ))
            (λ held before after. (
            let f = fit_of (groups ++ w ∷ []) nothing after in
            let a = and_parts (list_all group_ok groups) (group_ok w && true) (sym (list_all-append group_ok groups (w ∷ [])) ∙ f.each) in
            let s = some_of z (length (edges ++ e ∷ [])) (edges ++ e ∷ []) (and_parts (group_ok w) true a.1).0 in
            test ∙ (edges_parts edges e s.all).1
            ));
        known = λ good. (
            let a = and_parts old.in_range (is_within 1 600 told) (sym ranges ∙ good) in
            let k = h.known a.0 in
            let before = (and_parts head (groups_ok groups (short_of missing z edges)) (sym h.in_range ∙ a.0)).1 in
            let f = fit_of groups (short_of missing z edges) before in
            let s = some_of z (stated_size missing edges) edges f.behind in
            let same : told ≡ e = within_is 1 600 limit e told (omega arith) is.value (sym test ∙ a.1) in
            let low : told ≤ 600 = leb-true told 600 (and_parts (nat_le 1 told) (nat_le told 600) a.1).1 in
            let exactly : kept_as ≡ e = omega (arith, small, same, low) in
            let all : held_edges ≡ edges ++ e ∷ [] = pushed good ∙ (λ i. k.edges i ++ exactly i ∷ []) in
            let heavy : weight ≡ z = price_is z weight value s.price in
            let group : ◌≡◌ {A = GroupWeight} (record { edges = held_edges; weight = weight }) w = (λ i. record { edges = all i; weight = heavy i }) in
            let one : group_ok w ≡ true = some_fits z (length (edges ++ e ∷ [])) (edges ++ e ∷ []) (record {
              price = s.price;
              size_in = ap (is_within 2 600) size ∙ s.size_in;
              all = edges_hold edges e s.all (sym test ∙ a.1);
            }) in
            record {
              room = omega (arith, room, k.room, total);
              edges = tt;
              kept = λ in_order. (
                  let o = (order good).0 in_order in
                  let before = k.kept o.0 in (
                    kept good in_order ∙ (λ i. before.0 i ++ group i ∷ []),
                    with_last groups w before.1 (group_in_order w (subst IsFineGroup group o.1)),
                  )
                  );
              odd = λ out each. (
                  let both = last_of groups w each in
                  let fine = subst IsFineGroup (sym group) (group_is_fine w one both.1) in
                  let first : old.in_order ≡ true = elim (cases_Bool old.in_order) [ inl kind ↦ kind | inr bad ↦ absurd (k.odd bad both.0) ] in
                  true≢false (sym ((order good).1 (first, fine)) ∙ out)
                  );
            }
            );
      };
    }

-- where more than one edge is to come, one less is missing
pub left_less : (exact : Bool) (left missing : ℕ) → LeftIs exact left missing → 1 < left → (less : ℕ) × (missing ≡ suc less) × LeftIs exact (left - 1) less
left_less true left zero is some = absurd (omega (arith, is, some))
left_less false left zero is some = absurd (omega (arith, is, some))
left_less true left (suc less) is some = (less, refl, omega (arith, is, some))
left_less false left (suc less) is some = (less, refl, omega (arith, is, some))

pub none_left : (left missing : ℕ) → left ≡ suc missing → left ≤ 1 → missing ≡ 0
none_left left missing is last = omega (arith, is, last)
