-- The tests of numbers, and the ranges of lines.
use Rattle.std.proofs.Common.{◌≡◌, ℕ, zero, suc, ◌-◌, ◌<◌, ◌≤◌, Bool, true, false, not, eqb, ◌&&◌, nat_le, nat_lt, ℤ, pos, neg_ℤ, ◌≤ℤ◌, int_le, List, [], ◌∷◌, length, map, get_or, refl, sym, ap, subst, arith}
use Rattle.std.specs.List.{All, list_all}
use Rattle.std.proofs.lemmas.Bool.{eqb-false, not-true, ne_eqb, and_parts, and_from, leb-true, le-leb, ltb-true, lt-ltb}
use Rattle.std.specs.Ordering.{int_eq}
use Rattle.std.proofs.lemmas.Int.{ints}
use Rattle.branch_rules.specs.Limits.{IsPriceNumber, IsFineWeight}
use Rattle.plan_model.specs.declared.step.Step.{Step}
use Rattle.branch_rules.specs.declared.weight.Weight.{Weight}
use Rattle.cert_lines.specs.Numbers.{limit}
use Rattle.cert_lines.specs.Order.{LatestFirst}
use Rattle.cert_lines.specs.Certificates.{steps_of, shores_of, sets_of}
use Rattle.branch_rules.specs.Bonds.{GroupWeight}
use Rattle.cert_lines.specs.Lines.{Remainder, nothing, weight_alone, short_of, stated_size}
use Rattle.cert_lines.specs.Ranges.{IsWithin, IsInRange, IsWeightInRange, IsGroupInRange, IsRemainderInRange, AreGroupsInRange}
use Rattle.cert_format.specs.Groups.{edge_ok, group_ok, rest_ok, groups_ok, sizes}
use Rattle.cert_format.specs.declared.line.Context.{Context}
use Rattle.cert_format.specs.declared.kind.Kind.{Kind}
use Rattle.cert_format.specs.declared.kind.Kind.TheVariants.{Version, Counts, Cost, Bound, Tours, Tour, Shores, Shore, Sets, Prices, Weights, Bonds, Nodes, Pair, Cut, Price, Void, Fixed, End}
use Rattle.cert_format.specs.Kinds.{field_count}
use Rattle.cert_format.specs.Lists.{is_within, step_ok, vertex_ok, price_ok, weight_ok, weight_fine, fields_ok, items_ok}
use Rattle.cert_format.specs.LineStates.{lesser}
use Rattle.cert_format.specs.Parts.{LineItems, line_with}

-- the context is what these lines say
pub record IsContext (context : Context) (said : LatestFirst) : Type 0 where
  pub steps : context.steps ≡ steps_of said
  pub shores : context.shores ≡ length (shores_of said)
  pub sets : context.sets ≡ length (sets_of said)
  pub few_steps : context.steps ≤ 2000000
  pub few_shores : context.shores ≤ 2000
  pub few_sets : context.sets ≤ 256

all_cons : {T : Type 0} (P : T → Type 0) (x : T) (xs : List T) → P x → All P xs → All P (x ∷ xs)
all_cons {T} P x xs here later = λ k. elim k as (λ i. (d : T) → i < length (x ∷ xs) → P (get_or (x ∷ xs) i d)) [ zero ↦ λ d below. here | suc i ↦ λ d below. later i d (omega (arith, below)) ]

low_holds : (z : ℤ) → int_le (neg_ℤ (pos 1000000000000000)) z ≡ true → neg_ℤ (pos 1000000000000000) ≤ℤ z
low_holds z holds = grind (arith, ints)

high_holds : (z : ℤ) → int_le z (pos 1000000000000000) ≡ true → z ≤ℤ pos 1000000000000000
high_holds z holds = grind (arith, ints)

low_needs : (z : ℤ) → neg_ℤ (pos 1000000000000000) ≤ℤ z → int_le (neg_ℤ (pos 1000000000000000)) z ≡ true
low_needs z is = grind (arith, ints)

high_needs : (z : ℤ) → z ≤ℤ pos 1000000000000000 → int_le z (pos 1000000000000000) ≡ true
high_needs z is = grind (arith, ints)

most_holds : (last n : ℕ) → last < limit → nat_le (lesser n) last ≡ true → n ≤ last
most_holds last n room holds = (let most = leb-true (lesser n) last holds in omega (arith, most, room))

most_needs : (last n : ℕ) → n ≤ last → nat_le (lesser n) last ≡ true
most_needs last n small = le-leb (lesser n) last (omega (arith, small))

less_holds : (last n : ℕ) → last ≤ limit → nat_lt (lesser n) last ≡ true → n < last
less_holds last n room holds = (let most = ltb-true (lesser n) last holds in omega (arith, most, room))

less_needs : (last n : ℕ) → n < last → nat_lt (lesser n) last ≡ true
less_needs last n small = lt-ltb (lesser n) last (omega (arith, small))

within_holds : (first last n : ℕ) → last < limit → is_within first last (lesser n) ≡ true → IsWithin first last n
within_holds first last n room holds =
    let parts = and_parts (nat_le first (lesser n)) (nat_le (lesser n) last) holds in
    let low = leb-true first (lesser n) parts.0 in
    record { from_first = omega (arith, low); to_last = most_holds last n room parts.1 }

within_needs : (first last n : ℕ) → first ≤ limit → IsWithin first last n → is_within first last (lesser n) ≡ true
within_needs first last n room is = and_from (nat_le first (lesser n)) (nat_le (lesser n) last) (le-leb first (lesser n) (omega (arith, is.from_first, room))) (most_needs last n is.to_last)

pub plain_holds : (first last n : ℕ) → is_within first last n ≡ true → IsWithin first last n
plain_holds first last n holds =
    let parts = and_parts (nat_le first n) (nat_le n last) holds in
    record { from_first = leb-true first n parts.0; to_last = leb-true n last parts.1 }

pub plain_needs : (first last n : ℕ) → IsWithin first last n → is_within first last n ≡ true
plain_needs first last n is = and_from (nat_le first n) (nat_le n last) (le-leb first n is.from_first) (le-leb n last is.to_last)

pub price_holds : (z : ℤ) → price_ok z ≡ true → IsPriceNumber z
price_holds z holds =
    let parts = and_parts (int_le (neg_ℤ (pos 1000000000000000)) z) (int_le z (pos 1000000000000000)) holds in
    record { low = low_holds z parts.0; high = high_holds z parts.1 }

pub price_needs : (z : ℤ) → IsPriceNumber z → price_ok z ≡ true
price_needs z is = and_from (int_le (neg_ℤ (pos 1000000000000000)) z) (int_le z (pos 1000000000000000)) (low_needs z is.low) (high_needs z is.high)

weight_holds : (borders : ℕ) (w : Weight) → weight_ok borders w ≡ true → IsWeightInRange borders w
weight_holds borders w holds =
    let parts = and_parts (is_within 1 borders w.shore) (price_ok w.weight) holds in
    record { shore = plain_holds 1 borders w.shore parts.0; weight = price_holds w.weight parts.1 }

weight_needs : (borders : ℕ) (w : Weight) → IsWeightInRange borders w → weight_ok borders w ≡ true
weight_needs borders w is = and_from (is_within 1 borders w.shore) (price_ok w.weight) (plain_needs 1 borders w.shore is.shore) (price_needs w.weight is.weight)

not_zero_holds : (z : ℤ) → not (int_eq z (pos 0)) ≡ true → z ≡ pos 0 → ⊥
not_zero_holds z holds is = (let same : not (int_eq (pos 0) (pos 0)) ≡ true = subst (λ (k : ℤ). not (int_eq k (pos 0)) ≡ true) is holds in let both : false ≡ true = same in cc)

not_zero_needs : (z : ℤ) → (z ≡ pos 0 → ⊥) → not (int_eq z (pos 0)) ≡ true
not_zero_needs z other = grind (arith, ints)

pub fine_holds : (w : Weight) → weight_fine w ≡ true → IsFineWeight w
fine_holds w holds =
    let a = and_parts (not (eqb w.shore 0) && not (int_eq w.weight (pos 0))) (price_ok w.weight) holds in
    let b = and_parts (not (eqb w.shore 0)) (not (int_eq w.weight (pos 0))) a.0 in
    let some = eqb-false w.shore 0 (not-true (eqb w.shore 0) b.0) in
    record { from_one = omega (arith, some); some = not_zero_holds w.weight b.1; within = price_holds w.weight a.1 }

pub fine_needs : (w : Weight) → IsFineWeight w → weight_fine w ≡ true
fine_needs w is =
    and_from (not (eqb w.shore 0) && not (int_eq w.weight (pos 0))) (price_ok w.weight)
    (and_from (not (eqb w.shore 0)) (not (int_eq w.weight (pos 0))) (ap not (ne_eqb w.shore 0 (λ e. absurd (omega (arith, e, is.from_one))))) (not_zero_needs w.weight is.some))
    (price_needs w.weight is.within)

pub all_hold : {T : Type 0} (test : T → Bool) (P : T → Type 0) → ((x : T) → test x ≡ true → P x) → (xs : List T) → list_all test xs ≡ true → All P xs
all_hold {T} test P each [] all = λ k d below. absurd (omega (arith, below))
all_hold {T} test P each (x ∷ xs) all = (let parts = and_parts (test x) (list_all test xs) all in all_cons P x xs (each x parts.0) (all_hold test P each xs parts.1))

pub all_need : {T : Type 0} (test : T → Bool) (P : T → Type 0) → ((x : T) → P x → test x ≡ true) → (xs : List T) → All P xs → list_all test xs ≡ true
all_need {T} test P each [] all = refl
all_need {T} test P each (x ∷ xs) all = and_from (test x) (list_all test xs) (each x (all 0 x (omega arith))) (all_need test P each xs (λ k d below. all (suc k) d (omega (arith, below))))

step_holds : (s : Step) → step_ok s ≡ true → IsWithin 1 4000 s.edge
step_holds s holds = plain_holds 1 4000 s.edge holds

step_needs : (s : Step) → IsWithin 1 4000 s.edge → step_ok s ≡ true
step_needs s is = plain_needs 1 4000 s.edge is

group_holds : (w : GroupWeight) → group_ok w ≡ true → IsGroupInRange w
group_holds w holds =
    let a = and_parts (price_ok w.weight && is_within 2 600 (length w.edges)) (list_all edge_ok w.edges) holds in
    let b = and_parts (price_ok w.weight) (is_within 2 600 (length w.edges)) a.0 in
    record { weight = price_holds w.weight b.0; size = plain_holds 2 600 (length w.edges) b.1; edges = all_hold edge_ok (IsWithin 1 600) (plain_holds 1 600) w.edges a.1 }

group_needs : (w : GroupWeight) → IsGroupInRange w → group_ok w ≡ true
group_needs w is =
    and_from (price_ok w.weight && is_within 2 600 (length w.edges)) (list_all edge_ok w.edges)
    (and_from (price_ok w.weight) (is_within 2 600 (length w.edges)) (price_needs w.weight is.weight) (plain_needs 2 600 (length w.edges) is.size))
    (all_need edge_ok (IsWithin 1 600) (plain_needs 1 600) w.edges is.edges)

rest_holds : (rest : Remainder) → rest_ok rest ≡ true → IsRemainderInRange rest
rest_holds nothing holds = tt
rest_holds (weight_alone z) holds = price_holds z holds
rest_holds (short_of missing z edges) holds =
    let a = and_parts (price_ok z && is_within 2 600 (stated_size missing edges)) (list_all edge_ok edges) holds in
    let b = and_parts (price_ok z) (is_within 2 600 (stated_size missing edges)) a.0 in
    (price_holds z b.0, plain_holds 2 600 (stated_size missing edges) b.1, all_hold edge_ok (IsWithin 1 600) (plain_holds 1 600) edges a.1)

rest_needs : (rest : Remainder) → IsRemainderInRange rest → rest_ok rest ≡ true
rest_needs nothing is = refl
rest_needs (weight_alone z) is = price_needs z is
rest_needs (short_of missing z edges) is =
    and_from (price_ok z && is_within 2 600 (stated_size missing edges)) (list_all edge_ok edges)
    (and_from (price_ok z) (is_within 2 600 (stated_size missing edges)) (price_needs z is.0) (plain_needs 2 600 (stated_size missing edges) is.1))
    (all_need edge_ok (IsWithin 1 600) (plain_needs 1 600) edges is.2)

pub groups_hold : (n : ℕ) (groups : List GroupWeight) (rest : Remainder) → n ≤ 2000 → groups_ok groups rest ≡ true → AreGroupsInRange n groups rest
groups_hold n groups rest few holds =
    let a = and_parts (list_all group_ok groups && rest_ok rest) (nat_le (sizes groups rest) 60000) holds in
    let b = and_parts (list_all group_ok groups) (rest_ok rest) a.0 in
    record { few = few; each = all_hold group_ok IsGroupInRange group_holds groups b.0; behind = rest_holds rest b.1; few_edges = leb-true (sizes groups rest) 60000 a.1 }

pub groups_need : (n : ℕ) (groups : List GroupWeight) (rest : Remainder) → AreGroupsInRange n groups rest → groups_ok groups rest ≡ true
groups_need n groups rest is =
    and_from (list_all group_ok groups && rest_ok rest) (nat_le (sizes groups rest) 60000)
    (and_from (list_all group_ok groups) (rest_ok rest) (all_need group_ok IsGroupInRange group_needs groups is.each) (rest_needs rest is.behind))
    (le-leb (sizes groups rest) 60000 is.few_edges)

-- what passes the tests is in range
pub ranges_hold : (kind : Kind) (said : LatestFirst) (c : Context) (numbers : List ℕ) (x : LineItems) → IsContext c said → length numbers ≡ field_count kind → fields_ok kind c (map lesser numbers) ≡ true → items_ok kind c x ≡ true → IsInRange said (line_with kind numbers x)
ranges_hold Version said c [] x is count ok fits = absurd (omega (arith, count))
ranges_hold Version said c (n ∷ ns) x is count ok fits = tt
ranges_hold Counts said c [] x is count ok fits = absurd (omega (arith, count))
ranges_hold Counts said c (n ∷ []) x is count ok fits = absurd (omega (arith, count))
ranges_hold Counts said c (n ∷ m ∷ []) x is count ok fits = absurd (omega (arith, count))
ranges_hold Counts said c (n ∷ m ∷ p ∷ []) x is count ok fits = absurd (omega (arith, count))
ranges_hold Counts said c (n ∷ m ∷ p ∷ q ∷ []) x is count ok fits = absurd (omega (arith, count))
ranges_hold Counts said c (n ∷ m ∷ p ∷ q ∷ r ∷ ns) x is count ok fits = (let a = and_parts (is_within 1 1000 (lesser n) && nat_le (lesser m) 4000 && nat_le (lesser p) 600 && is_within 1 30000 (lesser q)) (nat_le (lesser r) 18000000) ok in
    let b = and_parts (is_within 1 1000 (lesser n) && nat_le (lesser m) 4000 && nat_le (lesser p) 600) (is_within 1 30000 (lesser q)) a.0 in
    let d = and_parts (is_within 1 1000 (lesser n) && nat_le (lesser m) 4000) (nat_le (lesser p) 600) b.0 in
    let e = and_parts (is_within 1 1000 (lesser n)) (nat_le (lesser m) 4000) d.0 in
    record { vertices = within_holds 1 1000 n (omega arith) e.0; edges = most_holds 4000 m (omega arith) e.1; required = most_holds 600 p (omega arith) d.1; capacity = within_holds 1 30000 q (omega arith) b.1; demand = most_holds 18000000 r (omega arith) a.1 })
ranges_hold Cost said c [] x is count ok fits = absurd (omega (arith, count))
ranges_hold Cost said c (n ∷ ns) x is count ok fits = (let less = less_holds 1000000000000000000 n (omega arith) ok in omega (arith, less))
ranges_hold Bound said c [] x is count ok fits = absurd (omega (arith, count))
ranges_hold Bound said c (n ∷ ns) x is count ok fits = (let less = less_holds 1000000000000000000 n (omega arith) ok in omega (arith, less))
ranges_hold Tours said c [] x is count ok fits = absurd (omega (arith, count))
ranges_hold Tours said c (n ∷ ns) x is count ok fits = most_holds 100000 n (omega arith) ok
ranges_hold Tour said c [] x is count ok fits = absurd (omega (arith, count))
ranges_hold Tour said c (n ∷ ns) x is count ok fits = ((let most = most_holds (2000000 - c.steps) n (omega arith) ok in omega (arith, most, is.steps, is.few_steps)), all_hold step_ok (λ s. IsWithin 1 4000 s.edge) step_holds x.steps fits)
ranges_hold Shores said c [] x is count ok fits = absurd (omega (arith, count))
ranges_hold Shores said c (n ∷ ns) x is count ok fits = most_holds 2000 n (omega arith) ok
ranges_hold Shore said c [] x is count ok fits = absurd (omega (arith, count))
ranges_hold Shore said c (n ∷ ns) x is count ok fits = (within_holds 1 999 n (omega arith) ok, all_hold vertex_ok (IsWithin 1 1000) (plain_holds 1 1000) x.vertices fits)
ranges_hold Sets said c [] x is count ok fits = absurd (omega (arith, count))
ranges_hold Sets said c (n ∷ ns) x is count ok fits = most_holds 256 n (omega arith) ok
ranges_hold Prices said c [] x is count ok fits = absurd (omega (arith, count))
ranges_hold Prices said c (n ∷ []) x is count ok fits = absurd (omega (arith, count))
ranges_hold Prices said c (n ∷ m ∷ ns) x is count ok fits = (let a = and_parts (is_within 1 1000000 (lesser n)) (nat_le (lesser m) 600) ok in (within_holds 1 1000000 n (omega arith) a.0, most_holds 600 m (omega arith) a.1, all_hold price_ok IsPriceNumber price_holds x.services fits))
ranges_hold Weights said c [] x is count ok fits = absurd (omega (arith, count))
ranges_hold Weights said c (n ∷ ns) x is count ok fits = ((let most = most_holds c.shores n (omega (arith, is.few_shores)) ok in omega (arith, most, is.shores)), subst (λ (k : ℕ). All (IsWeightInRange k) x.weights) is.shores (all_hold (weight_ok c.shores) (IsWeightInRange c.shores) (weight_holds c.shores) x.weights fits))
ranges_hold Bonds said c [] x is count ok fits = absurd (omega (arith, count))
ranges_hold Bonds said c (n ∷ ns) x is count ok fits = groups_hold n x.groups x.rest (most_holds 2000 n (omega arith) ok) fits
ranges_hold Nodes said c [] x is count ok fits = absurd (omega (arith, count))
ranges_hold Nodes said c (n ∷ ns) x is count ok fits = within_holds 1 2097153 n (omega arith) ok
ranges_hold Pair said c [] x is count ok fits = absurd (omega (arith, count))
ranges_hold Pair said c (n ∷ []) x is count ok fits = absurd (omega (arith, count))
ranges_hold Pair said c (n ∷ m ∷ ns) x is count ok fits = (let a = and_parts (is_within 1 600 (lesser n)) (is_within 1 600 (lesser m)) ok in (within_holds 1 600 n (omega arith) a.0, within_holds 1 600 m (omega arith) a.1))
ranges_hold Cut said c [] x is count ok fits = absurd (omega (arith, count))
ranges_hold Cut said c (n ∷ []) x is count ok fits = absurd (omega (arith, count))
ranges_hold Cut said c (n ∷ m ∷ ns) x is count ok fits = (let a = and_parts (is_within 1 c.shores (lesser n)) (nat_le (lesser m) 1000000) ok in (subst (λ (k : ℕ). IsWithin 1 k n) is.shores (within_holds 1 c.shores n (omega (arith, is.few_shores)) a.0), most_holds 1000000 m (omega arith) a.1))
ranges_hold Price said c [] x is count ok fits = absurd (omega (arith, count))
ranges_hold Price said c (n ∷ ns) x is count ok fits = subst (λ (k : ℕ). IsWithin 1 k n) is.sets (within_holds 1 c.sets n (omega (arith, is.few_sets)) ok)
ranges_hold Void said c ns x is count ok fits = tt
ranges_hold Fixed said c ns x is count ok fits = tt
ranges_hold End said c ns x is count ok fits = tt

-- what is in range passes the tests
pub ranges_need : (kind : Kind) (said : LatestFirst) (c : Context) (numbers : List ℕ) (x : LineItems) → IsContext c said → length numbers ≡ field_count kind → IsInRange said (line_with kind numbers x) → (fields_ok kind c (map lesser numbers) ≡ true) × (items_ok kind c x ≡ true)
ranges_need Version said c [] x is count h = absurd (omega (arith, count))
ranges_need Version said c (n ∷ ns) x is count h = (refl, refl)
ranges_need Counts said c [] x is count h = absurd (omega (arith, count))
ranges_need Counts said c (n ∷ []) x is count h = absurd (omega (arith, count))
ranges_need Counts said c (n ∷ m ∷ []) x is count h = absurd (omega (arith, count))
ranges_need Counts said c (n ∷ m ∷ p ∷ []) x is count h = absurd (omega (arith, count))
ranges_need Counts said c (n ∷ m ∷ p ∷ q ∷ []) x is count h = absurd (omega (arith, count))
ranges_need Counts said c (n ∷ m ∷ p ∷ q ∷ r ∷ ns) x is count h = (and_from _ _ (and_from _ _ (and_from _ _ (and_from _ _ (within_needs 1 1000 n (omega arith) h.vertices) (most_needs 4000 m h.edges)) (most_needs 600 p h.required)) (within_needs 1 30000 q (omega arith) h.capacity)) (most_needs 18000000 r h.demand), refl)
ranges_need Cost said c [] x is count h = absurd (omega (arith, count))
ranges_need Cost said c (n ∷ ns) x is count h = (less_needs 1000000000000000000 n (omega (arith, h)), refl)
ranges_need Bound said c [] x is count h = absurd (omega (arith, count))
ranges_need Bound said c (n ∷ ns) x is count h = (less_needs 1000000000000000000 n (omega (arith, h)), refl)
ranges_need Tours said c [] x is count h = absurd (omega (arith, count))
ranges_need Tours said c (n ∷ ns) x is count h = (most_needs 100000 n h, refl)
ranges_need Tour said c [] x is count h = absurd (omega (arith, count))
ranges_need Tour said c (n ∷ ns) x is count h = (most_needs (2000000 - c.steps) n (omega (arith, h.0, is.steps, is.few_steps)), all_need step_ok (λ s. IsWithin 1 4000 s.edge) step_needs x.steps h.1)
ranges_need Shores said c [] x is count h = absurd (omega (arith, count))
ranges_need Shores said c (n ∷ ns) x is count h = (most_needs 2000 n h, refl)
ranges_need Shore said c [] x is count h = absurd (omega (arith, count))
ranges_need Shore said c (n ∷ ns) x is count h = (within_needs 1 999 n (omega arith) h.0, all_need vertex_ok (IsWithin 1 1000) (plain_needs 1 1000) x.vertices h.1)
ranges_need Sets said c [] x is count h = absurd (omega (arith, count))
ranges_need Sets said c (n ∷ ns) x is count h = (most_needs 256 n h, refl)
ranges_need Prices said c [] x is count h = absurd (omega (arith, count))
ranges_need Prices said c (n ∷ []) x is count h = absurd (omega (arith, count))
ranges_need Prices said c (n ∷ m ∷ ns) x is count h = (and_from _ _ (within_needs 1 1000000 n (omega arith) h.0) (most_needs 600 m h.1), all_need price_ok IsPriceNumber price_needs x.services h.2)
ranges_need Weights said c [] x is count h = absurd (omega (arith, count))
ranges_need Weights said c (n ∷ ns) x is count h = (most_needs c.shores n (omega (arith, h.0, is.shores)), all_need (weight_ok c.shores) (IsWeightInRange c.shores) (weight_needs c.shores) x.weights (subst (λ (k : ℕ). All (IsWeightInRange k) x.weights) (sym is.shores) h.1))
ranges_need Bonds said c [] x is count h = absurd (omega (arith, count))
ranges_need Bonds said c (n ∷ ns) x is count h = (most_needs 2000 n h.few, groups_need n x.groups x.rest h)
ranges_need Nodes said c [] x is count h = absurd (omega (arith, count))
ranges_need Nodes said c (n ∷ ns) x is count h = (within_needs 1 2097153 n (omega arith) h, refl)
ranges_need Pair said c [] x is count h = absurd (omega (arith, count))
ranges_need Pair said c (n ∷ []) x is count h = absurd (omega (arith, count))
ranges_need Pair said c (n ∷ m ∷ ns) x is count h = (and_from _ _ (within_needs 1 600 n (omega arith) h.0) (within_needs 1 600 m (omega arith) h.1), refl)
ranges_need Cut said c [] x is count h = absurd (omega (arith, count))
ranges_need Cut said c (n ∷ []) x is count h = absurd (omega (arith, count))
ranges_need Cut said c (n ∷ m ∷ ns) x is count h = (and_from _ _ (within_needs 1 c.shores n (omega arith) (subst (λ (k : ℕ). IsWithin 1 k n) (sym is.shores) h.0)) (most_needs 1000000 m h.1), refl)
ranges_need Price said c [] x is count h = absurd (omega (arith, count))
ranges_need Price said c (n ∷ ns) x is count h = (within_needs 1 c.sets n (omega arith) (subst (λ (k : ℕ). IsWithin 1 k n) (sym is.sets) h), refl)
ranges_need Void said c ns x is count h = (refl, refl)
ranges_need Fixed said c ns x is count h = (refl, refl)
ranges_need End said c ns x is count h = (refl, refl)
