-- An unfolded state, and the nodes of it that have a weight, prove a matching least.
use Rattle.std.proofs.Common.{◌≡◌, ◌≢◌, ℕ, ◌*◌, ◌%◌, ◌<◌, ◌≤◌, Bool, true, false, not, ◌&&◌, cond, ltb, length, get_or, refl, sym, subst, ap, ◌∙◌, arith, inl, inr, ◌⊎◌}
use Rattle.std.proofs.lemmas.Bool.{cases_order, false≢true}
use Rattle.blossom_match.specs.declared.costs.Costs.{Costs}
use Rattle.blossom_match.specs.declared.state.State.{State}
use Rattle.blossom_match.specs.declared.least.Matching.{Matching}
use Rattle.blossom_match.specs.Matching.{total, IsPerfect, IsPacking, IsProved, IsFamily, Within, AreLaminar, members, matching_cost, separating, parts}
use Rattle.blossom_match.specs.Table.{cost}
use Rattle.blossom_match.specs.Views.{holds, is_used}
use Rattle.blossom_match.specs.Unfolded.{LeadsOutOnce, IsUnfolded, ArePicked, mate_of}
use Rattle.blossom_match.specs.Answer.{IsLeastBy, IsListed, mate_in, set_in, halves_in, len_in, member_in}
use Rattle.blossom_match.proofs.Listing.{listed_is}
use Rattle.blossom_match.proofs.Totals.{total-ext, total-two, total-none, total-only}
use Rattle.blossom_match.proofs.Duality.{leads_out, two_sums}

cond_zero : (b : Bool) (x : ℕ) → x ≡ 0 → cond b x 0 ≡ 0
cond_zero true x none = none
cond_zero false x none = refl

stays : (a b : Bool) → (a ≡ true → b ≡ true) → (a && not b) ≡ false
stays true true both = refl
stays true false both = absurd (false≢true (both refl))
stays false b both = refl

goes : (a b : Bool) (x : ℕ) → a ≡ true → b ≡ false → cond (a && not b) x 0 ≡ x
goes true false x p q = refl
goes true true x p q = absurd (false≢true (sym q))
goes false b x p q = absurd (false≢true p)

-- a set out of which one pair leads is counted once
counted_once : (n : ℕ) (mates : ℕ → ℕ) (set : ℕ → Bool) (h : ℕ) → (h ≡ 0) ⊎ LeadsOutOnce n set mates → total n (λ v. cond (leads_out set mates v) h 0) ≡ h
counted_once n mates set h (inl none) = total-none n (λ v. cond (leads_out set mates v) h 0) (λ v below. cond_zero (leads_out set mates v) h none) ∙ sym none
counted_once n mates set h (inr once) =
    total-only n (λ v. cond (leads_out set mates v) h 0) once.base once.base_in
    (λ v below other. ap (λ b. cond b h 0) (stays (set v) (set (mates v)) (once.others v below other)))
    ∙ goes (set once.base) (set (mates once.base)) h once.held once.out

double : (b : Bool) (x y : ℕ) → x ≡ 2 * y → cond b x 0 ≡ 2 * cond b y 0
double true x y same = same
double false x y same = refl

-- tight pairs, one of which leads out of each set with a weight
pub equal_from_tight : (n : ℕ) (cost : ℕ → ℕ → ℕ) (mates : ℕ → ℕ) (m : ℕ) (holds : ℕ → ℕ → Bool) (halves : ℕ → ℕ) → IsPerfect n mates →
    ((v : ℕ) → v < n → separating m holds halves v (mates v) ≡ 2 * cost v (mates v)) →
    ((s : ℕ) → s < m → (halves s ≡ 0) ⊎ LeadsOutOnce n (holds s) mates) → total m halves ≡ 2 * matching_cost n cost mates
equal_from_tight n cost mates m holds halves perfect tight once =
    sym (total-ext m (λ s. total n (λ v. cond (leads_out (holds s) mates v) (halves s) 0)) halves (λ s below. counted_once n mates (holds s) (halves s) (once s below)))
    ∙ two_sums n mates perfect m holds halves
    ∙ total-ext n (λ v. cond (ltb v (mates v)) (separating m holds halves v (mates v)) 0) (λ v. 2 * cond (ltb v (mates v)) (cost v (mates v)) 0)
    (λ v below. double (ltb v (mates v)) (separating m holds halves v (mates v)) (cost v (mates v)) (tight v below))
    ∙ total-two n (λ v. cond (ltb v (mates v)) (cost v (mates v)) 0)

perfect_same : (n : ℕ) (f g : ℕ → ℕ) → ((v : ℕ) → v < n → f v ≡ g v) → IsPerfect n g → IsPerfect n f
perfect_same n f g same perfect = record {
  in_range = λ v below. rw (same v below) (perfect.in_range v below);
  back = λ v below. ap f (same v below) ∙ same (g v) (perfect.in_range v below) ∙ perfect.back v below;
  other = λ v below. rw (same v below) (perfect.other v below);
}

within_same : (n : ℕ) (a b a' b' : ℕ → Bool) → ((v : ℕ) → v < n → a v ≡ a' v) → ((v : ℕ) → v < n → b v ≡ b' v) → Within n a' b' → Within n a b
within_same n a b a' b' first second inside = λ v below on. second v below ∙ inside v below (sym (first v below) ∙ on)

pub laminar_same : (n : ℕ) (a b a' b' : ℕ → Bool) → ((v : ℕ) → v < n → a v ≡ a' v) → ((v : ℕ) → v < n → b v ≡ b' v) → AreLaminar n a' b' → AreLaminar n a b
laminar_same n a b a' b' first second (inl inside) = inl (within_same n a b a' b' first second inside)
laminar_same n a b a' b' first second (inr (inl inside)) = inr (inl (within_same n b a b' a' second first inside))
laminar_same n a b a' b' first second (inr (inr apart)) = inr (inr (λ v below on. second v below ∙ apart v below (sym (first v below) ∙ on)))

weighted_used : (b : Bool) (x : ℕ) → (b ≡ false → x ≡ 0) → 1 ≤ x → b ≡ true
weighted_used true x none some = refl
weighted_used false x none some = let e = none refl in absurd (omega arith)

-- the sets of an answer are those that were picked
abbrev pub Picked : State → Matching → Type 0
Picked state m = ArePicked state (2 * state.size) m.starts.items m.members.items m.weights.items

rows_of : (state : State) (m : Matching) → m.size ≡ state.size → (picked : Picked state m) → (i : ℕ) → i < length m.weights.items →
    ((v : ℕ) → v < state.size → set_in m i v ≡ holds state.size state.held.items (picked.node i) v) × IsListed state.size (len_in m i) (member_in m i)
rows_of state m size picked i below =
    let long = picked.long i below in
    listed_is state.size (len_in m i) (holds state.size state.held.items (picked.node i)) (member_in m i) (omega (arith, long))
    (λ j j_in. picked.row i j below (omega (arith, j_in)))

used_node : (state : State) (m : Matching) (costs : Costs) → IsUnfolded costs state → (picked : Picked state m) → (i : ℕ) → i < length m.weights.items →
    is_used state.size state.child.items (picked.node i) ≡ true
used_node state m costs un picked i below =
    weighted_used (is_used state.size state.child.items (picked.node i)) (get_or state.halves.items (picked.node i) 0)
    (un.sets.weightless (picked.node i) (picked.node_in i below)) (picked.some i below)

apart_nodes : (state : State) (m : Matching) (picked : Picked state m) → (i j : ℕ) → i < length m.weights.items → j < length m.weights.items → i ≢ j → picked.node i ≢ picked.node j
apart_nodes state m picked i j i_in j_in other = λ same. elim (cases_order i j) [
  | inl is ↦ other is
  | inr (inl less) ↦ let e = picked.rising i j less j_in in absurd (omega arith)
  | inr (inr more) ↦ let e = picked.rising j i more i_in in absurd (omega arith)
]

family_of : (state : State) (m : Matching) (costs : Costs) → m.size ≡ state.size → IsUnfolded costs state → Picked state m → IsFamily state.size (length m.weights.items) (set_in m)
family_of state m costs size un picked =
    let n = state.size in
    let row : (i v : ℕ) → i < length m.weights.items → v < state.size → set_in m i v ≡ holds state.size state.held.items (picked.node i) v =
    λ i v below v_in. (rows_of state m size picked i below).0 v v_in in
    record {
      odd = λ i below.
          let same : members n (set_in m i) ≡ members n (holds n state.held.items (picked.node i)) =
          total-ext n (λ v. cond (set_in m i v) 1 0) (λ v. cond (holds n state.held.items (picked.node i) v) 1 0) (λ v under. ap (λ b. cond b 1 0) (row i v below under)) in
          ap (λ x. x % 2) same ∙ un.sets.odd (picked.node i) (picked.node_in i below) (used_node state m costs un picked i below);
      laminar = λ i j i_in j_in other.
          laminar_same n (set_in m i) (set_in m j) (holds n state.held.items (picked.node i)) (holds n state.held.items (picked.node j)) (λ v. row i v i_in) (λ v. row j v j_in)
          (un.sets.laminar (picked.node i) (picked.node j) (picked.node_in i i_in) (picked.node_in j j_in) (apart_nodes state m picked i j i_in j_in other));
      distinct = λ i j i_in j_in other same.
          un.sets.distinct (picked.node i) (picked.node j) (picked.node_in i i_in) (picked.node_in j j_in) (used_node state m costs un picked i i_in) (used_node state m costs un picked j j_in)
          (apart_nodes state m picked i j i_in j_in other) (λ v below. sym (row i v i_in below) ∙ same v below ∙ row j v j_in below);
    }

packing_of : (state : State) (m : Matching) (costs : Costs) → m.size ≡ state.size → IsUnfolded costs state → Picked state m → IsPacking state.size (cost costs) (length m.weights.items) (set_in m) (halves_in m)
packing_of state m costs size un picked = λ u v u_in v_in other.
    let n = state.size in
    let row : (i w : ℕ) → i < length m.weights.items → w < state.size → set_in m i w ≡ holds state.size state.held.items (picked.node i) w =
    λ i w below w_in. (rows_of state m size picked i below).0 w w_in in
    let held = state.held.items in
    let test : ℕ → Bool = λ s. parts (holds n held s u) (holds n held s v) in
    let same : separating (length m.weights.items) (set_in m) (halves_in m) u v ≡ total (length m.weights.items) (λ i. cond (test (picked.node i)) (halves_in m i) 0) =
    total-ext (length m.weights.items) (λ i. cond (parts (set_in m i u) (set_in m i v)) (halves_in m i) 0) (λ i. cond (test (picked.node i)) (halves_in m i) 0)
    (λ i below. ap (λ b. cond (parts b (set_in m i v)) (halves_in m i) 0) (row i u below u_in)
    ∙ ap (λ b. cond (parts (holds n held (picked.node i) u) b) (halves_in m i) 0) (row i v below v_in)) in
    omega (arith, same, picked.sums test, un.packing u v u_in v_in other)

used_or_none : (b : Bool) (x : ℕ) (P : Type 0) → (b ≡ false → x ≡ 0) → (b ≡ true → P) → (x ≡ 0) ⊎ P
used_or_none true x P none is = inr (is refl)
used_or_none false x P none is = inl (none refl)

equal_of : (state : State) (m : Matching) (costs : Costs) → IsUnfolded costs state → Picked state m → ((v : ℕ) → v < state.size → mate_in m v ≡ mate_of state v) →
    total (length m.weights.items) (halves_in m) ≡ 2 * matching_cost state.size (cost costs) (mate_in m)
equal_of state m costs un picked mates =
    let n = state.size in
    let inner = equal_from_tight n (cost costs) (mate_of state) (2 * n) (holds n state.held.items) (λ s. get_or state.halves.items s 0) un.perfect un.tight
    (λ s below. used_or_none (is_used n state.child.items s) (get_or state.halves.items s 0) (LeadsOutOnce n (holds n state.held.items s) (mate_of state)) (un.sets.weightless s below) (un.once s below)) in
    let same : matching_cost n (cost costs) (mate_of state) ≡ matching_cost n (cost costs) (mate_in m) =
    total-ext n (λ v. cond (ltb v (mate_of state v)) (cost costs v (mate_of state v)) 0) (λ v. cond (ltb v (mate_in m v)) (cost costs v (mate_in m v)) 0)
    (λ v below. ap (λ w. cond (ltb v w) (cost costs v w) 0) (sym (mates v below))) in
    omega (arith, picked.sums (λ s. true), inner, same)

pub least_by : (state : State) (m : Matching) (costs : Costs) → IsUnfolded costs state → state.size ≤ 1000 → m.size ≡ state.size → length m.mates.items ≡ state.size →
    ((v : ℕ) → v < state.size → mate_in m v ≡ mate_of state v) → Picked state m → IsLeastBy costs m
least_by state m costs un few size long mates picked =
    let proved : IsProved state.size (cost costs) (mate_in m) (length m.weights.items) (set_in m) (halves_in m) = record {
      perfect = perfect_same state.size (mate_in m) (mate_of state) mates un.perfect;
      family = family_of state m costs size un picked;
      packing = packing_of state m costs size un picked;
      equal = equal_of state m costs un picked mates;
    } in
    record {
      size = size ∙ un.shape.size_is;
      made = record {
        few = omega (arith, size, few);
        mates_len = long ∙ sym size;
        mates_in = λ v v_in.
            let v_low : v < state.size = omega (arith, v_in, size) in
            omega (arith, size, mates v v_low, un.perfect.in_range v v_low);
        starts_len = picked.starts_len;
        rising = λ i below. omega (arith, picked.long i below);
        last = picked.within;
      };
      some = λ i below. omega (arith, picked.weight i below, picked.some i below);
      listed = λ i below. subst (λ k. IsListed k (len_in m i) (member_in m i)) (sym size) (rows_of state m size picked i below).1;
      proved = subst (λ k. IsProved k (cost costs) (mate_in m) (length m.weights.items) (set_in m) (halves_in m)) un.shape.size_is proved;
    }
