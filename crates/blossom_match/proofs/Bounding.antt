-- Lower bounds of rooms, from turn to turn.
use Rattle.std.proofs.Common.{◌≡◌, ◌≢◌, ℕ, ◌+◌, ◌*◌, ◌<◌, ◌≤◌, Bool, true, false, List, Option, Some, None, IsSomeAnd, length, slice_index, get_or, set, refl, sym, subst, ap, ◌∙◌, arith, inl, inr}
use Rattle.std.proofs.lemmas.Bool.{cases_eq, false≢true}
use Rattle.std.proofs.lemmas.List.{get_or-set_same, get_or-set_other}
use Rattle.std.proofs.Math.ListN.{length-set}
use Rattle.blossom_match.specs.declared.costs.Costs.{Costs}
use Rattle.blossom_match.specs.declared.state.State.{State}
use Rattle.blossom_match.specs.declared.state.Label.{Label}
use Rattle.blossom_match.specs.declared.state.Label.TheVariants.{Free, Outer, Inner}
use Rattle.blossom_match.specs.declared.room.Turn.{Turn}
use Rattle.blossom_match.specs.Table.{cost}
use Rattle.blossom_match.specs.Turns.{IsLawful, IsMoved, moved, top_of, sum_of, label_of}
use Rattle.blossom_match.specs.Growth.{IsGrowth}
use Rattle.blossom_match.specs.Rooms.{AllKnown, AreRooms, IsBoundBy, IsBounded, IsNoMore, KeepsPair, fallen}
use Rattle.blossom_match.specs.Between.{IsSearching}
use Rattle.blossom_match.proofs.Raising.{outer_not_free, enough_sum}
use Rattle.blossom_match.proofs.Moving.{label_cases, raised_by}

-- a step that keeps outer members outer and together keeps the bounds
pub rooms_grow : (costs : Costs) (before now : State) (known : List Bool) (least : List ℕ) → IsGrowth before now → AreRooms costs before known least → AreRooms costs now known least
rooms_grow costs before now known least g x = record {
  known_len = x.known_len ∙ sym g.size;
  least_len = x.least_len ∙ sym g.size;
  outer = λ u u_in is.
      let u_low : u < before.size = omega (arith, u_in, g.size) in
      g.outer u u_low (x.outer u u_low is);
  low = λ u v u_in v_in is apart.
      let u_low : u < before.size = omega (arith, u_in, g.size) in
      let v_low : v < before.size = omega (arith, v_in, g.size) in
      let at_u : sum_of now u ≡ sum_of before u = ap (λ l. slice_index l u) g.sums in
      let at_v : sum_of now v ≡ sum_of before v = ap (λ l. slice_index l v) g.sums in
      omega (arith, at_u, at_v, x.low u v u_low v_low is (λ same. apart (g.together u v u_low v_low (x.outer u u_low is) same)));
}

fallen_low : (l : Label) (x y bound amount c : ℕ) → (l ≡ Inner → amount ≤ y) → x + y + bound ≤ c → (l ≡ Outer → x + y + 2 * amount ≤ c) → (l ≡ Free → x + y + amount ≤ c) →
    x + amount + moved l y amount + fallen l bound amount ≤ c
fallen_low Free x y bound amount c inner low meets reaches = let e = reaches refl in omega (arith, e, low)
fallen_low Outer x y bound amount c inner low meets reaches = let e = meets refl in omega (arith, e, low)
fallen_low Inner x y bound amount c inner low meets reaches = let e = inner refl in omega (arith, e, low)

-- a raise by a lawful amount
pub rooms_raise : (costs : Costs) (before now : State) (amount : ℕ) (known : List Bool) (least least' : List ℕ) → IsSearching costs before → IsLawful costs before amount → IsMoved amount before now →
    AreRooms costs before known least → length least' ≡ length least →
    ((v : ℕ) → v < length least → slice_index least' v ≡ fallen (label_of before (top_of before v)) (slice_index least v) amount) → AreRooms costs now known least'
rooms_raise costs before now amount known least least' s lawful m x long falls =
    let r = raised_by costs before now amount s lawful m in
    record {
      known_len = x.known_len ∙ sym m.size;
      least_len = long ∙ x.least_len ∙ sym m.size;
      outer = λ u u_in is. rw (m.label, m.top) (x.outer u (omega (arith, u_in, m.size)) is);
      low = λ u v u_in v_in is apart.
          let u_low : u < before.size = omega (arith, u_in, m.size) in
          let v_low : v < before.size = omega (arith, v_in, m.size) in
          let outer = x.outer u u_low is in
          let was_apart : top_of before u ≢ top_of before v = λ same. apart (ap (λ l. slice_index l u) m.top ∙ same ∙ sym (ap (λ l. slice_index l v) m.top)) in
          let at_u : sum_of now u ≡ sum_of before u + amount = m.sums u u_low ∙ ap (λ l. moved l (sum_of before u) amount) outer in
          omega (
            arith,
            at_u,
            m.sums v v_low,
            falls v (omega (arith, v_low, x.least_len)),
            fallen_low (label_of before (top_of before v)) (sum_of before u) (sum_of before v) (slice_index least v) amount (2 * cost costs u v)
                (λ inner. enough_sum before.size before.held.items before.halves.items now.halves.items before.top.items before.sums.items now.sums.items before.label.items amount r v v_low inner)
                (x.low u v u_low v_low is was_apart)
                (λ v_outer. lawful.meets u v u_low v_low was_apart outer v_outer)
                (λ free. lawful.reaches u v u_low v_low outer free),
          );
    }

-- no member is known
pub rooms_none : (costs : Costs) (state : State) (known : List Bool) (least : List ℕ) → length known ≡ state.size → length least ≡ state.size → ((u : ℕ) → get_or known u false ≡ false) → AreRooms costs state known least
rooms_none costs state known least known_len least_len none = record {
  known_len = known_len;
  least_len = least_len;
  outer = λ u u_in is. absurd (false≢true (sym (none u) ∙ is));
  low = λ u v u_in v_in is apart. absurd (false≢true (sym (none u) ∙ is));
}

-- the bounds below v are lowered to the rooms of u
pub record AreLowered (costs : Costs) (state : State) (u : ℕ) (old now : List ℕ) (v : ℕ) : Type 0 where
  pub less : (k : ℕ) → k < v → slice_index now k ≤ slice_index old k
  pub low : (k : ℕ) → k < v → top_of state u ≢ top_of state k → sum_of state u + sum_of state k + slice_index now k ≤ 2 * cost costs u k
  pub rest : (k : ℕ) → v ≤ k → slice_index now k ≡ slice_index old k

pub lowered_more : (costs : Costs) (state : State) (u : ℕ) (old now : List ℕ) (v bound : ℕ) → AreLowered costs state u old now v → v < length now → bound ≤ slice_index now v →
    (top_of state u ≢ top_of state v → sum_of state u + sum_of state v + bound ≤ 2 * cost costs u v) → AreLowered costs state u old (set now v bound) (v + 1)
lowered_more costs state u old now v bound x v_in less low =
    let at : slice_index (set now v bound) v ≡ bound = get_or-set_same now v bound 0 v_in in
    record {
      less = λ k below. elim (cases_eq k v) [
        | inl same ↦ subst (λ i. slice_index (set now v bound) i ≤ slice_index old i) (sym same) (omega (arith, at, less, x.rest v (omega arith)))
        | inr other ↦ omega (arith, get_or-set_other now v k bound 0 other, x.less k (omega (arith, other, below)))
      ];
      low = λ k below apart. elim (cases_eq k v) [
        | inl same ↦ subst (λ i. sum_of state u + sum_of state i + slice_index (set now v bound) i ≤ 2 * cost costs u i) (sym same) (omega (arith, at, low (λ e. apart (e ∙ ap (λ i. top_of state i) (sym same)))))
        | inr other ↦ omega (arith, get_or-set_other now v k bound 0 other, x.low k (omega (arith, other, below)) apart)
      ];
      rest = λ k high. get_or-set_other now v k bound 0 (λ e. absurd (omega (arith, e, high))) ∙ x.rest k (omega (arith, high));
    }

-- one outer member more is known
pub rooms_learn : (costs : Costs) (state : State) (u : ℕ) (known : List Bool) (least least' : List ℕ) → u < state.size → label_of state (top_of state u) ≡ Outer → AreRooms costs state known least → length least' ≡ length least →
    ((v : ℕ) → v < state.size → slice_index least' v ≤ slice_index least v) →
    ((v : ℕ) → v < state.size → top_of state u ≢ top_of state v → sum_of state u + sum_of state v + slice_index least' v ≤ 2 * cost costs u v) →
    AreRooms costs state (set known u true) least'
rooms_learn costs state u known least least' u_in outer x long less low = record {
  known_len = length-set known u true ∙ x.known_len;
  least_len = long ∙ x.least_len;
  outer = λ w w_in is. elim (cases_eq w u) [
    | inl same ↦ ap (λ y. label_of state (top_of state y)) same ∙ outer
    | inr other ↦ x.outer w w_in (sym (get_or-set_other known u w true false other) ∙ is)
  ];
  low = λ w v w_in v_in is apart. elim (cases_eq w u) [
    | inl same ↦ subst (λ y. sum_of state y + sum_of state v + slice_index least' v ≤ 2 * cost costs y v) (sym same) (low v v_in (λ e. apart (ap (λ y. top_of state y) same ∙ e)))
    | inr other ↦ omega (arith, less v v_in, x.low w v w_in v_in (sym (get_or-set_other known u w true false other) ∙ is) apart)
  ];
}

pub known_stays : (known : List Bool) (u w : ℕ) → u < length known → get_or known w false ≡ true → get_or (set known u true) w false ≡ true
known_stays known u w u_in is = elim (cases_eq w u) [
  | inl same ↦ ap (λ y. get_or (set known u true) y false) same ∙ get_or-set_same known u true false u_in
  | inr other ↦ get_or-set_other known u w true false other ∙ is
]

meets_within : (exact : Option Turn) (x bound c : ℕ) → ((t : Turn) → exact ≡ Some t → bound ≤ 2 * t.amount) → IsSomeAnd exact (λ t. x + 2 * t.amount ≤ c) → x + bound ≤ c
meets_within None x bound c by has = absurd has
meets_within (Some t) x bound c by has = omega (arith, by t refl, has)

reaches_within : (exact : Option Turn) (x bound c : ℕ) → ((t : Turn) → exact ≡ Some t → bound ≤ t.amount) → IsSomeAnd exact (λ t. x + t.amount ≤ c) → x + bound ≤ c
reaches_within None x bound c by has = absurd has
reaches_within (Some t) x bound c by has = omega (arith, by t refl, has)

-- a bound is found anew
pub rooms_bound : (costs : Costs) (state : State) (v bound : ℕ) (exact : Option Turn) (known : List Bool) (least : List ℕ) → v < state.size → AreRooms costs state known least →
    IsBoundBy (label_of state (top_of state v)) (slice_index least v) bound exact → ((u : ℕ) → u < state.size → KeepsPair costs state exact u v) → AreRooms costs state known (set least v bound)
rooms_bound costs state v bound exact known least v_in x by keeps = record {
  known_len = x.known_len;
  least_len = length-set least v bound ∙ x.least_len;
  outer = x.outer;
  low = λ u w u_in w_in is apart. elim (cases_eq w v) [
    | inr other ↦ omega (arith, get_or-set_other least v w bound 0 other, x.low u w u_in w_in is apart)
    | inl same ↦
        let at : slice_index (set least v bound) v ≡ bound = get_or-set_same least v bound 0 (omega (arith, v_in, x.least_len)) in
        let there : top_of state u ≢ top_of state v = λ e. apart (e ∙ ap (λ i. top_of state i) (sym same)) in
        let outer = x.outer u u_in is in
        let within : sum_of state u + sum_of state v + bound ≤ 2 * cost costs u v =
        label_cases (label_of state (top_of state v)) (sum_of state u + sum_of state v + bound ≤ 2 * cost costs u v)
        (λ free. reaches_within exact (sum_of state u + sum_of state v) bound (2 * cost costs u v) (by.free free) ((keeps u u_in).reaches outer free))
        (λ also. meets_within exact (sum_of state u + sum_of state v) bound (2 * cost costs u v) (by.outer also) ((keeps u u_in).meets there outer also))
        (λ inner. omega (arith, by.inner inner, x.low u v u_in v_in is there)) in
        subst (λ i. sum_of state u + sum_of state i + slice_index (set least v bound) i ≤ 2 * cost costs u i) (sym same) (omega (arith, at, within))
  ];
}

some_within : (found : Option Turn) (x bound c : ℕ) → IsSomeAnd found (λ t. t.amount ≤ bound) → x + bound ≤ c → IsSomeAnd found (λ t. x + t.amount ≤ c)
some_within None x bound c has low = has
some_within (Some t) x bound c has low = omega (arith, has, low)

twice_within : (found : Option Turn) (x bound c : ℕ) → IsSomeAnd found (λ t. 2 * t.amount ≤ bound) → x + bound ≤ c → IsSomeAnd found (λ t. x + 2 * t.amount ≤ c)
twice_within None x bound c has low = has
twice_within (Some t) x bound c has low = omega (arith, has, low)

-- what was found leaves room for each pair with a member of a bound that is as great
pub bounded_pair : (costs : Costs) (state : State) (u v : ℕ) (found : Option Turn) (known : List Bool) (least : List ℕ) → u < state.size → v < state.size → AreRooms costs state known least → AllKnown state known →
    IsBounded (label_of state (top_of state v)) (slice_index least v) found → KeepsPair costs state found u v
bounded_pair costs state u v found known least u_in v_in x all b = record {
  meets = λ apart at_u at_v. twice_within found (sum_of state u + sum_of state v) (slice_index least v) (2 * cost costs u v) (b.outer at_v) (x.low u v u_in v_in (all u u_in at_u) apart);
  reaches = λ at_u at_v.
      some_within found (sum_of state u + sum_of state v) (slice_index least v) (2 * cost costs u v) (b.free at_v)
      (x.low u v u_in v_in (all u u_in at_u) (λ same. outer_not_free (sym at_u ∙ ap (λ s. label_of state s) same ∙ at_v)));
}

pub no_more_self : (r : Option Turn) → IsNoMore r r
no_more_self None = tt
no_more_self (Some t) = omega arith
