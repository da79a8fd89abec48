-- The nodes of two ways, linked, are an odd cycle.
use Rattle.std.proofs.Common.{◌≡◌, ◌≢◌, ℕ, suc, ◌+◌, ◌*◌, ◌-◌, ◌<◌, ◌≤◌, Bool, true, false, cond, leb, List, Option, Some, IsSome, slice_index, refl, sym, subst, ap, ◌∙◌, arith, inl, inr}
use Rattle.std.proofs.lemmas.Bool.{cases_eq, cases_lt, cases_order, false_from_ne_true, le-leb, lt-leb}
use Rattle.blossom_match.specs.declared.costs.Costs.{Costs}
use Rattle.blossom_match.specs.declared.state.State.{State}
use Rattle.blossom_match.specs.declared.state.Pair.{Pair}
use Rattle.blossom_match.specs.declared.state.Label.TheVariants.{Free, Outer, Inner}
use Rattle.blossom_match.specs.Views.{mate_at, link_at, turned}
use Rattle.blossom_match.specs.Turns.{top_of, label_of}
use Rattle.blossom_match.specs.Ways.{IsClosed, above, climb, on_cycle}
use Rattle.blossom_match.specs.Rings.{IsRing}
use Rattle.blossom_match.specs.Between.{IsTight}
use Rattle.blossom_match.proofs.Moving.{some_not_none}
use Rattle.blossom_match.proofs.Growing.{if_some_at}
use Rattle.blossom_match.proofs.Augmenting.{tight_turned, some_same, pair}
use Rattle.blossom_match.proofs.Forking.{Joined, Arms, IsArm, arms_of, arm_same, arm_low, arm_mate, arm_leaves, cross, end_outer, flip, side_some, side_even, height, height_outer, rise_of, on_one, on_other, on_cases}

outer_inner : Outer ≡ Inner → ⊥
outer_inner e = cc

free_inner : Free ≡ Inner → ⊥
free_inner e = cc

free_outer : Free ≡ Outer → ⊥
free_outer e = cc

abbrev pub up : State → ℕ → ℕ → ℕ
up state k s = climb state.top.items state.entry.items k s

-- the node at a place of the cycle: from the end down the first way, and then up the other one
abbrev pub spot_at : State → ℕ → ℕ → ℕ → ℕ → ℕ
spot_at state first second a k = cond (leb k a) (climb state.top.items state.entry.items (a - k) first) (climb state.top.items state.entry.items (k - suc a) second)

spot_low : (state : State) (first second a k j : ℕ) → k + j ≡ a → spot_at state first second a k ≡ up state j first
spot_low state first second a k j is =
    let e : a - k ≡ j = omega (arith, is) in
    ap (λ b. cond b (up state (a - k) first) (up state (k - suc a) second)) (le-leb k a (omega (arith, is))) ∙ ap (λ i. up state i first) e

spot_high : (state : State) (first second a k j : ℕ) → k ≡ suc a + j → spot_at state first second a k ≡ up state j second
spot_high state first second a k j is =
    let e : k - suc a ≡ j = omega (arith, is) in
    ap (λ b. cond b (up state (a - k) first) (up state (k - suc a) second)) (lt-leb k a (omega (arith, is))) ∙ ap (λ i. up state i second) e

-- a place is on the first way above its foot, at its foot, or on the other way
pub data Place (a k : ℕ) : Type 0 where
  on_first : (j : ℕ) → k + suc j ≡ a → Place a k
  at_foot : k ≡ a → Place a k
  on_second : (j : ℕ) → k ≡ suc a + j → Place a k

place : (a k : ℕ) → Place a k
place a k = elim (cases_order k a) [
  | inl same ↦ at_foot same
  | inr (inl less) ↦ on_first (a - suc k) (omega (arith, less))
  | inr (inr more) ↦ on_second (k - suc a) (omega (arith, more))
]

some_is : (o : Option Pair) (p : Pair) → o ≡ Some p → IsSome o
some_is o p is = subst (λ x. IsSome x) (sym is) refl

-- the links of the cycle
record IsJoint (costs : Costs) (state : State) (link : List Pair) (s t : ℕ) : Type 0 where
  pub tight : IsTight costs state.size state.top.items state.sums.items (link_at link s)
  pub leaves : top_of state (link_at link s).inside ≡ s
  pub enters : top_of state (link_at link s).outside ≡ t

joint_at : (costs : Costs) (state : State) (link : List Pair) (s t : ℕ) (p : Pair) → link_at link s ≡ p → IsTight costs state.size state.top.items state.sums.items p → top_of state p.inside ≡ s → top_of state p.outside ≡ t → IsJoint costs state link s t
joint_at costs state link s t p is tight leaves enters = record {
  tight = subst (λ x. IsTight costs state.size state.top.items state.sums.items x) (sym is) tight;
  leaves = ap (λ x. top_of state x.inside) is ∙ leaves;
  enters = ap (λ x. top_of state x.outside) is ∙ enters;
}

joint : (costs : Costs) (state : State) (u v end a b : ℕ) (next next' : List ℕ) (link link' : List Pair) → (x : Joined costs state u v end a b) →
    Arms costs state x.forked.searching.tree.depth (top_of state u) (top_of state v) end a b →
    IsClosed state.top.items state.entry.items u v (top_of state u) (top_of state v) a b next next' link link' → (k : ℕ) → k < a + b + 1 → Place a k →
    IsJoint costs state link' (spot_at state (top_of state u) (top_of state v) a k) (spot_at state (top_of state u) (top_of state v) a (suc k))
joint costs state u v end a b next next' link link' x arms c k k_in (on_first j is) =
    let first = top_of state u in
    let j_in : j < a = omega (arith, is) in
    let r = arms.one.rises j (omega (arith, j_in, arms.a_in)) in
    let e = link_at state.entry.items (up state j (top_of state u)) in
    let here = spot_low state (top_of state u) (top_of state v) a k (suc j) is in
    let there = spot_low state (top_of state u) (top_of state v) a (suc k) j (omega (arith, is)) in
    let size = x.forked.searching.so_far.shape.size_is in
    joint_at costs state link' (spot_at state (top_of state u) (top_of state v) a k) (spot_at state (top_of state u) (top_of state v) a (suc k)) (turned (link_at state.entry.items (up state j (top_of state u))))
    (ap (λ s. link_at link' s) here ∙ c.down_link j j_in)
    (tight_turned costs state.size state.top.items state.sums.items (link_at state.entry.items (up state j (top_of state u))).inside (link_at state.entry.items (up state j (top_of state u))).outside
    (λ p q. x.table.same (link_at state.entry.items (up state j (top_of state u))).inside (link_at state.entry.items (up state j (top_of state u))).outside (omega (arith, p, size)) (omega (arith, q, size))) r.tight)
    (sym here) (r.here ∙ sym there)
joint costs state u v end a b next next' link link' x arms c k k_in (at_foot is) =
    let m = x.forked.meet in
    let here = spot_low state (top_of state u) (top_of state v) a k 0 (omega (arith, is)) in
    let there = spot_high state (top_of state u) (top_of state v) a (suc k) 0 (omega (arith, is)) in
    joint_at costs state link' (spot_at state (top_of state u) (top_of state v) a k) (spot_at state (top_of state u) (top_of state v) a (suc k)) (pair u v)
    (ap (λ s. link_at link' s) here ∙ c.across_link)
    (record { inside_in = m.u_in; outside_in = m.v_in; apart = m.apart; tight = omega (arith, m.full) })
    (sym here) (sym there)
joint costs state u v end a b next next' link link' x arms c k k_in (on_second j is) =
    let j_in : j < b = omega (arith, is, k_in) in
    let r = arms.other.rises j (omega (arith, j_in, arms.b_in)) in
    let here = spot_high state (top_of state u) (top_of state v) a k j is in
    let there = spot_high state (top_of state u) (top_of state v) a (suc k) (suc j) (omega (arith, is)) in
    joint_at costs state link' (spot_at state (top_of state u) (top_of state v) a k) (spot_at state (top_of state u) (top_of state v) a (suc k)) (link_at state.entry.items (up state j (top_of state v)))
    (ap (λ s. link_at link' s) here ∙ c.up_link j j_in) r.tight (r.here ∙ sym here) (sym there)

next_spot : (costs : Costs) (state : State) (u v end a b : ℕ) (next next' : List ℕ) (link link' : List Pair) →
    IsClosed state.top.items state.entry.items u v (top_of state u) (top_of state v) a b next next' link link' → (k : ℕ) → k < a + b + 1 → Place a k →
    slice_index next' (spot_at state (top_of state u) (top_of state v) a k) ≡ spot_at state (top_of state u) (top_of state v) a (suc k)
next_spot costs state u v end a b next next' link link' c k k_in (on_first j is) =
    ap (λ s. slice_index next' s) (spot_low state (top_of state u) (top_of state v) a k (suc j) is) ∙ c.down_next j (omega (arith, is))
    ∙ sym (spot_low state (top_of state u) (top_of state v) a (suc k) j (omega (arith, is)))
next_spot costs state u v end a b next next' link link' c k k_in (at_foot is) =
    ap (λ s. slice_index next' s) (spot_low state (top_of state u) (top_of state v) a k 0 (omega (arith, is))) ∙ c.across_next
    ∙ sym (spot_high state (top_of state u) (top_of state v) a (suc k) 0 (omega (arith, is)))
next_spot costs state u v end a b next next' link link' c k k_in (on_second j is) =
    ap (λ s. slice_index next' s) (spot_high state (top_of state u) (top_of state v) a k j is) ∙ c.up_next j (omega (arith, is, k_in))
    ∙ sym (spot_high state (top_of state u) (top_of state v) a (suc k) (suc j) (omega (arith, is)))

spot_on : (costs : Costs) (state : State) (depth : ℕ → ℕ) (first second end a b : ℕ) → Arms costs state depth first second end a b → (k : ℕ) → k ≤ a + b + 1 → Place a k →
    on_cycle state.one_way.items state.other_way.items a b (spot_at state first second a k) ≡ true
spot_on costs state depth first second end a b x k k_in (on_first j is) =
    ap (λ s. on_cycle state.one_way.items state.other_way.items a b s) (spot_low state first second a k (suc j) is) ∙ on_one costs state depth first second end a b x (suc j) (omega (arith, is))
spot_on costs state depth first second end a b x k k_in (at_foot is) =
    ap (λ s. on_cycle state.one_way.items state.other_way.items a b s) (spot_low state first second a k 0 (omega (arith, is))) ∙ on_one costs state depth first second end a b x 0 (omega arith)
spot_on costs state depth first second end a b x k k_in (on_second j is) =
    ap (λ s. on_cycle state.one_way.items state.other_way.items a b s) (spot_high state first second a k j is) ∙ on_other costs state depth first second end a b x j (omega (arith, is, k_in))

-- a node of the first way, and one of the other, has one place
spot_apart : (costs : Costs) (state : State) (depth : ℕ → ℕ) (first second end a b : ℕ) → Arms costs state depth first second end a b → (i k : ℕ) → i < k → k < a + b + 1 →
    spot_at state first second a i ≡ spot_at state first second a k → ⊥
spot_apart costs state depth first second end a b x i k less k_in e = elim (cases_lt a k) [
  | inr k_low ↦
      let at_i = spot_low state first second a i (a - i) (omega (arith, less, k_low)) in
      let at_k = spot_low state first second a k (a - k) (omega (arith, k_low)) in
      let same = arm_same costs state depth first x.one_len state.one_way.items x.one (a - i) (a - k) (omega (arith, x.a_in)) (omega (arith, x.a_in)) (sym at_i ∙ e ∙ at_k) in
      omega (arith, same, less, k_low)
  | inl k_high ↦
      let at_k = spot_high state first second a k (k - suc a) (omega (arith, k_high)) in
      let low_k : k - suc a < b = omega (arith, k_high, k_in) in
      elim (cases_lt a i) [
        | inr i_low ↦
            cross costs state depth first second end a b x (a - i) (k - suc a) (omega arith) low_k (sym (spot_low state first second a i (a - i) (omega (arith, i_low))) ∙ e ∙ at_k)
        | inl i_high ↦
            let at_i = spot_high state first second a i (i - suc a) (omega (arith, i_high)) in
            let same = arm_same costs state depth second x.other_len state.other_way.items x.other (i - suc a) (k - suc a) (omega (arith, low_k, less, x.b_in)) (omega (arith, low_k, x.b_in)) (sym at_i ∙ e ∙ at_k) in
            omega (arith, same, less, i_high, k_high)
      ]
]

spot_end : (costs : Costs) (state : State) (depth : ℕ → ℕ) (first second end a b : ℕ) → Arms costs state depth first second end a b → spot_at state first second a (a + b + 1) ≡ end
spot_end costs state depth first second end a b x = spot_high state first second a (a + b + 1) b (omega arith) ∙ x.other_end

spot_first : (costs : Costs) (state : State) (depth : ℕ → ℕ) (first second end a b : ℕ) → Arms costs state depth first second end a b → spot_at state first second a 0 ≡ end
spot_first costs state depth first second end a b x = spot_low state first second a 0 a (omega arith) ∙ x.one_end

spot_all : (costs : Costs) (state : State) (depth : ℕ → ℕ) (first second end a b : ℕ) → Arms costs state depth first second end a b → (s : ℕ) → on_cycle state.one_way.items state.other_way.items a b s ≡ true →
    (k : ℕ) × (k < a + b + 1) × (spot_at state first second a k ≡ s)
spot_all costs state depth first second end a b x s is = elim (on_cases costs state depth first second end a b x s is) [
  | inl w ↦ (a - w.0, omega (arith, w.1), spot_low state first second a (a - w.0) w.0 (omega (arith, w.1)) ∙ w.2)
  | inr w ↦ elim (cases_eq w.0 b) [
    | inl last ↦ (0, omega arith, spot_first costs state depth first second end a b x ∙ sym (ap (λ i. up state i second) last ∙ x.other_end) ∙ w.2)
    | inr low ↦ (suc a + w.0, omega (arith, w.1, low), spot_high state first second a (suc a + w.0) w.0 refl ∙ w.2)
  ]
]

-- the mate of a node of the cycle that is not the end
pub record HasMateOn (state : State) (on : ℕ → Bool) (s end : ℕ) : Type 0 where
  pub mate : Pair
  pub is : mate_at state.mate.items s ≡ Some mate
  pub there : on (top_of state mate.outside) ≡ true

mate_on : (costs : Costs) (state : State) (depth : ℕ → ℕ) (first second end a b : ℕ) → Arms costs state depth first second end a b → (s : ℕ) → on_cycle state.one_way.items state.other_way.items a b s ≡ true → s ≢ end →
    HasMateOn state (on_cycle state.one_way.items state.other_way.items a b) s end
mate_on costs state depth first second end a b x s is other =
    let outer = end_outer costs state depth first second end a b x in
    elim (on_cases costs state depth first second end a b x s is) [
      | inl w ↦
          let k_in : w.0 < a = (elim (cases_eq w.0 a) [ inl same ↦ absurd (other (sym w.2 ∙ ap (λ i. up state i first) same ∙ x.one_end)) | inr differs ↦ omega (arith, w.1, differs) ]) in
          let m = arm_mate costs state depth first x.one_len a state.one_way.items x.one x.a_in (ap (λ y. label_of state y) x.one_end ∙ outer) w.0 k_in in
          record {
            mate = m.2;
            is = ap (λ y. mate_at state.mate.items y) (sym w.2) ∙ m.3;
            there = ap (λ y. on_cycle state.one_way.items state.other_way.items a b y) m.4.0 ∙ on_one costs state depth first second end a b x m.0 m.1;
          }
      | inr w ↦
          let k_in : w.0 < b = (elim (cases_eq w.0 b) [ inl same ↦ absurd (other (sym w.2 ∙ ap (λ i. up state i second) same ∙ x.other_end)) | inr differs ↦ omega (arith, w.1, differs) ]) in
          let m = arm_mate costs state depth second x.other_len b state.other_way.items x.other x.b_in (ap (λ y. label_of state y) x.other_end ∙ outer) w.0 k_in in
          record {
            mate = m.2;
            is = ap (λ y. mate_at state.mate.items y) (sym w.2) ∙ m.3;
            there = ap (λ y. on_cycle state.one_way.items state.other_way.items a b y) m.4.0 ∙ on_other costs state depth first second end a b x m.0 m.1;
          }
    ]

end_leaves : (costs : Costs) (state : State) (u v end a b : ℕ) → (x : Joined costs state u v end a b) → Arms costs state x.forked.searching.tree.depth (top_of state u) (top_of state v) end a b → (p : Pair) →
    mate_at state.mate.items end ≡ Some p → on_cycle state.one_way.items state.other_way.items a b (top_of state p.outside) ≡ false
end_leaves costs state u v end a b x arms p is =
    let f = x.forked in
    let depth = f.searching.tree.depth in
    let first = top_of state u in
    let second = top_of state v in
    let outer = end_outer costs state depth (top_of state u) (top_of state v) end a b arms in
    let slot : end < 2 * state.size = subst (λ y. y < 2 * state.size) arms.one_end (arms.one.slots a arms.a_in) in
    let not_root : end ≢ top_of state state.root = λ e. some_not_none p (sym is ∙ ap (λ y. mate_at state.mate.items y) e ∙ f.searching.tree.root_open) in
    let rise = rise_of costs state end f.searching f.aimed slot (λ free. free_outer (sym free ∙ outer)) not_root in
    let aim : link_at state.entry.items end ≡ p = if_some_at (mate_at state.mate.items end) (λ q. link_at state.entry.items end ≡ q) p is (f.aimed end slot outer) in
    let above_is : above state.top.items state.entry.items end ≡ top_of state p.outside = ap (λ q. top_of state q.outside) aim in
    let inner : label_of state (top_of state p.outside) ≡ Inner = ap (λ y. label_of state y) (sym above_is) ∙ rise.flips ∙ ap flip outer in
    false_from_ne_true (on_cycle state.one_way.items state.other_way.items a b (top_of state p.outside)) (λ at.
    elim (on_cases costs state depth (top_of state u) (top_of state v) end a b arms (top_of state p.outside) at) [
      | inl w ↦ arm_leaves costs state depth (top_of state u) arms.one_len a end (top_of state p.outside) state.one_way.items arms.one arms.a_in arms.one_end rise outer above_is inner w.0 w.1 w.2
      | inr w ↦ arm_leaves costs state depth (top_of state v) arms.other_len b end (top_of state p.outside) state.other_way.items arms.other arms.b_in arms.other_end rise outer above_is inner w.0 w.1 w.2
    ])

arm_depth : (costs : Costs) (state : State) (depth : ℕ → ℕ) (from len a end : ℕ) (way : List (Option ℕ)) → IsArm costs state depth from len way → a ≤ len → up state a from ≡ end → label_of state end ≡ Outer →
    (s k : ℕ) → k ≤ a → up state k from ≡ s → label_of state s ≡ Outer → depth end ≤ depth s
arm_depth costs state depth from len a end way x a_in ends outer s k k_in is s_outer =
    let e : k + (a - k) ≡ a = omega (arith, k_in) in
    let low = arm_low costs state depth from len way x (a - k) k (omega (arith, e, a_in)) in
    let top : height state depth (up state (k + (a - k)) from) ≡ 2 * depth end = ap (λ i. height state depth (up state i from)) e ∙ ap (λ y. height state depth y) ends ∙ height_outer state depth end outer in
    let foot : height state depth (up state k from) ≡ 2 * depth s = ap (λ y. height state depth y) is ∙ height_outer state depth s s_outer in
    omega (arith, low, top, foot)

pub ring_of : (costs : Costs) (state : State) (u v end a b : ℕ) (next next' : List ℕ) (link link' : List Pair) → (x : Joined costs state u v end a b) →
    IsClosed state.top.items state.entry.items u v (top_of state u) (top_of state v) a b next next' link link' →
    IsRing costs state x.forked.searching.tree.depth next' link' (on_cycle state.one_way.items state.other_way.items a b) end
ring_of costs state u v end a b next next' link link' x c =
    let depth = x.forked.searching.tree.depth in
    let first = top_of state u in
    let second = top_of state v in
    let on : ℕ → Bool = on_cycle state.one_way.items state.other_way.items a b in
    let arms = arms_of costs state u v end a b x in
    let outer = end_outer costs state depth (top_of state u) (top_of state v) end a b arms in
    let a_even = (side_even a).0 (sym (arms.one.sides a arms.a_in) ∙ ap (λ y. label_of state y) arms.one_end ∙ outer) in
    let b_even = (side_even b).0 (sym (arms.other.sides b arms.b_in) ∙ ap (λ y. label_of state y) arms.other_end ∙ outer) in
    let some_step : 1 ≤ a + b = elim (cases_eq (a + b) 0) [
      | inl none ↦
          let a_none : a ≡ 0 = omega (arith, none) in
          let b_none : b ≡ 0 = omega (arith, none) in
          absurd (x.forked.meet.apart (sym (ap (λ i. up state i (top_of state u)) a_none) ∙ arms.one_end ∙ sym arms.other_end ∙ ap (λ i. up state i (top_of state v)) b_none))
      | inr some ↦ omega (arith, some)
    ] in
    let labels : (s : ℕ) → on_cycle state.one_way.items state.other_way.items a b s ≡ true → (label_of state s ≢ Free) × (s < 2 * state.size) = λ s is.
    elim (on_cases costs state depth (top_of state u) (top_of state v) end a b arms s is) [
      | inl w ↦ (
        λ free. side_some w.0 (sym (arms.one.sides w.0 (omega (arith, w.1, arms.a_in))) ∙ ap (λ y. label_of state y) w.2 ∙ free),
        subst (λ y. y < 2 * state.size) w.2 (arms.one.slots w.0 (omega (arith, w.1, arms.a_in))),
      )
      | inr w ↦ (
        λ free. side_some w.0 (sym (arms.other.sides w.0 (omega (arith, w.1, arms.b_in))) ∙ ap (λ y. label_of state y) w.2 ∙ free),
        subst (λ y. y < 2 * state.size) w.2 (arms.other.slots w.0 (omega (arith, w.1, arms.b_in))),
      )
    ] in
    record {
      len = a + b + 1;
      odd = omega (arith, a_even, b_even);
      several = omega (arith, a_even, b_even, some_step);
      spot = spot_at state (top_of state u) (top_of state v) a;
      first = spot_first costs state depth (top_of state u) (top_of state v) end a b arms;
      closes = spot_end costs state depth (top_of state u) (top_of state v) end a b arms;
      along = λ k k_in. spot_on costs state depth (top_of state u) (top_of state v) end a b arms k k_in (place a k);
      all = spot_all costs state depth (top_of state u) (top_of state v) end a b arms;
      apart = λ i k less k_in. spot_apart costs state depth (top_of state u) (top_of state v) end a b arms i k less k_in;
      in_slots = λ s is. (labels s is).1;
      labelled = λ s is. (labels s is).0;
      goes = λ k k_in. next_spot costs state u v end a b next next' link link' c k k_in (place a k);
      joins = λ k k_in. (joint costs state u v end a b next next' link link' x arms c k k_in (place a k)).tight;
      leaves = λ k k_in. (joint costs state u v end a b next next' link link' x arms c k k_in (place a k)).leaves;
      enters = λ k k_in. (joint costs state u v end a b next next' link link' x arms c k k_in (place a k)).enters;
      end_outer = outer;
      has_inner = elim (cases_lt 0 a) [
        | inl some ↦ (up state 1 (top_of state u), on_one costs state depth (top_of state u) (top_of state v) end a b arms 1 some, arms.one.sides 1 (omega (arith, some, arms.a_in)))
        | inr none ↦ (up state 1 (top_of state v), on_other costs state depth (top_of state u) (top_of state v) end a b arms 1 (omega (arith, none, some_step)), arms.other.sides 1 (omega (arith, none, some_step, arms.b_in)))
      ];
      matched = λ s is other.
          let m = mate_on costs state depth (top_of state u) (top_of state v) end a b arms s is other in
          some_is (mate_at state.mate.items s) m.mate m.is;
      mates_on = λ s p is other p_is.
          let m = mate_on costs state depth (top_of state u) (top_of state v) end a b arms s is other in
          subst (λ q. on_cycle state.one_way.items state.other_way.items a b (top_of state q.outside) ≡ true) (some_same m.mate p (sym m.is ∙ p_is)) m.there;
      end_off = end_leaves costs state u v end a b x arms;
      low = λ s is s_outer. elim (on_cases costs state depth (top_of state u) (top_of state v) end a b arms s is) [
        | inl w ↦ arm_depth costs state depth (top_of state u) arms.one_len a end state.one_way.items arms.one arms.a_in arms.one_end outer s w.0 w.1 w.2 s_outer
        | inr w ↦ arm_depth costs state depth (top_of state v) arms.other_len b end state.other_way.items arms.other arms.b_in arms.other_end outer s w.0 w.1 w.2 s_outer
      ];
    }
