-- Shells pack within the cost of each edge, and their needs add up to those of all level sets.
use Rattle.std.proofs.Common.{◌≡◌, ◌≢◌, ℕ, zero, suc, ◌+◌, ◌-◌, ◌*◌, ◌/◌, ◌%◌, ◌<◌, ◌≤◌, min, max, Bool, true, false, not, ◌||◌, cond, List, [], ◌∷◌, length, get_or, refl, sym, ap, ◌∙◌, arith, inl, inr, nat_abs, eqb}
use Rattle.std.specs.Prelude.{if◌then◌else◌}
use Rattle.std.specs.List.{sum_by, count_by}
use Rattle.std.proofs.lemmas.Bool.{cases_lt, false≢true, eq-eqb}
use Rattle.std.proofs.lemmas.List.Sums.{sum_by-cons}
use Rattle.carp_base.specs.declared.edge.Edge.{Edge}
use Rattle.carp_base.specs.Problem.{Problem, IsValid, IsVertex, IsEdgeNumber, edge_at, required_edges}
use Rattle.plan_model.specs.Plans.{crosses}
use Rattle.cut_pool.specs.declared.shore.Weighted.{Weighted}
use Rattle.cut_pool.specs.Shores.{is_in, need, vehicles, touched, required_crossings, demand_inside}
use Rattle.deadhead_paths.specs.Laws.{LeastPriceOrNone, FewStepsAreLeast}
use Rattle.edge_components.specs.Laws.{EqualSetsHaveOneBorder, HaveOneBorder}
use Rattle.capacity_cuts.specs.Levels.{IsLevelSet, IsShell, AreShellsFrom, AreLevelSets, needs_below, weighted_needs, weights_over}
use Rattle.capacity_cuts.specs.Lengths.{IsLength}
use Rattle.capacity_cuts.proofs.Distancing.{beyond_from, beyond_to, over_edge, some_length, distance_small}

-- a vertex in a shell is beyond all its levels, and one that is not is within the first
shell_in : (p : Problem) (t levels v n : ℕ) (shell : Weighted) → IsShell p t levels shell → IsVertex p v → IsLength p v n → is_in shell.shore v ≡ true → t + levels ≤ n
shell_in p t levels v n shell is vertex length there =
    let last = (is.level (t + levels - 1) (omega (arith, is.some)) (omega (arith, is.some)) v vertex).0 there in
    omega (arith, beyond_to p (t + levels - 1) v n length last, is.some)

shell_out : (p : Problem) (t levels v n : ℕ) (shell : Weighted) → IsShell p t levels shell → IsVertex p v → IsLength p v n → is_in shell.shore v ≡ false → n ≤ t
shell_out p t levels v n shell is vertex length out = elim (cases_lt t n) [
  | inl above ↦
      absurd (false≢true (sym out ∙ (is.level t (omega arith) (omega (arith, is.some)) v vertex).1 (beyond_from p t v n length above)))
  | inr most ↦ most
]

-- one shell: a lies no further than b
pack_one : (a b : Bool) (low high t n rest : ℕ) → low ≤ high → (a ≡ true → t + n ≤ low) → (a ≡ false → low ≤ t) → (b ≡ true → t + n ≤ high) → (b ≡ false → high ≤ t) →
    rest + max low (t + n) ≤ max high (t + n) → ((if (if a then not b else b) then n else 0) + rest) + max low t ≤ max high t
pack_one true true low high t n rest order a_in a_out b_in b_out more = omega (arith, order, a_in refl, b_in refl, more)
pack_one true false low high t n rest order a_in a_out b_in b_out more = omega (arith, order, a_in refl, b_out refl, more)
pack_one false true low high t n rest order a_in a_out b_in b_out more = omega (arith, order, a_out refl, b_in refl, more)
pack_one false false low high t n rest order a_in a_out b_in b_out more = omega (arith, order, a_out refl, b_out refl, more)

-- the weights of the shells of which one vertex stands in and the other does not
abbrev pub weights_between : ℕ → ℕ → List Weighted → ℕ
weights_between a b shells = sum_by (λ s. if (if is_in s.shore a then not (is_in s.shore b) else is_in s.shore b) then nat_abs s.weight else 0) shells

pack_from : (p : Problem) (a b low high : ℕ) → IsVertex p a → IsVertex p b → IsLength p a low → IsLength p b high → low ≤ high → (t : ℕ) (shells : List Weighted) →
    AreShellsFrom p t shells → weights_between a b shells + max low t ≤ max high t
pack_from p a b low high a_in b_in a_is b_is order t [] are = omega (arith, order)
pack_from p a b low high a_in b_in a_is b_is order t (s ∷ shells) are =
    let n = nat_abs s.weight in
    let more = pack_from p a b low high a_in b_in a_is b_is order (t + n) shells are.1 in
    let one = pack_one (is_in s.shore a) (is_in s.shore b) low high t n (weights_between a b shells) order
    (shell_in p t n a low s are.0 a_in a_is) (shell_out p t n a low s are.0 a_in a_is) (shell_in p t n b high s are.0 b_in b_is) (shell_out p t n b high s are.0 b_in b_is) more in
    omega (arith, one, sum_by-cons (λ r. if (if is_in r.shore a then not (is_in r.shore b) else is_in r.shore b) then nat_abs r.weight else 0) s shells)

turn_one : (b c : Bool) (n : ℕ) → (if (if b then not c else c) then n else 0) ≡ (if (if c then not b else b) then n else 0)
turn_one true true n = refl
turn_one true false n = refl
turn_one false true n = refl
turn_one false false n = refl

turned : (a b : ℕ) (shells : List Weighted) → weights_between a b shells ≡ weights_between b a shells
turned a b [] = refl
turned a b (s ∷ shells) =
    omega (
      arith,
      sum_by-cons (λ r. if (if is_in r.shore a then not (is_in r.shore b) else is_in r.shore b) then nat_abs r.weight else 0) s shells,
      sum_by-cons (λ r. if (if is_in r.shore b then not (is_in r.shore a) else is_in r.shore a) then nat_abs r.weight else 0) s shells,
      turn_one (is_in s.shore a) (is_in s.shore b) (nat_abs s.weight),
      turned a b shells,
    )

pub pack_law : LeastPriceOrNone → (p : Problem) (shells : List Weighted) → IsValid p → AreShellsFrom p 0 shells → (e : ℕ) → IsEdgeNumber p e →
    weights_over p shells e ≤ (edge_at p e).cost
pack_law found p shells valid are e number =
    let x = edge_at p e in
    let fine = valid.edges e number in
    let u = some_length found p x.u valid in
    let v = some_length found p x.v valid in
    elim (cases_lt u.0 v.0) [
      | inl nearer ↦
          omega (
            arith,
            pack_from p x.u x.v u.0 v.0 fine.u_in fine.v_in u.1 v.1 (omega (arith, nearer)) 0 shells are,
            over_edge p x.u x.v e u.0 v.0 true number refl refl u.1 v.1,
          )
      | inr farther ↦
          omega (
            arith,
            turned x.u x.v shells,
            pack_from p x.v x.u v.0 u.0 fine.v_in fine.u_in v.1 u.1 farther 0 shells are,
            over_edge p x.v x.u e v.0 u.0 false number refl refl v.1 u.1,
          )
    ]

-- tests that agree at the vertices have one need
need_same : (p : Problem) (f g : ℕ → Bool) → HaveOneBorder p [] f g → need p f ≡ need p g
need_same p f g one =
    ap (λ r. max (r % 2) (2 * vehicles p (touched p f) - r)) one.crossings
    ∙ ap (λ n. max (required_crossings p g % 2) (2 * vehicles p n - required_crossings p g)) one.demand

none_cross : (edges : List Edge) → count_by (crosses (is_in [])) edges ≡ 0
none_cross [] = refl
none_cross (x ∷ edges) = omega (arith, none_cross edges, sum_by-cons (λ y. cond (crosses (is_in []) y) 1 0) x edges)

none_touch : (edges : List Edge) → sum_by (demand_inside (is_in [])) edges ≡ 0
none_touch [] = refl
none_touch (x ∷ edges) = omega (arith, none_touch edges, sum_by-cons (demand_inside (is_in [])) x edges)

no_need : (p : Problem) → need p (is_in []) ≡ 0
no_need p =
    ap (λ r. max (r % 2) (2 * vehicles p (touched p (is_in [])) - r)) (none_cross (required_edges p))
    ∙ ap (λ n. max (0 % 2) (2 * vehicles p n - 0)) (none_touch (required_edges p))
    ∙ rest p.capacity
  where
    rest : (q : ℕ) → max (0 % 2) (2 * (0 / q + min 1 (0 % q)) - 0) ≡ 0
    rest zero = refl
    rest (suc q) = grind arith

bool_same : (b c : Bool) → (b ≡ true → c ≡ true) → (c ≡ true → b ≡ true) → b ≡ c
bool_same true true to from = refl
bool_same true false to from = absurd (false≢true (to refl))
bool_same false true to from = absurd (false≢true (from refl))
bool_same false false to from = refl

module _ (one_border : EqualSetsHaveOneBorder) (few : FewStepsAreLeast) (p : Problem) (level : ℕ → ℕ → Bool) (valid : IsValid p) (sets : AreLevelSets p level) where
  -- levels with one need
  flat : (t n c : ℕ) → ((s : ℕ) → t ≤ s → s < t + n → need p (level s) ≡ c) → needs_below p level (t + n) ≡ needs_below p level t + n * c
  flat t zero c same = let here : t + 0 ≡ t = omega arith in rw here (omega arith)
  flat t (suc n) c same =
      let here : t + suc n ≡ suc (t + n) = omega arith in
      let more = flat t n c (λ s low high. same s low (omega (arith, high))) in
      let last : need p (level (t + n)) ≡ c = same (t + n) (omega arith) (omega arith) in
      let product : suc n * c ≡ c + n * c = omega arith in
      rw here (omega (arith, more, last, product))

  need_at : (s : ℕ) (inside : ℕ → Bool) → IsLevelSet p s inside → need p (level s) ≡ need p inside
  need_at s inside is =
      need_same p (level s) inside
      (one_border p [] (level s) inside valid (λ v vertex. bool_same (level s v) (inside v)
      (λ there. (is v vertex).1 ((sets s v vertex).0 there)) (λ there. (sets s v vertex).1 ((is v vertex).0 there))))

  weigh_from : (k t : ℕ) (shells : List Weighted) → 1000000000 ≤ k → t ≤ k → AreShellsFrom p t shells → needs_below p level k ≡ needs_below p level t + weighted_needs p shells
  weigh_from k t [] far below none =
      let end : t + (k - t) ≡ k = omega (arith, below) in
      let same = flat t (k - t) 0 (λ s low high. need_at s (is_in []) (λ v vertex. (
        (λ there. absurd (false≢true there)),
        (λ beyond. absurd (none v vertex (record { distance = beyond.distance; is = beyond.is; above = omega (arith, low, beyond.above) }))),
      )) ∙ no_need p) in
      let at : needs_below p level (t + (k - t)) ≡ needs_below p level k = ap (λ n. needs_below p level n) end in
      let nothing : (k - t) * 0 ≡ 0 = omega arith in
      omega (arith, same, at, nothing)
  weigh_from k t (s ∷ shells) far below are =
      let n = nat_abs s.weight in
      let shell = are.0 in
      let inside : t + n ≤ k = elim (cases_lt k (t + n)) [
        | inl past ↦
            let v = get_or s.shore 0 0 in
            let some : 0 < length s.shore = filled s.shore shell.is_shore.some in
            let beyond = (shell.level k below past v (shell.belongs.vertices 0 0 some)).0 (first_in s.shore some) in
            absurd (omega (arith, beyond.above, far, distance_small few p v beyond.distance valid beyond.is))
        | inr within ↦ within
      ] in
      let same = flat t n (need p (is_in s.shore)) (λ r low high. need_at r (is_in s.shore) (shell.level r low high)) in
      let more = weigh_from k (t + n) shells far inside are.1 in
      omega (arith, same, more, sum_by-cons (λ r. nat_abs r.weight * need p (is_in r.shore)) s shells)
    where
      filled : (xs : List ℕ) → xs ≢ [] → 0 < length xs
      filled [] some = absurd (some refl)
      filled (x ∷ xs) some = omega arith

      first_in : (xs : List ℕ) → 0 < length xs → is_in xs (get_or xs 0 0) ≡ true
      first_in [] some = absurd (omega (arith, some))
      first_in (x ∷ xs) some = here (eqb x x) (is_in xs x) (eq-eqb x x refl)
        where
          here : (b c : Bool) → b ≡ true → (b || c) ≡ true
          here true c is = refl
          here false c is = absurd (false≢true is)

  pub weigh_law : (shells : List Weighted) (k : ℕ) → AreShellsFrom p 0 shells → 1000000000 ≤ k → weighted_needs p shells ≡ needs_below p level k
  weigh_law shells k are far = omega (arith, weigh_from k 0 shells far (omega arith) are)
