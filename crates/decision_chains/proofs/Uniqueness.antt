-- A chain can be driven in two orders alone: along its run, or backward.
use Rattle.std.proofs.Common.{◌≡◌, ◌≢◌, ℕ, ◌+◌, ◌≤◌, false, List, [], ◌∷◌, refl, sym, ◌∙◌, ap, subst, arith, inl, inr, ◌⊎◌}
use Rattle.std.proofs.lemmas.Bool.{cases_eq, cases_lt}
use Rattle.deadhead_paths.specs.Tours.{IsFollowed}
use Rattle.decision_chains.specs.Exclusions.{IsYes, AreJoined, IsChainEnd}
use Rattle.decision_chains.specs.Neighbours.{times}
use Rattle.decision_chains.specs.Laws.{YesPairsJoin}
use Rattle.decision_chains.specs.ChainTables.{IsChainTable}
use Rattle.decision_chains.specs.ChainWalks.{IsTrail, Runs, RunsFrom, first_or_none}
use Rattle.decision_chains.specs.declared.chains.Chains.{Chains}
use Rattle.decision_chains.specs.declared.decision.Decision.{Decision}
use Rattle.decision_chains.proofs.PlanTimes.{times-cons, times-same}
use Rattle.decision_chains.proofs.Walking.{times_other, times_here, trail_tangles, no_tangle, no_yes_zero, different_yes}

-- a list backward, in front of another
abbrev pub turned_on : List ℕ → List ℕ → List ℕ
turned_on [] acc = acc
turned_on (x ∷ xs) acc = turned_on xs (x ∷ acc)

pub times-turned : (e : ℕ) (xs acc : List ℕ) → times e (turned_on xs acc) ≡ times e xs + times e acc
times-turned e [] acc = omega arith
times-turned e (x ∷ xs) acc = omega (arith, times-turned e xs (x ∷ acc), times-cons e x xs, times-cons e x acc)

followed_first : (x y : ℕ) (es : List ℕ) → IsFollowed (x ∷ (y ∷ es)) x y
followed_first x y es = record { before = []; after = es; joined = refl }

followed_later : (x : ℕ) (es : List ℕ) (a b : ℕ) → IsFollowed es a b → IsFollowed (x ∷ es) a b
followed_later x es a b follows = record { before = x ∷ follows.before; after = follows.after; joined = ap (λ ys. x ∷ ys) follows.joined }

pub trail_of : (branch : List Decision) (x : ℕ) (ys : List ℕ) → ((a b : ℕ) → IsFollowed (x ∷ ys) a b → IsYes branch a b) → IsTrail branch x ys
trail_of branch x [] order = tt
trail_of branch x (y ∷ ys) order = (order x y (followed_first x y ys), trail_of branch y ys (λ a b follows. order a b (followed_later x (y ∷ ys) a b follows)))

module _ (branch : List Decision) where
  -- a trail without a way back keeps to a run, as far as it goes
  pub same_run : (b x : ℕ) (ys zs : List ℕ) → Runs branch b x ys → IsTrail branch x zs → first_or_none zs ≢ b ⊎ (zs ≡ []) → ((e : ℕ) → times e (x ∷ zs) ≤ 1) → ((e : ℕ) → times e (x ∷ ys) ≤ 1) →
      ((e : ℕ) → 1 ≤ times e ys → 1 ≤ times e zs) → zs ≡ ys
  same_run b x [] [] runs trail first once distinct covers = refl
  same_run b x [] (z ∷ zs) runs trail first once distinct covers = elim first [
    | inl other ↦ absurd (other (runs z trail.0))
    | inr none ↦ cc
  ]
  same_run b x (y ∷ ys) [] runs trail first once distinct covers = absurd (omega (arith, covers y (omega (arith, times-same y ys))))
  same_run b x (y ∷ ys) (z ∷ zs) runs trail first once distinct covers =
      let z_other : z ≢ b = elim first [ inl other ↦ other | inr none ↦ cc ] in
      let z_y : z ≡ y = elim (runs.2 z trail.0) [ inl back ↦ absurd (z_other back) | inr on ↦ on ] in
      let rest = same_run x y ys zs runs.3 (subst (λ e. IsTrail branch e zs) z_y trail.1)
      (ahead zs (λ same. omega (arith, once x, times_here x x (z ∷ zs) refl, times-cons x z zs, same)))
      (λ e. omega (arith, once e, times-cons e x (z ∷ zs), ap (λ w. times e (w ∷ zs)) z_y))
      (λ e. omega (arith, distinct e, times-cons e x (y ∷ ys)))
      (λ e some. elim (cases_eq z e) [
        | inl same ↦ absurd (omega (arith, some, distinct e, times-cons e x (y ∷ ys), times_here e y ys (sym z_y ∙ same)))
        | inr other ↦ omega (arith, covers e (omega (arith, some, times-cons e y ys)), times_other e z zs other)
      ]) in
      ap (λ w. w ∷ zs) z_y ∙ ap (λ ws. y ∷ ws) rest
    where
      ahead : (ws : List ℕ) → (1 ≤ times x ws → ⊥) → first_or_none ws ≢ x ⊎ (ws ≡ [])
      ahead [] none = inr refl
      ahead (w ∷ ws) none = inl (λ same. none (omega (arith, times_here x w ws same)))

module _ (laws : YesPairsJoin) (t : Chains) (table : IsChainTable t) (untangled : t.tangled ≡ false) where
  swap : (A B : Type 0) → A ⊎ B → B ⊎ A
  swap A B (inl a) = inr a
  swap A B (inr b) = inl b

  -- a run backward is a run
  turn_run : (b x : ℕ) (ys acc : List ℕ) → Runs t.decisions.now b x ys →
      ((n : ℕ) → ((z : ℕ) → IsYes t.decisions.now x z → (z ≡ b) ⊎ (z ≡ n)) → n ≢ b ⊎ (b ≡ 0) → Runs t.decisions.now n x acc) → RunsFrom t.decisions.now (turned_on ys (x ∷ acc))
  turn_run b x [] acc runs back = back 0 (λ z is. inl (runs z is)) (elim (cases_eq b 0) [ inl none ↦ inr none | inr some ↦ inl (λ same. some (sym same)) ])
  turn_run b x (y ∷ ys) acc runs back = turn_run x y ys (x ∷ acc) runs.3 back_y
    where
      y_x : IsYes t.decisions.now y x
      y_x = laws.yes_turned t.decisions.now x y runs.0

      back_y : (n : ℕ) → ((z : ℕ) → IsYes t.decisions.now y z → (z ≡ x) ⊎ (z ≡ n)) → n ≢ x ⊎ (x ≡ 0) → Runs t.decisions.now n y (x ∷ acc)
      back_y n near differ = (
        y_x,
        elim differ [
          | inl other ↦ (λ same. other (sym same))
          | inr none ↦ absurd (no_yes_zero laws t table untangled y (subst (IsYes t.decisions.now y) none y_x))
        ],
        (λ z is. swap (z ≡ x) (z ≡ n) (near z is)),
        back y runs.2 (inl runs.1),
      )

  pub turned_runs : (s : ℕ) (xs : List ℕ) → Runs t.decisions.now 0 s xs → RunsFrom t.decisions.now (turned_on xs (s ∷ []))
  turned_runs s xs runs = turn_run 0 s xs [] runs (λ n near differ z is. elim (near z is) [
    | inl none ↦ absurd (no_yes_zero laws t table untangled s (subst (IsYes t.decisions.now s) none is))
    | inr at_n ↦ at_n
  ])

  -- another end of the chain is the last of the run
  end_is_last : (f b x : ℕ) (ys acc : List ℕ) → Runs t.decisions.now b x ys → IsYes t.decisions.now x b → 1 ≤ times f (x ∷ ys) → IsChainEnd t.decisions.now f → (rest : List ℕ) × (turned_on ys (x ∷ acc) ≡ f ∷ rest)
  end_is_last f b x [] acc runs back some end = elim (cases_eq x f) [
    | inl same ↦ (acc, ap (λ e. e ∷ acc) same)
    | inr other ↦ absurd (omega (arith, some, times_other f x [] other))
  ]
  end_is_last f b x (y ∷ ys) acc runs back some end = elim (cases_eq x f) [
    | inl same ↦ absurd (runs.1 (subst (IsChainEnd t.decisions.now) (sym same) end y b runs.0 back))
    | inr other ↦ end_is_last f x y ys (x ∷ acc) runs.3 (laws.yes_turned t.decisions.now x y runs.0) (omega (arith, some, times_other f x (y ∷ ys) other)) end
  ]

  module _ (edge : ℕ) (edges : List ℕ) (each : (e : ℕ) → AreJoined t.decisions.now edge e → times e edges ≡ 1) (joined : (e : ℕ) → 1 ≤ times e edges → AreJoined t.decisions.now edge e)
      (z : ℕ) (zs : List ℕ) (order : (a b : ℕ) → IsFollowed (z ∷ zs) a b → IsYes t.decisions.now a b) (each_z : (e : ℕ) → AreJoined t.decisions.now edge e → times e (z ∷ zs) ≡ 1)
      (joined_z : (e : ℕ) → 1 ≤ times e (z ∷ zs) → AreJoined t.decisions.now edge e) where
    trail : IsTrail t.decisions.now z zs
    trail = trail_of t.decisions.now z zs order

    once_z : (e : ℕ) → times e (z ∷ zs) ≤ 1
    once_z e = elim (cases_lt 0 (times e (z ∷ zs))) [ inl some ↦ omega (arith, each_z e (joined_z e some)) | inr none ↦ omega (arith, none) ]

    once_edges : (e : ℕ) → times e edges ≤ 1
    once_edges e = elim (cases_lt 0 (times e edges)) [ inl some ↦ omega (arith, each e (joined e some)) | inr none ↦ omega (arith, none) ]

    z_joined : AreJoined t.decisions.now edge z
    z_joined = joined_z z (omega (arith, times-same z zs))

    -- each neighbour of the first stands next to it, or else a cycle closes
    next_only : (u : ℕ) → IsYes t.decisions.now z u → first_or_none zs ≡ u
    next_only u is = elim (cases_eq (first_or_none zs) u) [
      | inl same ↦ same
      | inr differ ↦
          let apart = different_yes laws t table untangled z u is in
          let u_joined : AreJoined t.decisions.now edge u = laws.on t.decisions.now edge z u z_joined (u ∷ [], (is, refl)) in
          let some : 1 ≤ times u zs = omega (arith, each_z u u_joined, times_other u z zs apart) in
          absurd (no_tangle laws t table untangled (trail_tangles t.decisions.now z u apart is zs trail (omega (arith, once_z z, times-same z zs)) some differ))
    ]

    z_end : IsChainEnd t.decisions.now z
    z_end u v is_u is_v = sym (next_only u is_u) ∙ next_only v is_v

    starts : (ws : List ℕ) → IsTrail t.decisions.now z ws → first_or_none ws ≢ 0 ⊎ (ws ≡ [])
    starts [] trail' = inr refl
    starts (w ∷ ws) trail' = inl (λ none. no_yes_zero laws t table untangled z (subst (IsYes t.decisions.now z) none trail'.0))

    matches : (rest : List ℕ) → Runs t.decisions.now 0 z rest → ((e : ℕ) → times e (z ∷ rest) ≡ times e edges) → zs ≡ rest
    matches rest runs same =
        same_run t.decisions.now 0 z rest zs runs trail (starts zs trail) once_z (λ e. omega (arith, same e, once_edges e)) covers
      where
        covers : (e : ℕ) → 1 ≤ times e rest → 1 ≤ times e zs
        covers e some =
            let in_edges : 1 ≤ times e edges = omega (arith, some, same e, times-cons e z rest) in
            let in_z = each_z e (joined e in_edges) in
            let other : z ≢ e = λ is. omega (arith, some, same e, once_edges e, times_here e z rest is) in
            omega (arith, in_z, times_other e z zs other)

    pub two_orders : RunsFrom t.decisions.now edges → (z ∷ zs ≡ edges) ⊎ (z ∷ zs ≡ turned_on edges [])
    two_orders runs = go edges refl runs
      where
        go : (es : List ℕ) → edges ≡ es → RunsFrom t.decisions.now es → (z ∷ zs ≡ edges) ⊎ (z ∷ zs ≡ turned_on edges [])
        go [] is runs' = absurd runs'
        go (s ∷ xs) is runs' = elim (cases_eq s z) [
          | inl same ↦
              let whole = matches xs (subst (λ e. Runs t.decisions.now 0 e xs) same runs') (λ e. sym (ap (times e) (is ∙ ap (λ w. w ∷ xs) same))) in
              inl (ap (λ ws. z ∷ ws) whole ∙ sym (is ∙ ap (λ w. w ∷ xs) same))
          | inr other ↦ inr (turned xs is runs' (omega (arith, each z z_joined, ap (times z) is, times_other z s xs other)))
        ]
          where
            turned : (ys : List ℕ) → edges ≡ s ∷ ys → Runs t.decisions.now 0 s ys → 1 ≤ times z ys → z ∷ zs ≡ turned_on edges []
            turned [] is' runs'' some = absurd (omega (arith, some))
            turned (y ∷ ys) is' runs'' some =
                let last = end_is_last z s y ys (s ∷ []) runs''.3 (laws.yes_turned t.decisions.now s y runs''.0) some z_end in
                let back : RunsFrom t.decisions.now (z ∷ last.0) = subst (RunsFrom t.decisions.now) last.1 (turned_runs s (y ∷ ys) runs'') in
                let turned_is : turned_on edges [] ≡ z ∷ last.0 = ap (λ es. turned_on es []) is' ∙ last.1 in
                let whole = matches last.0 back (λ e. sym (ap (times e) turned_is) ∙ omega (arith, times-turned e edges [])) in
                ap (λ ws. z ∷ ws) whole ∙ sym turned_is
