-- A walk leads from the depot to the depot exactly where each step continues the one before it, and it starts and ends there.
use Rattle.std.proofs.Common.{◌≡◌, ℕ, zero, suc, ◌-◌, ◌<◌, ◌⊎◌, List, [], ◌∷◌, length, refl, sym, ◌∙◌, arith, inl, inr}
use Rattle.std.proofs.lemmas.Bool.{cases_lt, cases_eq}
use Rattle.carp_base.specs.Problem.{Problem, IsEdgeNumber, IsRequired}
use Rattle.plan_model.specs.declared.step.Step.{Step}
use Rattle.plan_model.specs.Plans.{Leads, IsWalk, step_at}
use Rattle.plan_model.specs.Verdicts.{start_of, end_of, IsBroken, IsAway}
use Rattle.plan_model.specs.Passes.{ContinuesAt, Continues, IsAtDepot}

-- the vertex where the step at a place should start, in a walk from a
abbrev pub place_before : Problem → ℕ → List Step → ℕ → ℕ
place_before p a walk zero = a
place_before p a walk (suc i) = end_of p (step_at walk i)

-- each step is on an edge, and starts where it should
abbrev pub Joins : Problem → ℕ → List Step → Type 0
Joins p a walk = (i : ℕ) → i < length walk → IsEdgeNumber p (step_at walk i).edge × (start_of p (step_at walk i) ≡ place_before p a walk i)

shifted : (p : Problem) (a : ℕ) (s : Step) (walk : List Step) (i : ℕ) → place_before p a (s ∷ walk) (suc i) ≡ place_before p (end_of p s) walk i
shifted p a s walk zero = refl
shifted p a s walk (suc i) = refl

leads_where_joined : (p : Problem) (a b : ℕ) (walk : List Step) → Joins p a walk → place_before p a walk (length walk) ≡ b → Leads p a walk b
leads_where_joined p a b [] joins last = last
leads_where_joined p a b (s ∷ walk) joins last =
    let here = joins 0 (omega arith) in (
      here.0,
      here.1,
      leads_where_joined p (end_of p s) b walk
          (λ i below. let there = joins (suc i) (omega arith) in (there.0, there.1 ∙ shifted p a s walk i))
          (sym (shifted p a s walk (length walk)) ∙ last),
    )

joined_more : (p : Problem) (a : ℕ) (s : Step) (walk : List Step) → IsEdgeNumber p s.edge → start_of p s ≡ a → Joins p (end_of p s) walk → Joins p a (s ∷ walk)
joined_more p a s walk edge starts joins zero below = (edge, starts)
joined_more p a s walk edge starts joins (suc i) below = let there = joins i (omega arith) in (there.0, there.1 ∙ sym (shifted p a s walk i))

joined_where_leads : (p : Problem) (a b : ℕ) (walk : List Step) → Leads p a walk b → Joins p a walk
joined_where_leads p a b [] leads = λ i below. absurd (omega arith)
joined_where_leads p a b (s ∷ walk) leads = joined_more p a s walk leads.0 leads.1 (joined_where_leads p (end_of p s) b walk leads.2)

last_where_leads : (p : Problem) (a b : ℕ) (walk : List Step) → Leads p a walk b → place_before p a walk (length walk) ≡ b
last_where_leads p a b [] leads = leads
last_where_leads p a b (s ∷ walk) leads = shifted p a s walk (length walk) ∙ last_where_leads p (end_of p s) b walk leads.2

pub back : (n : ℕ) → suc n - 1 ≡ n
back n = omega arith

pub is_walk : (p : Problem) (walk : List Step) → Continues p walk → IsAtDepot p walk → IsWalk p walk
is_walk p walk continues depot = leads_where_joined p p.depot p.depot walk joins (last walk depot) where
  joins : Joins p p.depot walk
  joins zero below = ((continues 0 below).on_edge, depot.starts below)
  joins (suc i) below = ((continues (suc i) below).on_edge, rw (back i) at ((continues (suc i) below).joined (omega arith)))

  last : (walk : List Step) → IsAtDepot p walk → place_before p p.depot walk (length walk) ≡ p.depot
  last [] depot = refl
  last (s ∷ walk) depot = rw (back (length walk)) at (depot.ends (omega arith))

pub walk_continues : (p : Problem) (walk : List Step) → IsWalk p walk → Continues p walk
walk_continues p walk leads = step where
  joins : Joins p p.depot walk
  joins = joined_where_leads p p.depot p.depot walk leads

  step : Continues p walk
  step zero below = record { on_edge = (joins 0 below).0; joined = λ some. absurd (omega arith) }
  step (suc i) below = record { on_edge = (joins (suc i) below).0; joined = λ _. rw (back i) ((joins (suc i) below).1) }

pub walk_at_depot : (p : Problem) (walk : List Step) → IsWalk p walk → IsAtDepot p walk
walk_at_depot p [] leads = record { starts = λ some. absurd (omega arith); ends = λ some. absurd (omega arith) }
walk_at_depot p (s ∷ walk) leads = record {
  starts = λ _. leads.1;
  ends = λ _. rw (back (length walk)) (last_where_leads p p.depot p.depot (s ∷ walk) leads);
}

pub edge_or_not : (p : Problem) (e : ℕ) → IsEdgeNumber p e ⊎ ¬ (IsEdgeNumber p e)
edge_or_not p e = elim (cases_lt 0 e) [
  | inl some ↦ elim (cases_lt (length p.edges) e) [
    | inl above ↦ inr (λ h. absurd (omega (arith, h.in_range)))
    | inr within ↦ inl (record { from_one = omega arith; in_range = within })
  ]
  | inr none ↦ inr (λ h. absurd (omega (arith, h.from_one)))
]

pub required_or_not : (p : Problem) (e : ℕ) → IsRequired p e ⊎ ¬ (IsRequired p e)
required_or_not p e = elim (cases_lt 0 e) [
  | inl some ↦ elim (cases_lt p.required e) [
    | inl above ↦ inr (λ h. absurd (omega (arith, h.in_range)))
    | inr within ↦ inl (record { from_one = omega arith; in_range = within })
  ]
  | inr none ↦ inr (λ h. absurd (omega (arith, h.from_one)))
]

-- a step that does not continue is broken, and one that does is not
pub broken_step : (p : Problem) (walk : List Step) (i : ℕ) → ¬ (ContinuesAt p walk i) → IsBroken p walk (suc i)
broken_step p walk i fails = rw (back i) (elim (edge_or_not p (step_at walk i).edge) [
  | inr off ↦ inl off
  | inl edge ↦ inr (
    elim (cases_lt 0 i) [
      | inl later ↦ omega arith
      | inr first ↦ absurd (fails (record { on_edge = edge; joined = λ some. absurd (omega arith) }))
    ],
    λ same. fails (record { on_edge = edge; joined = λ _. same }),
  )
])

pub not_broken : (p : Problem) (walk : List Step) (i : ℕ) → ContinuesAt p walk i → ¬ (IsBroken p walk (suc i))
not_broken p walk i continues = rw (back i) (λ broken. elim broken [
  | inl off ↦ off continues.on_edge
  | inr apart ↦ apart.1 (continues.joined (omega (arith, apart.0)))
])

pub continues_unless_broken : (p : Problem) (walk : List Step) (i : ℕ) → ¬ (IsBroken p walk (suc i)) → ContinuesAt p walk i
continues_unless_broken p walk i = rw (back i) (λ fine. record {
  on_edge = elim (edge_or_not p (step_at walk i).edge) [ inl edge ↦ edge | inr off ↦ absurd (fine (inl off)) ];
  joined = λ later. elim (cases_eq (start_of p (step_at walk i)) (end_of p (step_at walk (i - 1)))) [
    | inl same ↦ same
    | inr apart ↦ absurd (fine (inr (omega arith, apart)))
  ];
})

-- a walk that is not at the depot is away, and one that is is not
pub away_walk : (p : Problem) (walk : List Step) → ¬ (IsAtDepot p walk) → IsAway p walk
away_walk p walk fails =
    elim (cases_lt 0 (length walk)) [
      | inr none ↦ absurd (fails (record { starts = λ some. absurd (omega arith); ends = λ some. absurd (omega arith) }))
      | inl some ↦ (
        omega arith,
        elim (cases_eq (start_of p (step_at walk 0)) p.depot) [
          | inr apart ↦ inl apart
          | inl same ↦ inr (λ ends. fails (record { starts = λ _. same; ends = λ _. ends }))
        ],
      )
    ]

pub not_away : (p : Problem) (walk : List Step) → IsAtDepot p walk → ¬ (IsAway p walk)
not_away p walk depot away = elim away.1 [
  | inl starts ↦ starts (depot.starts (omega (arith, away.0)))
  | inr ends ↦ ends (depot.ends (omega (arith, away.0)))
]

pub at_depot_unless_away : (p : Problem) (walk : List Step) → ¬ (IsAway p walk) → IsAtDepot p walk
at_depot_unless_away p walk fine = record {
  starts = λ some. elim (cases_eq (start_of p (step_at walk 0)) p.depot) [ inl same ↦ same | inr apart ↦ absurd (fine (omega arith, inl apart)) ];
  ends = λ some. elim (cases_eq (end_of p (step_at walk (length walk - 1))) p.depot) [ inl same ↦ same | inr apart ↦ absurd (fine (omega arith, inr apart)) ];
}
