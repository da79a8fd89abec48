-- Pairs that are taken out of a relation.
use Rattle.std.proofs.Common.{◌≡◌, ℕ, zero, suc, ◌≤◌, ◌<◌, ◌==◌, true, false, ◌&&◌, List, [], ◌∷◌, length, get_or, refl, sym, ◌∙◌, ap, arith, inl, inr, ◌⊎◌}
use Rattle.std.specs.List.{All, list_any}
use Rattle.std.proofs.lemmas.Bool.{cases_eq, cases_order, or_left, or_right, or_cases, and_parts, and_from, eq-eqb, eqb-true, not_from_true, not_from_false, ne_eqb, both_ways}
use Rattle.carp_base.specs.Allowed.{Relation, allows, IsOf, IsSamePair, TakesOut, AllowsAll}
use Rattle.carp_base.specs.Problem.{Problem, IsRequired}
use Rattle.decision_chains.specs.Exclusions.{says_no, IsNo, Excluded, same, PermitsUnexcluded}
use Rattle.decision_chains.specs.Pairs.{HasPairWithin}
use Rattle.decision_chains.specs.ChainTables.{TakesExcluded, IsOut, IsNoOut, IsChainTable, is_barred}
use Rattle.decision_chains.specs.declared.chains.Chains.{Chains}
use Rattle.decision_chains.specs.declared.decision.Decision.{Decision}
use Rattle.decision_chains.specs.declared.decision.Decision.TheVariants.{Yes, No, Low, High}
use Rattle.decision_chains.proofs.Symmetry.{excluded_turn}
use Rattle.decision_chains.proofs.Barring.{excluded_barred}

same_pair_cases : (a b c d : ℕ) → IsSamePair a b c d ⊎ (IsSamePair a b c d → ⊥)
same_pair_cases a b c d = elim (cases_eq c a) [
  | inl c_a ↦ elim (cases_eq d b) [
    | inl d_b ↦ inl (inl (c_a, d_b))
    | inr d_not ↦ turned (λ straight. d_not straight.1)
  ]
  | inr c_not ↦ turned (λ straight. c_not straight.0)
]
  where
    turned : (((c ≡ a) × (d ≡ b)) → ⊥) → IsSamePair a b c d ⊎ (IsSamePair a b c d → ⊥)
    turned not_straight = elim (cases_eq c b) [
      | inl c_b ↦ elim (cases_eq d a) [
        | inl d_a ↦ inl (inr (c_b, d_a))
        | inr d_not ↦ inr (λ is. elim is [ inl straight ↦ not_straight straight | inr turn ↦ d_not turn.1 ])
      ]
      | inr c_not ↦ inr (λ is. elim is [ inl straight ↦ not_straight straight | inr turn ↦ c_not turn.0 ])
    ]

pub out_now : (old new : Relation) (a b : ℕ) → TakesOut old new a b → IsOut new a b
out_now old new a b takes = (takes.out a b (inl (refl, refl)), takes.out b a (inr (refl, refl)))

module _ (p : Problem) (branch : List Decision) where
  pub takes_none : (r : Relation) → TakesExcluded p branch r r
  takes_none r = record { on = refl; kept = λ c d c_in d_in out. out; only = λ c d c_in d_in out. inl out }

  pub takes_more : (old mid new : Relation) → TakesExcluded p branch old mid → TakesExcluded p branch mid new → TakesExcluded p branch old new
  takes_more old mid new first second = record {
    on = second.on ∙ first.on;
    kept = λ c d c_in d_in out. second.kept c d c_in d_in (first.kept c d c_in d_in out);
    only = λ c d c_in d_in out. elim (second.only c d c_in d_in out) [
      | inl before ↦ first.only c d c_in d_in before
      | inr excluded ↦ inr excluded
    ];
  }

  is_of : (r : Relation) (c : ℕ) → r.size ≡ p.required → IsRequired p c → IsOf r c
  is_of r c on required = record { from_one = required.from_one; in_range = omega (arith, on, required.in_range) }

  pub takes_one : (old new : Relation) (a b : ℕ) → old.size ≡ p.required → Excluded p branch a b → TakesOut old new a b → TakesExcluded p branch old new
  takes_one old new a b on excluded takes = record {
    on = takes.on;
    kept = λ c d c_in d_in out. elim (same_pair_cases a b c d) [
      | inl pair ↦ takes.out c d pair
      | inr other ↦ takes.others c d (is_of old c on c_in) (is_of old d on d_in) other ∙ out
    ];
    only = λ c d c_in d_in out. elim (same_pair_cases a b c d) [
      | inl pair ↦ inr (elim pair [
        | inl straight ↦ rw (straight.0, straight.1) excluded
        | inr turned ↦ rw (turned.0, turned.1) (excluded_turn p branch a b excluded)
      ])
      | inr other ↦ inl (sym (takes.others c d (is_of old c on c_in) (is_of old d on d_in) other) ∙ out)
    ];
  }

  pub out_kept : (old new : Relation) → TakesExcluded p branch old new → (a b : ℕ) → IsRequired p a → IsRequired p b → IsOut old a b → IsOut new a b
  out_kept old new takes a b a_in b_in out = (takes.kept a b a_in b_in out.0, takes.kept b a b_in a_in out.1)

  pub no_out_kept : (old new : Relation) → TakesExcluded p branch old new → (d : Decision) → HasPairWithin p.required d → IsNoOut old d → IsNoOut new d
  no_out_kept old new takes (Yes a b) pair out = tt
  no_out_kept old new takes (No a b) pair out =
      out_kept old new takes a b (record { from_one = pair.a_from_one; in_range = pair.a_in_range }) (record { from_one = pair.b_from_one; in_range = pair.b_in_range }) out
  no_out_kept old new takes (Low shore k) pair out = tt
  no_out_kept old new takes (High shore k) pair out = tt

-- a no among the decisions
pub no_at : (ds : List Decision) (i : ℕ) (d : Decision) (a b : ℕ) → i < length ds → get_or ds i d ≡ No a b → IsNo ds a b
no_at [] i d a b less is = absurd (omega (arith, less))
no_at (x ∷ ds) zero d a b less is = or_left (says_no a b x) _ (ap (says_no a b) is ∙ or_left ((a == a) && (b == b)) _ (and_from (a == a) (b == b) (eq-eqb a a refl) (eq-eqb b b refl)))
no_at (x ∷ ds) (suc i) d a b less is = or_right (says_no a b x) _ (no_at ds i d a b (omega (arith, less)) is)

no_out : (r : Relation) (a b : ℕ) (d : Decision) → says_no a b d ≡ true → IsNoOut r d → IsOut r a b
no_out r a b (Yes c d) says out = cc
no_out r a b (No c d) says out = elim (or_cases ((c == a) && (d == b)) ((c == b) && (d == a)) says) [
  | inl straight ↦ let both = and_parts (c == a) (d == b) straight in rw (sym (eqb-true c a both.0), sym (eqb-true d b both.1)) out
  | inr turned ↦ let both = and_parts (c == b) (d == a) turned in rw (sym (eqb-true c b both.0), sym (eqb-true d a both.1)) (out.1, out.0)
]
no_out r a b (Low shore k) says out = cc
no_out r a b (High shore k) says out = cc

pub said_out : (r : Relation) (a b : ℕ) (ds : List Decision) → All (IsNoOut r) ds → IsNo ds a b → IsOut r a b
said_out r a b [] all is = cc
said_out r a b (d ∷ ds) all is = elim (or_cases (says_no a b d) (list_any (says_no a b) ds) is) [
  | inl here ↦ no_out r a b d here (all 0 d (omega arith))
  | inr later ↦ said_out r a b ds (λ k e less. all (suc k) e (omega (arith, less))) later
]

-- barred pairs and those that decisions say no to are out, and none but excluded ones: just the pairs that are not excluded are left
pub left_are_unexcluded : (t : Chains) → IsChainTable t → (whole r : Relation) → AllowsAll t.inst.now.required whole → TakesExcluded t.inst.now t.decisions.now whole r →
    ((a b : ℕ) → IsRequired t.inst.now a → 1 ≤ b → b < a → is_barred t a b ≡ true → IsOut r a b) → All (IsNoOut r) t.decisions.now → PermitsUnexcluded t.inst.now t.decisions.now r
left_are_unexcluded t table whole r all takes barred said = record {
  on = takes.on ∙ all.on;
  permitted = λ a b a_in b_in is excluded. both_ways _ (out a b a_in b_in excluded) is;
  refused = λ a b a_in b_in is_out. excluded_of a b a_in b_in (takes.only a b a_in b_in is_out);
}
  where
    excluded_of : (a b : ℕ) → IsRequired t.inst.now a → IsRequired t.inst.now b → (allows whole a b ≡ false) ⊎ Excluded t.inst.now t.decisions.now a b → Excluded t.inst.now t.decisions.now a b
    excluded_of a b a_in b_in (inl before) = same (elim (cases_eq a b) [
      | inl is ↦ is
      | inr other ↦ absurd (both_ways _ before (all.each a b (record { from_one = a_in.from_one; in_range = omega (arith, a_in.in_range, all.on) }) (record { from_one = b_in.from_one; in_range = omega (arith, b_in.in_range, all.on) })
          ∙ not_from_false _ (ne_eqb a b other)))
    ])
    excluded_of a b a_in b_in (inr excluded) = excluded

    below : (a b : ℕ) → IsRequired t.inst.now a → IsRequired t.inst.now b → b < a → Excluded t.inst.now t.decisions.now a b → IsOut r a b
    below a b a_in b_in less excluded = elim (excluded_barred t table a b a_in b_in excluded) [
      | inl is ↦ barred a b a_in b_in.from_one less is
      | inr denied ↦ said_out r a b t.decisions.now said denied
    ]

    out : (a b : ℕ) → IsRequired t.inst.now a → IsRequired t.inst.now b → Excluded t.inst.now t.decisions.now a b → allows r a b ≡ false
    out a b a_in b_in excluded = elim (cases_order a b) [
      | inl is ↦
          takes.kept a b a_in b_in (all.each a b (record { from_one = a_in.from_one; in_range = omega (arith, a_in.in_range, all.on) }) (record { from_one = b_in.from_one; in_range = omega (arith, b_in.in_range, all.on) })
          ∙ not_from_true _ (eq-eqb a b is))
      | inr apart ↦ elim apart [
        | inl less ↦ (below b a b_in a_in less (excluded_turn t.inst.now t.decisions.now a b excluded)).1
        | inr more ↦ (below a b a_in b_in more excluded).0
      ]
    ]
