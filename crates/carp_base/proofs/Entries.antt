-- Entries of a square table of pairs.
use Rattle.std.proofs.Common.{◌≡◌, ℕ, ◌+◌, ◌-◌, ◌*◌, ◌<◌, ◌≤◌, ◌==◌, nat_lt, ◌&&◌, Bool, false, not, List, length, get_or, set, ◌⊎◌, inl, inr, refl, arith, sym, ◌∙◌, ap, get_or-set_same, get_or-set_other}
use Rattle.std.proofs.lemmas.Bool.{cases_lt, cases_eq}
use Rattle.std.proofs.lemmas.Bool.Decides.{nat_tests}
use Rattle.std.proofs.lemmas.List.{length-set, get_or_past}
use Rattle.std.proofs.lemmas.Nat.{same_from_place}
use Rattle.carp_base.specs.Allowed.{Relation, IsOf, IsRelation, IsSamePair, TakesOut, allows}
use Rattle.carp_base.specs.Drafts.{entry_place}
use Rattle.carp_base.proofs.Numbers.{entry_is}

same_or_not : (a b c d : ℕ) → IsSamePair a b c d ⊎ ¬ (IsSamePair a b c d)
same_or_not a b c d =
    elim (cases_eq c a) [
      | inl ca ↦ elim (cases_eq d b) [
        | inl db ↦ inl (inl (ca, db))
        | inr d_not_b ↦ elim (cases_eq c b) [
          | inl cb ↦ elim (cases_eq d a) [
            | inl da ↦ inl (inr (cb, da))
            | inr d_not_a ↦ inr (λ same. elim same [ inl first ↦ d_not_b first.1 | inr second ↦ d_not_a second.1 ])
          ]
          | inr c_not_b ↦ inr (λ same. elim same [ inl first ↦ d_not_b first.1 | inr second ↦ c_not_b second.0 ])
        ]
      ]
      | inr c_not_a ↦ elim (cases_eq c b) [
        | inl cb ↦ elim (cases_eq d a) [
          | inl da ↦ inl (inr (cb, da))
          | inr d_not_a ↦ inr (λ same. elim same [ inl first ↦ c_not_a first.0 | inr second ↦ d_not_a second.1 ])
        ]
        | inr c_not_b ↦ inr (λ same. elim same [ inl first ↦ c_not_a first.0 | inr second ↦ c_not_b second.0 ])
      ]
    ]

turned : (a b c d : ℕ) → IsSamePair a b c d → IsSamePair a b d c
turned a b c d same = elim same [ inl first ↦ inr (first.1, first.0) | inr second ↦ inl (second.1, second.0) ]

false_here : (t : List Bool) (i : ℕ) → get_or (set t i false) i false ≡ false
false_here t i =
    elim (cases_lt i (length t)) [
      | inl below ↦ get_or-set_same t i false false below
      | inr past ↦ get_or_past (set t i false) i false (omega (arith, length-set t i false, past))
    ]

false_still : (t : List Bool) (i k : ℕ) → get_or t k false ≡ false → get_or (set t i false) k false ≡ false
false_still t i k is =
    elim (cases_eq k i) [
      | inl same ↦ rw same (false_here t i)
      | inr other ↦ get_or-set_other t i k false false other ∙ is
    ]

-- different pairs have different places
pub places_differ : (size a b c d : ℕ) → 1 ≤ a → 1 ≤ b → b ≤ size → 1 ≤ c → 1 ≤ d → d ≤ size → entry_place size c d ≡ entry_place size a b → (c ≡ a) × (d ≡ b)
places_differ size a b c d a_one b_one b_in c_one d_one d_in same =
    let both = same_from_place (c - 1) (d - 1) (a - 1) (b - 1) size (omega (arith, d_one, d_in)) (omega (arith, b_one, b_in)) same in
    (omega (arith, both.0, a_one, c_one), omega (arith, both.1, b_one, d_one))

-- the relation without the pair
abbrev pub without : Relation → ℕ → ℕ → Relation
without r a b = record { size = r.size; table = set (set r.table (entry_place r.size a b) false) (entry_place r.size b a) false }

pub without-at : (size : ℕ) (table : List Bool) (r : Relation) (a b there back : ℕ) → record { size = size; table = table } ≡ r →
    there ≡ entry_place r.size a b → back ≡ entry_place r.size b a → record { size = size; table = set (set table there false) back false } ≡ without r a b
without-at size table r a b there back same there_is back_is =
    let f : Relation → Relation = λ q. record { size = q.size; table = set (set q.table (entry_place r.size a b) false) (entry_place r.size b a) false } in
    rw (there_is, back_is) (ap f same)

module _ (r : Relation) (a b : ℕ) (a_is : IsOf r a) (b_is : IsOf r b) where
  of_same : (c : ℕ) → IsOf r c → IsOf (without r a b) c
  of_same c is = record { from_one = is.from_one; in_range = is.in_range }

  there_out : allows (without r a b) a b ≡ false
  there_out =
      entry_is (without r a b) a b (of_same a a_is) (of_same b b_is)
      ∙ false_still (set r.table (entry_place r.size a b) false) (entry_place r.size b a) (entry_place r.size a b) (false_here r.table (entry_place r.size a b))

  back_out : allows (without r a b) b a ≡ false
  back_out =
      entry_is (without r a b) b a (of_same b b_is) (of_same a a_is)
      ∙ false_here (set r.table (entry_place r.size a b) false) (entry_place r.size b a)

  pub takes_out : TakesOut r (without r a b) a b
  takes_out = record {
    on = refl;
    out = λ c d same. elim same [
      | inl first ↦ rw (first.0, first.1) there_out
      | inr second ↦ rw (second.0, second.1) back_out
    ];
    others = λ c d c_is d_is different.
        entry_is (without r a b) c d (of_same c c_is) (of_same d d_is)
        ∙ get_or-set_other (set r.table (entry_place r.size a b) false) (entry_place r.size b a) (entry_place r.size c d) false false
        (λ same. different (inr (places_differ r.size b a c d b_is.from_one a_is.from_one a_is.in_range c_is.from_one d_is.from_one d_is.in_range same)))
        ∙ get_or-set_other r.table (entry_place r.size a b) (entry_place r.size c d) false false
        (λ same. different (inl (places_differ r.size a b c d a_is.from_one b_is.from_one b_is.in_range c_is.from_one d_is.from_one d_is.in_range same)))
        ∙ sym (entry_is r c d c_is d_is);
  }

  pub still_relation : IsRelation r → IsRelation (without r a b)
  still_relation is = record {
    square =
        length-set (set r.table (entry_place r.size a b) false) (entry_place r.size b a) false ∙ length-set r.table (entry_place r.size a b) false ∙ is.square;
    symmetric = λ c d c_in d_in.
        let c_is : IsOf r c = record { from_one = c_in.from_one; in_range = c_in.in_range } in
        let d_is : IsOf r d = record { from_one = d_in.from_one; in_range = d_in.in_range } in
        elim (same_or_not a b c d) [
          | inl same ↦ takes_out.out c d same ∙ sym (takes_out.out d c (turned a b c d same))
          | inr different ↦
              takes_out.others c d c_is d_is different ∙ is.symmetric c d c_is d_is ∙ sym (takes_out.others d c d_is c_is (λ same. different (turned a b d c same)))
        ];
    irreflexive = λ c c_in.
        let c_is : IsOf r c = record { from_one = c_in.from_one; in_range = c_in.in_range } in
        elim (same_or_not a b c c) [
          | inl same ↦ takes_out.out c c same
          | inr different ↦ takes_out.others c c c_is c_is different ∙ is.irreflexive c c_is
        ];
  }

not_yet : (a b edge : ℕ) → ((a ≡ edge) × (b ≡ edge) → ⊥) → (a == b && nat_lt a edge) ≡ (a == b && nat_lt a (edge + 1))
not_yet a b edge apart = grind (arith, nat_tests)

-- one more edge is not allowed with itself
pub entry_more : (t : List Bool) (size edge a b : ℕ) → length t ≡ size * size → edge < size → a < size → b < size →
    get_or t (a * size + b) false ≡ not ((a == b) && nat_lt a edge) →
    get_or (set t (edge * size + edge) false) (a * size + b) false ≡ not ((a == b) && nat_lt a (edge + 1))
entry_more t size edge a b square edge_in a_in b_in was =
    elim (cases_eq (a * size + b) (edge * size + edge)) [
      | inl same ↦
          let both = same_from_place a b edge edge size b_in edge_in same in
          let a_is : a ≡ edge = both.0 in
          let b_is : b ≡ edge = both.1 in
          rw (a_is, b_is) (false_here t (edge * size + edge) ∙ grind (arith, nat_tests))
      | inr other ↦
          let apart : ((a ≡ edge) × (b ≡ edge)) → ⊥ = λ both. other (rw (both.0, both.1) refl) in
          get_or-set_other t (edge * size + edge) (a * size + b) false false other ∙ was ∙ ap not (not_yet a b edge apart)
    ]
