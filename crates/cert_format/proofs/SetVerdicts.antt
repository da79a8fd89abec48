-- What is made of the number of sets, and of groups.
use Rattle.std.proofs.Common.{◌≡◌, ℕ, ◌≤◌, true, List, ◌∷◌, ◌++◌, length, slice_index, refl, sym, ap, subst, ◌∙◌, inr, arith}
use Rattle.std.proofs.lemmas.List.{append-nil}
use Rattle.branch_rules.specs.Bonds.{GroupWeight}
use Rattle.cert_lines.specs.declared.item.Item.{Item}
use Rattle.cert_lines.specs.Lines.{Line, Remainder, sets, bonds, nothing}
use Rattle.cert_lines.specs.Order.{LatestFirst, next_of, left_of}
use Rattle.cert_lines.specs.Certificates.{sets_of}
use Rattle.cert_lines.specs.Ranges.{AreGroupsInRange}
use Rattle.cert_lines.specs.Agreement.{AreGroups, SomeSetHasGroups}
use Rattle.cert_lines.specs.Texts.{items_of}
use Rattle.cert_format.specs.declared.draft.Draft.{Draft}
use Rattle.cert_format.specs.declared.judging.Verdict.{Verdict}
use Rattle.cert_format.specs.declared.judging.Verdict.TheVariants.{Syntax, Limit, Good}
use Rattle.cert_format.specs.declared.line.LineState.{LineState}
use Rattle.cert_format.specs.declared.kind.Kind.TheVariants.{Sets, Bonds}
use Rattle.cert_format.specs.Drafts.{HoldsDraft}
use Rattle.cert_format.specs.Groups.{AreSetGroups}
use Rattle.cert_format.specs.Judging.{SetsJudged, GroupsJudged, Judged, has_stated, item_list, Steady}
use Rattle.cert_format.specs.Readiness.{IsReady}

pub sets_verdict : (verdict : Verdict) (n : ℕ) (said : LatestFirst) (words : List (List ℕ)) (new : Draft) (line : LineState) → (r : IsReady Sets said line words) → n ≡ slice_index line.fields.items 0 →
    SetsJudged verdict n said new → Judged verdict said words new
sets_verdict Syntax n said words new line r same judged =
    let none : slice_index r.numbers 0 ≡ 0 = ap (λ (f : List ℕ). slice_index f 0) (sym r.fields) ∙ sym same ∙ judged.2 in
    (judged.0, inr (sets (slice_index r.numbers 0), record { is = r.is; in_range = r.in_range; disagrees = λ agrees. omega (arith, agrees judged.1, none) }))
sets_verdict Limit n said words new line r same judged = absurd judged
sets_verdict (Good item) n said words new line r same judged =
    let states : n ≡ slice_index r.numbers 0 = same ∙ ap (λ (f : List ℕ). slice_index f 0) r.fields in (
      sets (slice_index r.numbers 0),
      record {
        is = r.is;
        in_range = r.in_range;
        agrees = λ four. subst (λ (k : ℕ). 1 ≤ k) states (judged.1 four);
        held = subst (λ (k : ℕ). HoldsDraft new (sets k ∷ said)) states judged.0;
        steady = subst (λ (x : Item). Steady x (sets (slice_index r.numbers 0) ∷ said) said) (sym judged.2) refl;
        gives = sym (append-nil (items_of said)) ∙ ap (λ (x : Item). items_of said ++ item_list x) (sym judged.2);
      },
    )

-- groups in range that agree are those of a price set
set_groups : (n : ℕ) (groups : List GroupWeight) (rest : Remainder) → AreGroupsInRange n groups rest → AreGroups n groups rest → AreSetGroups groups
set_groups n groups rest inside agrees = record {
  few = omega (arith, inside.few, agrees.stated);
  few_edges = omega (arith, inside.few_edges);
  fine = λ k d below. (
      let one = inside.each k d below in
      let order = agrees.in_order k d below in
      record { two = one.size.from_first; few = one.size.to_last; rising = order.rising; some = order.some; within = one.weight; pair = order.pair }
      );
}

pub groups_verdict : (verdict : Verdict) (groups : List GroupWeight) (left : ℕ) (said : LatestFirst) (words : List (List ℕ)) (new : Draft) (line : LineState) → (r : IsReady Bonds said line words) →
    has_stated Bonds line ≡ true → groups ≡ line.groups.kept.items → left ≡ left_of (next_of said) → GroupsJudged verdict groups left said new → Judged verdict said words new
groups_verdict Syntax groups left said words new line r enough same at judged =
    let kept = r.kept enough in
    let all : groups ≡ r.items.groups = same ∙ kept.0 in (
      judged.0,
      inr (
        bonds (slice_index r.numbers 0) r.items.groups r.items.rest,
        record {
          is = r.is;
          in_range = r.in_range;
          disagrees = λ agrees.
              judged.1 (subst AreSetGroups (sym all) (set_groups (slice_index r.numbers 0) r.items.groups r.items.rest r.in_range agrees.0))
              (some_too (slice_index r.numbers 0) r.items.groups groups r.items.rest all at agrees.1);
        },
      ),
    )
  where
    some_too : (n : ℕ) (gs groups : List GroupWeight) (rest : Remainder) → groups ≡ gs → left ≡ left_of (next_of said) →
        SomeSetHasGroups (left_of (next_of said)) (sets_of (bonds n gs rest ∷ said)) → SomeSetHasGroups left (sets_of (bonds (length groups) groups nothing ∷ said))
    some_too n gs groups rest all at some =
        subst (λ (k : ℕ). SomeSetHasGroups k (sets_of (bonds (length groups) groups nothing ∷ said))) (sym at)
        (subst (λ (g : List GroupWeight). SomeSetHasGroups (left_of (next_of said)) (sets_of (bonds (length g) g nothing ∷ said))) (sym all) some)
groups_verdict Limit groups left said words new line r enough same at judged = absurd judged
groups_verdict (Good item) groups left said words new line r enough same at judged =
    let kept = r.kept enough in
    let all : groups ≡ r.items.groups = same ∙ kept.0 in
    let states : bonds (length groups) groups nothing ≡ bonds (slice_index r.numbers 0) r.items.groups r.items.rest =
    (λ i. bonds ((ap length all ∙ kept.1.stated) i) (all i) (sym kept.1.complete i)) in (
      bonds (slice_index r.numbers 0) r.items.groups r.items.rest,
      record {
        is = r.is;
        in_range = r.in_range;
        agrees = (
          kept.1,
          subst (λ (k : ℕ). SomeSetHasGroups k (sets_of (bonds (slice_index r.numbers 0) r.items.groups r.items.rest ∷ said))) at
              (subst (λ (x : Line). SomeSetHasGroups left (sets_of (x ∷ said))) states judged.2),
        );
        held = subst (λ (x : Line). HoldsDraft new (x ∷ said)) states judged.0;
        steady = subst (λ (x : Item). Steady x (bonds (slice_index r.numbers 0) r.items.groups r.items.rest ∷ said) said) (sym judged.3) refl;
        gives = sym (append-nil (items_of said)) ∙ ap (λ (x : Item). items_of said ++ item_list x) (sym judged.3);
      },
    )
