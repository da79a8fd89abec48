-- What is made of a shore.
use Rattle.std.proofs.Common.{◌≡◌, ◌≢◌, ℕ, zero, suc, ◌<◌, ◌≤◌, List, [], ◌∷◌, ◌++◌, length, get_or, slice_index, true, refl, sym, ap, subst, ◌∙◌, inr, arith}
use Rattle.std.specs.List.{All}
use Rattle.std.proofs.lemmas.List.{append-nil}
use Rattle.cut_pool.specs.Pools.{Holds, IsHeldAs}
use Rattle.cut_pool.specs.Shores.{IsShore}
use Rattle.cert_lines.specs.declared.item.Item.{Item}
use Rattle.cert_lines.specs.Lines.{Line, shore}
use Rattle.cert_lines.specs.Order.{LatestFirst}
use Rattle.cert_lines.specs.Certificates.{shores_of}
use Rattle.cert_lines.specs.Texts.{items_of}
use Rattle.cert_format.specs.declared.draft.Draft.{Draft}
use Rattle.cert_format.specs.declared.judging.Verdict.{Verdict}
use Rattle.cert_format.specs.declared.judging.Verdict.TheVariants.{Syntax, Limit, Good}
use Rattle.cert_format.specs.declared.line.LineState.{LineState}
use Rattle.cert_format.specs.declared.kind.Kind.TheVariants.{Shore}
use Rattle.cert_format.specs.Drafts.{HoldsDraft}
use Rattle.cert_format.specs.Judging.{ShoreJudged, Judged, has_stated, item_list, Steady}
use Rattle.cert_format.specs.Readiness.{IsReady}

any_default : (pool : List (List ℕ)) (k : ℕ) (d : List ℕ) → k < length pool → get_or pool k d ≡ get_or pool k []
any_default [] k d below = absurd (omega (arith, below))
any_default (p ∷ pool) zero d below = refl
any_default (p ∷ pool) (suc k) d below = any_default pool k d (omega (arith, below))

held_not_new : (pool : List (List ℕ)) (vertices : List ℕ) (i : ℕ) → IsHeldAs pool vertices i → All (λ other. other ≢ vertices) pool → ⊥
held_not_new pool vertices zero held new = absurd (omega (arith, held.number.from_one))
held_not_new pool vertices (suc k) held new = new k [] (omega (arith, held.number.in_range)) held.same

new_not_held : (pool : List (List ℕ)) (vertices : List ℕ) → (Holds pool vertices → ⊥) → All (λ other. other ≢ vertices) pool
new_not_held pool vertices none = λ k d below same.
    none (suc k, record { number = record { from_one = omega arith; in_range = omega (arith, below) }; same = sym (any_default pool k d below) ∙ same })

filled : (xs : List ℕ) (n : ℕ) → length xs ≡ n → 1 ≤ n → xs ≢ []
filled [] n long some e = absurd (omega (arith, long, some))
filled (x ∷ xs) n long some e = (let both : x ∷ xs ≡ [] = e in cc)

pub shore_verdict : (verdict : Verdict) (vertices : List ℕ) (said : LatestFirst) (words : List (List ℕ)) (new : Draft) (line : LineState) → (r : IsReady Shore said line words) → has_stated Shore line ≡ true → vertices ≡ line.vertices.kept.items →
    ShoreJudged verdict vertices said new → Judged verdict said words new
shore_verdict Syntax vertices said words new line r enough same judged =
    let kept = r.kept enough in
    let all : vertices ≡ r.items.vertices = same ∙ kept.0 in (
      judged.0,
      inr (
        shore (slice_index r.numbers 0) r.items.vertices,
        record {
          is = r.is;
          in_range = r.in_range;
          disagrees = λ agrees.
              (let is_shore : IsShore r.items.vertices = record { some = filled r.items.vertices (slice_index r.numbers 0) agrees.stated r.in_range.0.from_first; rising = agrees.rising } in
              let h = judged.1 (subst IsShore (sym all) is_shore) in
              held_not_new (shores_of said) r.items.vertices h.0 (subst (λ (x : List ℕ). IsHeldAs (shores_of said) x h.0) all h.1) agrees.new);
        },
      ),
    )
shore_verdict Limit vertices said words new line r enough same judged = absurd judged
shore_verdict (Good item) vertices said words new line r enough same judged =
    let kept = r.kept enough in
    let all : vertices ≡ r.items.vertices = same ∙ kept.0 in
    let states : shore (length vertices) vertices ≡ shore (slice_index r.numbers 0) r.items.vertices =
    ap (λ (x : List ℕ). shore (length x) x) all ∙ ap (λ (k : ℕ). shore k r.items.vertices) kept.1 in (
      shore (slice_index r.numbers 0) r.items.vertices,
      record {
        is = r.is;
        in_range = r.in_range;
        agrees = record {
          stated = kept.1;
          rising = (subst IsShore all judged.1).rising;
          new = new_not_held (shores_of said) r.items.vertices (subst (λ (x : List ℕ). Holds (shores_of said) x → ⊥) all judged.2);
        };
        held = subst (λ (x : Line). HoldsDraft new (x ∷ said)) states judged.0;
        steady = subst (λ (x : Item). Steady x (shore (slice_index r.numbers 0) r.items.vertices ∷ said) said) (sym judged.3) refl;
        gives = sym (append-nil (items_of said)) ∙ ap (λ (x : Item). items_of said ++ item_list x) (sym judged.3);
      },
    )
