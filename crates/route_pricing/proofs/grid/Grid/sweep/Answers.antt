use Rattle.std.proofs.Common.{◌≡◌, ℕ, arith, ap, subst, sym, inl, inr, ◌∙◌, false}
use Rattle.std.proofs.lemmas.Bool.{cases_eq}
use Rattle.route_pricing.specs.Labels.{is_marked, visited_at}
use Rattle.route_pricing.proofs.PartialTours.{not_both}
use Rattle.route_pricing.proofs.Marking.{carries_more, swept}
use Rattle.route_pricing.proofs.grid.Grid.sweep.Goals.{then-visit, else-visit}
use Rattle.route_pricing.proofs.grid.Grid.sweep.Goals as goal

pub loop-place-preserved : goal.loop-place-preserved
loop-place-preserved c =
    let g = c.args.self.now in
    let loop = c.loop-place.invariant in
    let one = c.visit.ensures in
    record {
      on = carries_more g c.args.layer.now c.loop-place.layer c.visit.new.layer loop.on one.on;
      marks = one.marks;
      marked = one.marked;
      falls = omega (arith, one.falls, loop.falls);
      work = λ found. elim c.if-visit.branch [
        | then-visit w ↦ omega (arith, one.work w.if-visit.true, loop.falls)
        | else-visit w ↦ omega (arith, one.falls, loop.work (sym w.found-is ∙ found))
      ];
      none = λ found. elim c.if-visit.branch [
        | then-visit w ↦ absurd (not_both c.if-visit.found w.found-is found)
        | else-visit w ↦ λ j before.
            let still = one.still w.if-visit.false in
            let is_not : ℕ → Type 0 = λ k. is_marked c.visit.new.marks (visited_at c.args.up g.inst.vertices k) ≡ false in
            elim (cases_eq j c.loop-place.place) [
              | inl same ↦ subst is_not (sym same) (ap (λ ms. is_marked ms (visited_at c.args.up g.inst.vertices c.loop-place.place)) still.1 ∙ ap (is_marked c.loop-place.marks) (sym c.visited_at.ensures.value) ∙ still.2)
              | inr other ↦ ap (λ ms. is_marked ms (visited_at c.args.up g.inst.vertices j)) still.1 ∙ loop.none (sym w.found-is ∙ found) j (omega (arith, before, other))
            ]
      ];
    }

pub returns-clause-settled : goal.returns-clause-settled
returns-clause-settled c = λ none.
    swept c.args.self.now c.requires.grid c.loop-place.layer c.loop-place.marks c.args.up c.loop-place.invariant.marked
    (λ j below. c.loop-place.invariant.none none j (omega (arith, below, c.loop-place-test.false, c.vertices-place-end.ensures.value, c.loop-place.auto.place-end)))
