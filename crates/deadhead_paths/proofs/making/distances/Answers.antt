use Rattle.std.proofs.Common.{◌≡◌, ◌+◌, ◌++◌, length, arith, ap, subst, sym, ◌∙◌}
use Rattle.deadhead_paths.specs.Table.{IsTowards, row_of}
use Rattle.deadhead_paths.proofs.Rows.{rows_more}
use Rattle.deadhead_paths.proofs.Filling.{towards_more, table_whole}
use Rattle.deadhead_paths.proofs.making.distances.Goals as goal

pub loop-target-preserved : goal.loop-target-preserved
loop-target-preserved c =
    let p = c.args.inst.now in
    let width = p.vertices + 1 in
    let loop = c.loop-target.invariant in
    let target = c.loop-target.target in
    let search = c.in_ok-search.search in
    let row = c.in_ok-search.ensures in
    let labels = c.loop-target.labels.items in
    let nexts = c.loop-target.nexts.items in
    let labels_are : c.extend_from_slice.new.self.items ≡ labels ++ search.labels.items = c.in_ok-extend_from_slice.ensures.items ∙ ap (λ xs. labels ++ xs) c.deref.ensures.value in
    let nexts_are : c.extend_from_slice-in-loop-target.new.self.items ≡ nexts ++ search.nexts.items =
    c.in_ok-extend_from_slice-2.ensures.items ∙ ap (λ xs. nexts ++ xs) c.deref-in-loop-target.ensures.value in
    record {
      from_one = omega arith;
      labels_long = ap length labels_are ∙ rows_more width labels search.labels.items target loop.from_one loop.labels_long row.labels_long;
      nexts_long = ap length nexts_are ∙ rows_more width nexts search.nexts.items target loop.from_one loop.nexts_long row.nexts_long;
      rows = λ v from_one before.
          subst (λ xs. IsTowards p c.args.prices.now v (row_of width xs v) (row_of width c.extend_from_slice-in-loop-target.new.self.items v)) (sym labels_are)
          (subst (λ xs. IsTowards p c.args.prices.now v (row_of width (labels ++ search.labels.items) v) (row_of width xs v)) (sym nexts_are)
          (towards_more p c.args.prices.now labels nexts search.labels.items search.nexts.items target loop.from_one loop.labels_long loop.nexts_long row loop.rows v from_one before));
    }

pub invariant_of-result : goal.invariant_of-result
invariant_of-result c =
    let loop = c.loop-target.invariant in
    table_whole c.args.inst.now _ c.args.prices.now _ c.loop-target.labels.items c.loop-target.nexts.items c.loop-target.target
    c.vertices-vertices.ensures.valid c.requires.prices c.in_ok-copy.ensures c.in_ok-from_slice.ensures.items (omega (arith, c.vertices-vertices.ensures.value)) loop.labels_long loop.nexts_long loop.rows
