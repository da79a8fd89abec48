use Rattle.std.proofs.Common.{◌≡◌, ◌<◌, ◌+◌, ◌*◌, ◌∙◌, true, false, sym, subst, arith, length, get_or, set, inl, inr}
use Rattle.std.proofs.lemmas.Bool.{cases_eq}
use Rattle.std.proofs.lemmas.List.{get_or-set_same, get_or-set_other}
use Rattle.blossom_match.proofs.Cells.{cell_in, row_of_cell, column_of_cell}
use Rattle.blossom_match.proofs.beginning.hold_singles.Goals as goal

pub loop-v-preserved : goal.loop-v-preserved
loop-v-preserved c =
    let n = c.args.size in
    let v = c.loop-v.v in
    let cell : c.loop-v.v * c.args.size + c.loop-v.v < length c.loop-v.held =
    omega (arith, cell_in c.args.size (2 * c.args.size) c.loop-v.v c.loop-v.v (omega arith) (omega arith), c.requires.len, c.loop-v.auto.held) in
    record {
      own = λ k below. elim (cases_eq k c.loop-v.v) [
        | inl same ↦ subst (λ x. get_or (set c.loop-v.held (c.loop-v.v * c.args.size + c.loop-v.v) true) (x * c.args.size + x) false ≡ true) (sym same)
            (get_or-set_same c.loop-v.held (c.loop-v.v * c.args.size + c.loop-v.v) true false cell)
        | inr other ↦
            get_or-set_other c.loop-v.held (c.loop-v.v * c.args.size + c.loop-v.v) (k * c.args.size + k) true false
            (λ e. other (row_of_cell c.args.size k k c.loop-v.v c.loop-v.v (omega arith) (omega arith) e))
            ∙ c.loop-v.invariant.own k (omega (arith, other, below))
      ];
      others = λ s w w_in apart.
          get_or-set_other c.loop-v.held (c.loop-v.v * c.args.size + c.loop-v.v) (s * c.args.size + w) true false
          (λ e. apart (row_of_cell c.args.size s w c.loop-v.v c.loop-v.v w_in (omega arith) e ∙ sym (column_of_cell c.args.size s w c.loop-v.v c.loop-v.v w_in (omega arith) e)))
          ∙ c.loop-v.invariant.others s w w_in apart;
    }
