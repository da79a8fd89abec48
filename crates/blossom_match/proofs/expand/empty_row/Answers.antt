use Rattle.std.proofs.Common.{◌≡◌, ◌<◌, ◌+◌, ◌*◌, ◌∙◌, false, sym, subst, arith, length, get_or, set, inl, inr}
use Rattle.std.proofs.lemmas.Bool.{cases_eq}
use Rattle.std.proofs.lemmas.List.{get_or-set_same, get_or-set_other}
use Rattle.blossom_match.proofs.Cells.{cell_in, row_of_cell}
use Rattle.blossom_match.proofs.expand.empty_row.Goals as goal

pub loop-v-preserved : goal.loop-v-preserved
loop-v-preserved c =
    let cell : c.args.s * c.args.size + c.loop-v.v < length c.loop-v.held =
    omega (arith, cell_in c.args.size (2 * c.args.size) c.args.s c.loop-v.v c.requires.s_in c.loop-v-test.true, c.requires.len, c.loop-v.auto.held) in
    record {
      own = λ k below. elim (cases_eq k c.loop-v.v) [
        | inl same ↦ subst (λ x. get_or (set c.loop-v.held (c.args.s * c.args.size + c.loop-v.v) false) (c.args.s * c.args.size + x) false ≡ false) (sym same)
            (get_or-set_same c.loop-v.held (c.args.s * c.args.size + c.loop-v.v) false false cell)
        | inr other ↦
            get_or-set_other c.loop-v.held (c.args.s * c.args.size + c.loop-v.v) (c.args.s * c.args.size + k) false false (λ e. other (omega (arith, e)))
            ∙ c.loop-v.invariant.own k (omega (arith, other, below))
      ];
      others = λ t w w_in apart.
          get_or-set_other c.loop-v.held (c.args.s * c.args.size + c.loop-v.v) (t * c.args.size + w) false false
          (λ e. apart (row_of_cell c.args.size t w c.args.s c.loop-v.v w_in c.loop-v-test.true e))
          ∙ c.loop-v.invariant.others t w w_in apart;
    }
