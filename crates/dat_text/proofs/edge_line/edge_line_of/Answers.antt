use Rattle.std.proofs.Common.{sym, ◌∙◌, subst}
use Rattle.std.proofs.lemmas.Bool.{false≢true}
use Rattle.std.proofs.lemmas.Option.{none-some}
use Rattle.dat_text.specs.Lines.{EdgeNumbers, FitsList}
use Rattle.dat_text.specs.Kinds.{edge_numbers}
use Rattle.dat_text.proofs.EdgeLines.{edge_found, edge_consists, some_is}
use Rattle.dat_text.proofs.edge_line.edge_line_of.Goals as goal

pub returns-in-None-clause-none : goal.returns-in-None-clause-none
returns-in-None-clause-none c = λ _ x h. none-some x (c.in-None.ensures ∙ edge_found c.args.list x c.args.line.now h)

pub returns-then-fits_list-clause-found : goal.returns-then-fits_list-clause-found
returns-then-fits_list-clause-found c = record {
  fits = c.fits_list.ensures.0 c.if-fits_list.true;
  consists = edge_consists c.args.line.now (edge_numbers c.in-Some.numbers) (sym c.in-Some.ensures);
}

pub returns-else-fits_list-clause-none : goal.returns-else-fits_list-clause-none
returns-else-fits_list-clause-none c = λ _ x h.
    let read = edge_numbers c.in-Some.numbers in
    let same = some_is read x (c.in-Some.ensures ∙ edge_found c.args.list x c.args.line.now h) in
    false≢true (sym c.if-fits_list.false ∙ c.fits_list.ensures.1 (subst (λ (y : EdgeNumbers). FitsList c.args.list y) (sym same) h.fits))
