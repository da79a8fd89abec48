use Rattle.std.proofs.Common.{◌≡◌, List, ℕ, rules, sym, subst}
use Rattle.dat_text.specs.DatText.{dat_of}
use Rattle.dat_text.specs.Text.{IsTextOf}
use Rattle.dat_text.proofs.RoundTrip.{written_text}
use Rattle.dat_text.proofs.write.write_dat.Goals as goal

pub returns-clause-read : goal.returns-clause-read
unfolding dat_of
returns-clause-read c =
    let p = c.args.inst.now in
    let same : c.push_key_line.new.text.items ≡ dat_of p = search rules in
    subst (λ (text : List ℕ). IsTextOf text p) (sym same) (written_text p c.depot.ensures.valid)
