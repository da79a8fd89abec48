use Rattle.tight_prices.proofs.Passing.{filled_by, fits_by}
use Rattle.tight_prices.proofs.fitting.fits.Goals as goal

pub returns-clause-answer : goal.returns-clause-answer
returns-clause-answer c =
    fits_by (record { problem = c.args.inst.now; pool = c.args.pool.now; branch = c.args.branch.now }) c.args.set.now c.try_set.new.table c.in_ok-found.found c.has_uppers-uppers.result c.has_yes-yes.result c.all_hold.result
    c.in_ok-found.ensures.says c.has_uppers-uppers.ensures c.has_yes-yes.ensures c.all_hold.ensures.yes c.all_hold.ensures.no c.requires.one_each

pub returns-clause-filled : goal.returns-clause-filled
returns-clause-filled c =
    filled_by (record { problem = c.args.inst.now; pool = c.args.pool.now; branch = c.args.branch.now }) c.args.set.now c.try_set.new.table c.in_ok-found.found c.in_ok-found.ensures.says
