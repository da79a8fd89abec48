use Rattle.dual_master.proofs.Ratios.{ratio_set_fine}
use Rattle.dual_master.proofs.ratio.prices_by.Goals as goal

pub new-requires : goal.new-requires
new-requires c =
    rw (c.deref.ensures.value, c.in_ok-services.ensures) (ratio_set_fine c.args.inst.now c.args.ratio.now.deadhead c.args.ratio.now.load c.validity.ensures c.requires)
