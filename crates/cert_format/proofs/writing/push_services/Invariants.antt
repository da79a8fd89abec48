use Rattle.std.proofs.Common.{◌≡◌, ◌++◌, take}
use Rattle.std.specs.List.{flat_map}
use Rattle.cert_format.specs.Pieces.{price_piece}
use Rattle.cert_format.proofs.writing.push_services.Given as goal

-- those so far are written
abbrev pub invariant-loop-i : goal.invariant-loop-i
invariant-loop-i l = l.text.items ≡ l.fn.text.items ++ flat_map price_piece (take l.i l.set.services)
