use Rattle.std.proofs.Common.{◌≡◌, ◌++◌, take}
use Rattle.std.specs.List.{flat_map}
use Rattle.cert_format.specs.Pieces.{set_text}
use Rattle.cert_format.proofs.writing.push_each_set.Given as goal

-- those so far are written
abbrev pub invariant-loop-set : goal.invariant-loop-set
invariant-loop-set l = l.text.items ≡ l.fn.text.items ++ flat_map (set_text l.grouped) (take l.set-index l.sets)
