use Rattle.std.proofs.Common.{List, ℕ, ◌++◌, take}
use Rattle.cert_lines.specs.Words.{HoldsWord}
use Rattle.cert_lines.proofs.word.Word.extend.Given as goal

abbrev pub invariant-loop-byte : goal.invariant-loop-byte
invariant-loop-byte l = (text : List ℕ) → HoldsWord l.fn.self text → HoldsWord l.self (text ++ take l.byte-index l.piece)
