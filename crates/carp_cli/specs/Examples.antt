-- Small data for the examples beside the tests.
use Rattle.std.specs.Prelude.{ℕ, [], None, List, codes}
use Rattle.carp_base.specs.Problem.{Problem}
use Rattle.cert_lines.specs.Certificates.{Certificate}
use Rattle.command_line.specs.Commands.{Command, Solve, Check, Make, Postman, Edit, Improve}
use Rattle.carp_cli.specs.Outside.{Outside}

-- an instance with nothing to serve
abbrev pub idle : Problem
idle = record { vertices = 1; depot = 1; capacity = 1; required = 0; edges = [] }

-- a certificate of no tours that states this cost and this bound
abbrev pub stating : ℕ → ℕ → Certificate
stating cost bound = record { counts = None; cost = cost; bound = bound; plan = []; shores = []; sets = []; nodes = [] }

abbrev pub solving : Command
solving = Solve (codes "f") (codes "c") 64 1

abbrev pub checking : Command
checking = Check (codes "f") (codes "c")

abbrev pub making : Command
making = Make (codes "f") 1

abbrev pub touring : Command
touring = Postman (codes "f")

abbrev pub editing : Command
editing = Edit (codes "f") (codes "c") (codes "e") (codes "g") (codes "d")

abbrev pub improving : Command
improving = Improve (codes "f") (codes "c") (codes "n") 64 1

-- this is written and so many keeps failed; no name holds anything, and no other call failed
abbrev pub outside : List ℕ → ℕ → Outside
outside written keeps = record { contents = λ _. None; failed_looks = λ _. 0; failed_keeps = keeps; given = 0; written = written; failed_puts = 0; offered = [] }
