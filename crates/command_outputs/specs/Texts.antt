-- What `check`, `upgrade`, `make`, `drill` and `edit` write.
use Rattle.std.specs.Prelude.{ℕ, ◌++◌, List, length, codes, decimal}
use Rattle.carp_base.specs.Problem.{Problem, total_demand}
use Rattle.plan_print.specs.NumberLines.{number_line}
use Rattle.plan_print.specs.Report.{gap_line}

-- a word, and the cost and the bound that are stated
unfoldable pub answer_text : List ℕ → (cost bound : ℕ) → List ℕ
answer_text word cost bound = word ++ number_line (codes "cost ") cost ++ number_line (codes "bound ") bound

-- the numbers of a town that was made
unfoldable pub made_text : Problem → List ℕ
made_text p = (codes "made vertices " ++ decimal p.vertices) ++ (codes " edges " ++ decimal (length p.edges)) ++ number_line (codes " required ") p.required

-- what a drill was, and the town
unfoldable pub drill_line : (seed asked : ℕ) → List ℕ
drill_line seed asked = (codes "drill seed " ++ decimal seed) ++ number_line (codes " turns ") asked

unfoldable pub town_line : Problem → List ℕ
town_line p = (codes "edges " ++ decimal (length p.edges)) ++ (codes " required " ++ decimal p.required) ++ number_line (codes " demand ") (total_demand p)

-- what came of it
unfoldable pub result_text : (cost bound turns : ℕ) → List ℕ
result_text cost bound turns = number_line (codes "cost ") cost ++ number_line (codes "bound ") bound ++ number_line (codes "turns ") turns

unfoldable pub drill_text : (seed asked : ℕ) → Problem → (cost bound turns : ℕ) → List ℕ
drill_text seed asked p cost bound turns = drill_line seed asked ++ town_line p ++ result_text cost bound turns ++ codes "accepted\n"

-- how many edges an edited instance has, and how many were closed; the cost and the bound of the certificate that was carried over to it, and the gap
-- between them
unfoldable pub edited_line : (edges closed : ℕ) → List ℕ
edited_line edges closed = (codes "edited edges " ++ decimal edges) ++ number_line (codes " closed ") closed

unfoldable pub edit_text : (edges closed cost bound : ℕ) → List ℕ
edit_text edges closed cost bound = answer_text (edited_line edges closed) cost bound ++ gap_line cost bound
