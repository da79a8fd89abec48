use Rattle.std.proofs.Common.{◌≡◌, ℕ, ◌<◌, ◌≤◌, sym, arith}
use Rattle.flow_cut.proofs.examples.no_flow.Goals as goal

apart : (a b : ℕ) → a ≡ b → b < a → ⊥
apart a b same less = omega arith

pub returns-clause-above_a_room : goal.returns-clause-above_a_room
returns-clause-above_a_room c = λ flow. let above : 3 ≤ 2 = flow.rooms.within 1 in omega arith

pub returns-clause-out_of_balance : goal.returns-clause-out_of_balance
returns-clause-out_of_balance c = λ flow. apart 3 2 (flow.balanced 2 (λ same. apart 2 1 same (omega arith)) (λ same. apart 3 2 (sym same) (omega arith))) (omega arith)

pub returns-clause-of_this_value : goal.returns-clause-of_this_value
returns-clause-of_this_value c = λ flow. apart 2 1 (sym flow.value_is) (omega arith)

pub returns-clause-without_an_arc : goal.returns-clause-without_an_arc
returns-clause-without_an_arc c = λ flow. apart 2 1 (sym flow.rooms.one_each) (omega arith)
