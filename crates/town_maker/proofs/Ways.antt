-- Each vertex of a town is reached from each other one, by way of the first corner.
use Rattle.std.proofs.Common.{◌≡◌, inl, inr, ℕ, zero, suc, ◌+◌, ◌<◌, ◌≤◌, true, false, List, [], ◌∷◌, ◌++◌, refl, sym, subst, add-one, arith}
use Rattle.std.proofs.lemmas.Bool.{cases_lt}
use Rattle.carp_base.specs.declared.edge.Task.{Task}
use Rattle.carp_base.specs.Problem.{Problem, IsReached, TasksLead, edge_at, head_of}
use Rattle.town_maker.specs.Streets.{corner, street_along, street_down}
use Rattle.town_maker.proofs.Corners.{along_there, down_there}
use Rattle.town_maker.proofs.Facts.{Joined, IsTown}

record Way (p : Problem) (a b : ℕ) : Type 0 where
  path : List Task
  leads : TasksLead p a path b

leads_on : (p : Problem) (first second : List Task) (a b c : ℕ) → TasksLead p a first b → TasksLead p b second c → TasksLead p a (first ++ second) c
leads_on p [] second a b c to on = subst (λ x. TasksLead p x second c) (sym to) on
leads_on p (t ∷ ts) second a b c to on = (to.0, to.1, leads_on p ts second (head_of (edge_at p t.edge) t.forward) b c to.2 on)

-- there, and back again
record Ways (p : Problem) (a b : ℕ) : Type 0 where
  there : Way p a b
  back : Way p b a

onward : {p : Problem} {a b c : ℕ} → Way p a b → Way p b c → Way p a c
onward {p} {a} {b} {c} to on = record { path = to.path ++ on.path; leads = leads_on p to.path on.path a b c to.leads on.leads }

staying : (p : Problem) (a : ℕ) → Ways p a a
staying p a = let way : Way p a a = record { path = []; leads = refl } in record { there = way; back = way }

over : {p : Problem} {a b c : ℕ} → Ways p a b → Joined p b c → Ways p a c
over {p} {a} {b} {c} to by =
    let there : Way p b c = record { path = record { edge = by.e; forward = true } ∷ []; leads = (by.number, by.at_u, by.at_v) } in
    let back : Way p c b = record { path = record { edge = by.e; forward = false } ∷ []; leads = (by.number, by.at_v, by.at_u) } in
    record { there = onward to.there there; back = onward back to.back }

module _ (p : Problem) (town : IsTown p) where
  down : (i : ℕ) → i < 10 → Ways p (corner 0 0) (corner i 0)
  down zero row = staying p (corner 0 0)
  down (suc i) row = subst (λ k. Ways p (corner 0 0) (corner k 0)) (add-one i) (over (down i (omega arith)) (town.joined (street_down i 0) (down_there i 0 (omega arith) (omega arith))))

  along : (i j : ℕ) → i < 10 → j < 10 → Ways p (corner 0 0) (corner i j)
  along i zero row column = down i row
  along i (suc j) row column = subst (λ k. Ways p (corner 0 0) (corner i k)) (add-one j) (over (along i j row (omega arith)) (town.joined (street_along i j) (along_there i j row (omega arith))))

  -- the row and the column of a vertex
  spot : (n : ℕ) → n < 100 → (i : ℕ) × (j : ℕ) × (i < 10) × (j < 10) × (n + 1 ≡ corner i j)
  spot zero within = (0, 0, omega arith, omega arith, refl)
  spot (suc n) within =
      let s = spot n (omega arith) in
      let row = s.2 in
      let column = s.3 in
      let is = s.4 in
      elim (cases_lt s.1 9) [
        | inl more ↦ (s.0, s.1 + 1, row, omega (arith, more), omega (arith, is))
        | inr last ↦ (s.0 + 1, 0, omega (arith, is, last, column, within), omega arith, omega (arith, is, last, column))
      ]

  from_first : (v : ℕ) → 1 ≤ v → v ≤ 100 → Ways p (corner 0 0) v
  from_first zero from within = absurd (omega arith)
  from_first (suc n) from within =
      let s = spot n (omega arith) in
      let is = s.4 in
      let e : corner s.0 s.1 ≡ suc n = omega (arith, is) in
      subst (λ v. Ways p (corner 0 0) v) e (along s.0 s.1 s.2 s.3)

  pub reached : (v : ℕ) → 1 ≤ v → v ≤ 100 → IsReached p v
  reached v from within =
      let way = onward (from_first p.depot town.depot_from town.depot_in).back (from_first v from within).there in
      record { path = way.path; leads = way.leads }
