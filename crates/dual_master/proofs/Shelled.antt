-- The level sets with their numbers of levels: they fit, and their value is the Shell floor.
use Rattle.std.proofs.Common.{◌≡◌, ℕ, List, take, sym, subst, arith, Result, Ok, Err}
use Rattle.std.specs.List.{All}
use Rattle.std.specs.Result.{IfOk, OnOk}
use Rattle.std.proofs.lemmas.Int.{ints}
use Rattle.std.proofs.lemmas.List.Elements.{All-map, All-take}
use Rattle.carp_base.specs.Problem.{Problem, IsValid}
use Rattle.cut_pool.specs.declared.shore.Weighted.{Weighted}
use Rattle.cut_pool.specs.Shores.{Belongs}
use Rattle.deadhead_paths.specs.Laws.{FewStepsAreLeast}
use Rattle.capacity_cuts.specs.Laws.{ShellsPack, ShellsWeighTheirNeeds}
use Rattle.capacity_cuts.specs.Levels.{AreShells}
use Rattle.dual_master.specs.Floors.{FitsAlways, ReachesShell, ShowsShell, shores_of}
use Rattle.dual_master.specs.Pieces.{ArePlaceable, HoldsFirst, prices_of}
use Rattle.dual_master.proofs.Nested.{shells_placeable}
use Rattle.dual_master.proofs.Packed.{shores_fit, value_is}

-- two facts of an answer give a third
pub both_on_ok : {T E : Type 0} (r : Result T E) (P : T → Type 0) (Q : Type 0) (R : T → Type 0) → ((x : T) → P x → Q → R x) → IfOk r P → OnOk r Q → IfOk r R
both_on_ok (Ok x) P Q R gives first second = gives x first second
both_on_ok (Err e) P Q R gives first second = tt

-- the first of shores that belong
pub first_belong : (p : Problem) (shores : List Weighted) (pool : List (List ℕ)) → ArePlaceable p shores → HoldsFirst shores pool → All (Belongs p) pool
first_belong p shores pool placeable first =
    subst (All (Belongs p)) (sym first.held)
    (All-map (Belongs p) (λ (s : Weighted). s.shore) (take first.count shores) (All-take (λ (s : Weighted). Belongs p s.shore) first.count shores placeable.belong))

module _ (few : FewStepsAreLeast) (p : Problem) (pool : List (List ℕ)) (shells : List Weighted) (valid : IsValid p) (are : AreShells p shells) (held : pool ≡ shores_of shells) where
  placeable : ArePlaceable p shells
  placeable = shells_placeable few p valid shells are

  pub shell_fits : ShellsPack → FitsAlways p pool (prices_of p 1 shells)
  shell_fits pack = shores_fit p pool 1 shells valid held placeable (λ e number. omega (arith, pack p shells valid are e number))

  pub shell_shows : ShellsWeighTheirNeeds → ShowsShell p pool (prices_of p 1 shells)
  shell_shows weigh level k levels far = omega (arith, ints, value_is p pool 1 shells valid held placeable, weigh p shells level k valid are levels far)

  pub shell_reaches : ShellsWeighTheirNeeds → ReachesShell p pool (prices_of p 1 shells)
  shell_reaches weigh level k levels far = omega (arith, ints, shell_shows weigh level k levels far)
