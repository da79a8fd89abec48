-- What each answer to an event keeps of the tree. No public contract speaks of this.
use Rattle.std.specs.Prelude.{◌≡◌, ℕ, ◌<◌}
use Rattle.blossom_match.specs.declared.state.State.{State}
use Rattle.blossom_match.specs.declared.state.Label.TheVariants.{Outer}
use Rattle.blossom_match.specs.Turns.{top_of, label_of}

-- outer members stay so, what is in one outer node stays together, and the sums stay
pub record IsGrowth (before now : State) : Type 0 where
  pub size : now.size ≡ before.size
  pub sums : now.sums.items ≡ before.sums.items
  pub outer : (v : ℕ) → v < before.size → label_of before (top_of before v) ≡ Outer → label_of now (top_of now v) ≡ Outer
  pub together : (u v : ℕ) → u < before.size → v < before.size → label_of before (top_of before u) ≡ Outer → top_of before u ≡ top_of before v → top_of now u ≡ top_of now v
