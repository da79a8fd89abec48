-- Weights that stay.
use Rattle.std.proofs.Common.{◌≡◌, ℕ, List, [], ◌∷◌, length, refl, ◌∙◌, arith}
use Rattle.branch_rules.specs.Prices.{Prices}
use Rattle.tight_prices.specs.Places.{IsOnShore, raised}
use Rattle.tight_prices.specs.Tight.{AreKept}
use Rattle.tight_prices.specs.declared.place.Place.{Place}
use Rattle.tight_prices.specs.declared.place.Place.TheVariants as places
use Rattle.tight_prices.proofs.Weighed.{weight_else}

pub kept_step : (set : Prices) (place : Place) (d : ℕ) → AreKept (IsOnShore place) set (raised set place d)
kept_step set (places.Edge e) d shore not = refl
kept_step set (places.Shore s) d shore not = weight_else s shore d set.weights not

pub kept_on : (Changes : ℕ → Type 0) (one two three : Prices) → AreKept Changes one two → AreKept Changes two three → AreKept Changes one three
kept_on Changes one two three first second shore not = second shore not ∙ first shore not

pub kept_wider : (Changes Others : ℕ → Type 0) (set other : Prices) → ((shore : ℕ) → Changes shore → Others shore) → AreKept Changes set other → AreKept Others set other
kept_wider Changes Others set other wider kept shore not = kept shore (λ is. not (wider shore is))

-- a shore of one vertex
pub vertex_of : (shore : List ℕ) → length shore ≡ 1 → (v : ℕ) × (shore ≡ v ∷ [])
vertex_of [] one = absurd (omega (arith, one))
vertex_of (v ∷ []) one = (v, refl)
vertex_of (v ∷ (w ∷ shore)) one = absurd (omega (arith, one))
