-- What is missing after the last line.
use Rattle.std.proofs.Common.{◌≡◌, ℕ, true, false, Some, None, is_some, IsTrue, sym, ap, ◌∙◌}
use Rattle.dat_text.specs.declared.key.Key.{Key}
use Rattle.dat_text.specs.declared.draft.Draft.{Draft}
use Rattle.dat_text.specs.Lines.{has_number}
use Rattle.dat_text.specs.Text.{stands, LatestFirst}
use Rattle.dat_text.specs.Drafts.{number_there, at_key, Matches}

-- a key at which a number is kept stands, and one at which none is does not
pub stands_by : (k : Key) (said : LatestFirst) (draft : Draft) → IsTrue (has_number k) → Matches said draft → stands k said ≡ is_some (number_there (at_key k draft))
stands_by k said draft numbered m = sym (m.stands k) ∙ m.fits k numbered

pub is_missing : (k : Key) (said : LatestFirst) (draft : Draft) → IsTrue (has_number k) → Matches said draft → number_there (at_key k draft) ≡ None → stands k said ≡ false
is_missing k said draft numbered m none = stands_by k said draft numbered m ∙ ap is_some none

pub is_present : (k : Key) (said : LatestFirst) (draft : Draft) → IsTrue (has_number k) → Matches said draft → (n : ℕ) → number_there (at_key k draft) ≡ Some n → stands k said ≡ true
is_present k said draft numbered m n there = stands_by k said draft numbered m ∙ ap is_some there
