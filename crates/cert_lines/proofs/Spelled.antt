-- The spelling of a certificate is read as this certificate.
use Rattle.std.proofs.Common.{◌≡◌, ℕ, Bool, true, false, cond, eqb, List, [], ◌∷◌, ◌++◌, map, length, Option, Some, None, refl, sym, ap, subst, ◌∙◌, append_assoc}
use Rattle.std.specs.List.{AllByRecursion, flat_map}
use Rattle.std.specs.Prelude.{IsSome}
use Rattle.std.proofs.lemmas.Bool.{false≢true, true≢false, or_parts}
use Rattle.std.proofs.lemmas.List.{append-nil}
use Rattle.plan_model.specs.declared.step.Step.{Step}
use Rattle.branch_rules.specs.Bonds.{GroupWeight}
use Rattle.branch_rules.specs.Prices.{Prices}
use Rattle.branch_rules.specs.declared.node.Node.{Node}
use Rattle.cert_lines.specs.declared.counts.Counts.{Counts}
use Rattle.cert_lines.specs.Lines.{cost, bound, tours, shores, sets, prices, weights, bonds, nodes, node, end, nothing, line_text}
use Rattle.cert_lines.specs.Order.{LatestFirst, version_of}
use Rattle.cert_lines.specs.Certificates.{Certificate, certificate_of, plan_of, shores_of, sets_of, nodes_of, some_group, has_groups}
use Rattle.cert_lines.specs.Spelling.{version_lines, tour_line, shore_line, set_lines, lines_of, text_of, HasCountsForGroups, IsSpellable}
use Rattle.cert_lines.specs.Texts.{AreRead, IsTextOf}
use Rattle.cert_lines.proofs.Listed.{listed, listed-append, text_is_cut, good_are_read}

-- What lists of lines add.

pub tours_said : (plan : List (List Step)) (said : LatestFirst) → certificate_of (listed (map tour_line plan) said) ≡ record (certificate_of said) { plan = plan_of said ++ plan }
tours_said [] said = λ i. record (certificate_of said) { plan = sym (append-nil (plan_of said)) i }
tours_said (steps ∷ plan) said = tours_said plan (tour_line steps ∷ said) ∙ (λ i. record (certificate_of said) { plan = append_assoc (plan_of said) (steps ∷ []) plan i })

pub shores_said : (pool : List (List ℕ)) (said : LatestFirst) → certificate_of (listed (map shore_line pool) said) ≡ record (certificate_of said) { shores = shores_of said ++ pool }
shores_said [] said = λ i. record (certificate_of said) { shores = sym (append-nil (shores_of said)) i }
shores_said (vertices ∷ pool) said = shores_said pool (shore_line vertices ∷ said) ∙ (λ i. record (certificate_of said) { shores = append_assoc (shores_of said) (vertices ∷ []) pool i })

-- in a text without groups a price set has none
abbrev pub IsSaidIn : (grouped : Bool) → Prices → Type 0
IsSaidIn true set = Unit {0}
IsSaidIn false set = set.groups ≡ []

-- the price set without its groups
abbrev pub bare : Prices → Prices
bare set = record set { groups = [] }

bare_is : (set : Prices) → set.groups ≡ [] → bare set ≡ set
bare_is set none = λ i. record set { groups = sym none i }

pub sets_said : (grouped : Bool) (all : List Prices) (said : LatestFirst) → eqb (version_of said) 4 ≡ grouped → AllByRecursion (IsSaidIn grouped) all →
    certificate_of (listed (flat_map (set_lines grouped) all) said) ≡ record (certificate_of said) { sets = sets_of said ++ all }
sets_said grouped [] said in_version none = λ i. record (certificate_of said) { sets = sym (append-nil (sets_of said)) i }
sets_said false (set ∷ all) said in_version none =
    sets_said false all (weights (length set.weights) set.weights ∷ prices set.unit (length set.services) set.services ∷ said) in_version none.1
    ∙ (λ i. record (certificate_of said) { sets = cond (in_version i) (sets_of said) (sets_of said ++ bare set ∷ []) ++ all })
    ∙ (λ i. record (certificate_of said) { sets = append_assoc (sets_of said) (bare_is set none.0 i ∷ []) all i })
sets_said true (set ∷ all) said in_version none =
    sets_said true all
    (bonds (length set.groups) set.groups nothing ∷ weights (length set.weights) set.weights ∷ prices set.unit (length set.services) set.services ∷ said) in_version none.1
    ∙ (λ i. record (certificate_of said) { sets = (cond (in_version i) (sets_of said) (sets_of said ++ bare set ∷ []) ++ set ∷ []) ++ all })
    ∙ (λ i. record (certificate_of said) { sets = append_assoc (sets_of said) (set ∷ []) all i })

no_group : (groups : List GroupWeight) → some_group groups ≡ false → groups ≡ []
no_group [] none = refl
no_group (w ∷ groups) none = absurd (true≢false none)

pub any_said : (all : List Prices) → AllByRecursion (IsSaidIn true) all
any_said [] = tt
any_said (set ∷ all) = (tt, any_said all)

pub groups_said : (grouped : Bool) (all : List Prices) → has_groups all ≡ grouped → AllByRecursion (IsSaidIn grouped) all
groups_said grouped [] is = tt
groups_said true (set ∷ all) is = (tt, any_said all)
groups_said false (set ∷ all) is =
    let parts = or_parts (some_group set.groups) (has_groups all) is in
    (no_group set.groups parts.0, groups_said false all parts.1)

pub nodes_said : (all : List Node) (said : LatestFirst) → certificate_of (listed (map node all) said) ≡ record (certificate_of said) { nodes = nodes_of said ++ all }
nodes_said [] said = λ i. record (certificate_of said) { nodes = sym (append-nil (nodes_of said)) i }
nodes_said (x ∷ all) said = nodes_said all (node x ∷ said) ∙ (λ i. record (certificate_of said) { nodes = append_assoc (nodes_of said) (x ∷ []) all i })

-- What is said in whole.

abbrev pub head_said : Certificate → LatestFirst
head_said c = tours (length c.plan) ∷ bound c.bound ∷ cost c.cost ∷ listed (version_lines c.counts (has_groups c.sets)) []

abbrev pub plan_said : Certificate → LatestFirst
plan_said c = listed (map tour_line c.plan) (head_said c)

abbrev pub pool_said : Certificate → LatestFirst
pool_said c = listed (map shore_line c.shores) (shores (length c.shores) ∷ plan_said c)

abbrev pub prices_said : Certificate → LatestFirst
prices_said c = listed (flat_map (set_lines (has_groups c.sets)) c.sets) (sets (length c.sets) ∷ pool_said c)

abbrev pub all_said : Certificate → LatestFirst
all_said c = end ∷ listed (map node c.nodes) (nodes (length c.nodes) ∷ prices_said c)

-- The version.

pub head_version : (counts : Option Counts) (grouped : Bool) → (grouped ≡ true → IsSome counts) → eqb (version_of (listed (version_lines counts grouped) [])) 4 ≡ grouped
head_version None false counted = refl
head_version None true counted = absurd (false≢true (counted refl))
head_version (Some c) false counted = refl
head_version (Some c) true counted = refl

pub tours_version : (plan : List (List Step)) (said : LatestFirst) → version_of (listed (map tour_line plan) said) ≡ version_of said
tours_version [] said = refl
tours_version (steps ∷ plan) said = tours_version plan (tour_line steps ∷ said)

pub shores_version : (pool : List (List ℕ)) (said : LatestFirst) → version_of (listed (map shore_line pool) said) ≡ version_of said
shores_version [] said = refl
shores_version (vertices ∷ pool) said = shores_version pool (shore_line vertices ∷ said)

pub pool_version : (c : Certificate) → HasCountsForGroups c → eqb (version_of (pool_said c)) 4 ≡ has_groups c.sets
pool_version c counted =
    ap (λ (v : ℕ). eqb v 4) (shores_version c.shores (shores (length c.shores) ∷ plan_said c) ∙ tours_version c.plan (head_said c))
    ∙ head_version c.counts (has_groups c.sets) counted

-- what is said up to the price sets, and then of them
pub prices_are : (c : Certificate) → HasCountsForGroups c →
    certificate_of (prices_said c) ≡ record (certificate_of (sets (length c.sets) ∷ pool_said c)) { sets = sets_of (pool_said c) ++ c.sets }
prices_are c counted = sets_said (has_groups c.sets) c.sets (sets (length c.sets) ∷ pool_said c) (pool_version c counted) (groups_said (has_groups c.sets) c.sets refl)

head_is : (counts : Option Counts) (grouped : Bool) (price low n : ℕ) →
    certificate_of (tours n ∷ bound low ∷ cost price ∷ listed (version_lines counts grouped) [])
    ≡ record { counts = counts; cost = price; bound = low; plan = []; shores = []; sets = []; nodes = [] }
head_is None grouped price low n = refl
head_is (Some c) false price low n = refl
head_is (Some c) true price low n = refl

pub all_is : (c : Certificate) → HasCountsForGroups c → certificate_of (all_said c) ≡ c
all_is c counted =
    nodes_said c.nodes (nodes (length c.nodes) ∷ prices_said c)
    ∙ ap (λ (d : Certificate). record d { nodes = d.nodes ++ c.nodes }) (prices_are c counted)
    ∙ ap (λ (d : Certificate). record d { sets = d.sets ++ c.sets; nodes = d.nodes ++ c.nodes }) (shores_said c.shores (shores (length c.shores) ∷ plan_said c))
    ∙ ap (λ (d : Certificate). record d { shores = d.shores ++ c.shores; sets = d.sets ++ c.sets; nodes = d.nodes ++ c.nodes }) (tours_said c.plan (head_said c))
    ∙ ap (λ (d : Certificate). record d { plan = d.plan ++ c.plan; shores = d.shores ++ c.shores; sets = d.sets ++ c.sets; nodes = d.nodes ++ c.nodes })
    (head_is c.counts (has_groups c.sets) c.cost c.bound (length c.plan))

pub lines_said : (c : Certificate) → listed (lines_of c) [] ≡ all_said c
lines_said c = rw (listed-append, listed-append, listed-append, listed-append, listed-append) refl

pub spelled_read : (c : Certificate) → IsSpellable c → IsTextOf (text_of c) c
spelled_read c spellable =
    let said = listed (lines_of c) [] in
    let read : AreRead [] (map line_text (lines_of c) ++ [] ∷ []) said [] = good_are_read [] (lines_of c) spellable.lines in
    record {
      said = said;
      reads = subst (λ (parts : List (List ℕ)). AreRead [] parts said []) (sym (text_is_cut (lines_of c))) read;
      whole = rw (lines_said c) refl;
      is = sym (ap certificate_of (lines_said c) ∙ all_is c spellable.counted);
    }
