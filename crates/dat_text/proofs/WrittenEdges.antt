-- The edge lines that are written, and the edges that they say.
use Rattle.std.proofs.Common.{◌≡◌, ℕ, ◌^◌, ◌<◌, Bool, true, false, cond, eqb, List, [], ◌∷◌, ◌++◌, map, Option, Some, None, refl, sym, subst, append_assoc}
use Rattle.std.specs.Prelude.{codes, decimal}
use Rattle.std.specs.List.{AllByRecursion, flat_map}
use Rattle.std.proofs.lemmas.Bool.{eqb-true}
use Rattle.std.proofs.lemmas.List.{append-nil}
use Rattle.carp_base.specs.declared.edge.Edge.{Edge}
use Rattle.carp_base.specs.declared.edge.RawEdge.{RawEdge}
use Rattle.dat_text.specs.declared.key.Key.{Key}
use Rattle.dat_text.specs.declared.key.Key.TheVariants.{RequiredList, OtherList}
use Rattle.dat_text.specs.DatText.{ends_and_cost, service_cost, required_line, other_line}
use Rattle.dat_text.specs.Lines.{Part, Consists, IsBlank, EdgeNumbers, edge_parts, IsEdgeLine, edge_of}
use Rattle.dat_text.specs.Lines.Part.{byte, word, number}
use Rattle.dat_text.specs.Text.{list_of, SaysEdge, LatestFirst}
use Rattle.dat_text.specs.Text.Statement.{lists}
use Rattle.dat_text.proofs.WrittenLines.{IsWritten, is_written, IsOneLine, one_line, one_line-append, decimal_one_line, Adds, Adds-append, line_adds}

-- The parts of an edge line.

-- the text consists of the parts, up to blanks
record HasParts (parts : List Part) (text : List ℕ) : Type 0 where
  consists : Consists parts IsBlank text

nothing_more : HasParts [] []
nothing_more = record { consists = tt }

byte_next : {rest : List ℕ} {parts : List Part} (b : ℕ) → HasParts parts rest → HasParts (byte b ∷ parts) (b ∷ rest)
byte_next {rest} {parts} b more = record { consists = (rest, record { blanks = []; own = b ∷ []; are_blank = tt; is_part = refl; whole = refl }, more.consists) }

word_next : {rest : List ℕ} {parts : List Part} (letters : List ℕ) → HasParts parts rest → HasParts (word letters ∷ parts) (32 ∷ (letters ++ rest))
word_next {rest} {parts} letters more = record { consists = (rest, record { blanks = codes " "; own = letters; are_blank = (refl, tt); is_part = refl; whole = refl }, more.consists) }

number_next : {rest : List ℕ} {parts : List Part} {n : ℕ} → IsWritten n → HasParts parts rest → HasParts (number (decimal n) ∷ parts) (32 ∷ (decimal n ++ rest))
number_next {rest} {parts} {n} written more = record {
  consists = (rest, record { blanks = codes " "; own = decimal n; are_blank = (refl, tt); is_part = (refl, written.is_number); whole = refl }, more.consists);
}

number_last : {n : ℕ} → IsWritten n → HasParts (number (decimal n) ∷ []) (32 ∷ decimal n)
number_last {n} written = subst (λ (x : List ℕ). HasParts (number (decimal n) ∷ []) (32 ∷ x)) (append-nil (decimal n)) (number_next written nothing_more)

-- the numbers of an edge have at most 18 digits
pub record IsSmall (x : Edge) : Type 0 where
  pub u : x.u < 10 ^ 18
  pub v : x.v < 10 ^ 18
  pub cost : x.cost < 10 ^ 18
  pub demand : x.demand < 10 ^ 18
  pub service : x.service < 10 ^ 18

ends_and_cost_is : (x : Edge) (rest : List ℕ) →
    ends_and_cost x ++ rest ≡ 40 ∷ 32 ∷ (decimal x.u ++ (44 ∷ 32 ∷ (decimal x.v ++ (41 ∷ 32 ∷ (codes "coste" ++ (32 ∷ (decimal x.cost ++ rest)))))))
unfolding ends_and_cost
ends_and_cost_is x rest = simp append_assoc

starts : {rest : List ℕ} {parts : List Part} (x : Edge) → IsSmall x → HasParts parts rest →
    HasParts (byte 40 ∷ number (decimal x.u) ∷ byte 44 ∷ number (decimal x.v) ∷ byte 41 ∷ word (codes "coste") ∷ number (decimal x.cost) ∷ parts) (ends_and_cost x ++ rest)
starts {rest} {parts} x small more =
    subst (λ (text : List ℕ). HasParts (byte 40 ∷ number (decimal x.u) ∷ byte 44 ∷ number (decimal x.v) ∷ byte 41 ∷ word (codes "coste") ∷ number (decimal x.cost) ∷ parts) text)
    (sym (ends_and_cost_is x rest))
    (byte_next 40 (number_next (is_written x.u small.u)
    (byte_next 44 (number_next (is_written x.v small.v)
    (byte_next 41 (word_next (codes "coste") (number_next (is_written x.cost small.cost) more)))))))

ends_one_line : (x : Edge) → IsSmall x → IsOneLine (ends_and_cost x)
unfolding ends_and_cost
ends_one_line x small =
    one_line-append
    (one_line-append
    (one_line-append
    (one_line-append (one_line-append (one_line (codes "( ") refl) (decimal_one_line x.u small.u)) (one_line (codes ", ") refl))
    (decimal_one_line x.v small.v))
    (one_line (codes ") coste ") refl))
    (decimal_one_line x.cost small.cost)

-- An edge of the other list.

abbrev pub other_raw : Edge → RawEdge
other_raw x = record { u = x.u; v = x.v; cost = x.cost; demand = 0; service = 0 }

other_adds : (x : Edge) (said : LatestFirst) → IsSmall x → list_of said ≡ Some OtherList → Adds (other_line x) said (lists OtherList (other_raw x) ∷ said)
unfolding other_line
other_adds x said small under =
    let numbers : EdgeNumbers = record { u = decimal x.u; v = decimal x.v; cost = decimal x.cost; demand = None; service = None } in
    let u = is_written x.u small.u in
    let v = is_written x.v small.v in
    let cost = is_written x.cost small.cost in
    let value : edge_of OtherList numbers ≡ other_raw x = rw (u.value, v.value, cost.value) refl in
    let is_line : IsEdgeLine OtherList numbers (ends_and_cost x) = record {
      fits = (tt, refl);
      consists = subst (λ (text : List ℕ). Consists (edge_parts numbers) IsBlank text) (append-nil (ends_and_cost x)) (starts x small nothing_more).consists;
    } in
    line_adds (ends_and_cost x) said (lists OtherList (other_raw x)) (ends_one_line x small)
    (record { numbers = numbers; under = under; is_line = is_line; short = (u.short, (v.short, (cost.short, tt))); value = sym value })

-- An edge of the required list.

abbrev pub required_raw : Edge → RawEdge
required_raw x = record { u = x.u; v = x.v; cost = x.cost; demand = x.demand; service = x.service }

-- the service cost as it stands, or where it does not
abbrev service_text : Bool → ℕ → List ℕ
service_text same n = cond same [] (codes " servicio " ++ decimal n)

abbrev service_digits : Bool → ℕ → Option (List ℕ)
service_digits same n = cond same None (Some (decimal n))

abbrev numbers_with : Edge → Option (List ℕ) → EdgeNumbers
numbers_with x service = record { u = decimal x.u; v = decimal x.v; cost = decimal x.cost; demand = Some (decimal x.demand); service = service }

service_one_line : (same : Bool) (n : ℕ) → n < 10 ^ 18 → IsOneLine (service_text same n)
service_one_line true n small = record { test = refl }
service_one_line false n small = one_line-append (one_line (codes " servicio ") refl) (decimal_one_line n small)

required_is_line : (x : Edge) (same : Bool) → IsSmall x →
    IsEdgeLine RequiredList (numbers_with x (service_digits same x.service)) (ends_and_cost x ++ (32 ∷ (codes "demanda" ++ (32 ∷ (decimal x.demand ++ service_text same x.service)))))
required_is_line x true small = record {
  fits = refl;
  consists = (starts x small (word_next (codes "demanda") (number_next (is_written x.demand small.demand) nothing_more))).consists;
}
required_is_line x false small = record {
  fits = refl;
  consists = (starts x small
      (word_next (codes "demanda") (number_next (is_written x.demand small.demand)
      (word_next (codes "servicio") (number_last (is_written x.service small.service)))))).consists;
}

required_says : (x : Edge) (said : LatestFirst) (line : List ℕ) (same : Bool) → IsSmall x → list_of said ≡ Some RequiredList → (same ≡ true → x.service ≡ x.cost) →
    IsEdgeLine RequiredList (numbers_with x (service_digits same x.service)) line → SaysEdge said line RequiredList (required_raw x)
required_says x said line true small under equal is_line =
    let u = is_written x.u small.u in
    let v = is_written x.v small.v in
    let cost = is_written x.cost small.cost in
    let demand = is_written x.demand small.demand in
    let value : edge_of RequiredList (numbers_with x None) ≡ required_raw x = rw (u.value, v.value, cost.value, demand.value, equal refl) refl in
    record { numbers = numbers_with x None; under = under; is_line = is_line; short = (u.short, (v.short, (cost.short, (demand.short, tt)))); value = sym value }
required_says x said line false small under equal is_line =
    let u = is_written x.u small.u in
    let v = is_written x.v small.v in
    let cost = is_written x.cost small.cost in
    let demand = is_written x.demand small.demand in
    let service = is_written x.service small.service in
    let value : edge_of RequiredList (numbers_with x (Some (decimal x.service))) ≡ required_raw x = rw (u.value, v.value, cost.value, demand.value, service.value) refl in
    record { numbers = numbers_with x (Some (decimal x.service)); under = under; is_line = is_line; short = (u.short, (v.short, (cost.short, (demand.short, (service.short, tt))))); value = sym value }

required_adds : (x : Edge) (said : LatestFirst) → IsSmall x → list_of said ≡ Some RequiredList → Adds (required_line x) said (lists RequiredList (required_raw x) ∷ said)
unfolding required_line service_cost
required_adds x said small under =
    let same = eqb x.service x.cost in
    let line = ends_and_cost x ++ codes " demanda " ++ decimal x.demand ++ service_text same x.service in
    let whole : line ≡ ends_and_cost x ++ (32 ∷ (codes "demanda" ++ (32 ∷ (decimal x.demand ++ service_text same x.service)))) = simp append_assoc in
    let is_line = subst (λ (text : List ℕ). IsEdgeLine RequiredList (numbers_with x (service_digits same x.service)) text) (sym whole) (required_is_line x same small) in
    let one : IsOneLine line =
    one_line-append
    (one_line-append (one_line-append (ends_one_line x small) (one_line (codes " demanda ") refl)) (decimal_one_line x.demand small.demand))
    (service_one_line same x.service small.service) in
    line_adds line said (lists RequiredList (required_raw x)) one (required_says x said line same small under (eqb-true x.service x.cost) is_line)

-- The edges of a list.

-- what is said after the edges of a list too
abbrev pub listed : Key → List RawEdge → LatestFirst → LatestFirst
listed list [] said = said
listed list (x ∷ xs) said = listed list xs (lists list x ∷ said)

pub all_required_add : (xs : List Edge) (said : LatestFirst) → AllByRecursion IsSmall xs → list_of said ≡ Some RequiredList →
    Adds (flat_map required_line xs) said (listed RequiredList (map required_raw xs) said)
all_required_add [] said small under = record { adds = λ rest said says. says }
all_required_add (x ∷ xs) said small under =
    let entry = lists RequiredList (required_raw x) in
    Adds-append (required_adds x said small.0 under) (all_required_add xs (entry ∷ said) small.1 under)

pub all_others_add : (xs : List Edge) (said : LatestFirst) → AllByRecursion IsSmall xs → list_of said ≡ Some OtherList →
    Adds (flat_map other_line xs) said (listed OtherList (map other_raw xs) said)
all_others_add [] said small under = record { adds = λ rest said says. says }
all_others_add (x ∷ xs) said small under =
    let entry = lists OtherList (other_raw x) in
    Adds-append (other_adds x said small.0 under) (all_others_add xs (entry ∷ said) small.1 under)
