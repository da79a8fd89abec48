-- The shape of an edge line: what is read is what the definition says, and only that.
use Rattle.std.proofs.Common.{◌≡◌, ℕ, Bool, true, false, cond, eqb, ltb, List, [], ◌∷◌, ◌++◌, length, drop, Option, Some, None, codes, refl, sym, ap, subst, ◌∙◌, inl, inr, arith}
use Rattle.std.specs.List.{AllByRecursion}
use Rattle.std.specs.Char.{is_ascii_digit}
use Rattle.std.specs.Str.{str_eq_ignore_ascii_case}
use Rattle.std.proofs.lemmas.Bool.{cases_Bool, false≢true, eqb-true, lt-ltb, cond-true}
use Rattle.std.proofs.lemmas.List.{append-nil, nil_from_length}
use Rattle.std.proofs.lemmas.Option.{cond_some, none-some}
use Rattle.dat_text.specs.declared.key.Key.{Key}
use Rattle.dat_text.specs.declared.key.Key.TheVariants.{Vertices, RequiredCount, OtherCount, Capacity, Depot, RequiredList, OtherList}
use Rattle.dat_text.specs.Lines.{is_blank, Each, StartsWith, Part, Consists, IsBlank, EdgeNumbers, labelled, edge_parts, FitsList, IsEdgeLine, IsNumber, numbers_of}
use Rattle.dat_text.specs.Lines.Part.{byte, word, number}
use Rattle.dat_text.specs.Reading.{◌>>=◌, run_at, after_run, after_byte, after_letters, after_word, number_at, is_blank_line, labelled_at, optional_at, ends_at, edge_line_at}
use Rattle.dat_text.proofs.Runs.{run_whole, run_passes, run_is}
use Rattle.dat_text.proofs.LineParts.{Apart, byte_begins, byte_found, word_begins, word_found, number_begins, number_found, part_stops, blank_stops}

-- the value of a step that did not fail
pub bind_some : {A B : Type 0} (o : Option A) (f : A → Option B) (y : B) → (o >>= f) ≡ Some y → (x : A) × (o ≡ Some x) × (f x ≡ Some y)
bind_some None f y e = absurd cc
bind_some (Some x) f y e = (x, refl, e)

pub some_is : {A : Type 0} (x y : A) → Some x ≡ Some y → x ≡ y
some_is x y e = cc

-- a blank line

blank_by_test : (text : List ℕ) → is_blank_line text ≡ true → IsBlank text
blank_by_test text blank =
    let nothing : after_run is_blank text ≡ [] = nil_from_length (after_run is_blank text) (eqb-true (length (after_run is_blank text)) 0 blank) in
    let whole : text ≡ run_at is_blank text = run_whole is_blank text ∙ ap (λ (x : List ℕ). run_at is_blank text ++ x) nothing ∙ append-nil (run_at is_blank text) in
    subst (λ (x : List ℕ). Each is_blank x) (sym whole) (run_passes is_blank text)

blank_is_tested : (text : List ℕ) → IsBlank text → is_blank_line text ≡ true
blank_is_tested text blank =
    let cut = run_is is_blank text [] blank (λ starts. starts) in
    let nothing : after_run is_blank text ≡ [] = ap (after_run is_blank) (sym (append-nil text)) ∙ cut.1 in
    ap (λ (x : List ℕ). eqb (length x) 0) nothing

-- a word and a number

labelled_begins : (label digits text rest : List ℕ) (parts : List Part) → labelled_at label text ≡ Some (digits, rest) →
    Consists parts IsBlank rest → Consists (word label ∷ number digits ∷ parts) IsBlank text
unfolding labelled_at
labelled_begins label digits text rest parts e more =
    let a = bind_some (after_word label text) number_at (digits, rest) e in
    (a.0, word_begins label text a.0 a.1, (rest, (number_begins digits a.0 rest a.2).0, more))

labelled_found : (label digits text : List ℕ) (parts : List Part) → Apart is_blank label → ((rest : List ℕ) → Consists parts IsBlank rest → ¬ (StartsWith is_ascii_digit rest)) →
    Consists (word label ∷ number digits ∷ parts) IsBlank text → (rest : List ℕ) × (labelled_at label text ≡ Some (digits, rest)) × Consists parts IsBlank rest
unfolding labelled_at
labelled_found label digits text parts apart stops consists =
    let behind = consists.0 in
    let more = consists.2 in
    let rest = more.0 in
    let read : number_at behind ≡ Some (digits, rest) = number_found digits behind rest more.1 (stops rest more.2) in
    (rest, ap (λ (o : Option (List ℕ)). o >>= number_at) (word_found label text behind apart consists.1) ∙ read, more.2)

-- a word and a number, or the end of the line

optional_begins : (label text rest : List ℕ) (digits : Option (List ℕ)) (parts : List Part) → optional_at label text ≡ Some (digits, rest) →
    Consists parts IsBlank rest → Consists (labelled label digits ++ parts) IsBlank text
unfolding optional_at
optional_begins label text rest digits parts e more = at_test (is_blank_line text) e
  where
    at_test : (t : Bool) → cond {A = Option (Option (List ℕ) × List ℕ)} t (Some (None, text)) (labelled_at label text >>= λ n. Some (Some n.0, n.1)) ≡ Some (digits, rest) → Consists (labelled label digits ++ parts) IsBlank text
    at_test true e =
        let same = some_is (None, text) (digits, rest) e in
        subst (λ (x : Option (List ℕ) × List ℕ). Consists parts IsBlank x.1 → Consists (labelled label x.0 ++ parts) IsBlank text) same (λ more. more) more
    at_test false e =
        let a = bind_some (labelled_at label text) (λ n. Some (Some n.0, n.1)) (digits, rest) e in
        let made : Option (List ℕ) × List ℕ = (Some a.0.0, a.0.1) in
        let same : made ≡ (digits, rest) = some_is made (digits, rest) a.2 in
        subst (λ (x : Option (List ℕ) × List ℕ). Consists parts IsBlank x.1 → Consists (labelled label x.0 ++ parts) IsBlank text) {x = made} same
        (λ more. labelled_begins label a.0.0 text a.0.1 parts a.1 more) more

last_begins : (label text rest : List ℕ) (digits : Option (List ℕ)) → optional_at label text ≡ Some (digits, rest) → IsBlank rest → Consists (labelled label digits) IsBlank text
last_begins label text rest digits e blank =
    subst (λ (parts : List Part). Consists parts IsBlank text) (append-nil (labelled label digits)) (optional_begins label text rest digits [] e blank)

optional_none : (label text : List ℕ) → IsBlank text → optional_at label text ≡ Some (None, text)
unfolding optional_at
optional_none label text blank = ap (λ (t : Bool). cond {A = Option (Option (List ℕ) × List ℕ)} t (Some (None, text)) (labelled_at label text >>= λ n. Some (Some n.0, n.1))) (blank_is_tested text blank)

no_word : (label : List ℕ) → Apart is_blank label → after_letters label [] ≡ None
no_word [] apart = absurd apart
no_word (b ∷ label) apart =
    cond-true (ltb 0 (length (b ∷ label))) None (cond (str_eq_ignore_ascii_case [] (b ∷ label)) (Some (drop (length (b ∷ label)) [])) None) (lt-ltb 0 (length (b ∷ label)) (omega arith))

labelled_is_no_blank : (label digits text rest : List ℕ) → Apart is_blank label → labelled_at label text ≡ Some (digits, rest) → is_blank_line text ≡ false
unfolding labelled_at after_word
labelled_is_no_blank label digits text rest apart e = elim (cases_Bool (is_blank_line text)) [
  | inl blank ↦
      let nothing : after_run is_blank text ≡ [] = nil_from_length (after_run is_blank text) (eqb-true (length (after_run is_blank text)) 0 blank) in
      let none : after_word label text ≡ None = ap (after_letters label) nothing ∙ no_word label apart in
      absurd (none-some (digits, rest) (sym (ap (λ (o : Option (List ℕ)). o >>= number_at) none) ∙ e))
  | inr other ↦ other
]

optional_some : (label digits text rest : List ℕ) → Apart is_blank label → labelled_at label text ≡ Some (digits, rest) → optional_at label text ≡ Some (Some digits, rest)
unfolding optional_at
optional_some label digits text rest apart e =
    ap (λ (t : Bool). cond {A = Option (Option (List ℕ) × List ℕ)} t (Some (None, text)) (labelled_at label text >>= λ n. Some (Some n.0, n.1))) (labelled_is_no_blank label digits text rest apart e)
    ∙ ap (λ (o : Option (List ℕ × List ℕ)). o >>= λ n. Some (Some n.0, n.1)) e

-- both ends

ends_begin : (u v text rest : List ℕ) (parts : List Part) → ends_at text ≡ Some (u, v, rest) → Consists parts IsBlank rest →
    Consists (byte 40 ∷ number u ∷ byte 44 ∷ number v ∷ byte 41 ∷ parts) IsBlank text
unfolding ends_at
ends_begin u v text rest parts e more =
    let a = bind_some (after_byte 40 text) (λ opened. number_at opened >>= λ u. after_byte 44 u.1 >>= λ between. number_at between >>= λ v. after_byte 41 v.1 >>= λ rest. Some (u.0, v.0, rest)) (u, v, rest) e in
    let b = bind_some (number_at a.0) (λ u. after_byte 44 u.1 >>= λ between. number_at between >>= λ v. after_byte 41 v.1 >>= λ rest. Some (u.0, v.0, rest)) (u, v, rest) a.2 in
    let c = bind_some (after_byte 44 b.0.1) (λ between. number_at between >>= λ v. after_byte 41 v.1 >>= λ rest. Some (b.0.0, v.0, rest)) (u, v, rest) b.2 in
    let d = bind_some (number_at c.0) (λ v. after_byte 41 v.1 >>= λ rest. Some (b.0.0, v.0, rest)) (u, v, rest) c.2 in
    let f = bind_some (after_byte 41 d.0.1) (λ rest. Some (b.0.0, d.0.0, rest)) (u, v, rest) d.2 in
    let made : List ℕ × List ℕ × List ℕ = (b.0.0, d.0.0, f.0) in
    let same : made ≡ (u, v, rest) = some_is made (u, v, rest) f.2 in
    subst (λ (x : List ℕ × List ℕ × List ℕ). Consists parts IsBlank x.2 → Consists (byte 40 ∷ number x.0 ∷ byte 44 ∷ number x.1 ∷ byte 41 ∷ parts) IsBlank text) {x = made} same
    (λ more. (a.0, byte_begins 40 text a.0 a.1, (b.0.1, (number_begins b.0.0 a.0 b.0.1 b.1).0, (c.0, byte_begins 44 b.0.1 c.0 c.1, (d.0.1, (number_begins d.0.0 c.0 d.0.1 d.1).0, (f.0, byte_begins 41 d.0.1 f.0 f.1, more))))))
    more

ends_found : (u v text : List ℕ) (parts : List Part) → Consists (byte 40 ∷ number u ∷ byte 44 ∷ number v ∷ byte 41 ∷ parts) IsBlank text →
    (rest : List ℕ) × (ends_at text ≡ Some (u, v, rest)) × Consists parts IsBlank rest
unfolding ends_at
ends_found u v text parts consists =
    let opened = consists.0 in
    let first = consists.2 in
    let second = first.2 in
    let third = second.2 in
    let fourth = third.2 in
    let e0 : after_byte 40 text ≡ Some opened = byte_found 40 text opened refl consists.1 in
    let e1 : number_at opened ≡ Some (u, first.0) = number_found u opened first.0 first.1 (part_stops (byte 44) first.0 second.0 refl second.1) in
    let e2 : after_byte 44 first.0 ≡ Some second.0 = byte_found 44 first.0 second.0 refl second.1 in
    let e3 : number_at second.0 ≡ Some (v, third.0) = number_found v second.0 third.0 third.1 (part_stops (byte 41) third.0 fourth.0 refl fourth.1) in
    let e4 : after_byte 41 third.0 ≡ Some fourth.0 = byte_found 41 third.0 fourth.0 refl fourth.1 in
    (fourth.0, rw (e0, e1, e2, e3, e4) refl, fourth.2)

-- the whole line

pub edge_consists : (text : List ℕ) (x : EdgeNumbers) → edge_line_at text ≡ Some x → Consists (edge_parts x) IsBlank text
unfolding edge_line_at
edge_consists text x e =
    let a = bind_some (ends_at text)
    (λ ends. labelled_at (codes "coste") ends.2 >>= λ cost. optional_at (codes "demanda") cost.1 >>= λ demand. optional_at (codes "servicio") demand.1 >>= λ service.
    cond (is_blank_line service.1) (Some (record { u = ends.0; v = ends.1; cost = cost.0; demand = demand.0; service = service.0 })) None) x e in
    let b = bind_some (labelled_at (codes "coste") a.0.2)
    (λ cost. optional_at (codes "demanda") cost.1 >>= λ demand. optional_at (codes "servicio") demand.1 >>= λ service.
    cond (is_blank_line service.1) (Some (record { u = a.0.0; v = a.0.1; cost = cost.0; demand = demand.0; service = service.0 })) None) x a.2 in
    let c = bind_some (optional_at (codes "demanda") b.0.1)
    (λ demand. optional_at (codes "servicio") demand.1 >>= λ service.
    cond (is_blank_line service.1) (Some (record { u = a.0.0; v = a.0.1; cost = b.0.0; demand = demand.0; service = service.0 })) None) x b.2 in
    let d = bind_some (optional_at (codes "servicio") c.0.1)
    (λ service. cond (is_blank_line service.1) (Some (record { u = a.0.0; v = a.0.1; cost = b.0.0; demand = c.0.0; service = service.0 })) None) x c.2 in
    let made : EdgeNumbers = record { u = a.0.0; v = a.0.1; cost = b.0.0; demand = c.0.0; service = d.0.0 } in
    let p = cond_some (is_blank_line d.0.1) made x d.2 in
    let blank : Consists [] IsBlank d.0.1 = blank_by_test d.0.1 p.0 in
    let with_service : Consists (labelled (codes "servicio") d.0.0) IsBlank c.0.1 = last_begins (codes "servicio") c.0.1 d.0.1 d.0.0 d.1 blank in
    let with_demand = optional_begins (codes "demanda") b.0.1 c.0.1 c.0.0 (labelled (codes "servicio") d.0.0) c.1 with_service in
    let with_cost = labelled_begins (codes "coste") b.0.0 a.0.2 b.0.1 (labelled (codes "demanda") c.0.0 ++ labelled (codes "servicio") d.0.0) b.1 with_demand in
    subst (λ (y : EdgeNumbers). Consists (edge_parts y) IsBlank text) {x = made} {y = x} p.1
    (ends_begin a.0.0 a.0.1 text a.0.2 (word (codes "coste") ∷ number b.0.0 ∷ (labelled (codes "demanda") c.0.0 ++ labelled (codes "servicio") d.0.0)) a.1 with_cost)

word_stops : (label : List ℕ) (parts : List Part) → Apart is_ascii_digit label → (rest : List ℕ) → Consists (word label ∷ parts) IsBlank rest → ¬ (StartsWith is_ascii_digit rest)
word_stops label parts apart rest consists = part_stops (word label) rest consists.0 apart consists.1

-- both ends, the cost and what follows it
cost_found : (u v cost text : List ℕ) (parts : List Part) → ((rest : List ℕ) → Consists parts IsBlank rest → ¬ (StartsWith is_ascii_digit rest)) →
    Consists (byte 40 ∷ number u ∷ byte 44 ∷ number v ∷ byte 41 ∷ word (codes "coste") ∷ number cost ∷ parts) IsBlank text →
    (rest : List ℕ) × (more : List ℕ) × (ends_at text ≡ Some (u, v, rest)) × (labelled_at (codes "coste") rest ≡ Some (cost, more)) × Consists parts IsBlank more
cost_found u v cost text parts stops consists =
    let a = ends_found u v text (word (codes "coste") ∷ number cost ∷ parts) consists in
    let b = labelled_found (codes "coste") cost a.0 parts refl stops a.2 in
    (a.0, b.0, a.1, b.1, b.2)

plain_found : (u v cost text : List ℕ) → Consists (edge_parts (record { u = u; v = v; cost = cost; demand = None; service = None })) IsBlank text →
    edge_line_at text ≡ Some (record { u = u; v = v; cost = cost; demand = None; service = None })
unfolding edge_line_at
plain_found u v cost text consists =
    let a = cost_found u v cost text [] blank_stops consists in
    rw (a.2, a.3, optional_none (codes "demanda") a.1 a.4, optional_none (codes "servicio") a.1 a.4, blank_is_tested a.1 a.4) refl

demand_found : (u v cost demand text : List ℕ) → Consists (edge_parts (record { u = u; v = v; cost = cost; demand = Some demand; service = None })) IsBlank text →
    edge_line_at text ≡ Some (record { u = u; v = v; cost = cost; demand = Some demand; service = None })
unfolding edge_line_at
demand_found u v cost demand text consists =
    let a = cost_found u v cost text (word (codes "demanda") ∷ number demand ∷ []) (word_stops (codes "demanda") (number demand ∷ []) refl) consists in
    let b = labelled_found (codes "demanda") demand a.1 [] refl blank_stops a.4 in
    rw (a.2, a.3, optional_some (codes "demanda") demand a.1 b.0 refl b.1, optional_none (codes "servicio") b.0 b.2, blank_is_tested b.0 b.2) refl

service_found : (u v cost demand service text : List ℕ) → Consists (edge_parts (record { u = u; v = v; cost = cost; demand = Some demand; service = Some service })) IsBlank text →
    edge_line_at text ≡ Some (record { u = u; v = v; cost = cost; demand = Some demand; service = Some service })
unfolding edge_line_at
service_found u v cost demand service text consists =
    let a = cost_found u v cost text (word (codes "demanda") ∷ number demand ∷ word (codes "servicio") ∷ number service ∷ []) (word_stops (codes "demanda") (number demand ∷ word (codes "servicio") ∷ number service ∷ []) refl) consists in
    let b = labelled_found (codes "demanda") demand a.1 (word (codes "servicio") ∷ number service ∷ []) refl (word_stops (codes "servicio") (number service ∷ []) refl) a.4 in
    let d = labelled_found (codes "servicio") service b.0 [] refl blank_stops b.2 in
    rw (a.2, a.3, optional_some (codes "demanda") demand a.1 b.0 refl b.1, optional_some (codes "servicio") service b.0 d.0 refl d.1, blank_is_tested d.0 d.2) refl

-- a line with the shape of a list is read
fitting_found : (list : Key) (u v cost : List ℕ) (demand service : Option (List ℕ)) (text : List ℕ) → FitsList list (record { u = u; v = v; cost = cost; demand = demand; service = service }) →
    Consists (edge_parts (record { u = u; v = v; cost = cost; demand = demand; service = service })) IsBlank text →
    edge_line_at text ≡ Some (record { u = u; v = v; cost = cost; demand = demand; service = service })
fitting_found list u v cost None None text fits consists = plain_found u v cost text consists
fitting_found list u v cost (Some demand) None text fits consists = demand_found u v cost demand text consists
fitting_found list u v cost (Some demand) (Some service) text fits consists = service_found u v cost demand service text consists
fitting_found Vertices u v cost None (Some service) text fits consists = absurd fits
fitting_found RequiredCount u v cost None (Some service) text fits consists = absurd fits
fitting_found OtherCount u v cost None (Some service) text fits consists = absurd fits
fitting_found Capacity u v cost None (Some service) text fits consists = absurd fits
fitting_found Depot u v cost None (Some service) text fits consists = absurd fits
fitting_found RequiredList u v cost None (Some service) text fits consists = absurd (false≢true fits)
fitting_found OtherList u v cost None (Some service) text fits consists = absurd (none-some service (sym fits.1))

pub edge_found : (list : Key) (x : EdgeNumbers) (text : List ℕ) → IsEdgeLine list x text → edge_line_at text ≡ Some x
edge_found list x text h = fitting_found list x.u x.v x.cost x.demand x.service text h.fits h.consists

-- the parts of a line that are numbers are numbers
abbrev NumbersIn : List Part → Type 0
NumbersIn [] = Unit {0}
NumbersIn (byte b ∷ parts) = NumbersIn parts
NumbersIn (word letters ∷ parts) = NumbersIn parts
NumbersIn (number digits ∷ parts) = IsNumber digits × NumbersIn parts

numbers_in : (parts : List Part) (End : List ℕ → Type 0) (text : List ℕ) → Consists parts End text → NumbersIn parts
numbers_in [] End text consists = tt
numbers_in (byte b ∷ parts) End text consists = numbers_in parts End consists.0 consists.2
numbers_in (word letters ∷ parts) End text consists = numbers_in parts End consists.0 consists.2
numbers_in (number digits ∷ parts) End text consists = (consists.1.is_part.1, numbers_in parts End consists.0 consists.2)

numbers_out : (u v cost : List ℕ) (demand service : Option (List ℕ)) →
    NumbersIn (edge_parts (record { u = u; v = v; cost = cost; demand = demand; service = service })) →
    AllByRecursion IsNumber (numbers_of (record { u = u; v = v; cost = cost; demand = demand; service = service }))
numbers_out u v cost None None all = (all.0, (all.1.0, (all.1.1.0, tt)))
numbers_out u v cost None (Some service) all = (all.0, (all.1.0, (all.1.1.0, (all.1.1.1.0, tt))))
numbers_out u v cost (Some demand) None all = (all.0, (all.1.0, (all.1.1.0, (all.1.1.1.0, tt))))
numbers_out u v cost (Some demand) (Some service) all = (all.0, (all.1.0, (all.1.1.0, (all.1.1.1.0, (all.1.1.1.1.0, tt)))))

pub edge_numbers_are : (x : EdgeNumbers) (text : List ℕ) → Consists (edge_parts x) IsBlank text → AllByRecursion IsNumber (numbers_of x)
edge_numbers_are x text consists = numbers_out x.u x.v x.cost x.demand x.service (numbers_in (edge_parts x) IsBlank text consists)
