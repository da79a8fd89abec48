-- What follows a key: what is read is what the definition says, and only that.
use Rattle.std.proofs.Common.{◌≡◌, ℕ, Bool, true, cond, List, [], ◌∷◌, Option, Some, None, refl, sym, ap, subst, ◌∙◌, inl, inr}
use Rattle.std.specs.Prelude.{unwrap_or}
use Rattle.std.specs.Char.{is_ascii_digit}
use Rattle.std.proofs.lemmas.Bool.{true≢false}
use Rattle.std.proofs.lemmas.Option.{cond_some, none-some}
use Rattle.dat_text.specs.declared.key.Key.{Key}
use Rattle.dat_text.specs.declared.fault.LineFault.TheVariants as faults
use Rattle.dat_text.specs.Lines.{is_blank, Each, IsSkippedEnd, IsStated, has_number}
use Rattle.dat_text.specs.Reading.{◌>>=◌, after_run, after_byte, digits_at, number_at, is_end, after_colon, stated_at}
use Rattle.dat_text.specs.Kinds.{FailsKey}
use Rattle.dat_text.proofs.LineParts.{byte_begins, byte_found, number_begins, number_found, end_stops, first_found}
use Rattle.dat_text.proofs.EdgeLines.{bind_some}

end_by_test : (text : List ℕ) → is_end text ≡ true → IsSkippedEnd text
end_by_test [] e = tt
end_by_test (b ∷ text) e = e

end_is_tested : (text : List ℕ) → IsSkippedEnd text → is_end text ≡ true
end_is_tested [] ends = refl
end_is_tested (b ∷ text) ends = ends

-- behind a colon, if there is one
colon_begins : (text digits rest : List ℕ) (o : Option (List ℕ)) → after_byte 58 text ≡ o → number_at (unwrap_or o text) ≡ Some (digits, rest) → IsSkippedEnd rest → IsStated digits text
colon_begins text digits rest None closed e ends = inl (rest, (number_begins digits text rest e).0, ends)
colon_begins text digits rest (Some behind) opened e ends = inr (behind, byte_begins 58 text behind opened, (rest, (number_begins digits behind rest e).0, ends))

pub stated_is : (text digits : List ℕ) → stated_at text ≡ Some digits → IsStated digits text
unfolding stated_at
stated_is text digits e =
    let a = bind_some (number_at (after_colon text)) (λ n. cond (is_end n.1) (Some n.0) None) digits e in
    let p = cond_some (is_end a.0.1) a.0.0 digits a.2 in
    subst (λ (x : List ℕ). IsStated x text) p.1 (colon_begins text a.0.0 a.0.1 (after_byte 58 text) refl a.1 (end_by_test a.0.1 p.0))

-- where a number stands, no colon does
no_colon : (text digits rest : List ℕ) → number_at text ≡ Some (digits, rest) → (o : Option (List ℕ)) → after_byte 58 text ≡ o → after_byte 58 text ≡ None
unfolding number_at after_byte
no_colon text digits rest e None closed = closed
no_colon text digits rest e (Some behind) opened =
    let first : after_run is_blank text ≡ 58 ∷ behind = first_found 58 (after_run is_blank text) behind opened in
    absurd (none-some (digits, rest) (sym (ap digits_at first) ∙ e))

read_on : (digits text rest : List ℕ) → number_at (after_colon text) ≡ Some (digits, rest) → IsSkippedEnd rest → stated_at text ≡ Some digits
unfolding stated_at
read_on digits text rest e ends =
    ap (λ (o : Option (List ℕ × List ℕ)). o >>= λ n. cond (is_end n.1) (Some n.0) None) e ∙ ap (λ (t : Bool). cond t (Some digits) None) (end_is_tested rest ends)

pub stated_found : (text digits : List ℕ) → IsStated digits text → stated_at text ≡ Some digits
stated_found text digits (inl plain) =
    let rest = plain.0 in
    let read : number_at text ≡ Some (digits, rest) = number_found digits text rest plain.1 (end_stops rest plain.2) in
    let closed : after_colon text ≡ text = ap (λ (o : Option (List ℕ)). unwrap_or o text) (no_colon text digits rest read (after_byte 58 text) refl) in
    read_on digits text rest (ap number_at closed ∙ read) plain.2
stated_found text digits (inr coloned) =
    let behind = coloned.0 in
    let rest = coloned.2.0 in
    let read : number_at behind ≡ Some (digits, rest) = number_found digits behind rest coloned.2.1 (end_stops rest coloned.2.2) in
    let opened : after_colon text ≡ behind = ap (λ (o : Option (List ℕ)). unwrap_or o text) (byte_found 58 text behind refl coloned.1) in
    read_on digits text rest (ap number_at opened ∙ read) coloned.2.2

-- the digits of a stated number
pub stated_digits : (text digits : List ℕ) → IsStated digits text → Each is_ascii_digit digits
stated_digits text digits (inl plain) = plain.1.is_part.1.each
stated_digits text digits (inr coloned) = coloned.2.1.is_part.1.each

pub no_key_shape : (key : Key) (text : List ℕ) → has_number key ≡ true → stated_at text ≡ None → FailsKey key text faults.Syntax
no_key_shape key text numbered none None shape = true≢false (sym numbered ∙ shape)
no_key_shape key text numbered none (Some digits) shape = none-some digits (sym none ∙ stated_found text digits shape.1)
