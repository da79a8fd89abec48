-- Files that are read, and outputs that are written, piece by piece.
use Rattle.std.proofs.Common.{◌≡◌, ℕ, zero, suc, ◌+◌, ◌-◌, ◌≤◌, ◌++◌, List, [], ◌∷◌, length, take, drop, refl, sym, ap, ◌∙◌, subst, arith, append_assoc, zero-add, Option, Some, None, IfSome}
use Rattle.std.specs.Prelude.{IsSomeAnd, IsSome}
use Rattle.std.proofs.Common.{rules}
use Rattle.std.proofs.lemmas.List.{length-take, length-drop, length-append, take_rest}
use Rattle.carp_outside.specs.Told.{IsPieceAt, IsNextPiece}
use Rattle.carp_outside.specs.Causes.{grown, RoseBy}

pub take_add : {X : Type 0} (m n : ℕ) (xs : List X) → take (m + n) xs ≡ take m xs ++ take n (drop m xs)
take_add zero n xs = rw zero-add refl
take_add (suc m) zero [] = let e : suc m + zero ≡ suc m = omega arith in rw e refl
take_add (suc m) (suc n) [] = let e : suc m + suc n ≡ suc (m + suc n) = omega arith in rw e refl
take_add (suc m) n (x ∷ xs) = let e : suc m + n ≡ suc (m + n) = omega arith in rw e (ap (λ ys. x ∷ ys) (take_add m n xs))

-- one more piece was written
pub wrote_more : (before now after bytes : List ℕ) (done n : ℕ) → now ≡ before ++ take done bytes → after ≡ now ++ take n (take (length bytes - done) (drop done bytes)) → after ≡ before ++ take (done + n) bytes
wrote_more before now after bytes done n so_far more =
    let rest : after ≡ now ++ take n (drop done bytes) = more ∙ ap (λ ys. now ++ take n ys) (take_rest bytes done) in
    rw (rest, so_far, take_add) (append_assoc before (take done bytes) (take n (drop done bytes)))

-- one more piece was read
pub read_more : (file read piece after : List ℕ) → read ≡ take (length read) file → length read ≤ length file → IsPieceAt file (length read) piece
    → after ≡ read ++ piece → (after ≡ take (length after) file) × (length after ≤ length file)
read_more file read piece after so_far inside there is =
    let cut : length piece ≡ length (take (length piece) (drop (length read) file)) = ap length there.is in
    let few : length piece ≤ length file - length read = rw (cut, length-take (length piece) (drop (length read) file), length-drop (length read) file) (omega arith) in
    let after_length : length after ≡ length read + length piece = ap length is ∙ length-append read piece in (
      rw after_length (is ∙ ap (λ ys. read ++ ys) there.is ∙ ap (λ ys. ys ++ take (length piece) (drop (length read) file)) so_far ∙ sym (take_add (length read) (length piece) file)),
      omega arith,
    )

pub read_more_told : (held held_now : Option (List ℕ)) (read piece after : List ℕ) (at : ℕ) → held_now ≡ held → at ≡ length read
    → IfSome held (λ file. (read ≡ take (length read) file) × (length read ≤ length file))
    → IsNextPiece held_now at piece
    → after ≡ read ++ piece
    → IfSome held (λ file. (after ≡ take (length after) file) × (length after ≤ length file))
read_more_told None held_now read piece after at same place so_far there is = tt
read_more_told (Some file) held_now read piece after at same place so_far there is =
    let here : IsPieceAt file at piece = subst (λ h. IsSomeAnd h (λ file. IsPieceAt file at piece)) same there in
    read_more file read piece after so_far.0 so_far.1 (subst (λ k. IsPieceAt file k piece) place here) is

-- more bytes were given
pub given_more : (before now after total n more : ℕ) → RoseBy total before now → after ≡ grown now n → more ≡ total + n → RoseBy more before after
given_more before now after total n more so_far step is = omega arith

pub is_some_from_and : {X : Type 0} (held held_now : Option X) (P : X → Type 0) → held_now ≡ held → IsSomeAnd held_now P → IsSome held
is_some_from_and None held_now P same h = absurd (subst (λ o. IsSomeAnd o P) same h)
is_some_from_and (Some x) held_now P same h = search rules
