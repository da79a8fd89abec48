-- A file whose bytes are taken piece by piece.
use Rattle.std.proofs.Common.{◌≡◌, ℕ, zero, suc, ◌+◌, ◌-◌, ◌≤◌, ◌<◌, List, [], ◌∷◌, ◌++◌, length, take, drop, refl, sym, ap, subst, ◌∙◌, append_assoc, zero-add, arith, Bool, IsTrue, Option, Some, None, IfSome, length-drop, length-take, length-append}
use Rattle.std.specs.Prelude.{IsSomeAnd, IsSome}
use Rattle.std.proofs.lemmas.List.{take_all, take_rest}
use Rattle.carp_base.specs.Problem.{Problem}
use Rattle.carp_outside.specs.Causes.{grown, RoseBy}
use Rattle.carp_outside.specs.Told.{IsPieceAt, IsNextPiece}
use Rattle.cert_checker.specs.declared.stream.Stream.{Stream}
use Rattle.cert_checker.specs.Streams.{HasRead, HasStreamed}

take_more : (m n : ℕ) (xs : List ℕ) → take (m + n) xs ≡ take m xs ++ take n (drop m xs)
take_more zero n xs = rw zero-add refl
take_more (suc m) zero [] = let e : suc m + zero ≡ suc m = omega arith in rw e refl
take_more (suc m) (suc n) [] = let e : suc m + suc n ≡ suc (m + suc n) = omega arith in rw e refl
take_more (suc m) n (x ∷ xs) = let e : suc m + n ≡ suc (m + n) = omega arith in rw e (ap (λ (ys : List ℕ). x ∷ ys) (take_more m n xs))

take_add : (xs : List ℕ) (i n : ℕ) → take i xs ++ take n (drop i xs) ≡ take (i + n) xs
take_add xs i n = sym (take_more i n xs)

pub rest_length : (xs : List ℕ) (t : ℕ) → length (take (length xs - t) (drop t xs)) ≡ length xs - t
rest_length xs t = ap length (take_rest xs t) ∙ length-drop t xs

-- one more run of a piece
pub run_on : (p : Problem) (new : Stream) (bytes xs : List ℕ) (t m : ℕ) → HasStreamed p new ((bytes ++ take t xs) ++ take m (take (length xs - t) (drop t xs))) → HasStreamed p new (bytes ++ take (t + m) xs)
run_on p new bytes xs t m streamed =
    let same : (bytes ++ take t xs) ++ take m (take (length xs - t) (drop t xs)) ≡ bytes ++ take (t + m) xs =
    append_assoc bytes (take t xs) (take m (take (length xs - t) (drop t xs)))
    ∙ ap (λ (ys : List ℕ). bytes ++ (take t xs ++ take m ys)) (take_rest xs t)
    ∙ ap (λ (ys : List ℕ). bytes ++ ys) (take_add xs t m) in
    subst (HasStreamed p new) same streamed

pub none_at : (xs : List ℕ) → length xs ≡ 0 → xs ≡ []
none_at [] none = refl
none_at (x ∷ xs) none = absurd (omega (arith, none))

front_none : (held : Option (List ℕ)) → IfSome held (λ file. ([] ≡ take 0 file) × (0 ≤ length file))
front_none None = tt
front_none (Some file) = (refl, omega arith)

-- nothing was taken
pub read_none : (p : Problem) (stream : Stream) (tells : Bool) (held : Option (List ℕ)) (taken : ℕ) → HasStreamed p stream [] → taken ≡ 0 → HasRead p stream tells held taken
read_none p stream tells held taken streamed none = record { bytes = []; streamed = streamed; count = sym none; front = λ told. front_none held; there = λ told some. absurd (omega (arith, some)) }

piece_fits : (file piece : List ℕ) (at : ℕ) → IsPieceAt file at piece → length piece ≤ length file - at
piece_fits file piece at there = omega (arith, ap length there.is, length-take (length piece) (drop at file), length-drop at file)

front_on : (held : Option (List ℕ)) (bytes piece : List ℕ) (at : ℕ) → length bytes ≡ at → IfSome held (λ file. (bytes ≡ take (length bytes) file) × (length bytes ≤ length file)) → IsNextPiece held at piece →
    IfSome held (λ file. (bytes ++ piece ≡ take (length (bytes ++ piece)) file) × (length (bytes ++ piece) ≤ length file))
front_on None bytes piece at count front there = tt
front_on (Some file) bytes piece at count front there =
    let long : length bytes + length piece ≡ length (bytes ++ piece) = sym (length-append bytes piece) in
    let is : piece ≡ take (length piece) (drop (length bytes) file) = there.is ∙ ap (λ (k : ℕ). take (length piece) (drop k file)) (sym count) in (
      ap (λ (xs : List ℕ). xs ++ piece) front.0 ∙ ap (λ (xs : List ℕ). take (length bytes) file ++ xs) is ∙ take_add file (length bytes) (length piece) ∙ ap (λ (k : ℕ). take k file) long,
      omega (arith, long, count, front.1, piece_fits file piece at there),
    )

some_held : (held : Option (List ℕ)) (piece : List ℕ) (at : ℕ) → IsNextPiece held at piece → IsSome held
some_held None piece at there = absurd there
some_held (Some file) piece at there = refl

next_held : (held held_now : Option (List ℕ)) (piece : List ℕ) (at : ℕ) → held_now ≡ held → IsNextPiece held_now at piece → IsNextPiece held at piece
next_held held held_now piece at same there = subst (λ (h : Option (List ℕ)). IsNextPiece h at piece) same there

-- one more piece was taken
pub read_on : (p : Problem) (old new : Stream) (tells : Bool) (held held_now : Option (List ℕ)) (taken after : ℕ) (piece : List ℕ) → HasRead p old tells held taken → (IsTrue tells → held_now ≡ held) →
    (IsTrue tells → IsNextPiece held_now taken piece) → after ≡ taken + length piece → ((bytes : List ℕ) → HasStreamed p old bytes → HasStreamed p new (bytes ++ piece)) → HasRead p new tells held after
read_on p old new tells held held_now taken after piece read same there count streams = record {
  bytes = read.bytes ++ piece;
  streamed = streams read.bytes read.streamed;
  count = length-append read.bytes piece ∙ ap (λ (k : ℕ). k + length piece) read.count ∙ sym count;
  front = λ told. front_on held read.bytes piece taken read.count (read.front told) (next_held held held_now piece taken (same told) (there told));
  there = λ told some. some_held held piece taken (next_held held held_now piece taken (same told) (there told));
}

whole_file : (p : Problem) (stream : Stream) (held : Option (List ℕ)) (bytes : List ℕ) (taken limit : ℕ) → HasStreamed p stream bytes → length bytes ≡ taken → taken ≤ limit →
    IfSome held (λ file. (bytes ≡ take (length bytes) file) × (length bytes ≤ length file)) → IsNextPiece held taken [] → IsSomeAnd held (λ file. (length file ≤ limit) × HasStreamed p stream file)
whole_file p stream None bytes taken limit streamed count within front there = absurd there
whole_file p stream (Some file) bytes taken limit streamed count within front there =
    let few : length file ≤ length bytes = omega (arith, there.none_at_end refl, count) in
    (omega (arith, few, count, within), subst (HasStreamed p stream) (front.0 ∙ take_all (length bytes) file few) streamed)

-- all bytes were taken
pub read_all : (p : Problem) (stream : Stream) (tells : Bool) (held held_now : Option (List ℕ)) (taken limit : ℕ) (piece : List ℕ) → HasRead p stream tells held taken → IsTrue tells → held_now ≡ held →
    IsNextPiece held_now taken piece → length piece ≡ 0 → taken ≤ limit → IsSomeAnd held (λ file. (length file ≤ limit) × HasStreamed p stream file)
read_all p stream tells held held_now taken limit piece read told same there none within =
    whole_file p stream held read.bytes taken limit read.streamed read.count within (read.front told)
    (subst (λ (xs : List ℕ). IsNextPiece held taken xs) (none_at piece none) (next_held held held_now piece taken same there))

-- more bytes than the limit were taken
pub read_past : (held held_now : Option (List ℕ)) (taken limit : ℕ) (piece : List ℕ) → held_now ≡ held → IsNextPiece held_now taken piece → taken ≤ limit → limit + 1 ≡ taken + length piece → IsSomeAnd held (λ file. limit < length file)
read_past None held_now taken limit piece same there within past = absurd (next_held None held_now piece taken same there)
read_past (Some file) held_now taken limit piece same there within past =
    let fits = piece_fits file piece taken (next_held (Some file) held_now piece taken same there) in
    omega (arith, fits, within, past)

pub given_on : (before now after total n more : ℕ) → RoseBy total before now → after ≡ grown now n → more ≡ total + n → RoseBy more before after
given_on before now after total n more so_far step is = omega arith
