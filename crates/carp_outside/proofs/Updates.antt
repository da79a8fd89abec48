-- What a change of one name's file does to what is seen at each name.
use Rattle.std.proofs.Common.{◌≡◌, ◌≢◌, ℕ, List, Option, None, Some, Bool, true, false, Result, Ok, Err, OnOk, OnErr, max, unwrap_or, refl, sym, ap, ◌∙◌, subst, string_bytes, is_some, arith}
use Rattle.std.proofs.lemmas.Bool.{false_from_ne_true, false≢true}
use Rattle.std.specs.Bool.{OnTrue, OnFalse}
use Rattle.std.specs.Str.{bytes_eq}
use Rattle.std.specs.String.{string_cmp}
use Rattle.std.specs.Ordering.{nat_cmp}
use Rattle.std.specs.Cmp.Lexicographic.{slice_cmp}
use Rattle.std.specs.BTreeMap.{UpdatesBy, get_by_text}
use Rattle.std.proofs.lemmas.Slice.Eq.{bytes_eq-Decides}
use Rattle.std.proofs.lemmas.Map.Text.{btree_map_updates_text}
use Rattle.carp_outside.specs.declared.mem_file.MemFile.{MemFile}
use Rattle.carp_outside.specs.Files.{Files, held_bytes, ready_room, bytes_in, room_in, IsMadeReady, SameRooms}
use Rattle.carp_outside.specs.Told.{HoldsExactly, SameContents}

-- the file of this name, and of no other, changed
abbrev pub ChangesName : List ℕ → Files → Files → Option MemFile → Type 0
ChangesName name before after file = UpdatesBy string_cmp (λ k. slice_cmp nat_cmp name (string_bytes k)) before after file

seen_others : {X : Type 0} (see : Option MemFile → X) (name : List ℕ) (before after : Files) (file : Option MemFile) → ChangesName name before after file
    → (other : List ℕ) → other ≢ name → see (get_by_text after other) ≡ see (get_by_text before other)
seen_others see name before after file change other apart =
    let differ : bytes_eq name other ≡ false = false_from_ne_true _ (λ e. apart (sym ((bytes_eq-Decides name other).0 e))) in
    rw (btree_map_updates_text name before after file change other, differ) refl

-- where the same is seen of the file as before, the same is seen at each name
seen_same : {X : Type 0} (see : Option MemFile → X) (name : List ℕ) (before after : Files) (file : Option MemFile) → ChangesName name before after file
    → see file ≡ see (get_by_text before name) → (other : List ℕ) → see (get_by_text after other) ≡ see (get_by_text before other)
seen_same see name before after file change same other =
    elim (bytes_eq name other) as (λ r. r ≡ bytes_eq name other → see (get_by_text after other) ≡ see (get_by_text before other)) [
      | true ↦ λ e. let is : name ≡ other = (bytes_eq-Decides name other).0 (sym e) in
          subst (λ n. see (get_by_text after n) ≡ see (get_by_text before n)) is (ap see change.1 ∙ same)
      | false ↦ λ e. seen_others see name before after file change other
          (λ o. absurd (false≢true (e ∙ (bytes_eq-Decides name other).1 (sym o))))
    ] refl

held_file : (file : MemFile) (bytes : List ℕ) → file.held ≡ true → file.bytes.items ≡ bytes → held_bytes (Some file) ≡ Some bytes
held_file file bytes held_is is = rw (held_is, is) refl

-- the file holds other bytes, where it took them
pub kept_by_change : (b : Bool) (name bytes : List ℕ) (before after : Files) (file : MemFile) → ChangesName name before after (Some file)
    → OnTrue b (file.held ≡ true) → OnTrue b (file.bytes.items ≡ bytes) → OnTrue b (HoldsExactly name bytes (bytes_in before) (bytes_in after))
kept_by_change false name bytes before after file change held_is is = tt
kept_by_change true name bytes before after file change held_is is = record {
  there = ap held_bytes change.1 ∙ held_file file bytes held_is is;
  others = seen_others held_bytes name before after (Some file) change;
}

-- the file holds what it held, where it took nothing
pub same_by_change : (b : Bool) (name : List ℕ) (before after : Files) (old new : MemFile) → ChangesName name before after (Some new)
    → get_by_text before name ≡ Some old → OnFalse b (new ≡ old) → OnFalse b (SameContents (bytes_in before) (bytes_in after))
same_by_change true name before after old new change was is = tt
same_by_change false name before after old new change was is =
    seen_same held_bytes name before after (Some new) change (ap held_bytes (ap Some is ∙ sym was))

-- the file holds what it held
pub same_by_growth : (name : List ℕ) (before after : Files) (old new : MemFile) → ChangesName name before after (Some new)
    → get_by_text before name ≡ Some old → new.held ≡ old.held → new.bytes.items ≡ old.bytes.items → SameContents (bytes_in before) (bytes_in after)
same_by_growth name before after old new change was held_same bytes_same =
    let file_same : held_bytes (Some new) ≡ held_bytes (Some old) = rw (held_same, bytes_same) refl in
    seen_same held_bytes name before after (Some new) change (file_same ∙ ap held_bytes (sym was))

-- the file is ready for as many bytes as it was
pub same_rooms : (name : List ℕ) (before after : Files) (old new : MemFile) → ChangesName name before after (Some new)
    → get_by_text before name ≡ Some old → new.room ≡ old.room → SameRooms (room_in before) (room_in after)
same_rooms name before after old new change was same =
    seen_same ready_room name before after (Some new) change (ap Some same ∙ ap ready_room (sym was))

pub same_rooms_on_err : {T E : Type 0} (r : Result T E) (name : List ℕ) (before after : Files) (old new : MemFile) → ChangesName name before after (Some new)
    → get_by_text before name ≡ Some old → OnErr r (new.room ≡ old.room) → OnErr r (SameRooms (room_in before) (room_in after))
same_rooms_on_err (Ok x) name before after old new change was same = tt
same_rooms_on_err (Err e) name before after old new change was same = same_rooms name before after old new change was same

-- the file is ready for so many bytes too
pub ready_on_ok : {T E : Type 0} (r : Result T E) (name : List ℕ) (room : ℕ) (before after : Files) (old new : MemFile) → ChangesName name before after (Some new)
    → get_by_text before name ≡ Some old → OnOk r (new.room ≡ max old.room room) → OnOk r (IsMadeReady name room (room_in before) (room_in after))
ready_on_ok (Err e) name room before after old new change was grew = tt
ready_on_ok (Ok x) name room before after old new change was grew = record {
  there = ap ready_room change.1 ∙ ap Some grew ∙ ap (λ file. Some (max (unwrap_or (ready_room file) 0) room)) (sym was);
  others = seen_others ready_room name before after (Some new) change;
}

-- a name that was not there is ready for so many bytes, and is not held
pub ready_by_adding : (name : List ℕ) (room : ℕ) (before after : Files) (new : MemFile) → ChangesName name before after (Some new)
    → get_by_text before name ≡ None → new.room ≡ room → IsMadeReady name room (room_in before) (room_in after)
ready_by_adding name room before after new change was is =
    let grew : new.room ≡ max 0 room = omega arith in record {
      there = ap ready_room change.1 ∙ ap Some grew ∙ ap (λ file. Some (max (unwrap_or (ready_room file) 0) room)) (sym was);
      others = seen_others ready_room name before after (Some new) change;
    }

pub same_by_adding : (name : List ℕ) (before after : Files) (new : MemFile) → ChangesName name before after (Some new)
    → get_by_text before name ≡ None → new.held ≡ false → SameContents (bytes_in before) (bytes_in after)
same_by_adding name before after new change was not_held =
    let unheld : held_bytes (Some new) ≡ None = rw not_held refl in
    seen_same held_bytes name before after (Some new) change (unheld ∙ ap held_bytes (sym was))

-- no file is there
pub none_by_test : {X : Type 0} (o : Option X) (b : Bool) → b ≡ false → b ≡ is_some o → o ≡ None
none_by_test None b not_there is = refl
none_by_test (Some x) b not_there is = absurd (false≢true (sym not_there ∙ is))
