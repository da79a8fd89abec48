-- What is answered of a file.
use Rattle.std.proofs.Common.{◌≡◌, ℕ, ◌≤◌, ◌<◌, List, length, refl, ap, subst, inl, inr, arith, Bool, IsTrue, Option, Some, None, Ok, Err, IfSome}
use Rattle.std.specs.Prelude.{IsSomeAnd}
use Rattle.carp_base.specs.Problem.{Problem}
use Rattle.carp_base.specs.declared.fail.Fail.TheVariants.{Memory, Refused}
use Rattle.carp_outside.specs.Causes.{Rose, RoseBy}
use Rattle.cert_lines.specs.declared.fault.CertFault.{CertFault}
use Rattle.cert_lines.specs.Laws.{FaultIsUnique, TextHasNoFault}
use Rattle.cert_lines.specs.Texts.{IsFaultOf}
use Rattle.cert_checker.specs.declared.streaming.Checked.{Checked}
use Rattle.cert_checker.specs.declared.streaming.StreamFault.TheVariants as faults
use Rattle.cert_checker.specs.Streams.{FileSays, IsChecked}

module _ (p : Problem) (limit : ℕ) (tells : Bool) (held : Option (List ℕ)) (before now given_before given_now : ℕ) where
  pub says_memory : FileSays p limit tells held before now given_before given_now (Err Memory)
  says_memory = record {
    checked = λ told. tt;
    given_text = tt;
    read = λ is. cc;
    longer = λ told is. cc;
    bad = λ told fault is. cc;
    not_longer = λ told long calm. inr refl;
    text = λ told file c holds short is calm. inr refl;
    no_text = λ told file fault holds short is calm. inr refl;
  }

  pub says_read : Rose before now → FileSays p limit tells held before now given_before given_now (Err (Refused faults.Read))
  says_read rose = record {
    checked = λ told. tt;
    given_text = tt;
    read = λ is. rose;
    longer = λ told is. cc;
    bad = λ told fault is. cc;
    not_longer = λ told long calm. absurd (calm rose);
    text = λ told file c holds short is calm. absurd (calm rose);
    no_text = λ told file fault holds short is calm. absurd (calm rose);
  }

  not_both : (file : List ℕ) → IsSomeAnd held (λ bytes. limit < length bytes) → held ≡ Some file → length file ≤ limit → ⊥
  not_both file long holds short =
      let past : limit < length file = subst (λ (h : Option (List ℕ)). IsSomeAnd h (λ bytes. limit < length bytes)) holds long in
      omega (arith, past, short)

  pub says_long : (IsTrue tells → IsSomeAnd held (λ file. limit < length file)) → FileSays p limit tells held before now given_before given_now (Err (Refused faults.TooLong))
  says_long long = record {
    checked = λ told. tt;
    given_text = tt;
    read = λ is. cc;
    longer = λ told is. long told;
    bad = λ told fault is. cc;
    not_longer = λ told some calm. inl refl;
    text = λ told file c holds short is calm. absurd (not_both file (long told) holds short);
    no_text = λ told file fault holds short is calm. absurd (not_both file (long told) holds short);
  }

  -- what the file is, where it is told
  abbrev IsFile : (P : List ℕ → Type 0) → Type 0
  IsFile P = IsSomeAnd held (λ file. (length file ≤ limit) × P file)

  pub then : {P Q : List ℕ → Type 0} → ((file : List ℕ) → P file → Q file) → IsFile P → IsFile Q
  then {P} {Q} f is = go held is
    where
      go : (h : Option (List ℕ)) → IsSomeAnd h (λ file. (length file ≤ limit) × P file) → IsSomeAnd h (λ file. (length file ≤ limit) × Q file)
      go None is = absurd is
      go (Some file) is = (is.0, f file is.1)

  held_is : (P : List ℕ → Type 0) (file : List ℕ) → held ≡ Some file → IsFile P → P file
  held_is P file holds is = let here : (length file ≤ limit) × P file = subst (λ (h : Option (List ℕ)). IsSomeAnd h (λ bytes. (length bytes ≤ limit) × P bytes)) holds is in here.1

  not_past : (P : List ℕ → Type 0) → IsFile P → IfSome held (λ file. limit < length file) → ⊥
  not_past P is past = go held is past
    where
      go : (h : Option (List ℕ)) → IsSomeAnd h (λ file. (length file ≤ limit) × P file) → IfSome h (λ file. limit < length file) → ⊥
      go None is past = is
      go (Some file) is past = omega (arith, is.0, past)

  pub says_checked : (checked : Checked) (bytes : List ℕ) → RoseBy (length bytes) given_before given_now → TextHasNoFault → IsChecked p bytes checked → (IsTrue tells → IsFile (λ file. IsChecked p file checked)) → FileSays p limit tells held before now given_before given_now (Ok checked)
  says_checked checked bytes given apart some file_is = record {
    checked = λ told. file_is told;
    given_text = record { bytes = bytes; given = given; is = some };
    read = λ is. cc;
    longer = λ told is. cc;
    bad = λ told fault is. cc;
    not_longer = λ told past calm. absurd (not_past (λ bytes. IsChecked p bytes checked) (file_is told) past);
    text = λ told file c holds short is calm. inl refl;
    no_text = λ told file fault holds short is calm. absurd (apart file (held_is (λ bytes. IsChecked p bytes checked) file holds (file_is told)).certificate fault (held_is (λ bytes. IsChecked p bytes checked) file holds (file_is told)).text is);
  }

  pub says_bad : (fault : CertFault) → TextHasNoFault → FaultIsUnique → (IsTrue tells → IsFile (λ file. IsFaultOf file fault)) → FileSays p limit tells held before now given_before given_now (Err (Refused (faults.Bad fault)))
  says_bad fault apart one file_is = record {
    checked = λ told. tt;
    given_text = tt;
    read = λ is. cc;
    longer = λ told is. cc;
    bad = λ told other is. then (λ file of_file. subst (IsFaultOf file) (let same : fault ≡ other = (let b = is in cc) in same) of_file) (file_is told);
    not_longer = λ told past calm. absurd (not_past (λ bytes. IsFaultOf bytes fault) (file_is told) past);
    text = λ told file c holds short is calm. absurd (apart file c fault is (held_is (λ bytes. IsFaultOf bytes fault) file holds (file_is told)));
    no_text = λ told file other holds short is calm. inl (let same : fault ≡ other = one file fault other (held_is (λ bytes. IsFaultOf bytes fault) file holds (file_is told)) is in ap (λ f. Err (Refused (faults.Bad f))) same);
  }
