-- What an engine comes to, by what its parts came to.
use Rattle.std.proofs.Common.{◌≡◌, ◌⊎◌, ◌∙◌, ℕ, List, Option, Some, None, ap, sym, inl, inr}
use Rattle.std.specs.Prelude.{◌≢◌, IfErr, IfSome, IsErrAnd, Result, Ok, Err}
use Rattle.std.proofs.lemmas.Option.{IfSome_then}
use Rattle.std.proofs.lemmas.Result.{IfOk-weaker}
use Rattle.roll_text.specs.Streams.{AppendsPart}
use Rattle.prog_scripts.specs.declared.fault.PlayFault.{PlayFault}
use Rattle.prog_scripts.specs.declared.fault.PlayFault.TheVariants.{Unreadable, NoMemory, Write}
use Rattle.prog_scripts.specs.Engines.{Outputs, Plays}

of_any : {X : Type 0} {P : X → Type 0} (known : Option X) → ((x : X) → P x) → IfSome known P
of_any None h = tt
of_any (Some x) h = h x

-- a fault of writing or of memory names no line
names_no_line : {T : Type 0} (P : Type 0) (Q : ℕ → Type 0) (result : Result T PlayFault)
    → IfErr result (λ fault. (fault ≡ Write) ⊎ ((fault ≡ NoMemory) × P))
    → (line : ℕ) → result ≡ Err (Unreadable line) → Q line
names_no_line P Q (Ok x) h line e = absurd (cc e)
names_no_line P Q (Err fault) (inl is) line e =
    let wrong : Write ≡ Unreadable line = cc in absurd (cc wrong)
names_no_line P Q (Err fault) (inr is) line e =
    let memory : fault ≡ NoMemory = is.0 in
    let wrong : NoMemory ≡ Unreadable line = cc in
    absurd (cc wrong)

module _ {T : Type 0} (before after : Option (List ℕ)) (result : Result T PlayFault) where
  -- what follows of every output follows of the one that there is
  pub outputs_weaker : {P Q : List ℕ → T → Type 0}
      → ((whole : List ℕ) (said : T) → P whole said → Q whole said)
      → Outputs P before after result → Outputs Q before after result
  outputs_weaker f h = record {
    written = IfOk-weaker result _ _ (λ said w. (w.0, f w.0 said w.1, w.2)) h.written;
    cut = λ failed. let w = h.cut failed in (w.0, w.1, f w.0 w.1 w.2, w.3);
  }

module _ {T : Type 0} {P : List ℕ → T → Type 0} (before after : Option (List ℕ)) where
  -- a writer that fails has a front
  pub outputs_front : (result : Result T PlayFault) (fault : PlayFault) (whole : List ℕ) (said : T)
      → IsErrAnd result (λ other. other ≡ fault) → P whole said → AppendsPart before after whole
      → Outputs P before after result
  outputs_front (Ok x) fault whole said h is part = absurd h
  outputs_front (Err other) fault whole said h is part = record {
    written = tt;
    cut = λ e. (whole, said, is, part);
  }

module _ {IsBad : ℕ → List ℕ → Type 0} (text before after : Option (List ℕ)) where
  -- a text was read, and an output follows
  pub plays_read : {T : Type 0} {P : List ℕ → T → Type 0} {Q : List ℕ → List ℕ → T → Type 0}
      (result : Result T PlayFault)
      → IfSome text (λ t. (whole : List ℕ) (said : T) → P whole said → Q t whole said)
      → ((line : ℕ) → result ≡ Err (Unreadable line) → IfSome text (IsBad line))
      → Outputs P before after result → Plays IsBad Q text before after result
  plays_read result f bad h = record {
    outputs = IfSome_then text f (λ t of_text. outputs_weaker before after result of_text h);
    unreadable = bad;
  }

  -- the same, of an output that comes to no fault but of writing and of memory
  pub plays_written : {T : Type 0} {P : List ℕ → T → Type 0} {Q : List ℕ → List ℕ → T → Type 0}
      (Left : Type 0) (result : Result T PlayFault)
      → IfSome text (λ t. (whole : List ℕ) (said : T) → P whole said → Q t whole said)
      → IfErr result (λ fault. (fault ≡ Write) ⊎ ((fault ≡ NoMemory) × Left))
      → Outputs P before after result → Plays IsBad Q text before after result
  plays_written Left result f faults h =
      plays_read result f (names_no_line Left (λ line. IfSome text (IsBad line)) result faults) h

  -- a text wasn't read
  unread : {T : Type 0} {Q : List ℕ → List ℕ → T → Type 0} (result : Result T PlayFault)
      (fault : PlayFault) → IsErrAnd result (λ other. other ≡ fault) → fault ≢ Write
      → ((line : ℕ) → fault ≡ Unreadable line → IfSome text (IsBad line))
      → Plays IsBad Q text before after result
  unread (Ok x) fault same apart bad = absurd same
  unread (Err other) fault same apart bad = record {
    outputs = of_any text (λ t. record {
      written = tt;
      cut = λ e. let is : other ≡ Write = cc in absurd (apart (sym same ∙ is));
    });
    unreadable = λ line e. let is : other ≡ Unreadable line = cc in bad line (sym same ∙ is);
  }

  -- the same, of a reading that came to this fault
  pub plays_unread : {X T : Type 0} {Q : List ℕ → List ℕ → T → Type 0} (read : Result X PlayFault)
      (result : Result T PlayFault) (fault : PlayFault) → read ≡ Err fault
      → IsErrAnd result (λ other. other ≡ fault) → IfErr read (λ other. other ≢ Write)
      → ((line : ℕ) → read ≡ Err (Unreadable line) → IfSome text (IsBad line))
      → Plays IsBad Q text before after result
  plays_unread read result fault was same apart bad =
      unread result fault same (rw was at apart) (λ line is. bad line (was ∙ ap Err is))

  -- a fault of one engine is another's, if an output of the one has an output of the other
  pub plays_handed_on : {X Y : Type 0} {P : List ℕ → List ℕ → X → Type 0}
      {Q : List ℕ → List ℕ → Y → Type 0} (f : X → Y)
      → ((t whole : List ℕ) (said : X) → P t whole said → Q t whole (f said))
      → (result : Result X PlayFault) → Plays IsBad P text before after result
      → (answer : Result Y PlayFault) (fault : PlayFault) → result ≡ Err fault
      → IsErrAnd answer (λ other. other ≡ fault) → Plays IsBad Q text before after answer
  plays_handed_on f of_each result h (Ok y) fault was same = absurd same
  plays_handed_on f of_each result h (Err other) fault was same = record {
    outputs = IfSome_then text h.outputs (λ t out. record {
      written = tt;
      cut = λ e.
          let failed : fault ≡ Write = cc in
          let w = out.cut (was ∙ ap Err failed) in
          (w.0, f w.1, of_each t w.0 w.1 w.2, w.3);
    });
    unreadable = λ line e.
        let bad : fault ≡ Unreadable line = cc in h.unreadable line (was ∙ ap Err bad);
  }
