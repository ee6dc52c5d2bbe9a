-- The laws of connections.
use Rattle.std.proofs.Common.{◌≡◌, ◌≢◌, ◌∙◌, ◌≤◌, ◌<◌, ◌^◌, ◌++◌, ℕ, List, [], ◌∷◌, length, take, drop, refl, sym, ap, subst, Bool, true, false, Option, Some, None}
use Rattle.std.specs.Int.{w64, from_be_bytes, to_be_bytes}
use Rattle.std.specs.Prelude.{◌==◌, not, All, IsSome, replicate}
use Rattle.std.proofs.lemmas.Bool.{and_right, eqb-true}
use Rattle.std.proofs.lemmas.List.{drop_at, take_at}
use Rattle.std.proofs.lemmas.List.Elements.{All-head, All-tail}
use Rattle.std.proofs.lemmas.Nat.{from_be_bytes-to_be_bytes_8}
use Rattle.roll_wire.specs.declared.datagram.Clocks.{Clocks}
use Rattle.roll_wire.specs.declared.datagram.Hello.{Hello}
use Rattle.roll_contact.specs.Contacts.{after_hello, after_play, are_newer, confirming, greeted, heard, is_before, is_fresh, is_playing, meeting, met, passing, with_clocks}
use Rattle.roll_contact.specs.Keys.{block_of}
use Rattle.roll_contact.specs.Laws.{after_plays, Coming, CopiesEndNoSilence, IsKey, IsOld, KeysDiffer, OnlyAnEchoIsBelieved, RefusalsEndNoSilence}
use Rattle.roll_contact.specs.Seals.{HasNumber, field, named, sealed, tag, unsealed}
use Rattle.roll_contact.specs.declared.contact.Contact.{Contact}
use Rattle.roll_contact.specs.declared.contact.Opening.{Opening}
use Rattle.roll_contact.specs.declared.contact.Stage.{Stage}
use Rattle.roll_contact.specs.declared.contact.Stage.TheVariants.{Silent, Greeted, Playing, Mismatched}
use Rattle.roll_contact.specs.declared.key.Key.{Key}
use Rattle.roll_contact.specs.declared.terms.Field.{Field}
use Rattle.roll_contact.proofs.Seals.{field-with_field, length-tag, named-sealed, opened}

-- ---- what is believed

met_plays : (s : Stage) → is_playing (met s) ≡ is_playing s
met_plays Silent = refl
met_plays Greeted = refl
met_plays Playing = refl
met_plays (Mismatched field) = refl

no : {A : Type 0} → true ≡ false → A
no e = absurd cc

module _ (own : Opening) (mismatch : Option Field) (hello : Hello) (now : ℕ) (contact : Contact) where
  met_only : is_playing contact.stage ≡ false
      → is_playing (meeting own mismatch hello now contact).stage ≡ true
      → hello.echo ≡ own.draw
  met_only off on = go (hello.echo == own.draw) refl
    where
      go : (b : Bool) → (hello.echo == own.draw) ≡ b → hello.echo ≡ own.draw
      go true e = eqb-true hello.echo own.draw e
      go false e = no (sym (rw e at on) ∙ met_plays contact.stage ∙ off)

  is_met : is_playing contact.stage ≡ false
      → after_hello own mismatch hello now contact ≡ meeting own mismatch hello now contact
  unfolding after_hello
  is_met off = rw off refl

  judged : (m : Option Field) → is_playing contact.stage ≡ false
      → is_playing (meeting own m hello now contact).stage ≡ true → m ≡ None
  judged None off on = refl
  judged (Some field) off on = go (hello.echo == own.draw) refl
    where
      go : (b : Bool) → (hello.echo == own.draw) ≡ b → Some field ≡ None
      go true e = no (sym (rw e at on))
      go false e = no (sym (rw e at on) ∙ met_plays contact.stage ∙ off)

  kept : is_playing contact.stage ≡ true → contact.confirmed ≡ true
      → (after_hello own mismatch hello now contact).draw ≡ contact.draw
  unfolding after_hello
  kept on sure = go (hello.draw == contact.draw) refl (hello.echo == own.draw) refl
    where
      go : (same : Bool) → (hello.draw == contact.draw) ≡ same → (echoed : Bool) → (hello.echo == own.draw) ≡ echoed
          → (after_hello own mismatch hello now contact).draw ≡ contact.draw
      go true e true f = rw (on, e, f) refl
      go true e false f = rw (on, e, f) refl
      go false e true f = rw (on, e, f, sure) refl
      go false e false f = rw (on, e, f) refl

  unsaid : is_playing contact.stage ≡ true → (hello.echo == own.draw) ≡ false
      → (after_hello own mismatch hello now contact).draw ≡ contact.draw
  unfolding after_hello
  unsaid on f = go (hello.draw == contact.draw) refl
    where
      go : (same : Bool) → (hello.draw == contact.draw) ≡ same
          → (after_hello own mismatch hello now contact).draw ≡ contact.draw
      go true e = rw (on, e, f) refl
      go false e = rw (on, e, f) refl

  replaced : is_playing contact.stage ≡ true
      → (after_hello own mismatch hello now contact).draw ≢ contact.draw → hello.echo ≡ own.draw
  replaced on differ = go (hello.echo == own.draw) refl
    where
      go : (echoed : Bool) → (hello.echo == own.draw) ≡ echoed → hello.echo ≡ own.draw
      go true f = eqb-true hello.echo own.draw f
      go false f = absurd (differ (unsaid on f))

  greeted_restarts : (m : Option Field) (c : Contact) → (greeted own m hello now c).restarted ≡ c.restarted
  greeted_restarts None c = refl
  greeted_restarts (Some field) c = refl

  unmet : is_playing contact.stage ≡ false
      → (after_hello own mismatch hello now contact).restarted ≡ contact.restarted
  unfolding after_hello
  unmet off = go (hello.echo == own.draw) refl
    where
      go : (b : Bool) → (hello.echo == own.draw) ≡ b
          → (after_hello own mismatch hello now contact).restarted ≡ contact.restarted
      go true e = rw (off, e) (greeted_restarts mismatch _)
      go false e = rw (off, e) refl

  stays : is_playing contact.stage ≡ true → (hello.echo == own.draw) ≡ false
      → (after_hello own mismatch hello now contact).restarted ≡ contact.restarted
  unfolding after_hello
  stays on f = go (hello.draw == contact.draw) refl
    where
      go : (same : Bool) → (hello.draw == contact.draw) ≡ same
          → (after_hello own mismatch hello now contact).restarted ≡ contact.restarted
      go true e = rw (on, e, f) refl
      go false e = rw (on, e, f) refl

  begun : (after_hello own mismatch hello now contact).restarted ≢ contact.restarted → hello.echo ≡ own.draw
  begun differ = go (is_playing contact.stage) refl (hello.echo == own.draw) refl
    where
      go : (plays : Bool) → is_playing contact.stage ≡ plays → (echoed : Bool) → (hello.echo == own.draw) ≡ echoed
          → hello.echo ≡ own.draw
      go plays on true f = eqb-true hello.echo own.draw f
      go true on false f = absurd (differ (stays on f))
      go false off false f = absurd (differ (unmet off))

pub only_an_echo_is_believed : OnlyAnEchoIsBelieved
only_an_echo_is_believed = record {
  echoed = λ own mismatch hello now contact off on.
      met_only own mismatch hello now contact off (rw (is_met own mismatch hello now contact off) at on);
  alike = λ own mismatch hello now contact off on.
      judged own mismatch hello now contact mismatch off (rw (is_met own mismatch hello now contact off) at on);
  changed = replaced;
  lasts = kept;
  restarted = begun;
}

-- ---- silence

pub refusals_end_no_silence : RefusalsEndNoSilence
refusals_end_no_silence contact now silent_after = refl

-- what a silence is told by
record WaitsAs (one other : Contact) : Type 0 where
  stage : one.stage ≡ other.stage
  sure : one.confirmed ≡ true
  answered : one.answered ≡ other.answered
  at : one.answered_at ≡ other.answered_at
  unanswered : one.unanswered ≡ other.unanswered

not_fresh : (clock newest now : ℕ) → is_before newest clock ≡ false → is_fresh clock newest now ≡ false
not_fresh clock newest now e = rw e (and_right (not (clock == 0)) false refl)

module _ (number frame now : ℕ) (contact : Contact) (sure : contact.confirmed ≡ true) where
  confirmed_waits : WaitsAs (confirming now (heard now contact)) contact
  confirmed_waits = record {
    stage = rw sure refl;
    sure = rw sure refl;
    answered = rw sure refl;
    at = rw sure refl;
    unanswered = rw sure refl;
  }

  stale_clocks : (clocks : Clocks) → is_before contact.answered clocks.heard_clock ≡ false
      → WaitsAs (with_clocks number (Some clocks) frame now contact) contact
  stale_clocks clocks old = go (are_newer contact.their_clocks number) refl
    where
      stale : is_fresh clocks.heard_clock contact.answered now ≡ false
      stale = not_fresh clocks.heard_clock contact.answered now old

      go : (b : Bool) → are_newer contact.their_clocks number ≡ b
          → WaitsAs (with_clocks number (Some clocks) frame now contact) contact
      go true e = record {
        stage = rw (e, stale) refl;
        sure = rw (e, stale) sure;
        answered = rw (e, stale) refl;
        at = rw (e, stale) refl;
        unanswered = rw (e, stale) refl;
      }
      go false e = record {
        stage = rw e refl;
        sure = rw e sure;
        answered = rw e refl;
        at = rw e refl;
        unanswered = rw e refl;
      }

  kept_clocks : (clocks : Option Clocks)
      → ((known : Clocks) → clocks ≡ Some known → is_before contact.answered known.heard_clock ≡ false)
      → WaitsAs (with_clocks number clocks frame now contact) contact
  kept_clocks None old = record { stage = refl; sure = sure; answered = refl; at = refl; unanswered = refl }
  kept_clocks (Some clocks) old = stale_clocks clocks (old clocks refl)

old_clocks : (play : Coming) (contact : Contact) → contact.confirmed ≡ true → IsOld contact.answered play
    → WaitsAs (after_play play.number play.clocks play.frame play.now contact) contact
unfolding after_play
old_clocks play contact sure old =
    let first = confirmed_waits play.number play.frame play.now contact sure in
    let last = kept_clocks play.number play.frame play.now
    (passing play.number (confirming play.now (heard play.now contact))) first.sure play.clocks
    (λ known e. subst (λ (n : ℕ). is_before n known.heard_clock ≡ false) (sym first.answered) (old known e)) in
    record {
      stage = last.stage ∙ first.stage;
      sure = last.sure;
      answered = last.answered ∙ first.answered;
      at = last.at ∙ first.at;
      unanswered = last.unanswered ∙ first.unanswered;
    }

still : (plays : List Coming) (contact : Contact) → contact.confirmed ≡ true → All (IsOld contact.answered) plays
    → WaitsAs (after_plays plays contact) contact
unfolding after_plays
still [] contact sure old = record { stage = refl; sure = sure; answered = refl; at = refl; unanswered = refl }
still (play ∷ plays) contact sure old =
    let first = old_clocks play contact sure (All-head (IsOld contact.answered) play plays old) in
    let rest = still plays (after_play play.number play.clocks play.frame play.now contact) first.sure
    (subst (λ (n : ℕ). All (IsOld n) plays) (sym first.answered) (All-tail (IsOld contact.answered) play plays old)) in
    record {
      stage = rest.stage ∙ first.stage;
      sure = rest.sure;
      answered = rest.answered ∙ first.answered;
      at = rest.at ∙ first.at;
      unanswered = rest.unanswered ∙ first.unanswered;
    }

pub copies_end_no_silence : CopiesEndNoSilence
copies_end_no_silence plays contact now silent_after sure old =
    let same = still plays contact sure old in
    rw (same.stage, same.sure, same.at, same.unanswered, sure) refl

-- ---- keys

abbrev eight : ℕ → List ℕ
eight n = to_be_bytes w64 n

same_number : (m n : ℕ) → m < 2 ^ 64 → n < 2 ^ 64 → eight m ≡ eight n → m ≡ n
same_number m n lm ln e =
    sym (from_be_bytes-to_be_bytes_8 m lm) ∙ ap (from_be_bytes w64) e ∙ from_be_bytes-to_be_bytes_8 n ln

-- of two texts that begin with 8 bytes, these and the rest are the same
first_8 : (a b : ℕ) (xs ys : List ℕ) → eight a ++ xs ≡ eight b ++ ys → (eight a ≡ eight b) × (xs ≡ ys)
first_8 a b xs ys e = (
  sym (take_at (eight a) xs 8 refl) ∙ ap (take 8) e ∙ take_at (eight b) ys 8 refl,
  sym (drop_at (eight a) xs 8 refl) ∙ ap (drop 8) e ∙ drop_at (eight b) ys 8 refl,
)

one_key : (one other : Key) → IsKey one → IsKey other → block_of one ≡ block_of other → one ≡ other
one_key one other f g e =
    let zeros : List ℕ = replicate 40 0 in
    let a = first_8 one.number other.number (eight one.from ++ (eight one.to ++ zeros))
    (eight other.from ++ (eight other.to ++ zeros)) e in
    let b = first_8 one.from other.from (eight one.to ++ zeros) (eight other.to ++ zeros) a.1 in
    let c = first_8 one.to other.to zeros zeros b.1 in
    same one.number one.from one.to
    (same_number one.number other.number f.0 g.0 a.0)
    (same_number one.from other.from f.1.0 g.1.0 b.0)
    (same_number one.to other.to f.1.1 g.1.1 c.0)
  where
    same : (n m k : ℕ) → n ≡ other.number → m ≡ other.from → k ≡ other.to
        → record { number = n; from = m; to = k } ≡ other
    same n m k p q r = rw (p, q, r) refl

one_tag : (one other : Key) (text : List ℕ) → 12 ≤ length text → one.number ≡ other.number
    → HasNumber one.number text → IsSome (unsealed other (sealed one text)) → tag other text ≡ tag one text
one_tag one other text long same has some =
    let opens = opened other (sealed one text) some in
    let back : named other.number (sealed one text) ≡ text =
    ap (λ (n : ℕ). named n (sealed one text)) (sym same) ∙ named-sealed one text long has in
    let e : sealed other text ≡ sealed one text = ap (sealed other) (sym back) ∙ opens in
    sym (field-with_field (tag other text) text (length-tag other text) long)
    ∙ ap field e ∙ field-with_field (tag one text) text (length-tag one text) long

pub keys_differ : KeysDiffer
keys_differ = record { one_key = one_key; one_tag = one_tag }
