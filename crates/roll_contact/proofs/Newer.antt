-- A play is newer once.
use Rattle.std.proofs.Common.{◌≡◌, ◌∙◌, ◌≤◌, ◌<◌, ◌^◌, ℕ, List, [], ◌∷◌, refl, ap, arith, Bool, true, false, Option, Some, None}
use Rattle.std.specs.Prelude.{◌-◌, ◌==◌, nat_le, nat_lt, if◌then◌else◌}
use Rattle.std.proofs.lemmas.Bool.{le-leb, leb-false, leb-true, lt-leb}
use Rattle.roll_wire.specs.declared.datagram.Clocks.{Clocks}
use Rattle.roll_wire.specs.declared.datagram.Hello.{Hello}
use Rattle.roll_contact.specs.Clocks.{one_more}
use Rattle.roll_contact.specs.Contacts.{after_hello, after_play, are_newer, confirming, greeted, heard, is_fresh, is_playing, meeting, other_opening, passing, same_opening, told, with_clocks}
use Rattle.roll_contact.specs.Laws.{after_all, after_one, Came, Greeting, HeardIsOld, Refusal, Turn}
use Rattle.roll_contact.specs.declared.contact.Contact.{Contact}
use Rattle.roll_contact.specs.declared.contact.Opening.{Opening}
use Rattle.roll_contact.specs.declared.terms.Field.{Field}

-- ---- what a hello and a play change

module _ (own : Opening) (hello : Hello) (now : ℕ) where
  greeted_after : (m : Option Field) (c : Contact) → (greeted own m hello now c).after ≡ c.after
  greeted_after None c = refl
  greeted_after (Some field) c = refl

  module _ (mismatch : Option Field) (contact : Contact) where
    meeting_after : (meeting own mismatch hello now contact).after ≡ contact.after
    meeting_after = go (hello.echo == own.draw) refl
      where
        go : (b : Bool) → (hello.echo == own.draw) ≡ b → (meeting own mismatch hello now contact).after ≡ contact.after
        go true e = rw e (greeted_after mismatch _)
        go false e = rw e refl

    same_after : (same_opening own mismatch hello now contact).after ≡ contact.after
    same_after = go (hello.echo == own.draw) refl
      where
        go : (b : Bool) → (hello.echo == own.draw) ≡ b
            → (same_opening own mismatch hello now contact).after ≡ contact.after
        go true e = rw e refl
        go false e = rw e refl

    other_after : (other_opening own mismatch hello now contact).after ≡ contact.after
    other_after = go (hello.echo == own.draw) refl contact.confirmed refl
      where
        go : (b : Bool) → (hello.echo == own.draw) ≡ b → (sure : Bool) → contact.confirmed ≡ sure
            → (other_opening own mismatch hello now contact).after ≡ contact.after
        go true e true f = rw (e, f) refl
        go true e false f = rw (e, f) (greeted_after mismatch _)
        go false e sure f = rw e refl

    hello_after : (after_hello own mismatch hello now contact).after ≡ contact.after
    unfolding after_hello
    hello_after = go (is_playing contact.stage) refl (hello.draw == contact.draw) refl
      where
        go : (on : Bool) → is_playing contact.stage ≡ on → (same : Bool) → (hello.draw == contact.draw) ≡ same
            → (after_hello own mismatch hello now contact).after ≡ contact.after
        go true e true f = rw (e, f) same_after
        go true e false f = rw (e, f) other_after
        go false e same f = rw e meeting_after

-- after a play, if so much was known before
passed : ℕ → ℕ → ℕ
passed number after = if nat_le after number then one_more number else after

module _ (number frame now : ℕ) (contact : Contact) where
  confirming_after : (confirming now contact).after ≡ contact.after
  confirming_after = go contact.confirmed refl
    where
      go : (b : Bool) → contact.confirmed ≡ b → (confirming now contact).after ≡ contact.after
      go true e = rw e refl
      go false e = rw e refl

  told_after : (clock : ℕ) → (told clock now contact).after ≡ contact.after
  told_after clock = go (is_fresh clock contact.answered now) refl
    where
      go : (b : Bool) → is_fresh clock contact.answered now ≡ b → (told clock now contact).after ≡ contact.after
      go true e = rw e refl
      go false e = rw e refl

  clocks_after : (clocks : Option Clocks) → (with_clocks number clocks frame now contact).after ≡ contact.after
  clocks_after None = refl
  clocks_after (Some clocks) = go (are_newer contact.their_clocks number) refl
    where
      go : (b : Bool) → are_newer contact.their_clocks number ≡ b
          → (with_clocks number (Some clocks) frame now contact).after ≡ contact.after
      go true e = rw e (told_after clocks.heard_clock)
      go false e = rw e refl

  passing_after : (passing number contact).after ≡ passed number contact.after
  unfolding passed
  passing_after = refl

play_after : (number : ℕ) (clocks : Option Clocks) (frame now : ℕ) (contact : Contact)
    → (after_play number clocks frame now contact).after ≡ passed number contact.after
unfolding after_play
play_after number clocks frame now contact =
    let sure = confirming now (heard now contact) in
    clocks_after number frame now (passing number sure) clocks
    ∙ passing_after number frame now sure
    ∙ ap (passed number) (confirming_after number frame now (heard now contact))

-- ---- numbers

module _ (n : ℕ) (fits : n < 2 ^ 32 - 1) where
  below_more : (m : ℕ) → n ≤ m → n < one_more m
  below_more m le = grind arith

  still_below : (m after : ℕ) → n < after → n < passed m after
  unfolding passed
  still_below m after lt = go (nat_le after m) refl
    where
      go : (b : Bool) → nat_le after m ≡ b → n < passed m after
      go true e = rw e (below_more m (omega (arith, lt, leb-true after m e)))
      go false e = rw e lt

  below : (after : ℕ) → n < passed n after
  unfolding passed
  below after = go (nat_le after n) refl
    where
      go : (b : Bool) → nat_le after n ≡ b → n < passed n after
      go true e = rw e (below_more n (omega arith))
      go false e = rw e (leb-false after n e)

  rises : (after : ℕ) → nat_lt after (passed n after) ≡ nat_le after n
  unfolding passed
  rises after = go (nat_le after n) refl
    where
      go : (b : Bool) → nat_le after n ≡ b → nat_lt after (passed n after) ≡ nat_le after n
      go true e = rw e (le-leb _ _ (omega (arith, below_more n (omega arith), leb-true after n e)))
      go false e = rw e (lt-leb _ _ (omega arith))

  one_later : (own : Opening) (one : Came) (contact : Contact) → n < contact.after
      → n < (after_one own one contact).after
  one_later own (Greeting mismatch hello now) contact lt =
      rw (hello_after own hello now mismatch contact) lt
  one_later own (Turn play) contact lt =
      rw (play_after play.number play.clocks play.frame play.now contact) (still_below play.number contact.after lt)
  one_later own Refusal contact lt = lt

  all_later : (own : Opening) (came : List Came) (contact : Contact) → n < contact.after
      → n < (after_all own came contact).after
  unfolding after_all
  all_later own [] contact lt = lt
  all_later own (one ∷ more) contact lt =
      all_later own more (after_one own one contact) (one_later own one contact lt)

pub heard_is_old : HeardIsOld
unfolding after_all
heard_is_old = record {
  passes = λ play contact fits.
      rw (play_after play.number play.clocks play.frame play.now contact) (rises play.number fits contact.after);
  lasts = λ own play came contact fits.
      let first : play.number < (after_one own (Turn play) contact).after =
      rw (play_after play.number play.clocks play.frame play.now contact) (below play.number fits contact.after) in
      lt-leb _ _ (all_later play.number fits own came (after_one own (Turn play) contact) first);
}
