-- For how many events a session has room while words are held back from it.
use Rattle.std.specs.Prelude.{◌≡◌, ◌≤◌, ℕ, ◌+◌, max}
use Rattle.std.proofs.Common.{◌∙◌, ap, sym, zero, suc}
use Rattle.std.proofs.Math.Nat.{le-add_right, le-max_left, le_refl, le_trans, max-eq_left, max-zero, suc-max-suc, zero-max}
use Rattle.roll_session.specs.Seen.{Seen}

-- the event up to which there is room for certain
abbrev pub room_to : Seen → ℕ
room_to s = s.core.logged + s.reserved

-- where a session that had no room would have it for so many events by now, this one has it up to the same event, or up to where it had it
-- before
abbrev pub HasRoom : (old new : Seen) → (room : ℕ) → Type 0
HasRoom old new room = room_to new ≡ max (room_to old) (new.core.logged + room)

-- a session, and one that differs from it by its room alone, which had it for so many events, and has it for so many now: both have room up
-- to where they had it, or up to an event for which it was made
pub record KeepRoom (old new : Seen) (had has : ℕ) : Type 0 where
  pub upto : ℕ
  pub past : old.core.logged ≤ upto
  pub here : room_to new ≡ max (room_to old) upto
  pub there : new.core.logged + has ≡ max (old.core.logged + had) upto

pub keep_itself : (s : Seen) (had : ℕ) → KeepRoom s s had had
keep_itself s had = record {
  upto = s.core.logged;
  past = le_refl s.core.logged;
  here = sym (max-eq_left (le-add_right s.core.logged s.reserved));
  there = sym (max-eq_left (le-add_right s.core.logged had));
}

max_more : (a b c : ℕ) → max (max a b) c ≡ max a (max b c)
max_more zero b c = ap (λ n. max n c) (zero-max b) ∙ sym (zero-max (max b c))
max_more (suc a) zero c = ap (λ n. max n c) (max-zero (suc a)) ∙ sym (ap (max (suc a)) (zero-max c))
max_more (suc a) (suc b) zero = max-zero (max (suc a) (suc b)) ∙ sym (ap (max (suc a)) (max-zero (suc b)))
max_more (suc a) (suc b) (suc c) =
    ap (λ n. max n (suc c)) (suc-max-suc a b) ∙ suc-max-suc (max a b) c ∙ ap suc (max_more a b c)
    ∙ sym (ap (max (suc a)) (suc-max-suc b c) ∙ suc-max-suc a (max b c))

pub keep_more : (a b c : Seen) (p q r : ℕ) → KeepRoom a b p q → KeepRoom b c q r → KeepRoom a c p r
keep_more a b c p q r one two = record {
  upto = max one.upto two.upto;
  past = le_trans one.past (le-max_left one.upto two.upto);
  here = two.here ∙ ap (λ n. max n two.upto) one.here ∙ max_more (room_to a) one.upto two.upto;
  there = two.there ∙ ap (λ n. max n two.upto) one.there ∙ max_more (a.core.logged + p) one.upto two.upto;
}
