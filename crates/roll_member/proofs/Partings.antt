-- Players who leave the session: their words stay, and who is gone stays gone.
use Rattle.std.proofs.Common.{◌≡◌, ◌≢◌, ◌⊎◌, ◌∙◌, ◌≤◌, ◌<◌, ℕ, suc, ◌+◌, ◌-◌, List, [], ◌∷◌, ◌++◌, length, set, take, refl, ap, sym, subst, arith, Bool, true, false, inl, inr, Option, Some, None, below_more}
use Rattle.std.specs.Option.{option_map_or, option_or}
use Rattle.std.specs.Prelude.{if◌then◌else◌, nat_le, slice_index_or, slice_set, IfNone, IfSome}
use Rattle.std.proofs.lemmas.Bool.{cases_Bool, cases_eq, false≢true}
use Rattle.std.proofs.lemmas.List.{get_or-set_other, get_or-set_same, length-set, length-take, take_more_set}
use Rattle.roll_frame.proofs.Refused.{all_fail}
use Rattle.roll_frame.specs.Inputs.{changed, disconnect_tests, player_at, with_gone}
use Rattle.roll_frame.specs.Timeline.{Player}
use Rattle.roll_frame.specs.declared.refusal.Refusal.{Refusal}
use Rattle.roll_frame.specs.declared.refusal.Refusal.TheVariants.{LogFull}
use Rattle.roll_inputs.proofs.Players.{at_changed, at_other, found}
use Rattle.roll_mesh.specs.declared.limits.TheConstants.{PLAYER_LIMIT}
use Rattle.roll_mesh.specs.declared.machine.Machine.{Machine}
use Rattle.roll_session.specs.Changes.{after_disconnect, disconnect_refusal}
use Rattle.roll_session.specs.Headline.{words_of}
use Rattle.roll_session.specs.Seen.{Seen}
use Rattle.roll_member.specs.Joined.{is_gone_at, is_local_at}
use Rattle.roll_member.specs.Leaving.{disconnected, has_left, Disconnects, DisconnectsAll, IsWaiting}
use Rattle.roll_member.proofs.Players.{length_changed}
use Rattle.roll_member.specs.declared.leaving.Left.{Left}
use Rattle.roll_member.specs.declared.leaving.Parted.{Parted}

-- nobody leaves if there is no such player
unchanged : (players : List Player) (p : ℕ) → player_at players p ≡ None
    → changed with_gone players p ≡ players
unchanged players p e =
    ap (λ o. option_map_or (λ x. slice_set players (p - 1) (with_gone x)) o players) e

-- the others are there as before
other_at : (players : List Player) (p q : ℕ) → q ≢ p
    → player_at (changed with_gone players p) q ≡ player_at players q
other_at players p q apart = go (player_at players p) refl
  where
    go : (o : Option Player) → player_at players p ≡ o
        → player_at (changed with_gone players p) q ≡ player_at players q
    go None e = ap (λ ps. player_at ps q) (unchanged players p e)
    go (Some x) e = at_other with_gone players p q x e apart

-- what a player's leaving doesn't touch
same_at : {X : Type 0} (f : Option Player → X)
    → ((x : Player) → f (Some (with_gone x)) ≡ f (Some x)) → (players : List Player) (p q : ℕ)
    → f (player_at (changed with_gone players p) q) ≡ f (player_at players q)
same_at f keeps players p q = go (cases_eq q p)
  where
    own : (o : Option Player) → player_at players p ≡ o
        → f (player_at (changed with_gone players p) p) ≡ f (player_at players p)
    own None e = ap (λ ps. f (player_at ps p)) (unchanged players p e)
    own (Some x) e = ap f (at_changed with_gone players p x e) ∙ keeps x ∙ ap f (sym e)

    go : (q ≡ p) ⊎ (q ≡ p → ⊥)
        → f (player_at (changed with_gone players p) q) ≡ f (player_at players q)
    go (inl e) = rw e (own (player_at players p) refl)
    go (inr apart) = ap f (other_at players p q apart)

-- a session after the player at a place has left it, or has not
abbrev after_parting : Bool → Seen → ℕ → Seen
after_parting goes s place = if goes then after_disconnect s (place + 1) else s

words_kept : (goes : Bool) (s : Seen) (place q : ℕ)
    → words_of (after_parting goes s place) q ≡ words_of s q
words_kept true s place q =
    same_at (λ o. option_map_or (λ player. player.words) o []) (λ x. refl) s.core.players
    (place + 1) q
words_kept false s place q = refl

locals_kept : (goes : Bool) (s : Seen) (place p : ℕ)
    → is_local_at (after_parting goes s place) p ≡ is_local_at s p
locals_kept true s place p =
    same_at (λ o. option_map_or (λ player. player.local) o false) (λ x. refl) s.core.players
    (place + 1) (p + 1)
locals_kept false s place p = refl

many_kept : (goes : Bool) (s : Seen) (place : ℕ)
    → length (after_parting goes s place).core.players ≡ length s.core.players
many_kept true s place = go (player_at s.core.players (place + 1)) refl
  where
    go : (o : Option Player) → player_at s.core.players (place + 1) ≡ o
        → length (changed with_gone s.core.players (place + 1)) ≡ length s.core.players
    go None e = ap (λ (ps : List Player). length ps) (unchanged s.core.players (place + 1) e)
    go (Some x) e = length_changed with_gone s.core.players (place + 1) x e
many_kept false s place = refl

others_kept : (goes : Bool) (s : Seen) (place p : ℕ) → p ≢ place
    → is_gone_at (after_parting goes s place) p ≡ is_gone_at s p
others_kept true s place p apart =
    ap (λ o. option_map_or (λ player. player.gone) o false)
    (other_at s.core.players (place + 1) (p + 1) (λ h. apart (omega (arith, h))))
others_kept false s place p apart = refl

-- who is gone stays gone
gone_kept : (goes : Bool) (s : Seen) (place p : ℕ) → is_gone_at s p ≡ true
    → is_gone_at (after_parting goes s place) p ≡ true
gone_kept true s place p gone = go (cases_eq p place)
  where
    own : (x : Player) × (player_at s.core.players (p + 1) ≡ Some x) × (x.gone ≡ true)
        → is_gone_at (after_disconnect s (p + 1)) p ≡ true
    own x = ap (λ o. option_map_or (λ (player : Player). player.gone) o false)
        (at_changed with_gone s.core.players (p + 1) x.0 x.1)

    go : (p ≡ place) ⊎ (p ≡ place → ⊥) → is_gone_at (after_disconnect s (place + 1)) p ≡ true
    go (inl e) =
        subst (λ (q : ℕ). is_gone_at (after_disconnect s (q + 1)) p ≡ true) e
        (own (found (λ (player : Player). player.gone) s.core.players (p + 1) gone))
    go (inr apart) = others_kept true s place p apart ∙ gone
gone_kept false s place p gone = gone

-- who may leave isn't gone yet
not_gone : (s : Seen) (p : ℕ) → disconnect_refusal s (p + 1) ≡ None → is_gone_at s p ≡ false
not_gone s p e =
    let fails = all_fail (disconnect_tests s.core.players (p + 1)
    ++ (nat_le s.settings.log s.core.logged, LogFull) ∷ []) e in
    fails.1.0

-- some of the players before a place have left, as far as they could
pub record IsPartly (old : Seen) (machine : Machine) (place : ℕ) (mid : Seen) (players : List Bool)
    (refusal : Option Refusal) : Type 0 where
  pub all : length players ≡ PLAYER_LIMIT
  pub session : mid ≡ disconnected (take place players) 0 old
  pub only : (p : ℕ) → p < place → slice_index_or players p false ≡ true
      → (has_left machine p ≡ true) × (is_gone_at old p ≡ false)
  pub others : (p : ℕ) → place ≤ p → is_gone_at mid p ≡ is_gone_at old p
  pub done : IfNone refusal
      ((p : ℕ) → p < place → has_left machine p ≡ true → is_gone_at mid p ≡ true)
  pub short : IfSome refusal (IsWaiting machine)

disconnected_more : (players : List Bool) (goes : Bool) (place : ℕ) (s : Seen)
    → disconnected (players ++ goes ∷ []) place s
    ≡ after_parting goes (disconnected players place s) (place + length players)
disconnected_more [] goes place s = ap (λ (p : ℕ). after_parting goes s p) (omega arith)
disconnected_more (first ∷ players) goes place s =
    let next : Seen = after_parting first s place in
    disconnected_more players goes (place + 1) next
    ∙ ap (λ (p : ℕ). after_parting goes (disconnected players (place + 1) next) p) (omega arith)

done_more : {P Q R : Type 0} (now before : Option Refusal) → IfNone now P → IfNone before Q
    → (P → Q → R) → IfNone (option_or now before) R
done_more None None a b f = f a b
done_more None (Some why) a b f = tt
done_more (Some why) before a b f = tt

short_more : {S T : Refusal → Type 0} (now before : Option Refusal) → IfSome now S
    → IfSome before T → ((why : Refusal) → S why → T why) → IfSome (option_or now before) T
short_more None before a b f = b
short_more (Some why) before a b f = f why a

pub partly_more : (old mid new : Seen) (machine : Machine) (place : ℕ) (players : List Bool)
    (before after : Option Refusal) (parted : Parted) → place < PLAYER_LIMIT
    → IsPartly old machine place mid players before → Disconnects mid machine place new parted
    → after ≡ option_or parted.refusal before
    → IsPartly old machine (place + 1) new (set players place parted.left) after
partly_more old mid new machine place players before after parted l i d e = record {
  all = length-set players place parted.left ∙ i.all;
  session = d.session ∙ ap (λ s. after_parting parted.left s place) i.session ∙ sym next;
  only = below_more Leaves place
      (λ p h goes. i.only p h (sym (other p (λ e. omega arith)) ∙ goes))
      (λ goes. here (sym (get_or-set_same players place parted.left false within) ∙ goes));
  others = λ p h. ap (λ s. is_gone_at s p) d.session
      ∙ others_kept parted.left mid place p (λ e. omega arith) ∙ i.others p (omega arith);
  done = rw e (done_more parted.refusal before d.done i.done
      (λ now so_far. below_more (λ p. has_left machine p ≡ true → is_gone_at new p ≡ true) place
      (λ p h left. ap (λ s. is_gone_at s p) d.session
      ∙ gone_kept parted.left mid place p (so_far p h left))
      now));
  short = rw e (short_more parted.refusal before d.short i.short
      (λ why kept. record { moment = mid; place = place; left = kept.0; kept = kept.1 }));
}
  where
    within : place < length players
    within = omega (arith, i.all, l)

    other : (p : ℕ) → p ≢ place
        → slice_index_or (set players place parted.left) p false ≡ slice_index_or players p false
    other p apart = get_or-set_other players place p parted.left false apart

    Leaves : ℕ → Type 0
    Leaves p = slice_index_or (set players place parted.left) p false ≡ true
        → (has_left machine p ≡ true) × (is_gone_at old p ≡ false)

    here : parted.left ≡ true → (has_left machine place ≡ true) × (is_gone_at old place ≡ false)
    here goes =
        let may = d.only goes in
        (may.0, sym (i.others place (omega arith)) ∙ not_gone mid place may.1)

    taken : length (take place players) ≡ place
    taken = omega (arith, length-take place players, within)

    reached : Seen
    reached = disconnected (take place players) 0 old

    next : disconnected (take (place + 1) (set players place parted.left)) 0 old
        ≡ after_parting parted.left reached place
    next = ap (λ ps. disconnected ps 0 old) (take_more_set players place parted.left within)
        ∙ disconnected_more (take place players) parted.left 0 old
        ∙ ap (λ (p : ℕ). after_parting parted.left reached p) (omega (arith, taken))

-- of many players
words_left : (players : List Bool) (place : ℕ) (s : Seen) (q : ℕ)
    → words_of (disconnected players place s) q ≡ words_of s q
words_left [] place s q = refl
words_left (goes ∷ players) place s q =
    words_left players (place + 1) (after_parting goes s place) q ∙ words_kept goes s place q

locals_left : (players : List Bool) (place : ℕ) (s : Seen) (p : ℕ)
    → is_local_at (disconnected players place s) p ≡ is_local_at s p
locals_left [] place s p = refl
locals_left (goes ∷ players) place s p =
    locals_left players (place + 1) (after_parting goes s place) p ∙ locals_kept goes s place p

many_left : (players : List Bool) (place : ℕ) (s : Seen)
    → length (disconnected players place s).core.players ≡ length s.core.players
many_left [] place s = refl
many_left (goes ∷ players) place s =
    many_left players (place + 1) (after_parting goes s place) ∙ many_kept goes s place

-- one who doesn't leave is there as before
others_left : (players : List Bool) (place : ℕ) (s : Seen) (p : ℕ)
    → ((k : ℕ) → place + k ≡ p → slice_index_or players k false ≡ false)
    → is_gone_at (disconnected players place s) p ≡ is_gone_at s p
others_left [] place s p h = refl
others_left (goes ∷ players) place s p h =
    others_left players (place + 1) (after_parting goes s place) p
    (λ k e. h (suc k) (omega (arith, e))) ∙ go goes (h 0)
  where
    go : (b : Bool) → (place + 0 ≡ p → b ≡ false)
        → is_gone_at (after_parting b s place) p ≡ is_gone_at s p
    go true stays =
        others_kept true s place p (λ e. false≢true (sym (stays (omega (arith, e)))))
    go false stays = refl

-- the words of those who left are still there
pub words_stay : (old new : Seen) (machine : Machine) (who : Left)
    → DisconnectsAll old machine new who → (q : ℕ) → words_of new q ≡ words_of old q
words_stay old new machine who d q =
    ap (λ s. words_of s q) d.session ∙ words_left who.players 0 old q

pub locals_stay : (old new : Seen) (machine : Machine) (who : Left)
    → DisconnectsAll old machine new who → (p : ℕ) → is_local_at new p ≡ is_local_at old p
locals_stay old new machine who d p =
    ap (λ s. is_local_at s p) d.session ∙ locals_left who.players 0 old p

pub many_stay : (old new : Seen) (machine : Machine) (who : Left) → DisconnectsAll old machine new who
    → length new.core.players ≡ length old.core.players
many_stay old new machine who d =
    ap (λ (s : Seen). length s.core.players) d.session ∙ many_left who.players 0 old

-- who is gone was so before, or has left the mesh
pub gone_only : (old new : Seen) (machine : Machine) (who : Left)
    → DisconnectsAll old machine new who → (p : ℕ) → p < PLAYER_LIMIT → is_gone_at new p ≡ true
    → (is_gone_at old p ≡ true) ⊎ (has_left machine p ≡ true)
gone_only old new machine who d p l gone = go (cases_Bool (slice_index_or who.players p false))
  where
    go : (slice_index_or who.players p false ≡ true) ⊎ (slice_index_or who.players p false ≡ false)
        → (is_gone_at old p ≡ true) ⊎ (has_left machine p ≡ true)
    go (inl goes) = inr (d.only p l goes).0
    go (inr stays) =
        let here : (k : ℕ) → 0 + k ≡ p → slice_index_or who.players k false ≡ false =
        λ k e. subst (λ (n : ℕ). slice_index_or who.players n false ≡ false) (omega (arith, e))
        stays in
        inl (sym (others_left who.players 0 old p here)
        ∙ sym (ap (λ s. is_gone_at s p) d.session) ∙ gone)
