-- Two machines that stay in a match through its epochs play one match in all of them.
use Rattle.std.specs.Prelude.{◌≡◌, ◌≤◌, ℕ, List, [], ◌∷◌}
use Rattle.roll_carry.specs.Carrying.{Carrying}
use Rattle.roll_chain.specs.Judging.{IsEnding, IsOver}
use Rattle.roll_chain.specs.Seams.{next_terms}
use Rattle.roll_chain.specs.Together.{IsJudgedTo}
use Rattle.roll_chain.specs.declared.chain.Chain.{Chain}
use Rattle.roll_epoch.specs.declared.marks.Ending.{Ending}
use Rattle.roll_frame.specs.Core.{settled}
use Rattle.roll_relay.specs.OneMatch.{HoldsBack}
use Rattle.roll_inputs.specs.declared.remote_word.RemoteWord.{RemoteWord}
use Rattle.roll_mesh.specs.Worlds.{Match}
use Rattle.roll_chain.specs.GoingOnHere.{HasGoneOn}
use Rattle.roll_chain.specs.States.{value_at}
use Rattle.roll_peer.specs.Known.{IsKnownTo}
use Rattle.roll_peer.specs.OneMatch.{AreAlike, AreOne, IsHere, IsMachine}
use Rattle.roll_peer.specs.Openings.{BeganWith}
use Rattle.roll_peer.specs.Peered.{BeginsAs, Peered}
use Rattle.roll_peer.specs.Requests.{Beside}
use Rattle.roll_peer.specs.declared.settings.MatchSettings.{MatchSettings}
use Rattle.roll_chain.specs.declared.epochs.Epochs.{Epochs}
use Rattle.roll_session.specs.Gameless.{Bare}
use Rattle.roll_session.specs.Seen.{Seen, Step}
use Rattle.roll_match.specs.Epochs.{ArePlayedTo, Epochs as AllEpochs}

-- ---- two machines in epochs

-- a machine in an epoch: how the match goes on there; its session of that epoch, and the words that wait for it; the network, with the
-- session as if it had heard them; and the end by which it left the epoch, which of the last one isn't read
pub record Stand : Type 0 where
  pub chain : Chain
  pub session : Seen
  pub words : List RemoteWord
  pub beside : Beside
  pub end : Ending

-- the session itself with its network
abbrev pub itself : Stand → Beside
itself it = record it.beside { session = it.session }

-- two machines in an epoch, by its number
pub record Pair : Type 0 where
  pub number : ℕ
  pub one : Stand
  pub other : Stand

-- so it is in each of these epochs
abbrev pub InEach : (Pair → Type 0) → Pair → List Pair → Type 0
InEach P now [] = P now
InEach P now (next ∷ more) = P now × InEach P next more

-- and so between each and the one after it
abbrev pub AtEachEnd : (Pair → Pair → Type 0) → Pair → List Pair → Type 0
AtEachEnd P now [] = Unit {0}
AtEachEnd P now (next ∷ more) = P now next × AtEachEnd P next more

-- the epoch after one that ended so has the terms that follow, and all else of the match is as it was
pub record IsNext (old : Chain) (peer : Peered) (e : Ending) (new : Chain) : Type 0 where
  pub terms : new.terms ≡ next_terms old peer e
  pub profile : new.profile ≡ old.profile
  pub comers : new.comers ≡ old.comers

module _ (games : ℕ → Step) (epochs : AllEpochs) (i j : ℕ) where
  -- an epoch opened alike at both: its terms, and the state if their games are alike
  pub record OpenedAlike (both : Pair) : Type 0 where
    pub terms : both.one.chain.terms ≡ both.other.chain.terms
    pub profile : both.one.chain.profile ≡ both.other.chain.profile
    pub comers : both.one.chain.comers ≡ both.other.chain.comers
    pub opening : AreAlike (games i) (games j) → both.one.session.opening ≡ both.other.session.opening

  -- ---- what is supposed of them

  pub record StayTogether (matches : ℕ → Match) (first : Pair) (more : List Pair) : Type 0 where
    -- all machines of the match run this library, in any epoch and in any order, and without the key nobody seals what they hear as a play
    pub played : ArePlayedTo matches games epochs
    -- the two opened the first of these epochs alike
    pub opened : OpenedAlike first
    -- each of the two has opened each of these epochs, and its network was told of no other session there
    pub there : InEach
        (λ both. IsMachine (games i) (epochs both.number) i both.one.beside × IsMachine (games j) (epochs both.number) j both.other.beside) first more
    -- what waits for a session, if anything does, are its next words
    pub waits : InEach
        (λ both. HoldsBack (games i) both.one.session both.one.words both.one.beside
        × HoldsBack (games j) both.other.session both.other.words both.other.beside) first more
    -- in none of these epochs does one regard the other as gone
    pub here : InEach (λ both. IsHere both.one.beside j × IsHere both.other.beside i) first more
    -- each left each epoch but the last where its rows and marks have it end
    pub over : AtEachEnd
        (λ now next. IsEnding now.one.chain now.one.beside.peer now.one.end × IsEnding now.other.chain now.other.beside.peer now.other.end) first more
    -- of the marks before that end, those are void at each that are so by the rules
    pub judged : AtEachEnd
        (λ now next. IsJudgedTo now.one.end.frame now.one.chain now.one.beside.peer
        × IsJudgedTo now.other.end.frame now.other.chain now.other.beside.peer) first more
    -- the session of each knew all rows before that end
    pub known : AtEachEnd
        (λ now next. IsKnownTo now.one.session now.one.end.frame × IsKnownTo now.other.session now.other.end.frame) first more
    -- the network of the next epoch was opened beside a session that began with the game's state there
    pub began : AtEachEnd
        (λ now next. BeganWith (matches next.number) games (epochs next.number) i (value_at (games i) now.one.session now.one.end.frame)
        × BeganWith (matches next.number) games (epochs next.number) j (value_at (games j) now.other.session now.other.end.frame)) first more
    -- the next epoch opened by the terms that follow
    pub next : AtEachEnd
        (λ now next. IsNext now.one.chain now.one.beside.peer now.one.end next.one.chain
        × IsNext now.other.chain now.other.beside.peer now.other.end next.other.chain) first more

  -- ---- what follows

  -- an epoch opened alike at both, and both are one match in it, up to each frame that both have settled
  pub record IsOneEpoch (both : Pair) : Type 0 where
    pub opened : OpenedAlike both
    pub one : (frame : ℕ) → frame ≤ settled both.one.session.core → frame ≤ settled both.other.session.core
        → AreOne (games i) (games j) (itself both.one) (itself both.other) frame

  -- both left an epoch by one end
  abbrev pub EndedAlike : Pair → Pair → Type 0
  EndedAlike now next = now.one.end ≡ now.other.end

  pub record AreOneThrough (first : Pair) (more : List Pair) : Type 0 where
    pub each : InEach IsOneEpoch first more
    pub ends : AtEachEnd EndedAlike first more

-- whatever the machines of a match call, and whatever the network does: two machines that stay in a match through its epochs, and opened the
-- first of these alike, settle the same rows in each epoch that both settle, leave each by the same end, and open each next one alike
abbrev pub OneMatch : Type 0
OneMatch =
    (matches : ℕ → Match) (games : ℕ → Step) (epochs : AllEpochs) (i j : ℕ) (first : Pair) (more : List Pair)
    → StayTogether games epochs i j matches first more → AreOneThrough games epochs i j first more

-- ---- what a call says that goes on

-- what is supposed of a machine that goes on is what its call answers
pub record IsOnward (step : Step) (old new : Chain) (peer following : Peered) (session started : Seen) (e : Ending) : Type 0 where
  pub over : IsOver session old peer e
  pub known : IsKnownTo session e.frame
  pub opening : started.opening ≡ value_at step session e.frame
  pub begins : (settings : MatchSettings) × (gone : List ℕ) × BeginsAs started settings gone following
  pub next : IsNext old peer e new

abbrev pub WhatGoesOn : (N : Type 0) → Type 0
WhatGoesOn N =
    (step : Step) (old new : Epochs (Bare N)) (peer next : Peered) (relay carrying : Carrying) (session after : Seen)
    → (gone : HasGoneOn step old new peer next relay carrying session after)
    → IsOnward step old.chain new.chain peer next session gone.started gone.ending
