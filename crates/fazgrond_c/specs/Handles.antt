-- What calls through handles come to. A handle has something of one kind open, or nothing; to a call of another kind it is closed.
use Rattle.std.specs.Prelude.{◌≡◌, ◌≢◌, ◌<◌, ◌≤◌, ℕ, ℤ, pos, List, length, Option, Some, None, IfSome, IsSomeAnd, MatchOption}
use Rattle.roll_peer.specs.Peered.{Peered}
use Rattle.roll_viewer.specs.Ends.{Hosted, Viewing}
use Rattle.roll_wire.specs.declared.limits.TheConstants.{DATAGRAM_LIMIT}
use Rattle.fazgrond_c.specs.declared.live.Live.{Live}
use Rattle.fazgrond_c.specs.declared.network.Network.{Network}
use Rattle.fazgrond_c.specs.declared.open.Open.{Open}
use Rattle.fazgrond_c.specs.declared.open.Open.TheVariants.{Session, Peer, Line, Viewer}

abbrev pub session_in : Option Open → Option Live
session_in (Some (Session live)) = Some live
session_in held = None

-- the network of a match
abbrev pub network_in : Option Open → Option Network
network_in (Some (Peer network)) = Some network
network_in held = None

abbrev pub peer_in : Option Open → Option Peered
peer_in (Some (Peer network)) = Some network.peer
peer_in held = None

abbrev pub line_in : Option Open → Option Hosted
line_in (Some (Line line)) = Some line
line_in held = None

abbrev pub viewer_in : Option Open → Option Viewing
viewer_in (Some (Viewer viewer)) = Some viewer
viewer_in held = None

module _ {L : Type 0} (kind : Option Open → Option L) where
  -- such a thing was opened in the place of what was open before, or nothing is changed
  pub record Opens (is_open : L → Type 0) (old new : Option Open) (code : ℤ) : Type 0 where
    pub opened : code ≡ pos 0 → IsSomeAnd (kind new) is_open
    pub refused : code ≢ pos 0 → new ≡ old

  -- a call of what a handle has open; if it is closed, nothing is done
  pub record Makes (does : L → L → ℤ → Type 0) (old new : Option Open) (code : ℤ) : Type 0 where
    pub closed : kind old ≡ None → (code ≡ pos 201) × (new ≡ old)
    pub made : IfSome (kind old) (λ live. IsSomeAnd (kind new) (λ now. does live now code))

module _ {L T : Type 0} (kind : Option Open → Option L) where
  -- the same of a call that may write something
  pub record Writes (does : L → L → T → T → ℤ → Type 0) (old new : Option Open) (before after : T) (code : ℤ)
      : Type 0 where
    pub closed : kind old ≡ None → (code ≡ pos 201) × ((new ≡ old) × (after ≡ before))
    pub made : IfSome (kind old) (λ live. IsSomeAnd (kind new) (λ now. does live now before after code))

  -- what is read of what a handle has open, and written; it stays as it is
  pub record Reads (value : L → T) (old new : Option Open) (before after : T) (code : ℤ) : Type 0 where
    pub kept : new ≡ old
    pub read : IfSome (kind old) (λ live. (code ≡ pos 0) × (after ≡ value live))
    pub closed : kind old ≡ None → (code ≡ pos 201) × (after ≡ before)

  -- the same of what may not be there, which has a code
  pub record ReadsOr (none : ℕ) (value : L → Option T) (old new : Option Open) (before after : T) (code : ℤ)
      : Type 0 where
    pub kept : new ≡ old
    pub read : IfSome (kind old) (λ live. MatchOption (value live)
        ((code ≡ pos none) × (after ≡ before)) (λ there. (code ≡ pos 0) × (after ≡ there)))
    pub closed : kind old ≡ None → (code ≡ pos 201) × (after ≡ before)

  abbrev pub ReadsSome : (L → Option T) → (old new : Option Open) → (before after : T) → ℤ → Type 0
  ReadsSome = ReadsOr 203

-- nothing is done, for this reason
pub record IsNothing {P : Type 0} (reason : ℕ) (old new : P) (before after : List ℕ) (had size : ℕ)
    (code : ℤ) : Type 0 where
  pub code_is : code ≡ pos reason
  pub kept : new ≡ old
  pub unwritten : after ≡ before
  pub same : size ≡ had

-- a buffer has room for any datagram, and a call writes into it; or nothing is done
pub record Fills {L : Type 0} (does : L → L → List ℕ → List ℕ → ℕ → ℕ → ℤ → Type 0)
    (old new : L) (before after : List ℕ) (had size : ℕ) (code : ℤ) : Type 0 where
  pub short : length before < DATAGRAM_LIMIT → IsNothing 204 old new before after had size code
  pub filled : DATAGRAM_LIMIT ≤ length before → does old new before after had size code

module _ {L : Type 0} (kind : Option Open → Option L) where
  -- the same of what a handle has open
  pub record FillsBy (does : L → L → List ℕ → List ℕ → ℕ → ℕ → ℤ → Type 0) (old new : Option Open)
      (before after : List ℕ) (had size : ℕ) (code : ℤ) : Type 0 where
    pub closed : kind old ≡ None → IsNothing 201 old new before after had size code
    pub made : IfSome (kind old) (λ live. IsSomeAnd (kind new) (λ now.
        Fills does live now before after had size code))

  -- ---- beside a session, which another handle has open

  -- a call of both; if either handle is closed, nothing is done
  pub record MakesBeside (does : L → L → Live → Live → ℤ → Type 0) (old new : Option Open)
      (before after : Option Open) (code : ℤ) : Type 0 where
    pub closed : kind old ≡ None → (code ≡ pos 201) × ((new ≡ old) × (after ≡ before))
    pub alone : session_in before ≡ None → (code ≡ pos 201) × ((new ≡ old) × (after ≡ before))
    pub made : IfSome (kind old) (λ it. IfSome (session_in before) (λ live.
        IsSomeAnd (kind new) (λ it_now. IsSomeAnd (session_in after) (λ now. does it it_now live now code))))

  -- a call that only reads the session
  pub record MakesFor (does : Live → L → L → ℤ → Type 0) (lent old new : Option Open) (code : ℤ) : Type 0 where
    pub alone : session_in lent ≡ None → (code ≡ pos 201) × (new ≡ old)
    pub made : IfSome (session_in lent) (λ live. Makes kind (does live) old new code)

  -- a call of both that writes into a buffer
  pub record FillsBeside (does : L × Live → L × Live → List ℕ → List ℕ → ℕ → ℕ → ℤ → Type 0)
      (old new : Option Open) (lent after : Option Open) (before wrote : List ℕ) (had size : ℕ) (code : ℤ)
      : Type 0 where
    pub closed : kind old ≡ None → IsNothing {P = Option Open × Option Open} 201 (old, lent) (new, after) before wrote had size code
    pub alone : session_in lent ≡ None → IsNothing {P = Option Open × Option Open} 201 (old, lent) (new, after) before wrote had size code
    pub made : IfSome (kind old) (λ it. IfSome (session_in lent) (λ live.
        IsSomeAnd (kind new) (λ it_now. IsSomeAnd (session_in after) (λ now.
        Fills does (it, live) (it_now, now) before wrote had size code))))

module _ {L M : Type 0} (lender : Option Open → Option M) (kind : Option Open → Option L) where
  -- a call that writes into a buffer, and only reads what another handle has open
  pub record FillsFor (does : M → L → L → List ℕ → List ℕ → ℕ → ℕ → ℤ → Type 0)
      (lent old new : Option Open) (before after : List ℕ) (had size : ℕ) (code : ℤ) : Type 0 where
    pub alone : lender lent ≡ None → IsNothing 201 old new before after had size code
    pub made : IfSome (lender lent) (λ it. FillsBy kind (does it) old new before after had size code)

module _ {L T : Type 0} (kind : Option Open → Option L) where
  -- a call of both that may write something
  pub record WritesBeside (does : L → L → Live → Live → T → T → ℤ → Type 0) (old new : Option Open)
      (before after : Option Open) (had wrote : T) (code : ℤ) : Type 0 where
    pub closed : kind old ≡ None → (code ≡ pos 201) × ((new ≡ old) × ((after ≡ before) × (wrote ≡ had)))
    pub alone : session_in before ≡ None → (code ≡ pos 201) × ((new ≡ old) × ((after ≡ before) × (wrote ≡ had)))
    pub made : IfSome (kind old) (λ it. IfSome (session_in before) (λ live.
        IsSomeAnd (kind new) (λ it_now. IsSomeAnd (session_in after) (λ now. does it it_now live now had wrote code))))

  -- what is read of both, and written; they stay as they are
  pub record ReadsBeside (does : L → Live → T → T → ℤ → Type 0) (old new : Option Open)
      (before after : Option Open) (had wrote : T) (code : ℤ) : Type 0 where
    pub kept : new ≡ old
    pub same : after ≡ before
    pub closed : kind old ≡ None → (code ≡ pos 201) × (wrote ≡ had)
    pub alone : session_in before ≡ None → (code ≡ pos 201) × (wrote ≡ had)
    pub read : IfSome (kind old) (λ it. IfSome (session_in before) (λ live. does it live had wrote code))
