-- What a game was asked for, in counts modulo 2^64.
use Rattle.std.specs.Prelude.{◌≡◌, ◌⊎◌, ℕ, zero, suc, ◌+◌, ◌%◌, ◌^◌, Bool, true, false}
use Rattle.roll_game.specs.declared.counts.Call.{Call}
use Rattle.roll_game.specs.declared.counts.Call.TheVariants.{Load, Save, Copy, Advance}
use Rattle.roll_game.specs.declared.counts.Counts.{Counts}

-- one more
abbrev pub next_count : ℕ → ℕ
next_count n = (n + 1) % 2 ^ 64

-- the counts before any call
abbrev pub no_calls : Counts
no_calls = record { loads = 0; saves = 0; copies = 0; turns = 0; refusals = 0 }

-- the counts once a call of this kind is asked for
abbrev pub asked : Call → Counts → Counts
asked Load c = record c { loads = next_count c.loads }
asked Save c = record c { saves = next_count c.saves }
asked Copy c = record c { copies = next_count c.copies }
asked Advance c = record c { turns = next_count c.turns }

-- the counts after a call of this kind that was granted or refused
abbrev pub counted : Call → Bool → Counts → Counts
counted call true c = asked call c
counted call false c = record (asked call c) { refusals = next_count c.refusals }

-- the counts after so many frames, of which each was advanced and then saved
abbrev pub stepped : ℕ → Counts → Counts
stepped zero c = c
stepped (suc n) c = counted Save true (counted Advance true (stepped n c))

-- the counts after a roll of so many frames that was granted: it loads once
abbrev pub rolled : ℕ → Counts → Counts
rolled n c = stepped n (counted Load true c)

-- what a roll asked of the game that refused after so many new states: the load was refused, or the next advance, or the
-- save after it
abbrev pub IsRefusedAt : ℕ → Counts → Counts → Type 0
IsRefusedAt made old new =
    ((made ≡ 0) × (new ≡ counted Load false old))
    ⊎ ((new ≡ counted Advance false (rolled made old)) ⊎ (new ≡ counted Save false (counted Advance true (rolled made old))))
