-- What C sees of settings, rows and requests.
use Rattle.std.specs.Prelude.{◌≡◌, ◌⊎◌, ◌≤◌, ◌-◌, List, ◌++◌, length, map, replicate}
use Rattle.roll_frame.specs.Packed.{bits_of}
use Rattle.roll_frame.specs.Settings.{none_before, none_first}
use Rattle.roll_frame.specs.Words.{word_of}
use Rattle.roll_frame.specs.declared.profile.Profile.TheVariants.{Ggpo, Wide}
use Rattle.roll_frame.specs.declared.entry.Entry.{Entry}
use Rattle.roll_frame.specs.declared.entry.Entry.TheVariants.{Local, Remote, Disconnect, Sync, Advance, Graft, Partial}
use Rattle.roll_frame.specs.declared.row.Cell.{Cell}
use Rattle.roll_frame.specs.declared.settings.Settings.{Settings}
use Rattle.roll_requests.specs.declared.request.Request.{Request}
use Rattle.roll_requests.specs.declared.request.Request.TheVariants.{Load, Save, Advance, Free, LoadAside, SaveAside, AdvanceAside}
use Rattle.fazgrond_c.specs.declared.kinds.EntryOut.{EntryOut}
use Rattle.roll_session.specs.declared.event.Reached.{Reached}
use Rattle.fazgrond_c.specs.declared.kinds.ReachedOut.{ReachedOut}
use Rattle.fazgrond_c.specs.declared.kinds.RequestOut.{RequestOut}
use Rattle.fazgrond_c.specs.declared.kinds.RowOut.{RowOut}
use Rattle.fazgrond_c.specs.declared.kinds.SettingsIn.{SettingsIn}

abbrev pub row_out : List Cell → RowOut
row_out row =
    record {
      count = length row;
      gone = bits_of row;
      words = map word_of row ++ replicate (8 - length row) 0;
    }

abbrev pub no_row : RowOut
no_row = record { count = 0; gone = 0; words = replicate 8 0 }

abbrev pub request_out : Request → RequestOut
request_out (Load slot) = record { kind = 1; slot = slot; row = no_row }
request_out (Save slot) = record { kind = 2; slot = slot; row = no_row }
request_out (Advance row) = record { kind = 3; slot = 0; row = row_out row }
request_out (Free slot) = record { kind = 4; slot = slot; row = no_row }
request_out (LoadAside slot) = record { kind = 5; slot = slot; row = no_row }
request_out (SaveAside slot) = record { kind = 6; slot = slot; row = no_row }
request_out (AdvanceAside row) = record { kind = 7; slot = 0; row = row_out row }

abbrev pub where_led : Reached → ReachedOut
where_led reached =
    record { frame = reached.frame; from = reached.from; rerun = reached.rerun }

-- an entry of the log; of a graft only that it is one
abbrev pub entry_out : Entry → EntryOut
entry_out (Local player word) = record { kind = 1; player = player; frame = 0; word = word }
entry_out (Remote player frame word) = record { kind = 2; player = player; frame = frame; word = word }
entry_out (Disconnect player) = record { kind = 3; player = player; frame = 0; word = 0 }
entry_out Sync = record { kind = 4; player = 0; frame = 0; word = 0 }
entry_out Advance = record { kind = 5; player = 0; frame = 0; word = 0 }
entry_out (Graft ticket route) = record { kind = 6; player = 0; frame = 0; word = 0 }
entry_out (Partial to made) = record { kind = 7; player = 0; frame = to; word = made }

-- the settings that were given
pub record AreGiven (given : SettingsIn) (settings : Settings) : Type 0 where
  pub profile : ((given.profile ≡ 0) × (settings.profile ≡ Ggpo))
      ⊎ ((given.profile ≡ 1) × (settings.profile ≡ Wide))
  pub players : settings.players ≡ given.players
  pub local : settings.local ≡ given.local
  pub threshold : settings.threshold ≡ given.threshold
  pub limit : settings.limit ≡ given.limit
  pub log : settings.log ≡ given.log
  pub delays : settings.delays ≡ given.delays
  pub masks : settings.masks ≡ given.masks
  pub before : settings.before ≡ none_before
  pub first : settings.first ≡ none_first

-- a number of them has no room where it belongs
abbrev pub HaveNoRoom : SettingsIn → Type 0
HaveNoRoom given = (2 ≤ given.profile) ⊎ ((256 ≤ given.players) ⊎ (256 ≤ given.local))
