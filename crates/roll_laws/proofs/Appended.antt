-- Some events, and then more.
use Rattle.std.proofs.Common.{◌≡◌, List, [], ◌∷◌, ◌++◌, refl, ap, Bool, true, false, cond}
use Rattle.std.proofs.lemmas.List.Sums.{fold-append}
use Rattle.roll_frame.specs.Core.{Core}
use Rattle.roll_frame.specs.Events.{CoreEvent, after, is_accepted, log_from, played_from, replies_from, reply}
use Rattle.roll_frame.specs.Games.{Game}
use Rattle.roll_frame.specs.declared.entry.Entry.{Entry}
use Rattle.roll_frame.specs.declared.settings.Settings.{Settings}

module _ (settings : Settings) (game : Game) where
  pub played_from-append : (core : Core) (events more : List CoreEvent) → played_from settings game core (events ++ more) ≡ played_from settings game (played_from settings game core events) more
  played_from-append core events more = fold-append (after settings game) core events more

  pub log_from-append : (core : Core) (events more : List CoreEvent) → log_from settings game core (events ++ more) ≡ log_from settings game core events ++ log_from settings game (played_from settings game core events) more
  log_from-append core [] more = refl
  log_from-append core (first ∷ events) more = go _ _ _ (is_accepted settings game core first) (log_from-append (after settings game core first) events more)
    where
      go : (xs ys zs : List Entry) (b : Bool) → xs ≡ ys ++ zs → cond b (first.entry ∷ xs) xs ≡ cond b (first.entry ∷ ys) ys ++ zs
      go xs ys zs true e = ap (λ es. first.entry ∷ es) e
      go xs ys zs false e = e

  pub replies_from-append : (core : Core) (events more : List CoreEvent) → replies_from settings game core (events ++ more) ≡ replies_from settings game core events ++ replies_from settings game (played_from settings game core events) more
  replies_from-append core [] more = refl
  replies_from-append core (first ∷ events) more = ap (λ rs. reply settings game core first ∷ rs) (replies_from-append (after settings game core first) events more)
