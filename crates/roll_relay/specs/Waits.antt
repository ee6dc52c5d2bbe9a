-- For how long words wait, whatever comes meanwhile.
use Rattle.std.specs.Prelude.{◌≡◌, ◌⊎◌, List, [], ◌++◌}
use Rattle.std.proofs.Common.{◌∙◌, refl, ap, sym, subst, inl, inr, append-nil, append_assoc}
use Rattle.std.proofs.lemmas.List.Elements.{Contains-append_left}
use Rattle.std.specs.List.{Contains}
use Rattle.roll_frame.specs.declared.entry.Entry.{Entry}
use Rattle.roll_frame.specs.declared.entry.Entry.TheVariants.{Remote}
use Rattle.roll_inputs.specs.declared.remote_word.RemoteWord.{RemoteWord}
use Rattle.roll_session.specs.Seen.{Seen}
use Rattle.roll_relay.specs.declared.held.Held.{Held}

-- a session was told a word: that stands in its log
abbrev pub WasTold : Seen → RemoteWord → Type 0
WasTold s w = Contains s.log (Remote w.player w.frame w.word)

-- the words that wait go on to wait, and have done so for as long as before, and others may wait behind them
pub record StillWait (old new : Held) : Type 0 where
  pub later : List RemoteWord
  pub words_are : new.words.items ≡ old.words.items ++ later
  pub waited_is : new.waited.items ≡ old.waited.items

-- a session was told all words that waited, and of those that wait now none has waited for a turn
pub record AreTold (s : Seen) (old new : Held) : Type 0 where
  pub all_told : (w : RemoteWord) → Contains old.words.items w → WasTold s w
  pub none_waited : new.waited.items ≡ []

-- what a session was told stays in its log; either no word that waits was handed over to it, or all were; and for how many turns words
-- may wait stays as it is: if for none, none comes to wait
pub record Waits (before after : Seen) (old new : Held) : Type 0 where
  pub turns_are : new.turns ≡ old.turns
  pub none : old.turns ≡ 0 → old.words.items ≡ [] → new.words.items ≡ []
  pub log : (entry : Entry) → Contains before.log entry → Contains after.log entry
  pub which : StillWait old new ⊎ AreTold after old new

-- words that wait go on to, as long as nothing goes out of the log; and so they do over several steps
pub wait_on : (before after : Seen) (held : Held) → ((entry : Entry) → Contains before.log entry → Contains after.log entry) → Waits before after held held
wait_on before after held log =
    record {
      turns_are = refl;
      none = λ turns none. none;
      log = log;
      which = inl (record { later = []; words_are = sym (append-nil held.words.items); waited_is = refl });
    }

pub wait_itself : (s : Seen) (held : Held) → Waits s s held held
wait_itself s held = wait_on s s held (λ entry there. there)

pub wait_more : (a b c : Seen) (x y z : Held) → Waits a b x y → Waits b c y z → Waits a c x z
wait_more a b c x y z one two =
    record {
      turns_are = two.turns_are ∙ one.turns_are;
      none = λ turns none. two.none (one.turns_are ∙ turns) (one.none turns none);
      log = λ entry there. two.log entry (one.log entry there);
      which = go one.which two.which;
    }
  where
    go : StillWait x y ⊎ AreTold b x y → StillWait y z ⊎ AreTold c y z → StillWait x z ⊎ AreTold c x z
    go (inl p) (inl q) = inl (record {
      later = p.later ++ q.later;
      words_are = q.words_are ∙ ap (λ (ws : List RemoteWord). ws ++ q.later) p.words_are ∙ append_assoc x.words.items p.later q.later;
      waited_is = q.waited_is ∙ p.waited_is;
    })
    go (inl p) (inr q) = inr (record {
      all_told = λ w there. q.all_told w (subst (λ (ws : List RemoteWord). Contains ws w) (sym p.words_are) (Contains-append_left x.words.items p.later w there));
      none_waited = q.none_waited;
    })
    go (inr p) (inl q) = inr (record {
      all_told = λ w there. two.log (Remote w.player w.frame w.word) (p.all_told w there);
      none_waited = q.waited_is ∙ p.none_waited;
    })
    go (inr p) (inr q) = inr (record {
      all_told = λ w there. two.log (Remote w.player w.frame w.word) (p.all_told w there);
      none_waited = q.none_waited;
    })
