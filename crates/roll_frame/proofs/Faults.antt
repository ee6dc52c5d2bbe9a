-- What the tests of a start find, by the searches that look for it.
use Rattle.std.proofs.Common.{◌≡◌, ℕ, ◌^◌, List, [], ◌∷◌, drop, map, Bool, true, false, Option, Some, None, refl, ap, sym, ◌∙◌}
use Rattle.std.specs.Prelude.{is_some, not, ◌&&◌, nat_le, nat_lt, if◌then◌else◌}
use Rattle.std.specs.Int.{is_in_range}
use Rattle.std.specs.List.{list_any}
use Rattle.std.specs.Option.{option_map}
use Rattle.std.specs.Prelude.{unwrap_or}
use Rattle.roll_frame.specs.Faults.{faults, first_fault, places_past, player_who, refusal_of, start_fault}
use Rattle.roll_frame.specs.Refusals.{first_refusal}
use Rattle.roll_frame.specs.Settings.{delay_at, is_local, most_players, places, start_tests}
use Rattle.roll_frame.specs.declared.fault.SettingsFault.{SettingsFault}
use Rattle.roll_frame.specs.declared.fault.SettingsFault.TheVariants.{Players, NoLocalPlayer, LocalPlayerOutside, LongDelay, DelayOfRemotePlayer}
use Rattle.roll_frame.specs.declared.limits.TheConstants.{DELAY_LIMIT}
use Rattle.roll_frame.specs.declared.refusal.Refusal.{Refusal}
use Rattle.roll_frame.specs.declared.settings.Settings.{Settings}

any_who : (test : ℕ → Bool) (xs : List ℕ) → list_any test xs ≡ is_some (player_who test xs)
any_who test [] = refl
any_who test (x ∷ xs) = go (test x) refl (any_who test xs)
  where
    go : (b : Bool) → test x ≡ b → list_any test xs ≡ is_some (player_who test xs) → list_any test (x ∷ xs) ≡ is_some (player_who test (x ∷ xs))
    go true e r = rw e refl
    go false e r = rw e r

abbrev or_else : Option ℕ → (ℕ → SettingsFault) → Option SettingsFault → Option SettingsFault
or_else None fault rest = rest
or_else (Some p) fault rest = Some (fault p)

-- the faults in their order, where the searches find these
abbrev pub found : Bool → Bool → Option ℕ → Option ℕ → Option ℕ → Option SettingsFault → Option SettingsFault
found within local outsider long remote rest =
    if not within then Some Players
    else (if not local then Some NoLocalPlayer
    else or_else outsider LocalPlayerOutside (or_else long LongDelay (or_else remote DelayOfRemotePlayer rest)))

-- the same by tests, each of which tells whether its search finds anything
by_tests : (within local : Bool) (outsider long remote : Option ℕ) (b c d : Bool) (rest : Option SettingsFault) → b ≡ is_some outsider → c ≡ is_some long → d ≡ is_some remote
    → found within local outsider long remote rest
    ≡ (if not within then Some Players
    else (if not local then Some NoLocalPlayer
    else (if b then Some (LocalPlayerOutside (unwrap_or outsider 0))
    else (if c then Some (LongDelay (unwrap_or long 0))
    else (if d then Some (DelayOfRemotePlayer (unwrap_or remote 0)) else rest)))))
by_tests within local (Some p) long remote b c d rest e f g = rw e refl
by_tests within local None (Some p) remote b c d rest e f g = rw (e, f) refl
by_tests within local None None (Some p) b c d rest e f g = rw (e, f, g) refl
by_tests within local None None None b c d rest e f g = rw (e, f, g) refl

module _ (s : Settings) where
  -- who has too long a delay, and who has one and isn't local
  abbrev pub long_of : Option ℕ
  long_of = player_who (λ place. nat_lt DELAY_LIMIT (delay_at s place)) (places s)

  abbrev pub remote_of : Option ℕ
  remote_of = player_who (λ place. not (is_local s place) && nat_lt 0 (delay_at s place)) (places s)

  -- the faults of the threshold and the limits
  abbrev pub rest_of : Option SettingsFault
  rest_of = first_fault (drop 5 (start_tests s)) (drop 5 (faults s))

  pub faults_found : (within local : Bool) (outsider long remote : Option ℕ) → within ≡ is_in_range 1 (most_players s.profile) s.players → local ≡ list_any (is_local s) (places s) → outsider ≡ player_who (is_local s) (places_past s)
      → is_some outsider ≡ nat_le (2 ^ s.players) s.local → long ≡ long_of → remote ≡ remote_of → found within local outsider long remote rest_of ≡ start_fault s
  faults_found within local outsider long remote a b first some c d =
      (λ i. found (a i) (b i) (first i) (c i) (d i) rest_of)
      ∙ by_tests (is_in_range 1 (most_players s.profile) s.players) (list_any (is_local s) (places s)) (player_who (is_local s) (places_past s)) long_of remote_of _ _ _ rest_of (sym some ∙ ap is_some first)
      (any_who (λ place. nat_lt DELAY_LIMIT (delay_at s place)) (places s)) (any_who (λ place. not (is_local s place) && nat_lt 0 (delay_at s place)) (places s))

-- each fault is refused as its test is
pub refused_as : (tests : List (Bool × Refusal)) (faults : List SettingsFault) → map (λ t. t.1) tests ≡ map refusal_of faults → option_map refusal_of (first_fault tests faults) ≡ first_refusal tests
refused_as [] faults e = refl
refused_as (t ∷ ts) [] e = absurd (cc)
refused_as (t ∷ ts) (f ∷ fs) e = go t.0 (refused_as ts fs (rest e))
  where
    head : t.1 ∷ map (λ t. t.1) ts ≡ refusal_of f ∷ map refusal_of fs → refusal_of f ≡ t.1
    head h = cc

    rest : t.1 ∷ map (λ t. t.1) ts ≡ refusal_of f ∷ map refusal_of fs → map (λ t. t.1) ts ≡ map refusal_of fs
    rest h = cc

    go : (b : Bool) → option_map refusal_of (first_fault ts fs) ≡ first_refusal ts → option_map refusal_of (if b then Some f else first_fault ts fs) ≡ (if b then Some t.1 else first_refusal ts)
    go true r = ap Some (head e)
    go false r = r
