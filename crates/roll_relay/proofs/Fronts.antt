-- The front, as the least of what is counted of one player after another.
use Rattle.std.proofs.Common.{◌≡◌, ◌∙◌, ℕ, ◌+◌, ◌<◌, ◌≤◌, List, [], ◌∷◌, ◌++◌, length, map, min, take, filter, not, true, false, Option, Some, None, refl, ap, sym, subst, arith, inl, inr, get_or, append-nil}
use Rattle.std.proofs.lemmas.Bool.{cases_Bool}
use Rattle.std.proofs.lemmas.List.{take_more, map-append}
use Rattle.std.proofs.lemmas.List.Elements.{filter-append}
use Rattle.std.proofs.lemmas.Option.{slice_get-get_or}
use Rattle.std.specs.Option.{option_and_then, option_map_or}
use Rattle.std.specs.Prelude.{◌⊎◌, if◌then◌else◌, unwrap_or}
use Rattle.roll_frame.specs.Inputs.{player_at}
use Rattle.roll_frame.specs.Timeline.{Player, front, least_of}
use Rattle.roll_peer.proofs.Later.{at_place}

-- how many words those have who are there
abbrev pub counts : List Player → List ℕ
counts players = map (λ (player : Player). length player.words) (filter (λ (player : Player). not player.gone) players)

-- the least of some numbers, if there are any
abbrev pub IsLeast : Option ℕ → List ℕ → Type 0
IsLeast None ns = ns ≡ []
IsLeast (Some n) ns = (least_of ns ≡ n) × (1 ≤ length ns)

abbrev pub lesser : Option ℕ → ℕ → ℕ
lesser least n = option_map_or (λ m. min m n) least n

least_more : (n m : ℕ) (ns : List ℕ) → least_of (n ∷ ns ++ m ∷ []) ≡ min (least_of (n ∷ ns)) m
least_more n m [] = refl
least_more n m (k ∷ ns) = ap (min n) (least_more k m ns) ∙ assoc n (least_of (k ∷ ns)) m
  where
    assoc : (a b c : ℕ) → min a (min b c) ≡ min (min a b) c
    assoc a b c = omega arith

-- one number more
one_more : (least : Option ℕ) (ns : List ℕ) (n : ℕ) → IsLeast least ns → IsLeast (Some (lesser least n)) (ns ++ n ∷ [])
one_more None ns n e = subst (λ (ms : List ℕ). IsLeast (Some n) (ms ++ n ∷ [])) (sym e) (refl, omega arith)
one_more (Some m) [] n e = absurd (omega (arith, e.1))
one_more (Some m) (k ∷ ns) n e = (least_more k n ns ∙ ap (λ l. min l n) e.0, omega arith)

-- how many words a player has who is there
abbrev pub count_of : Player → Option ℕ
count_of player = if player.gone then None else Some (length player.words)

-- one player more, who is there or gone
abbrev pub least_after : Option ℕ → Option ℕ → Option ℕ
least_after least None = least
least_after least (Some n) = Some (lesser least n)

one_player : (least : Option ℕ) (ns : List ℕ) (p : Player) → IsLeast least ns → IsLeast (least_after least (count_of p)) (ns ++ counts (p ∷ []))
one_player least ns p e = by_gone (cases_Bool p.gone)
  where
    by_gone : (p.gone ≡ true) ⊎ (p.gone ≡ false) → IsLeast (least_after least (count_of p)) (ns ++ counts (p ∷ []))
    by_gone (inl gone) = rw gone (subst (IsLeast least) (sym (append-nil ns)) e)
    by_gone (inr there) = rw there (one_more least ns (length p.words) e)

pub least_next : (players : List Player) (k : ℕ) (d : Player) (least counted : Option ℕ) → k < length players
    → counted ≡ option_and_then count_of (player_at players (k + 1)) → IsLeast least (counts (take k players))
    → IsLeast (least_after least counted) (counts (take (k + 1) players))
least_next players k d least counted h is e =
    let p = get_or players k d in
    let at : counted ≡ count_of p = is ∙ ap (option_and_then count_of) (at_place players k ∙ slice_get-get_or players k d h) in
    let all : counts (take (k + 1) players) ≡ counts (take k players) ++ counts (p ∷ []) =
    ap counts (take_more players k d h)
    ∙ ap (map (λ (player : Player). length player.words)) (filter-append (λ (player : Player). not player.gone) (take k players) (p ∷ []))
    ∙ map-append (λ (player : Player). length player.words) (filter (λ (player : Player). not player.gone) (take k players)) (filter (λ (player : Player). not player.gone) (p ∷ [])) in
    rw (at, all) (one_player least (counts (take k players)) p e)

pub least_all : (players : List Player) (least : Option ℕ) → IsLeast least (counts players) → unwrap_or least 0 ≡ front players
least_all players None e = sym (ap least_of e)
least_all players (Some n) e = sym e.0
