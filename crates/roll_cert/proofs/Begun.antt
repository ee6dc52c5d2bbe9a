-- The lines of claims, from the first on.
use Rattle.std.proofs.Common.{◌≡◌, append_assoc, ℕ, zero, suc, ◌<◌, ◌≤◌, ◌^◌, ◌++◌, Bool, true, false, List, [], ◌∷◌, refl, sym, ap, subst, ◌∙◌, rules, tests, arith, codes, length, map, replicate, if◌then◌else◌}
use Rattle.std.specs.Prelude.{nat_eq, nat_le}
use Rattle.std.specs.List.{AllByRecursion}
use Rattle.std.proofs.lemmas.Grind.{flat_map-append}
use Rattle.std.proofs.lemmas.List.{append-nil, length-replicate}
use Rattle.roll_frame.specs.declared.limits.TheConstants.{FRAME_LIMIT, PATH_LIMIT, PLAYER_LIMIT, TREE_LIMIT}
use Rattle.roll_frame.specs.declared.row.Cell.TheVariants.{Word}
use Rattle.roll_frame.specs.declared.claim.Claim.{Claim}
use Rattle.roll_text.specs.Lines.{ended, text_of}
use Rattle.roll_text.specs.Numbers.{IsWord}
use Rattle.roll_cert.specs.Reading.{IsWithin, StartsWith, StartsWithAll, fewest, most}
use Rattle.roll_cert.specs.Texts.{IsCell, IsEntry, IsPathOf, IsRowOf, IsSized, claim_lines, entry_line, heading_lines, named, path_line, row_line, section, version_of}
use Rattle.roll_cert.proofs.Laid.{version_is}
use Rattle.roll_cert.proofs.Remains.{Each, IsLeft, Number, Possible, Section, number_left}

-- what can be left after each part of a claim
abbrev pub End : List (List ℕ) → Type 0
End lines = lines ≡ []

abbrev pub Differs : List (List ℕ) → Type 0
Differs lines = Section (codes "differs ") TREE_LIMIT IsEntry entry_line End lines

abbrev pub Kept : ℕ → ℕ → List (List ℕ) → Type 0
Kept players base lines = Section (codes "kept ") TREE_LIMIT (IsPathOf players base) path_line Differs lines

abbrev pub Time : ℕ → ℕ → List (List ℕ) → Type 0
Time players base lines = Section (codes "time ") PATH_LIMIT (IsRowOf players) row_line (Kept players base) lines

abbrev pub From : ℕ → ℕ → List (List ℕ) → Type 0
From players base lines = Number (codes "from ") (IsWithin 0 4294967295) (λ from. Time players base) lines

abbrev pub Base : ℕ → List (List ℕ) → Type 0
Base players lines = Number (codes "base ") (IsWithin 0 FRAME_LIMIT) (From players) lines

abbrev pub Players : ℕ → List (List ℕ) → Type 0
Players version lines = Number (codes "players ") (IsWithin (fewest version) (most version)) Base lines

abbrev pub Version : List (List ℕ) → Type 0
Version lines = Number (codes "rollcert ") (IsWithin 1 2) Players lines

-- the number of players fixes the version
pub version_from : (version players : ℕ) → IsWithin 1 2 version → IsWithin (fewest version) (most version) players → (version_of players ≡ version) × (1 ≤ players) × (players ≤ PLAYER_LIMIT)
version_from zero players v p = absurd (omega (arith, v))
version_from (suc zero) players v p = let yes : nat_le players 4 ≡ true = search (rules, tests) in (rw yes refl, p.0, omega (arith, p))
version_from (suc (suc zero)) players v p = let no : nat_le players 4 ≡ false = search (rules, tests) in (rw no refl, omega (arith, p), p.1)
version_from (suc (suc (suc n))) players v p = absurd (omega (arith, v))

players_within : (players : ℕ) → 1 ≤ players → players ≤ PLAYER_LIMIT → IsWithin (fewest (version_of players)) (most (version_of players)) players
players_within players some few = go (nat_le players 4) refl
  where
    go : (b : Bool) → nat_le players 4 ≡ b → IsWithin (fewest (if b then 1 else 2)) (most (if b then 1 else 2)) players
    go true is = (some, search (rules, tests))
    go false is = (search (rules, tests), few)

unsection : {A : Type 0} (name : List ℕ) (limit : ℕ) (Fits : A → Type 0) (spelling : A → List ℕ) (next : List (List ℕ) → Type 0) (lines : List (List ℕ)) → Section name limit Fits spelling next lines
    → (values : List A) × (more : List (List ℕ)) × AllByRecursion Fits values × (length values ≤ limit) × next more × (lines ≡ section name spelling values ++ more)
unsection name limit Fits spelling next lines (n, left, within, (values, more, fit, count, there, e), f) =
    (values, more, fit, omega (arith, within, count), there, f ∙ ap (λ t. named name n ∷ t) e ∙ ap (λ k. named name k ∷ (map spelling values ++ more)) (sym count))

to_section : {A : Type 0} (name : List ℕ) (limit : ℕ) (Fits : A → Type 0) (spelling : A → List ℕ) (next : List (List ℕ) → Type 0) (values : List A) (more : List (List ℕ)) → AllByRecursion Fits values → length values ≤ limit → next more
    → Section name limit Fits spelling next (section name spelling values ++ more)
to_section name limit Fits spelling next values more fit few there = (length values, map spelling values ++ more, (omega arith, few), (values, more, fit, refl, there, refl), refl)

claim_from : (lines : List (List ℕ)) → Version lines → (y : Claim) × IsSized y × (claim_lines y ≡ lines)
claim_from lines (v, l0, fv, (p, l1, fp, (b, l2, fb, (f, l3, ff, timed, e3), e2), e1), e0) =
    let time = unsection (codes "time ") PATH_LIMIT (IsRowOf p) row_line (Kept p b) l3 timed in
    let kept = unsection (codes "kept ") TREE_LIMIT (IsPathOf p b) path_line Differs time.1 time.4 in
    let differs = unsection (codes "differs ") TREE_LIMIT IsEntry entry_line End kept.1 kept.4 in
    let version = version_from v p fv fp in
    let y : Claim = record { players = p; base = b; time = time.0; kept = kept.0; from = f; differs = differs.0 } in
    let rest : l3 ≡ section (codes "time ") row_line time.0 ++ (section (codes "kept ") path_line kept.0 ++ section (codes "differs ") entry_line differs.0) =
    time.5 ∙ ap (λ t. section (codes "time ") row_line time.0 ++ t) (kept.5 ∙ ap (λ t. section (codes "kept ") path_line kept.0 ++ t) (differs.5 ∙ ap (λ t. section (codes "differs ") entry_line differs.0 ++ t) differs.4 ∙ append-nil (section (codes "differs ") entry_line differs.0))) in (
      y,
      record {
        some = version.1;
        few = version.2;
        base = fb.1;
        from = omega (arith, ff);
        short = time.3;
        time = time.2;
        few_kept = kept.3;
        kept = kept.2;
        few_entries = differs.3;
        differs = differs.2;
      },
      sym (e0 ∙ ap (λ t. named (codes "rollcert ") v ∷ t) (e1 ∙ ap (λ t. named (codes "players ") p ∷ t) (e2 ∙ ap (λ t. named (codes "base ") b ∷ t) (e3 ∙ ap (λ t. named (codes "from ") f ∷ t) rest)))
          ∙ ap (λ k. named (codes "rollcert ") k ∷ named (codes "players ") p ∷ named (codes "base ") b ∷ named (codes "from ") f ∷ (section (codes "time ") row_line time.0 ++ (section (codes "kept ") path_line kept.0 ++ section (codes "differs ") entry_line differs.0))) (sym version.0)),
    )

from_claim : (y : Claim) → IsSized y → Version (claim_lines y)
from_claim y fits =
    let differs = subst Differs (append-nil (section (codes "differs ") entry_line y.differs)) (to_section (codes "differs ") TREE_LIMIT IsEntry entry_line End y.differs [] fits.differs fits.few_entries refl) in
    let kept = to_section (codes "kept ") TREE_LIMIT (IsPathOf y.players y.base) path_line Differs y.kept (section (codes "differs ") entry_line y.differs) fits.kept fits.few_kept differs in
    let time = to_section (codes "time ") PATH_LIMIT (IsRowOf y.players) row_line (Kept y.players y.base) y.time (section (codes "kept ") path_line y.kept ++ section (codes "differs ") entry_line y.differs) fits.time fits.short kept in
    (version_of y.players, _, version_is y.players, (y.players, _, players_within y.players fits.some fits.few, (y.base, _, (omega arith, fits.base), (y.from, _, (omega arith, omega (arith, fits.from)), time, refl), refl), refl), refl)

possible_section : {A : Type 0} (name : List ℕ) (limit : ℕ) (Fits : A → Type 0) (spelling : A → List ℕ) (next : List (List ℕ) → Type 0) → Possible next → Possible (Section name limit Fits spelling next)
possible_section name limit Fits spelling next after = (named name 0 ∷ after.0, to_section name limit Fits spelling next [] after.0 tt (omega arith) after.1)

possible_each : {A : Type 0} (Fits : A → Type 0) (spelling : A → List ℕ) (next : List (List ℕ) → Type 0) (a : A) → Fits a → Possible next → (count : ℕ) → Possible (Each Fits spelling next count)
possible_each Fits spelling next a fits after zero = (after.0, ([], after.0, tt, refl, after.1, refl))
possible_each Fits spelling next a fits after (suc count) = let (lines, (values, more, fit, n, there, e)) = possible_each Fits spelling next a fits after count in (spelling a ∷ (map spelling values ++ more), (a ∷ values, more, (fits, fit), omega (arith, n), there, refl))

pub possible_end : Possible End
possible_end = ([], refl)

pub possible_differs : Possible Differs
possible_differs = possible_section (codes "differs ") TREE_LIMIT IsEntry entry_line End possible_end

pub possible_kept : (players base : ℕ) → Possible (Kept players base)
possible_kept players base = possible_section (codes "kept ") TREE_LIMIT (IsPathOf players base) path_line Differs possible_differs

pub possible_time : (players base : ℕ) → Possible (Time players base)
possible_time players base = possible_section (codes "time ") PATH_LIMIT (IsRowOf players) row_line (Kept players base) (possible_kept players base)

pub possible_from : (players base : ℕ) → Possible (From players base)
possible_from players base = let time = possible_time players base in (named (codes "from ") 0 ∷ time.0, (0, time.0, (omega arith, omega arith), time.1, refl))

pub possible_base : (players : ℕ) → Possible (Base players)
possible_base players = let from = possible_from players 0 in (named (codes "base ") 0 ∷ from.0, (0, from.0, (omega arith, omega arith), from.1, refl))

pub possible_players : (version : ℕ) → Possible (Players version)
possible_players version = let base = possible_base (fewest version) in (named (codes "players ") (fewest version) ∷ base.0, (fewest version, base.0, (omega arith, below (nat_eq version 1)), base.1, refl))
  where
    below : (b : Bool) → (if b then 1 else 5) ≤ (if b then 4 else PLAYER_LIMIT)
    below true = omega arith
    below false = omega arith

most_small : (version : ℕ) → most version < 2 ^ 32
most_small version = go (nat_eq version 1)
  where
    go : (b : Bool) → (if b then 4 else PLAYER_LIMIT) < 2 ^ 32
    go true = omega arith
    go false = omega arith

-- nothing was read yet
pub at_first : (text rest : List ℕ) (line : ℕ) → rest ≡ text → line ≡ 1 → IsLeft Version text rest line
at_first text rest line same one = record {
  done = [];
  whole = sym same;
  count = one;
  claim = claim_from;
  left = λ y more fits e. subst Version e (from_claim y fits);
  possible = let players = possible_players 1 in (named (codes "rollcert ") 1 ∷ players.0, (1, players.0, (omega arith, omega arith), players.1, refl));
}

zero_rows : (players : ℕ) → AllByRecursion IsCell (replicate players (Word 0))
zero_rows zero = tt
zero_rows (suc players) = (omega arith, zero_rows players)

pub possible_rows : (players base count : ℕ) → Possible (Each (IsRowOf players) row_line (Kept players base) count)
possible_rows players base count = possible_each (IsRowOf players) row_line (Kept players base) (replicate players (Word 0)) (length-replicate players (Word 0), zero_rows players) (possible_kept players base) count

pub possible_paths : (players base count : ℕ) → Possible (Each (IsPathOf players base) path_line Differs count)
possible_paths players base count = possible_each (IsPathOf players base) path_line Differs (record { base = base; rows = record { items = [] } }) (refl, omega arith, tt) possible_differs count

pub possible_entries : (count : ℕ) → Possible (Each IsEntry entry_line End count)
possible_entries count = possible_each IsEntry entry_line End (record { state = 0; frame = 0; player = 0 }) (omega arith, omega arith, omega arith) possible_end count

-- the first four lines were read
pub heading_read : (text rest : List ℕ) (line players base from : ℕ) → 1 ≤ players → players ≤ PLAYER_LIMIT → base ≤ FRAME_LIMIT → IsWord from → text ≡ text_of (heading_lines players base from) ++ rest → line ≡ 5
    → IsLeft (Time players base) text rest line
heading_read text rest line players base from some few low word whole five = record {
  done = heading_lines players base from;
  whole = whole;
  count = five;
  claim = λ more time. claim_from (heading_lines players base from ++ more)
      (version_of players, _, version_is players, (players, _, players_within players some few, (base, _, (omega arith, low), (from, more, (omega arith, omega (arith, word)), time, refl), refl), refl), refl);
  left = λ y more fits e.
      let version : Version (heading_lines players base from ++ more) = subst Version e (from_claim y fits) in
      let first = number_left (codes "rollcert ") 1 2 Players (version_of players) _ (omega arith) (version_is players) version in
      let second = number_left (codes "players ") (fewest (version_of players)) (most (version_of players)) Base players _ (most_small (version_of players)) (players_within players some few) first in
      let third = number_left (codes "base ") 0 FRAME_LIMIT (From players) base _ (omega arith) (omega arith, low) second in
      number_left (codes "from ") 0 4294967295 (λ from. Time players base) from more (omega arith) (omega arith, omega (arith, word)) third;
  possible = possible_time players base;
}

-- a section's heading and its lines
pub section_text : {A : Type 0} (name : List ℕ) (limit : ℕ) (Fits : A → Type 0) (spelling : A → List ℕ) (text mid after : List ℕ) (count : ℕ) (values : List A)
    → StartsWith (IsWithin 0 limit) (named name) text mid count → StartsWithAll Fits spelling count mid after values → text ≡ text_of (section name spelling values) ++ after
section_text name limit Fits spelling text mid after count values h s =
    h.spelled ∙ ap (λ t. ended (named name count) ++ t) s.spelled ∙ ap (λ k. ended (named name k) ++ (text_of (map spelling values) ++ after)) (sym s.counted)
    ∙ sym (append_assoc (ended (named name (length values))) (text_of (map spelling values)) after)

-- the parts of a claim's text
pub whole_text : (y : Claim) (text timed kept differs end : List ℕ) → text ≡ text_of (heading_lines y.players y.base y.from) ++ timed → timed ≡ text_of (section (codes "time ") row_line y.time) ++ kept
    → kept ≡ text_of (section (codes "kept ") path_line y.kept) ++ differs → differs ≡ text_of (section (codes "differs ") entry_line y.differs) ++ end → length end ≡ 0
    → text ≡ text_of (claim_lines y)
whole_text y text timed kept differs [] e f g h none =
    let rows = section (codes "time ") row_line y.time in
    let paths = section (codes "kept ") path_line y.kept in
    let entries = section (codes "differs ") entry_line y.differs in
    e ∙ ap (λ t. text_of (heading_lines y.players y.base y.from) ++ t) (f ∙ ap (λ t. text_of rows ++ t) (g ∙ ap (λ t. text_of paths ++ t) (h ∙ append-nil (text_of entries)) ∙ sym (flat_map-append ended paths entries)) ∙ sym (flat_map-append ended rows (paths ++ entries)))
    ∙ sym (flat_map-append ended (heading_lines y.players y.base y.from) (rows ++ (paths ++ entries)))
whole_text y text timed kept differs (b ∷ bs) e f g h none = absurd (omega (arith, none))
