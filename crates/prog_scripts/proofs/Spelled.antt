-- The lines of commands, cut into their fields and joined again.
use Rattle.std.proofs.Common.{◌≡◌, ℕ, ◌<◌, ◌≤◌, ◌==◌, List, [], ◌∷◌, Option, None, false, refl, sym, ap, ◌∙◌, rules, tests, arith, codes, get_or, length}
use Rattle.std.specs.List.{slice_split, AllByRecursion}
use Rattle.std.specs.Fmt.{decimal}
use Rattle.std.proofs.lemmas.List.Elements.{All-cons, All-nil}
use Rattle.roll_frame.specs.declared.limits.TheConstants.{PATH_LIMIT}
use Rattle.roll_text.specs.Lines.{Lacks}
use Rattle.roll_text.specs.Numbers.{IsWord, IsList, list_of}
use Rattle.roll_text.specs.Text.{Reads}
use Rattle.roll_text.proofs.Joined.{decimal-lacks, join-lacks, reads-joined}
use Rattle.roll_text.proofs.Lists.{list_of-lacks, list_of-injective}
use Rattle.prog_scripts.specs.declared.command.Command.{Command}
use Rattle.prog_scripts.specs.declared.command.Command.TheVariants.{Local, Remote, Disconnect, Sync, Advance, Guess, Extend, Claim}
use Rattle.prog_scripts.specs.Commands.{IsCommand, fields_of, line_of}

letter-lacks : (c l : ℕ) → (l == c) ≡ false → Lacks c (l ∷ [])
letter-lacks c l apart = All-cons (λ b. (b == c) ≡ false) l [] apart (All-nil _)

number-lacks : (c n : ℕ) → c < 44 → IsWord n → Lacks c (decimal n)
number-lacks c n low h = decimal-lacks c n (omega arith) (omega arith)

apart : (c l : ℕ) → c < 44 → 44 ≤ l → (l == c) ≡ false
apart c l low high = search (rules, tests)

letter : (c l : ℕ) → c < 44 → 44 ≤ l → Lacks c (l ∷ [])
letter c l low high = letter-lacks c l (apart c l low high)

-- no field of a command has a byte below a comma's: a space, or a line's end
fields-lack : (c : ℕ) → c < 44 → (command : Command) → IsCommand command → AllByRecursion (Lacks c) (fields_of command)
fields-lack c low (Local player word) h = (letter c 76 low (omega arith), (number-lacks c player low h.0, (number-lacks c word low h.1, tt)))
fields-lack c low (Remote player frame word) h = (letter c 82 low (omega arith), (number-lacks c player low h.0, (number-lacks c frame low h.1, (number-lacks c word low h.2, tt))))
fields-lack c low (Disconnect player) h = (letter c 68 low (omega arith), (number-lacks c player low h, tt))
fields-lack c low Sync h = (letter c 83 low (omega arith), tt)
fields-lack c low Advance h = (letter c 65 low (omega arith), tt)
fields-lack c low (Guess player until words) h = (letter c 71 low (omega arith), (number-lacks c player low h.0, (number-lacks c until low h.1, (list_of-lacks c words.items low h.2, tt))))
fields-lack c low (Extend job) h = (letter c 66 low (omega arith), (number-lacks c job low h, tt))
fields-lack c low Claim h = (letter c 67 low (omega arith), tt)

-- a command has at least its letter
some-field : (command : Command) → 0 < length (fields_of command)
some-field (Local player word) = omega arith
some-field (Remote player frame word) = omega arith
some-field (Disconnect player) = omega arith
some-field Sync = omega arith
some-field Advance = omega arith
some-field (Guess player until words) = omega arith
some-field (Extend job) = omega arith
some-field Claim = omega arith

few-fields : (command : Command) → length (fields_of command) ≤ 4
few-fields (Local player word) = omega arith
few-fields (Remote player frame word) = omega arith
few-fields (Disconnect player) = omega arith
few-fields Sync = omega arith
few-fields Advance = omega arith
few-fields (Guess player until words) = omega arith
few-fields (Extend job) = omega arith
few-fields Claim = omega arith

pub line-lacks : (command : Command) → IsCommand command → Lacks 10 (line_of command)
line-lacks command h = join-lacks 10 32 (fields_of command) refl (fields-lack 10 (omega arith) command h)

pub reads-line : (line : List ℕ) (r : Option Command) → Reads IsCommand fields_of (slice_split (λ b. b == 32) line) r → Reads IsCommand line_of line r
reads-line line r h = reads-joined 32 IsCommand fields_of (λ command fits. (some-field command, fields-lack 32 (omega arith) command fits)) line r h

-- a line of over 4 fields is no command's
pub no-line : (line : List ℕ) → (length (slice_split (λ b. b == 32) line) ≤ 4 → ⊥) → (command : Command) → IsCommand command → line ≡ line_of command → ⊥
no-line line long = reads-line line None (λ command fits e. long (omega (arith, ap length e, few-fields command)))

-- a guess has no more words than a path rows
pub no_guess : (player until text words : List ℕ) → IsList words → text ≡ list_of words → PATH_LIMIT < length words
    → (command : Command) → IsCommand command → codes "G" ∷ player ∷ until ∷ text ∷ [] ≡ fields_of command → ⊥
no_guess player until text words h t many (Local p word) fits e = cc
no_guess player until text words h t many (Remote p frame word) fits e = let letters : 71 ≡ 82 = ap (λ fields. get_or (get_or fields 0 []) 0 0) e in omega (arith, letters)
no_guess player until text words h t many (Disconnect p) fits e = cc
no_guess player until text words h t many Sync fits e = cc
no_guess player until text words h t many Advance fits e = cc
no_guess player until text words h t many (Guess p u ws) fits e =
    let same : words ≡ ws.items = list_of-injective words ws.items h fits.2 (sym t ∙ ap (λ fields. get_or fields 3 []) e) in
    let as_many : length words ≡ length ws.items = ap length same in
    omega (arith, fits.3)
no_guess player until text words h t many (Extend job) fits e = cc
no_guess player until text words h t many Claim fits e = cc
