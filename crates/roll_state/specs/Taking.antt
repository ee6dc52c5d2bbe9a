-- Who takes a state: the pieces that are there, what each further one changes, and which are asked for.
use Rattle.std.specs.Prelude.{◌≡◌, ◌≤◌, ℕ, ◌+◌, ◌-◌, List, ◌++◌, length, take, min, filter, count_by, replicate, Bool, true, false, not, ◌==◌, nat_lt, Option, Some, None, is_some, is_none, option_map, slice_get, slice_index_or, slice_set, Result, Ok, Err, if◌then◌else◌}
use Rattle.std.specs.List.{list_all, range_with_len}
use Rattle.std.specs.Option.{option_map_or}
use Rattle.std.specs.Str.{bytes_eq}
use Rattle.sha2.specs.Sha256.{sha256}
use Rattle.roll_contact.specs.declared.key.Key.{Key}
use Rattle.roll_mesh.specs.declared.limits.TheConstants.{MACHINE_LIMIT}
use Rattle.roll_state.specs.Sealing.{opened, said_by}
use Rattle.roll_state.specs.Spelling.{Content, Gives, Message, Part, Wants, Wish}
use Rattle.roll_state.specs.States.{count_of, is_same, size_of, with_piece}
use Rattle.roll_state.specs.declared.heard.Heard.{Heard}
use Rattle.roll_state.specs.declared.heard.Heard.TheVariants.{Again, Taken, Whole, Wrong}
use Rattle.roll_state.specs.declared.limits.TheConstants.{ASK_LIMIT}
use Rattle.roll_state.specs.declared.name.StateName.{StateName}
use Rattle.roll_state.specs.declared.refusal.StateRefusal.{StateRefusal}
use Rattle.roll_state.specs.declared.refusal.StateRefusal.TheVariants.{Barred, NotNow, OtherKind, OtherState, PastTheEnd, Stranger, WrongLength}

-- ---- the pieces that are there

-- a state's bytes as far as they are there, and the machine that gave each piece
pub record Held : Type 0 where
  pub bytes : List ℕ
  pub from : List (Option ℕ)

-- how many pieces are missing
abbrev pub left_in : Held → ℕ
left_in held = count_by is_none held.from

abbrev pub is_there : Held → (place : ℕ) → Bool
is_there held place = is_some (slice_index_or held.from place None)

-- with a piece that a host gave
abbrev pub with_part : (host place : ℕ) → List ℕ → Held → Held
with_part host place bytes held = record {
  bytes = with_piece place bytes held.bytes;
  from = slice_set held.from place (Some host);
}

-- with no piece
abbrev pub emptied : Held → Held
emptied held = record held { from = replicate (length held.from) None }

-- whether a host gave all of them
abbrev pub is_from : (host : ℕ) → Option ℕ → Bool
is_from host giver = option_map_or (λ by. by == host) giver false

abbrev pub are_from : (host : ℕ) → Held → Bool
are_from host held = list_all (is_from host) held.from

-- the bytes have a digest
abbrev pub is_right : List ℕ → Held → Bool
is_right digest held = bytes_eq (sha256 held.bytes) digest

-- what comes of a host's piece, if the state's digest is to be this one: a piece that is there stays as it is, and a whole state
-- with another digest is thrown away
abbrev pub heard_of : List ℕ → (host place : ℕ) → List ℕ → Held → Heard
heard_of digest host place bytes held =
    if is_there held place then Again
    else (if not (left_in (with_part host place bytes held) == 0) then Taken
    else (if is_right digest (with_part host place bytes held) then Whole
    else Wrong (if are_from host (with_part host place bytes held) then Some host else None)))

abbrev pub held_after : List ℕ → (host place : ℕ) → List ℕ → Held → Held
held_after digest host place bytes held =
    if is_there held place then held
    else (if not (left_in (with_part host place bytes held) == 0) then with_part host place bytes held
    else (if is_right digest (with_part host place bytes held) then with_part host place bytes held
    else emptied (with_part host place bytes held)))

-- ---- the taker

-- it takes pieces of one host alone, if it says so, and none of those who are barred; the next ask begins at a place
pub record Taking : Type 0 where
  pub name : StateName
  pub held : Held
  pub next : ℕ
  pub only : Option ℕ
  pub barred : List Bool

abbrev pub opened_taker : StateName → Taking
opened_taker name = record {
  name = name;
  held = record { bytes = replicate name.length 0; from = replicate (count_of name.length) None };
  next = 0;
  only = None;
  barred = replicate MACHINE_LIMIT false;
}

-- it has room for the state of its name, and if no piece is missing, that state's digest is the name's
pub record IsTaken (name : StateName) (held : Held) : Type 0 where
  pub some : 1 ≤ name.length
  pub bytes : length held.bytes ≡ name.length
  pub from : length held.from ≡ count_of name.length
  pub whole : left_in held ≡ 0 → sha256 held.bytes ≡ name.digest

-- ---- what is heard

-- whether pieces of a host are taken for now
abbrev pub is_allowed : Option ℕ → (host : ℕ) → Bool
is_allowed only host = option_map_or (λ alone. alone == host) only true

-- why a piece of a host isn't taken
abbrev pub refusal_of : Taking → (host : ℕ) → Part → Option StateRefusal
refusal_of t host p =
    if not (is_same t.name p.state) then Some OtherState
    else (if not (nat_lt host MACHINE_LIMIT) then Some Stranger
    else (if slice_index_or t.barred host false then Some Barred
    else (if not (is_allowed t.only host) then Some NotNow
    else (if not (nat_lt p.place (count_of t.name.length)) then Some PastTheEnd
    else (if not (length p.bytes == size_of t.name.length p.place) then Some WrongLength
    else None)))))

-- a whole state was wrong: the host that alone gave it is barred; else that of its last piece is the only one from now on
abbrev pub blamed : (host : ℕ) → Option ℕ → Taking → Taking
blamed host (Some sole) t =
    record t { next = 0; only = None; barred = slice_set t.barred host true }
blamed host None t = record t { next = 0; only = Some host }

abbrev pub after_verdict : (host : ℕ) → Heard → Taking → Taking
after_verdict host Again t = t
after_verdict host Taken t = t
after_verdict host Whole t = t
after_verdict host (Wrong sole) t = blamed host sole t

abbrev pub after_piece : Taking → (host : ℕ) → Part → Taking
after_piece t host p =
    after_verdict host (heard_of t.name.digest host p.place p.bytes t.held)
    (record t { held = held_after t.name.digest host p.place p.bytes t.held })

abbrev pub heard_if : Option StateRefusal → Heard → Result Heard StateRefusal
heard_if (Some why) heard = Err why
heard_if None heard = Ok heard

-- what comes of a host's piece
abbrev pub heard : Taking → (host : ℕ) → Part → Result Heard StateRefusal
heard t host p =
    heard_if (refusal_of t host p) (heard_of t.name.digest host p.place p.bytes t.held)

abbrev pub after_heard : Taking → (host : ℕ) → Part → Taking
after_heard t host p = if is_none (refusal_of t host p) then after_piece t host p else t

-- what comes of bytes
abbrev pub heard_said : Taking → (host : ℕ) → Content → Result Heard StateRefusal
heard_said t host (Gives p) = heard t host p
heard_said t host (Wants w) = Err OtherKind

abbrev pub heard_read : Taking → Result Message StateRefusal → Result Heard StateRefusal
heard_read t (Ok m) = heard_said t m.envelope.sender m.content
heard_read t (Err why) = Err why

abbrev pub received : Taking → Key → List ℕ → Result Heard StateRefusal
received t key bytes = heard_read t (opened key bytes)

abbrev pub after_said : Taking → (host : ℕ) → Content → Taking
after_said t host (Gives p) = after_heard t host p
after_said t host (Wants w) = t

abbrev pub after_read : Taking → Result Message StateRefusal → Taking
after_read t (Ok m) = after_said t m.envelope.sender m.content
after_read t (Err why) = t

abbrev pub after_received : Taking → Key → List ℕ → Taking
after_received t key bytes = after_read t (opened key bytes)

-- ---- what is asked for

abbrev pub is_missing : List (Option ℕ) → (place : ℕ) → Bool
is_missing from place = not (is_some (slice_index_or from place None))

-- the pieces that are missing, from a place on to the end, and then from the first on to that place
abbrev pub missing_from : List (Option ℕ) → (place : ℕ) → List ℕ
missing_from from place =
    filter (is_missing from) (range_with_len place (length from - place))
    ++ filter (is_missing from) (range_with_len 0 (min place (length from)))

-- the first of them, so many at most
abbrev pub asked : Taking → (most : ℕ) → List ℕ
asked t most = take (min most ASK_LIMIT) (missing_from t.held.from t.next)

abbrev pub ask_for : Taking → List ℕ → Option Wish
ask_for t places =
    if length places == 0 then None else Some (record { state = t.name; places = places })

abbrev pub ask : Taking → (most : ℕ) → Option Wish
ask t most = ask_for t (asked t most)

-- the next ask begins behind the last of them
abbrev pub after_ask : Taking → (most : ℕ) → Taking
after_ask t most =
    record t {
      next = option_map_or (λ place. place + 1)
          (slice_get (asked t most) (length (asked t most) - 1)) t.next;
    }

-- the bytes that ask for them, by a key and in a machine's name
abbrev pub said_ask : Taking → Key → (sender most : ℕ) → Option (List ℕ)
said_ask t key sender most = option_map (λ w. said_by key sender (Wants w)) (ask t most)
