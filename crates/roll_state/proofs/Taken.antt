-- What a taker keeps of the pieces that are there.
use Rattle.std.proofs.Common.{◌≡◌, ℕ, ◌+◌, ◌*◌, ◌<◌, ◌≤◌, Bool, true, false, not, cond, List, ◌++◌, length, take, drop, get_or, Option, Some, None, refl, sym, ◌∙◌, arith}
use Rattle.std.specs.Prelude.{count_by, is_none, nat_lt, replicate, ◌==◌, if◌then◌else◌}
use Rattle.std.proofs.lemmas.Grind.{common_steps}
use Rattle.std.proofs.lemmas.Bool.{eq-eqb, eqb-true, ltb-true, false≢true}
use Rattle.std.proofs.lemmas.List.{length-append, length-drop, length-replicate, length-set, length-take}
use Rattle.std.proofs.lemmas.Slice.Eq.{bytes_eq-Decides}
use Rattle.sha2.specs.Sha256.{sha256}
use Rattle.roll_state.specs.States.{count_of, is_same, size_of, with_piece}
use Rattle.roll_state.specs.Spelling.{Part}
use Rattle.roll_state.specs.Taking.{emptied, held_after, is_allowed, is_right, is_there, left_in, refusal_of, with_part, Held, IsTaken, Taking}
use Rattle.roll_state.specs.declared.limits.TheConstants.{PIECE_LIMIT}
use Rattle.roll_state.specs.declared.name.StateName.{StateName}
use Rattle.roll_state.specs.declared.refusal.StateRefusal.{StateRefusal}
use Rattle.roll_state.specs.declared.refusal.StateRefusal.TheVariants.{Barred, NotNow, OtherState, PastTheEnd, Stranger, WrongLength}
use Rattle.roll_mesh.specs.declared.limits.TheConstants.{MACHINE_LIMIT}

-- ---- which pieces are taken

none_if : (b : Bool) (why : StateRefusal) (rest : Option StateRefusal) → cond b (Some why) rest ≡ None
    → (b ≡ false) × (rest ≡ None)
none_if true why rest e = absurd cc
none_if false why rest e = (refl, e)

is_not : (b : Bool) → not b ≡ false → b ≡ true
is_not true e = refl
is_not false e = absurd cc

-- a piece that is taken is of the taker's state, has a place in it, and as many bytes as the piece there has
pub record IsAccepted (t : Taking) (host : ℕ) (p : Part) : Type 0 where
  pub same : is_same t.name p.state ≡ true
  pub inside : p.place < count_of t.name.length
  pub whole : length p.bytes ≡ size_of t.name.length p.place

pub accepted : (t : Taking) (host : ℕ) (p : Part) → refusal_of t host p ≡ None → IsAccepted t host p
accepted t host p e =
    let a = none_if (not (is_same t.name p.state)) OtherState _ e in
    let b = none_if (not (nat_lt host MACHINE_LIMIT)) Stranger _ a.1 in
    let d = none_if (get_or t.barred host false) Barred _ b.1 in
    let f = none_if (not (is_allowed t.only host)) NotNow _ d.1 in
    let g = none_if (not (nat_lt p.place (count_of t.name.length))) PastTheEnd _ f.1 in
    let h = none_if (not (length p.bytes == size_of t.name.length p.place)) WrongLength None g.1 in
    record {
      same = is_not _ a.0;
      inside = ltb-true _ _ (is_not _ g.0);
      whole = eqb-true _ _ (is_not _ h.0);
    }

-- ---- a piece that comes

pub length-with_piece : (place : ℕ) (piece bytes : List ℕ)
    → PIECE_LIMIT * place + length piece ≤ length bytes
    → length (with_piece place piece bytes) ≡ length bytes
length-with_piece place piece bytes room =
    omega (
      arith,
      length-append (take (PIECE_LIMIT * place) bytes)
          (piece ++ drop (PIECE_LIMIT * place + length piece) bytes),
      length-append piece (drop (PIECE_LIMIT * place + length piece) bytes),
      length-take (PIECE_LIMIT * place) bytes,
      length-drop (PIECE_LIMIT * place + length piece) bytes,
    )

-- there is room for the piece at a place
pub has_room : (len place : ℕ) → place < count_of len → PIECE_LIMIT * place + size_of len place ≤ len
has_room len place inside = omega arith

pub all_missing : (n : ℕ) → count_by is_none (replicate {A = Option ℕ} n None) ≡ n
all_missing n = grind (arith, common_steps)

module _ (name : StateName) (host place : ℕ) (bytes : List ℕ) (held : Held) where
  abbrev more : Held
  more = with_part host place bytes held

  abbrev Kept : Held → Type 0
  Kept h = (length h.bytes ≡ name.length) × (length h.from ≡ count_of name.length)

  kept : IsTaken name held → place < count_of name.length → length bytes ≡ size_of name.length place
      → Kept more
  kept t inside size =
      let room : PIECE_LIMIT * place + length bytes ≤ length held.bytes =
      omega (arith, has_room name.length place inside, t.bytes, size) in (
        length-with_piece place bytes held.bytes room ∙ t.bytes,
        length-set held.from place (Some host) ∙ t.from,
      )

  judged : 1 ≤ name.length → Kept more → (b : Bool) → is_right name.digest more ≡ b
      → left_in more ≡ 0 → IsTaken name (if b then more else emptied more)
  judged some k true e left = record {
    some = some;
    bytes = k.0;
    from = k.1;
    whole = λ _. (bytes_eq-Decides (sha256 more.bytes) name.digest).0 e;
  }
  judged some k false e left =
      let n : ℕ = length more.from in
      let many : left_in (emptied more) ≡ n = all_missing n in
      record {
        some = some;
        bytes = k.0;
        from = length-replicate n None ∙ k.1;
        whole = λ none. absurd (omega (arith, many, none, k.1, some));
      }

  counted : 1 ≤ name.length → Kept more → (b : Bool) → (left_in more == 0) ≡ b
      → IsTaken name (if not b then more
      else (if is_right name.digest more then more else emptied more))
  counted some k true e =
      judged some k (is_right name.digest more) refl (eqb-true (left_in more) 0 e)
  counted some k false e = record {
    some = some;
    bytes = k.0;
    from = k.1;
    whole = λ none. absurd (false≢true (sym e ∙ eq-eqb (left_in more) 0 none));
  }

  pub taken_after : IsTaken name held → place < count_of name.length
      → length bytes ≡ size_of name.length place
      → IsTaken name (held_after name.digest host place bytes held)
  taken_after t inside size = go (is_there held place)
    where
      go : (b : Bool) → IsTaken name (if b then held
          else (if not (left_in more == 0) then more
          else (if is_right name.digest more then more else emptied more)))
      go true = t
      go false = counted t.some (kept t inside size) (left_in more == 0) refl

-- and so it keeps what it keeps when it hears a piece
pub hears : (t : Taking) (host : ℕ) (p : Part) (held : Held) → IsTaken t.name t.held
    → refusal_of t host p ≡ None → held ≡ held_after t.name.digest host p.place p.bytes t.held
    → IsTaken t.name held
hears t host p held taken e is =
    let a = accepted t host p e in
    rw is (taken_after t.name host p.place p.bytes t.held taken a.inside a.whole)
