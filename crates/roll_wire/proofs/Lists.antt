-- Fields that are read one after the other and kept in a list.
use Rattle.std.proofs.Common.{◌≡◌, ℕ, suc, ◌+◌, ◌-◌, ◌≤◌, ◌<◌, List, [], ◌∷◌, ◌++◌, length, Result, Ok, Err, refl, sym, ap, ◌∙◌, arith}
use Rattle.std.proofs.lemmas.List.{append-nil, length_push}
use Rattle.roll_wire.specs.declared.fault.WireFault.{WireFault}
use Rattle.roll_wire.specs.Reading.{repeated}
use Rattle.roll_wire.proofs.Loop.{regroup, with_front}

with_none : {A : Type 0} (r : Result (List A × List ℕ) WireFault) → with_front [] r ≡ r
with_none (Ok x) = refl
with_none (Err f) = refl

pub record Pushing {A : Type 0} (read : List ℕ → Result (A × List ℕ) WireFault) (n i : ℕ)
    (xs : List A) (bytes rest : List ℕ) : Type 0 where
  pub all : length xs ≡ i
  pub so_far : with_front xs (repeated read (n - i) rest) ≡ repeated read n bytes

pub starts : {A : Type 0} (read : List ℕ → Result (A × List ℕ) WireFault) (n : ℕ) (bytes : List ℕ)
    → Pushing read n 0 [] bytes bytes
starts read n bytes =
    let k : n - 0 ≡ n = omega arith in
    record { all = refl; so_far = rw k (with_none (repeated read n bytes)) }

pub goes_on : {A : Type 0} (read : List ℕ → Result (A × List ℕ) WireFault) (n i : ℕ) (xs : List A)
    (bytes rest : List ℕ) (a : A) (after : List ℕ) → i < n → read rest ≡ Ok (a, after)
    → Pushing read n i xs bytes rest → Pushing read n (i + 1) (xs ++ a ∷ []) bytes after
unfolding repeated
goes_on read n i xs bytes rest a after l h f =
    let k : n - i ≡ suc (n - (i + 1)) = omega arith in
    let one :
    with_front xs (repeated read (n - i) rest)
    ≡ with_front (xs ++ a ∷ []) (repeated read (n - (i + 1)) after) =
    rw (k, h) (regroup xs a (repeated read (n - (i + 1)) after)) in
    record { all = length_push xs a ∙ ap (λ m. m + 1) f.all; so_far = sym one ∙ f.so_far }

pub ends : {A : Type 0} (read : List ℕ → Result (A × List ℕ) WireFault) (n i : ℕ) (xs : List A)
    (bytes rest : List ℕ) (fault : WireFault) → i < n → read rest ≡ Err fault
    → Pushing read n i xs bytes rest → repeated read n bytes ≡ Err fault
unfolding repeated
ends read n i xs bytes rest fault l h f =
    let k : n - i ≡ suc (n - (i + 1)) = omega arith in
    let one : with_front xs (repeated read (n - i) rest) ≡ Err fault = rw (k, h) refl in
    sym f.so_far ∙ one

pub is_done : {A : Type 0} (read : List ℕ → Result (A × List ℕ) WireFault) (n i : ℕ) (xs : List A)
    (bytes rest : List ℕ) → n ≤ i → Pushing read n i xs bytes rest
    → repeated read n bytes ≡ Ok (xs, rest)
unfolding repeated
is_done {A = A} read n i xs bytes rest l f =
    let k : n - i ≡ 0 = omega arith in
    let one : with_front xs (repeated read (n - i) rest) ≡ Ok (xs, rest) =
    rw k (ap (λ (ys : List A). Ok (ys, rest)) (append-nil xs)) in
    sym f.so_far ∙ one
