-- Once marks are judged, all is void that is so by the rules, and nothing else.
use Rattle.std.proofs.Common.{◌≡◌, ◌∙◌, ◌⊎◌, ℕ, zero, suc, ◌+◌, ◌-◌, ◌<◌, ◌≤◌, length, Bool, true, false, List, ap, refl, sym, subst, inl, inr, Option, Some, None, arith}
use Rattle.std.specs.Prelude.{◌==◌, if◌then◌else◌, nat_lt, not, slice_set}
use Rattle.std.proofs.lemmas.Bool.{and_from, cases_eq, false_from_ne_true, false≢true, le-ltb, ne_eqb}
use Rattle.std.proofs.lemmas.List.{get_or-set_other, get_or-set_same, length-set}
use Rattle.roll_chain.proofs.Untils.{judged_next, judged_none}
use Rattle.roll_chain.specs.Judging.{is_void_by, judged_at, judged_until}
use Rattle.roll_chain.specs.declared.chain.Chain.{Chain}
use Rattle.roll_mesh.specs.Machines.{is_in}
use Rattle.roll_mesh.specs.declared.limits.TheConstants.{PLAYER_LIMIT}
use Rattle.roll_peer.specs.Marking.{is_numbered, voided}
use Rattle.roll_peer.specs.Marks.{mark_at}
use Rattle.roll_peer.specs.Peered.{Peered}
use Rattle.roll_wire.specs.declared.datagram.Marked.{Marked}
use Rattle.roll_chain.specs.Together.{IsJudgedTo}
use Rattle.roll_match.specs.Judged.{IsJudged, IsSound, SoundStays, WhatIsJudged}

numbered : (n : ℕ) → n < PLAYER_LIMIT → is_numbered (n + 1) ≡ true
numbered n l =
    and_from (not (n + 1 == 0)) (not (nat_lt PLAYER_LIMIT (n + 1)))
    (ap not (ne_eqb (n + 1) 0 (λ e. absurd (omega (arith, e)))))
    (ap not (le-ltb PLAYER_LIMIT (n + 1) (omega (arith, l))))

-- a mark is void, by its player's place
voided_is : (peer : Peered) (n : ℕ) → n < PLAYER_LIMIT → voided peer (n + 1) ≡ record peer { voids = slice_set peer.voids n true }
voided_is peer n l =
    ap (λ (b : Bool). if b then record peer { voids = slice_set peer.voids (n + 1 - 1) true } else peer) (numbered n l)
    ∙ ap (λ (k : ℕ). record peer { voids = slice_set peer.voids k true }) (back n)
  where
    back : (k : ℕ) → k + 1 - 1 ≡ k
    back k = omega arith

module _ (chain : Chain) (old : Peered) (sound : IsSound chain old) where
  abbrev is_so : ℕ → Bool
  is_so p = is_void_by chain p (mark_at old.marks p)

  record Until (n : ℕ) (new : Peered) : Type 0 where
    marks : new.marks ≡ old.marks
    sized : length new.voids ≡ PLAYER_LIMIT
    done : (p : ℕ) → p < n → p < PLAYER_LIMIT → is_in new.voids p ≡ is_so p
    rest : (p : ℕ) → n ≤ p → is_in new.voids p ≡ is_in old.voids p

  none_yet : Until 0 old
  none_yet = record { marks = refl; sized = sound.sized; done = λ p l. absurd (omega (arith, l)); rest = λ p l. refl }

  one_more : (n : ℕ) (x : Peered) → n < PLAYER_LIMIT → Until n x → Until (n + 1) (judged_at chain n x)
  one_more n x l u = subst (λ (b : Bool). Until (n + 1) (if b then voided x (n + 1) else x)) (sym same) (go (is_so n) refl)
    where
      same : is_void_by chain n (mark_at x.marks n) ≡ is_so n
      same = ap (λ ms. is_void_by chain n (mark_at ms n)) u.marks

      go : (b : Bool) → is_so n ≡ b → Until (n + 1) (if b then voided x (n + 1) else x)
      go true e = subst (λ (y : Peered). Until (n + 1) y) (sym (voided_is x n l)) (record {
        marks = u.marks;
        sized = length-set x.voids n true ∙ u.sized;
        done = λ p below inside. here p below inside (cases_eq p n);
        rest = λ p past. get_or-set_other x.voids n p true false (λ s. absurd (omega (arith, past, s))) ∙ u.rest p (omega (arith, past));
      })
        where
          here : (p : ℕ) → p < n + 1 → p < PLAYER_LIMIT → (p ≡ n) ⊎ (p ≡ n → ⊥) → is_in (slice_set x.voids n true) p ≡ is_so p
          here p below inside (inl s) =
              ap (λ k. is_in (slice_set x.voids n true) k) s ∙ get_or-set_same x.voids n true false (omega (arith, l, u.sized)) ∙ sym e
              ∙ ap is_so (sym s)
          here p below inside (inr o) = get_or-set_other x.voids n p true false o ∙ u.done p (omega (arith, below, o)) inside
      go false e = record {
        marks = u.marks;
        sized = u.sized;
        done = λ p below inside. here p below inside (cases_eq p n);
        rest = λ p past. u.rest p (omega (arith, past));
      }
        where
          here : (p : ℕ) → p < n + 1 → p < PLAYER_LIMIT → (p ≡ n) ⊎ (p ≡ n → ⊥) → is_in x.voids p ≡ is_so p
          here p below inside (inl s) =
              ap (λ k. is_in x.voids k) s ∙ u.rest n (omega arith)
              ∙ false_from_ne_true (is_in old.voids n) (λ t. false≢true (sym e ∙ sound.so n l t)) ∙ sym e ∙ ap is_so (sym s)
          here p below inside (inr o) = u.done p (omega (arith, below, o)) inside

  until : (n : ℕ) → n ≤ PLAYER_LIMIT → Until n (judged_until chain n old)
  until zero l = subst (λ (y : Peered). Until 0 y) (sym (judged_none chain old)) none_yet
  until (suc n) l =
      let next : n + 1 ≡ suc n = omega arith in
      subst (λ (k : ℕ). Until k (judged_until chain k old)) next
      (subst (λ (y : Peered). Until (n + 1) y) (sym (judged_next chain n old))
      (one_more n (judged_until chain n old) (omega (arith, l)) (until n (omega (arith, l)))))

judged_to : (end : ℕ) (chain : Chain) (peer : Peered) → IsJudged chain peer → IsJudgedTo end chain peer
judged_to end chain peer judged p m l nobody at below there = judged p l ∙ ap (is_void_by chain p) at

pub what_is_judged : WhatIsJudged
what_is_judged chain peer sound =
    let u = until chain peer sound PLAYER_LIMIT (omega arith) in
    let judged : IsJudged chain (judged_until chain PLAYER_LIMIT peer) =
    λ p l. u.done p l l ∙ ap (λ ms. is_void_by chain p (mark_at ms p)) (sym u.marks) in
    record {
      judged = judged;
      to_any = λ end. judged_to end chain (judged_until chain PLAYER_LIMIT peer) judged;
      sound = record {
        sized = u.sized;
        so = λ p l t. ap (λ ms. is_void_by chain p (mark_at ms p)) u.marks ∙ sym (u.done p l l) ∙ t;
      };
    }

pub sound_stays : SoundStays
sound_stays chain old new later voids sound = record {
  sized = ap (λ (vs : List Bool). length vs) voids ∙ sound.sized;
  so = λ p l t. go p l (mark_at old.marks p) refl (sound.so p l (ap (λ (vs : List Bool). is_in vs p) (sym voids) ∙ t));
}
  where
    go : (p : ℕ) → p < PLAYER_LIMIT → (o : Option Marked) → mark_at old.marks p ≡ o → is_void_by chain p (mark_at old.marks p) ≡ true
        → is_void_by chain p (mark_at new.marks p) ≡ true
    go p l None e v = absurd (false≢true (sym (ap (is_void_by chain p) e) ∙ v))
    go p l (Some m) e v = ap (is_void_by chain p) (later.keeps p m l e ∙ sym e) ∙ v
