-- Peers that have the same confirmed words agree on the settled rows.
use Rattle.std.proofs.Common.{◌≡◌, ℕ, zero, suc, ◌<◌, ◌≤◌, List, [], ◌∷◌, length, get_or, refl, ap, sym, ◌∙◌, true, arith, inl, inr, Some, None}
use Rattle.std.specs.Prelude.{◌⊎◌, slice_get}
use Rattle.std.proofs.lemmas.Option.{slice_get_past, slice_get-get_or}
use Rattle.roll_frame.specs.declared.row.Cell.TheVariants.{Word}
use Rattle.roll_frame.specs.Core.{is_known}
use Rattle.roll_frame.specs.Events.{played}
use Rattle.roll_frame.specs.Paths.{run}
use Rattle.roll_frame.specs.Timeline.{Player, cell_at, row_at, timeline, front}
use Rattle.roll_laws.specs.Laws.{word_at, PeersAgree}
use Rattle.roll_laws.proofs.Known.{AllKnown, known_cases, cell_confirmed, cell_gone}
use Rattle.roll_laws.proofs.Fronts.{settled_is, known_below_front}
use Rattle.roll_laws.proofs.Sound.{sound_played}

same_word : (v w : ℕ) → Some v ≡ Some w → v ≡ w
same_word v w e = cc

same_cell : (t : ℕ) (x y : Player) → is_known t x ≡ true → is_known t y ≡ true → slice_get x.words t ≡ slice_get y.words t → cell_at t x ≡ cell_at t y
same_cell t x y k l e = go (known_cases t x k) (known_cases t y l)
  where
    clash : (w : ℕ) → Some w ≡ None → ⊥
    clash w f = cc

    go : (t < length x.words) ⊎ ((length x.words ≤ t) × (x.gone ≡ true)) → (t < length y.words) ⊎ ((length y.words ≤ t) × (y.gone ≡ true)) → cell_at t x ≡ cell_at t y
    go (inl a) (inl b) =
        let f : Some (get_or x.words t 0) ≡ Some (get_or y.words t 0) = sym (slice_get-get_or x.words t 0 a) ∙ e ∙ slice_get-get_or y.words t 0 b in
        cell_confirmed t x a ∙ ap Word (same_word (get_or x.words t 0) (get_or y.words t 0) f) ∙ sym (cell_confirmed t y b)
    go (inl a) (inr b) = absurd (clash (get_or x.words t 0) (sym (slice_get-get_or x.words t 0 a) ∙ e ∙ slice_get_past y.words t b.0))
    go (inr a) (inl b) = absurd (clash (get_or y.words t 0) (sym (slice_get-get_or y.words t 0 b) ∙ sym e ∙ slice_get_past x.words t a.0))
    go (inr a) (inr b) = cell_gone t x a.0 a.1 ∙ sym (cell_gone t y b.0 b.1)

same_row : (t : ℕ) (xs ys : List Player) → AllKnown t xs → AllKnown t ys → length xs ≡ length ys → ((place : ℕ) → word_at xs place t ≡ word_at ys place t) → row_at xs t ≡ row_at ys t
same_row t [] [] k l n f = refl
same_row t [] (y ∷ ys) k l n f = absurd (omega arith)
same_row t (x ∷ xs) [] k l n f = absurd (omega arith)
same_row t (x ∷ xs) (y ∷ ys) k l n f = cc (same_cell t x y k.0 l.0 (f 0), same_row t xs ys k.1 l.1 (omega arith) (λ place. f (suc place)))

same_time : (f : ℕ) (xs ys : List Player) → f ≤ front xs → f ≤ front ys → length xs ≡ length ys → ((place t : ℕ) → t < f → word_at xs place t ≡ word_at ys place t) → timeline xs f ≡ timeline ys f
same_time zero xs ys a b n h = refl
same_time (suc f) xs ys a b n h =
    cc (
      same_time f xs ys (omega arith) (omega arith) n (λ place t l. h place t (omega arith)),
      same_row f xs ys (known_below_front f xs (omega arith)) (known_below_front f ys (omega arith)) n (λ place. h place f (omega arith)),
    )

pub peers_agree : PeersAgree
peers_agree settings others game events theirs h k f a b n e =
    let x = settled_is (played settings game events) (sound_played settings game events h).root in
    let y = settled_is (played others game theirs) (sound_played others game theirs k).root in
    let same = same_time f (played settings game events).players (played others game theirs).players (omega (arith, x.0)) (omega (arith, y.0)) n e in
    (same, ap (run game.step game.opening) same)
