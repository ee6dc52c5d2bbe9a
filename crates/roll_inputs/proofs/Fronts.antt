-- The front, as a fold over the queues.
use Rattle.std.proofs.Common.{◌≡◌, ℕ, List, [], ◌∷◌, ◌+◌, ◌<◌, get_or, take, length, map, min, filter, not, Bool, true, false, fold, Option, Some, None, cond, refl, ap, ◌∙◌, arith}
use Rattle.std.proofs.lemmas.List.{take_more}
use Rattle.std.proofs.lemmas.List.Elements.{filter-append}
use Rattle.std.proofs.lemmas.List.Sums.{fold-append}
use Rattle.std.specs.Option.{option_map_or}
use Rattle.std.specs.Prelude.{unwrap_or}
use Rattle.roll_frame.specs.Timeline.{Player, least_of, front}
use Rattle.roll_inputs.specs.Queues.{Known}
use Rattle.roll_inputs.specs.Boards.{players_of}

-- the lesser of the least count so far, if there is one, and a queue's
abbrev pub lesser_of : Option ℕ → Known → Option ℕ
lesser_of least q = Some (option_map_or (λ n. min n (length q.player.words)) least (length q.player.words))

abbrev pub remaining : List Known → List Known
remaining queues = filter (λ q. not q.player.gone) queues

abbrev pub counts : List Known → List ℕ
counts queues = map (λ q. length q.player.words) queues

least_of-min : (n m : ℕ) (ns : List ℕ) → least_of (min n m ∷ ns) ≡ least_of (n ∷ m ∷ ns)
least_of-min n m [] = refl
least_of-min n m (k ∷ ns) = assoc n m (least_of (k ∷ ns))
  where
    assoc : (a b c : ℕ) → min (min a b) c ≡ min a (min b c)
    assoc a b c = omega arith

fold-lesser : (n : ℕ) (queues : List Known) → fold lesser_of (Some n) queues ≡ Some (least_of (n ∷ counts queues))
fold-lesser n [] = refl
fold-lesser n (q ∷ queues) = fold-lesser (min n (length q.player.words)) queues ∙ ap Some (least_of-min n (length q.player.words) (counts queues))

least_folded : (queues : List Known) → unwrap_or (fold lesser_of None queues) 0 ≡ least_of (counts queues)
least_folded [] = refl
least_folded (q ∷ queues) = ap (λ o. unwrap_or o 0) (fold-lesser (length q.player.words) queues)

pub counts-remaining : (queues : List Known) → counts (remaining queues) ≡ map (λ (player : Player). length player.words) (filter (λ (player : Player). not player.gone) (players_of queues))
counts-remaining [] = refl
counts-remaining (q ∷ queues) = at_head q.player.gone (counts-remaining queues)
  where
    at_head : (gone : Bool) → counts (remaining queues) ≡ map (λ (player : Player). length player.words) (filter (λ (player : Player). not player.gone) (players_of queues)) → counts (cond (not gone) (q ∷ remaining queues) (remaining queues)) ≡ map (λ (player : Player). length player.words) (cond (not gone) (q.player ∷ filter (λ (player : Player). not player.gone) (players_of queues)) (filter (λ (player : Player). not player.gone) (players_of queues)))
    at_head true e = e
    at_head false e = ap (λ ns. length q.player.words ∷ ns) e

pub front_folded : (queues : List Known) → unwrap_or (fold lesser_of None (remaining queues)) 0 ≡ front (players_of queues)
front_folded queues = least_folded (remaining queues) ∙ ap least_of (counts-remaining queues)

-- one more queue, whose player is there or gone
pub fold_more : (queues : List Known) (k : ℕ) (q : Known) → k < length queues → q ≡ get_or queues k q → fold lesser_of None (remaining (take (k + 1) queues)) ≡ cond (not q.player.gone) (lesser_of (fold lesser_of None (remaining (take k queues))) q) (fold lesser_of None (remaining (take k queues)))
fold_more queues k q h e =
    rw (take_more queues k q h, ← e, filter-append, fold-append) (one q.player.gone)
  where
    one : (gone : Bool) → fold lesser_of (fold lesser_of None (remaining (take k queues))) (cond (not gone) (q ∷ []) []) ≡ cond (not gone) (lesser_of (fold lesser_of None (remaining (take k queues))) q) (fold lesser_of None (remaining (take k queues)))
    one true = refl
    one false = refl
