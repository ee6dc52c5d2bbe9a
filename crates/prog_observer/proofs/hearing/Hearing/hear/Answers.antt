use Rattle.std.proofs.Common.{◌≡◌, ◌∙◌, ◌<◌, ◌+◌, ◌++◌, ◌∷◌, [], ℕ, List, Option, ap, arith, drop, map, subst}
use Rattle.std.specs.Prelude.{unwrap_or}
use Rattle.roll_frame.specs.Inputs.{player_at}
use Rattle.roll_frame.specs.Timeline.{Player}
use Rattle.roll_inputs.specs.Boards.{confirmed_word}
use Rattle.prog_observer.specs.Hearing.{heard_at}
use Rattle.prog_observer.specs.declared.hearing.Heard.{Heard}
use Rattle.prog_observer.proofs.Heeding.{count_of, heard_all, heard_more, word_at, words}
use Rattle.prog_observer.proofs.hearing.Hearing.hear.Goals as goal

pub loop-frame-preserved : goal.loop-frame-preserved
loop-frame-preserved g c =
    let players = c.args.session.now.core.players in
    let player : Option Player = player_at players c.args.self.now.player in
    let t = c.loop-frame.frame in
    let at = c.args.at in
    let known : t < count_of player =
    subst (λ (n : ℕ). t < n) (c.unwrap_or-known.ensures ∙ ap (λ o. unwrap_or o 0) c.confirmed.ensures) c.loop-frame-test.true in
    let confirmed : c.confirmed_word.result ≡ confirmed_word players c.args.self.now.player t =
    c.confirmed_word.ensures ∙ ap (λ (p : ℕ). confirmed_word players p t) c.loop-frame.invariant.player in
    let word : c.unwrap_or-word.result ≡ word_at player t = c.unwrap_or-word.ensures ∙ ap (λ o. unwrap_or o 0) confirmed in
    let rest : List Heard = map (heard_at at) (drop (t + 1) (words player)) in
    let heard : List Heard = c.loop-frame.self.words.items in
    record {
      player = c.loop-frame.invariant.player;
      words =
          ap (λ ys. ys ++ rest) c.in_ok-push.ensures.items ∙ ap (λ w. (heard ++ heard_at at w ∷ []) ++ rest) word
          ∙ heard_more player at t heard _ known c.loop-frame.invariant.words;
    }

pub returns : goal.returns
returns g c =
    let old = c.args.self.now in
    let player : Option Player = player_at c.args.session.now.core.players old.player in
    let count : c.unwrap_or-known.result ≡ count_of player =
    c.unwrap_or-known.ensures ∙ ap (λ o. unwrap_or o 0) c.confirmed.ensures in
    let all = heard_all player c.args.at c.loop-frame.frame c.min-first.result c.unwrap_or-known.result old.words.items
    c.loop-frame.self.words.items (omega arith) (omega arith) count c.loop-frame.invariant.words in
    λ i. record { player = c.loop-frame.invariant.player i; words = all i }
