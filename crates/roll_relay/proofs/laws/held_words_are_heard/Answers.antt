use Rattle.roll_relay.proofs.Told.{follows_told, played_told, player_told}
use Rattle.roll_relay.proofs.laws.held_words_are_heard.Goals as goal

pub returns : goal.returns
returns c = λ step s words follows fits. record {
  played = played_told step s words fits;
  follows = follows_told step s words follows fits;
  players = player_told s words;
}
