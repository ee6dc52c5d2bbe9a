use Rattle.std.proofs.Common.{Ok, Err, [], ◌∷◌, List, Result, true, false, inl, inr, refl}
use Rattle.std.specs.Prelude.{IfErr, OnOk}
use Rattle.roll_chain.proofs.Played.{played_then, stopped_before}
use Rattle.roll_mesh.specs.declared.limits.TheConstants.{PLAYER_LIMIT}
use Rattle.roll_requests.specs.declared.declined.Declined.{Declined}
use Rattle.roll_session.specs.declared.event.Call.{Call}
use Rattle.roll_session.specs.declared.event.Call.TheVariants.{Advance}
use Rattle.fazgrond_c.specs.Playing.{frame_calls, words_given, AreAllGiven, AreGivenIn, DeclinesFor, GivesCall}
use Rattle.fazgrond_c.proofs.playing.Inputs.play_frame.Goals as goal

on_ok : (r : Result Unit Declined) (A B : Type 0) → (A → B) → OnOk r A → OnOk r B
on_ok (Ok done) A B f a = f a
on_ok (Err why) A B f a = tt

if_err : (r : Result Unit Declined) (P Q : Declined → Type 0) → ((why : Declined) → P why → Q why) → IfErr r P → IfErr r Q
if_err (Ok done) P Q f p = tt
if_err (Err why) P Q f p = f why p

pub returns-in-Ok-clause-played : goal.returns-in-Ok-clause-played
returns-in-Ok-clause-played c =
    let self = c.args.self.now in
    let words : List Call = words_given self.owners.now self.me self.size self.bytes.now PLAYER_LIMIT in
    on_ok c.make.result (GivesCall c.give_all.new.session c.make.new.session Advance)
    (AreAllGiven c.args.session.now (frame_calls self.owners.now self.me self.size self.bytes.now) c.make.new.session)
    (λ made why. played_then GivesCall (DeclinesFor why) c.args.session.now c.give_all.new.session c.make.new.session words (Advance ∷ []) true
    (c.in-Ok.ensures.given why) (inl (c.make.new.session, made, (refl, refl)))) c.make.ensures.made

pub returns-in-Ok-clause-declined : goal.returns-in-Ok-clause-declined
returns-in-Ok-clause-declined c =
    let self = c.args.self.now in
    let words : List Call = words_given self.owners.now self.me self.size self.bytes.now PLAYER_LIMIT in
    if_err c.make.result (λ why. DeclinesFor why c.give_all.new.session c.make.new.session Advance)
    (λ why. AreGivenIn c.args.session.now (frame_calls self.owners.now self.me self.size self.bytes.now) c.make.new.session why false)
    (λ why declined. played_then GivesCall (DeclinesFor why) c.args.session.now c.give_all.new.session c.make.new.session words (Advance ∷ []) false
    (c.in-Ok.ensures.given why) (inr (declined, refl))) c.make.ensures.declined

pub returns-in-Err-clause-declined : goal.returns-in-Err-clause-declined
returns-in-Err-clause-declined c =
    let self = c.args.self.now in
    stopped_before GivesCall (DeclinesFor c.in-Err.why) c.args.session.now c.give_all.new.session
    (words_given self.owners.now self.me self.size self.bytes.now PLAYER_LIMIT) (Advance ∷ []) c.in-Err.ensures.declined
