-- What is supposed of a machine that left an epoch stays so.
use Rattle.std.proofs.Common.{◌≡◌, ◌≤◌, ap, sym}
use Rattle.roll_chain.proofs.Lasting.{left_alike_still, over_stays, stays_judged}
use Rattle.roll_chain.proofs.LaterOn.{it_is_later}
use Rattle.roll_chain.proofs.Together.{end_low}
use Rattle.roll_chain.specs.Judging.{told_by}
use Rattle.roll_chain.specs.Lasting.{IsLater}
use Rattle.roll_chain.specs.Rows.{lefts, rows_known}
use Rattle.roll_epoch.proofs.NextLaws.{of_one_past_one_next}
use Rattle.roll_frame.specs.Paths.{run}
use Rattle.roll_laws.proofs.Ahead.{AllLater}
use Rattle.roll_laws.proofs.Fronts.{Onward}
use Rattle.roll_laws.proofs.Sound.{onward_played}
use Rattle.roll_session.proofs.Following.{ever_of}
use Rattle.roll_session.specs.Seen.{Seen}
use Rattle.roll_match.specs.Later.{WhatEndedStays, WhatIsKnownStays}
use Rattle.roll_match.proofs.Ahead.{rows_known_still, time_stays}

pub what_ended_stays : WhatEndedStays
what_ended_stays match games world later worlds machine before after chain e played steps ends is voids = record {
  over = over_stays chain before.peer after.peer e on voids ends.ending;
  judged = stays_judged chain before.peer after.peer on e.frame voids low ends.judged;
  next = sym (of_one_past_one_next chain.terms e (lefts before.peer.member.mesh) (lefts after.peer.member.mesh)
      (left_alike_still chain before.peer after.peer on e.frame voids low));
}
  where
    on : IsLater before.peer after.peer
    on = it_is_later match games world later worlds machine before after played steps ends.is is

    low : e.frame ≤ rows_known before.peer.member.mesh
    low = end_low (told_by chain before.peer) (rows_known before.peer.member.mesh) e ends.ending.end

pub what_is_known_stays : WhatIsKnownStays
what_is_known_stays step old new events frame follows played known = record {
  known = rows_known_still frame old.core.players new.core.players later known;
  opening = opening;
  value = λ k. run step (opening k) (time_stays frame old.core.players new.core.players later known k);
}
  where
    later : AllLater old.core.players new.core.players
    later = (ever_of step old follows Onward onward_played events new.core played.core).players

    opening : new.opening ≡ old.opening
    opening = ap (λ (s : Seen). s.opening) played.seen
