-- A session keeps the opening that its network was opened beside.
use Rattle.std.specs.Prelude.{◌≡◌, ℕ, List, Some}
use Rattle.roll_frame.specs.Games.{Value}
use Rattle.roll_mesh.specs.Worlds.{Match}
use Rattle.roll_session.specs.Seen.{Step}
use Rattle.roll_peer.specs.PeerWorlds.{AreSteps, Opens, PeerWorld}
use Rattle.roll_peer.specs.Requests.{Beside}

-- a machine's network was opened beside a session that had this opening, and this world is what any calls of any machines came to since then
pub record BeganWith (match : Match) (games : ℕ → Step) (world : PeerWorld) (machine : ℕ) (opening : Value) : Type 0 where
  pub before : PeerWorld
  pub first : PeerWorld
  pub opens : Opens match before first machine
  pub opening_is : opens.session.opening ≡ opening
  pub worlds : List PeerWorld
  pub steps : AreSteps match games first worlds world

-- whatever the machines call, and whatever the network does, its session has that opening still
abbrev pub WhatOpenedStays : Type 0
WhatOpenedStays =
    (match : Match) (games : ℕ → Step) (world : PeerWorld) (machine : ℕ) (beside : Beside) (opening : Value)
    → BeganWith match games world machine opening → world.machines machine ≡ Some beside → beside.session.opening ≡ opening
