-- The numbers of a peer's events.
use Rattle.std.specs.Prelude.{ℕ}
use Rattle.roll_peer.specs.declared.event.PeerEvent.{PeerEvent}
use Rattle.roll_peer.specs.declared.event.PeerEvent.TheVariants.{Synchronizing, Synchronized, Running, DisconnectedFromPeer, TimeSync, Interrupted, Resumed, Desync, Mismatch, Dropped, Left, Restarted, Stalled, Refused, Missing, CutOff, Strangers, TwoMarks}

-- those of ggponet.h, and the peer's own above 1100
abbrev pub code_of : PeerEvent → ℕ
code_of (Synchronizing machine count total) = 1001
code_of (Synchronized machine) = 1002
code_of Running = 1003
code_of (DisconnectedFromPeer player) = 1004
code_of (TimeSync frames_ahead) = 1005
code_of (Interrupted machine disconnect_in) = 1006
code_of (Resumed machine) = 1007
code_of (Left machine bye) = 1101
code_of (Desync machine frame) = 1102
code_of (Mismatch machine field) = 1103
code_of Dropped = 1104
code_of (Restarted machine) = 1105
code_of (Stalled machine disconnect_in) = 1106
code_of (Refused machine) = 1107
code_of (Missing machine) = 1108
code_of (CutOff over_in) = 1109
code_of (Strangers count) = 1110
code_of (TwoMarks machine player) = 1111
