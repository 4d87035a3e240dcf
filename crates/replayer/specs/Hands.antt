-- A call of a line over what the desk d hands it: the first bytes of memory m, reel r, table tb and journal j, as many as its cuts or its sizes say.
use Rattle.std.specs.Prelude.{List, ℕ}
use Rattle.desk.specs.Desks.{front, handed_of}
use Rattle.desk.specs.declared.desk.Desk.{Desk}
use Rattle.lines.specs.declared.Call.{Call}
use Rattle.results.specs.declared.Told.{Told}
use Rattle.worlds.specs.Worlds.{Answered}
use Rattle.replayer.specs.Calls.{call_on}
use Rattle.replayer.specs.Tells.{told_on}

unfoldable pub hand_on : Desk → Call → List ℕ → List ℕ → List ℕ → List ℕ → List ℕ → Answered
hand_on d c b m r tb j = call_on c b d.session (front (handed_of d).memory m) (front (handed_of d).reel r) (front (handed_of d).table tb) (front (handed_of d).journal j)

unfoldable pub hand_told : Desk → Call → List ℕ → List ℕ → List ℕ → List ℕ → List ℕ → Told
hand_told d c b m r tb j = told_on c b d.session (front (handed_of d).memory m) (front (handed_of d).reel r) (front (handed_of d).table tb) (front (handed_of d).journal j)
