-- The memory bytes that a plan does not name: off the data's places, and off the message's. (01, "Commands" and the message paragraph)
use Rattle.std.specs.Prelude.{◌≡◌, true, ℕ, ◌+◌, ◌<◌}
use Rattle.lists.specs.Places.{place}
use Rattle.tape.specs.Bytes.{moved_to}
use Rattle.signals.specs.Message.{message_bytes}
use Rattle.motions.specs.Parts.{moved_length}
use Rattle.motions.specs.declared.parts.Moved.{Moved}
use Rattle.commands.specs.declared.plans.Plan.{Plan}

-- the address of the first data byte
abbrev pub data_to : Moved → ℕ
data_to x = moved_to x.reverse x.pointer x.count x.length

-- "Data byte i lies at address pointer + i; with SWB at that address with its lowest bit flipped."
abbrev pub OffData : Moved → ℕ → Type 0
OffData x j = (i : ℕ) → i < moved_length x → j ≡ place x.swb (data_to x + i) → ⊥

-- the message's address
abbrev pub message_to : Plan → ℕ
message_to p = p.unit.characteristics.address

abbrev pub OffMessage : Plan → ℕ → Type 0
OffMessage p j = p.sends ≡ true → (i : ℕ) → i < message_bytes → j ≡ message_to p + i → ⊥
