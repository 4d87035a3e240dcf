-- The limits of the registers, words and packets. (01, "Registers", step 8; 02, [2])
use Rattle.std.specs.Prelude.{ℕ}
use Rattle.signals.specs.Bits.{bit}

-- "all 18 pointer bits"; "Pointer bits above A17"
abbrev pub pointer_limit : ℕ
pointer_limit = bit 18

-- "step 7 of document 01 reads all eight bytes for every command" (02, [2])
abbrev pub packet_bytes : ℕ
packet_bytes = 8
