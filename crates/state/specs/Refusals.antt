-- The refusals and the paper's numbers. (01, the table; 02, [4], [8] and [9]) "Each returns its number and changes nothing."
use Rattle.std.specs.Prelude.{ℕ, Result, Ok, Err, ⊤}
use Rattle.tape.specs.Letters.{letter_of}
use Rattle.tape.specs.declared.BlockFault.{BlockFault}
use Rattle.state.specs.declared.refusal.Refusal.{Refusal}
use Rattle.state.specs.declared.refusal.Refusal.TheVariants as refusal

-- "No. | Given exactly when": each by its number
unfoldable pub refusal_number : Refusal → ℕ
-- "position beyond the recorded end, .. or used journal or a mounted length out of range"
refusal_number refusal.State = 1
-- "memory length not allowed, or not that of the mount"
refusal_number refusal.Memory = 2
-- "reel length not allowed or not that of the mount; recorded end above capacity"
refusal_number refusal.Reel = 3
-- "journal too long, or not of the mount's length"
refusal_number refusal.Journal = 4
-- "host store too long, or its place plus length past the end of memory"
refusal_number refusal.Store = 5
-- "step back with no entry"
refusal_number refusal.Empty = 6
-- "a block that mount or the command must read is damaged or out of place (its number is given)"
refusal_number (refusal.BadBlock d) = 7
-- "newest entry's own numbers don't fit .."
refusal_number refusal.Entry = 8
-- "free journal less than the entry"
refusal_number refusal.Room = 9
-- "11 when the table is too small for the objects" (02, [8])
refusal_number refusal.Table = 11
-- "12 for a unit not present" (02, [9])
refusal_number refusal.Absent = 12

-- by whether it is refusal 7, which carries the fault and the block
abbrev pub by_block : {A : Type 0} → (BlockFault → ℕ → A) → A → Refusal → A
by_block f a refusal.State = a
by_block f a refusal.Memory = a
by_block f a refusal.Reel = a
by_block f a refusal.Journal = a
by_block f a refusal.Store = a
by_block f a refusal.Empty = a
by_block f a (refusal.BadBlock d) = f d.fault d.block
by_block f a refusal.Entry = a
by_block f a refusal.Room = a
by_block f a refusal.Table = a
by_block f a refusal.Absent = a

-- "7 a block .. is damaged or out of place (its number is given)"; 0 with any other
unfoldable pub block_of : Refusal → ℕ
block_of r = by_block (λ why k. k) 0 r

-- "7 keeps its place and carries the fault beside the block" (02, [4]): its letter; 0 with any other
unfoldable pub fault_of : Refusal → ℕ
fault_of r = by_block (λ why k. letter_of why) 0 r

-- what comes of a check: what its refusal comes to, or what stands behind it
abbrev pub behind : {A : Type 0} → Result ⊤ Refusal → (Refusal → A) → A → A
behind (Ok p) f x = x
behind (Err r) f x = f r
