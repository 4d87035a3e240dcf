-- How the registers read. (01, "Registers")
use Rattle.std.specs.Prelude.{Bool, ◌||◌, not, ℕ, ◌+◌, ◌*◌, ◌/◌, ◌%◌, eqb}
use Rattle.signals.specs.Bits.{bit}
use Rattle.signals.specs.Message.{flag_of}
use Rattle.state.specs.declared.Unit.{Unit}

-- "TSBA reads the low 16 bits of the pointer last accepted"
abbrev pub tsba_of : Unit → ℕ
tsba_of u = u.registers.pointer % bit 16

-- "SC is set if the class isn't 0 or RMR or NXM is set."
abbrev pub sc_of : Unit → Bool
sc_of u = (not (eqb u.registers.class 0) || u.registers.rmr) || u.registers.nxm

-- is bit n of the pointer set?
abbrev pub pointer_bit : Unit → ℕ → Bool
pointer_bit u n = eqb (u.registers.pointer / bit n % 2) 1

-- "TSSR: SC 15, RMR 12, NXM 11, NBA 10, A17 9, A16 8, SSR 7, OFL 6, class 3:1."
unfoldable pub tssr_of : Unit → ℕ
tssr_of u =
    flag_of (sc_of u) (bit 15) + flag_of u.registers.rmr (bit 12) + flag_of u.registers.nxm (bit 11)
    + flag_of u.registers.nba (bit 10)
    + flag_of (pointer_bit u 17) (bit 9)
    + flag_of (pointer_bit u 16) (bit 8)
    + flag_of u.registers.ssr (bit 7)
    + flag_of (not u.panel.online) (bit 6)
    + bit 1 * (u.registers.class % bit 3)
