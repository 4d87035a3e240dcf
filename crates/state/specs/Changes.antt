-- What register writes, operator acts and mount make of the state. (01, "Registers", "Calls", steps 3 and 4)
use Rattle.std.specs.Prelude.{Bool, true, false, ◌||◌, ℕ, ◌+◌, ◌*◌, ◌/◌, ◌%◌}
use Rattle.lists.specs.Pick.{pick}
use Rattle.state.specs.declared.Unit.{Unit}
use Rattle.state.specs.declared.Registers.{Registers}
use Rattle.state.specs.declared.Attention.{Attention}
use Rattle.state.specs.declared.Characteristics.{Characteristics}
use Rattle.state.specs.declared.Lengths.{Lengths}
use Rattle.state.specs.declared.act.Act.{Act}
use Rattle.state.specs.declared.act.Act.TheVariants as act

-- "TSDB word: address bits 15:2 in place; bits 1:0 are A17, A16."
abbrev pub pointer_of : ℕ → ℕ
pointer_of w = w / 4 * 4 + 65536 * (w % 4)

-- "characteristics .. cleared"
abbrev pub no_characteristics : Characteristics
no_characteristics = record { address = 0; length = 0; eai = false; ess = false; enb = false }

-- "RMR, NXM and class cleared, NBA, SSR .. set, .. all 18 pointer bits 0"
abbrev pub initial_registers : Registers
initial_registers = record { pointer = 0; class = 0; rmr = false; nxm = false; nba = true; ssr = true }

-- "attention, .. the release's IE .. cleared, .. both buffers the CPU's"
abbrev pub no_attention : Attention
no_attention = record { unit_owns = false; pending = false; release_ie = false }

-- the state with other registers
abbrev pub with_registers : Unit → Registers → Unit
with_registers u g =
    record {
      tape = u.tape;
      registers = g;
      panel = u.panel;
      attention = u.attention;
      characteristics = u.characteristics;
      lengths = u.lengths;
    }

-- "A TSDB write with SSR clear sets RMR and SC, nothing else."
abbrev pub rejected_write : Registers → Registers
rejected_write g =
    record { pointer = g.pointer; class = g.class; rmr = true; nxm = g.nxm; nba = g.nba; ssr = g.ssr }

-- "Accepted, it clears SC, RMR, NXM, class and SSR."
abbrev pub accepted_write : Registers → ℕ → Registers
accepted_write g w =
    record { pointer = pointer_of w; class = 0; rmr = false; nxm = false; nba = g.nba; ssr = false }

unfoldable pub tsdb_written : Unit → ℕ → Unit
tsdb_written u w =
    with_registers u (pick u.registers.ssr (accepted_write u.registers w) (rejected_write u.registers))

-- "A TSSR write initializes: .. VCK set, .. position 0 if on line"
unfoldable pub initialized : Unit → Unit
initialized u =
    record {
      tape = record { position = pick u.panel.online 0 u.tape.position; end = u.tape.end };
      registers = initial_registers;
      panel = record { online = u.panel.online; locked = u.panel.locked; vck = true };
      attention = no_attention;
      characteristics = no_characteristics;
      lengths = u.lengths;
    }

-- "Mount .. takes that end and both switches, .. and sets position 0 and the rest as an initialize does."
unfoldable pub mounted_as : ℕ → Bool → Bool → Lengths → Unit
mounted_as e online locked lengths =
    record {
      tape = record { position = 0; end = e };
      registers = initial_registers;
      panel = record { online = online; locked = locked; vck = true };
      attention = no_attention;
      characteristics = no_characteristics;
      lengths = lengths;
    }

-- "Going on or off line makes it pending if EAI is set; several make one." "Going on line sets [VCK]."
unfoldable pub switched_line : Unit → Bool → Unit
switched_line u on =
    record {
      tape = u.tape;
      registers = u.registers;
      panel = record { online = on; locked = u.panel.locked; vck = u.panel.vck || on };
      attention =
          record {
            unit_owns = u.attention.unit_owns;
            pending = u.attention.pending || u.characteristics.eai;
            release_ie = u.attention.release_ie;
          };
      characteristics = u.characteristics;
      lengths = u.lengths;
    }

unfoldable pub switched_lock : Unit → Bool → Unit
switched_lock u on =
    record {
      tape = u.tape;
      registers = u.registers;
      panel = record { online = u.panel.online; locked = on; vck = u.panel.vck };
      attention = u.attention;
      characteristics = u.characteristics;
      lengths = u.lengths;
    }

-- "An act that finds its switch already so raises and sets nothing."
unfoldable pub operated : Unit → Act → Unit
operated u act.OnLine = pick u.panel.online u (switched_line u true)
operated u act.OffLine = pick u.panel.online (switched_line u false) u
operated u act.Lock = switched_lock u true
operated u act.Unlock = switched_lock u false
