-- The command packet: the header word's fields, and the words after it.
use Rattle.std.specs.Prelude.{ℕ, ◌+◌, ◌*◌, ◌/◌, ◌%◌, Bool, false, ◌||◌, List, ◌==◌, nat_le}
use Rattle.lists.specs.Pick.{pick}
use Rattle.lists.specs.Words.{word_at}
use Rattle.signals.specs.declared.packet.Header.{Header}
use Rattle.signals.specs.declared.packet.Packet.{Packet}

-- ACK 15, CVC 14, OPP 13, SWB 12, mode 11:8, IE 7, code 4:0; `plain`: "Bits 7:5 .. 000 [or] 100"
unfoldable pub header_of : ℕ → Header
header_of w =
    record {
      ack = (w / 32768 % 2 == 1);
      cvc = (w / 16384 % 2 == 1);
      opp = (w / 8192 % 2 == 1);
      swb = (w / 4096 % 2 == 1);
      ie = (w / 128 % 2 == 1);
      plain = (w / 32 % 4 == 0);
      mode = w / 256 % 16;
      code = w % 32;
    }

-- codes 1, 4, 5 have data in memory: the words are pointer low, pointer high, count
abbrev pub has_pointer : ℕ → Bool
has_pointer code = (code == 1 || code == 4) || code == 5

-- a Position has its count in the second word; what a command doesn't use is not looked at
unfoldable pub packet_of : List ℕ → ℕ → ℕ → Packet
packet_of m at code =
    pick (has_pointer code)
    (record { pointer = word_at m (at + 2) + 65536 * (word_at m (at + 4) % 4); high = nat_le 4 (word_at m (at + 4)); count = word_at m (at + 6) })
    (pick (code == 8)
    (record { pointer = 0; high = false; count = word_at m (at + 2) })
    (record { pointer = 0; high = false; count = 0 }))
