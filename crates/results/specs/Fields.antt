-- A session as the numbers that are printed of it, in their order, and three more that can be set; and the session of such numbers.
use Rattle.std.specs.Prelude.{Bool, not, List, [], ◌∷◌, ℕ, ◌%◌, eqb, get_or}
use Rattle.lists.specs.Pick.{pick}
use Rattle.state.specs.declared.Unit.{Unit}
use Rattle.worlds.specs.declared.Session.{Session}

-- a flag is 1 or 0
abbrev pub bit_of : Bool → ℕ
bit_of b = pick b 1 0

unfoldable pub fields_of : Session → List ℕ
fields_of s =
    s.unit.tape.position ∷ s.unit.tape.end ∷ s.unit.registers.pointer ∷ s.unit.registers.class
    ∷ bit_of s.unit.registers.rmr
    ∷ bit_of s.unit.registers.nxm
    ∷ bit_of s.unit.registers.nba
    ∷ bit_of s.unit.registers.ssr
    ∷ bit_of s.unit.panel.online
    ∷ bit_of s.unit.panel.locked
    ∷ bit_of s.unit.panel.vck
    ∷ bit_of s.unit.attention.unit_owns
    ∷ bit_of s.unit.attention.pending
    ∷ bit_of s.unit.characteristics.eai
    ∷ bit_of s.unit.characteristics.ess
    ∷ bit_of s.unit.characteristics.enb
    ∷ s.unit.characteristics.address
    ∷ s.unit.characteristics.length
    ∷ bit_of s.unit.attention.release_ie
    ∷ s.used
    ∷ s.objects
    ∷ s.unit.lengths.memory
    ∷ s.unit.lengths.blocks
    ∷ s.journal
    ∷ []

-- the first so many are printed
abbrev pub printed_fields : ℕ
printed_fields = 21

-- number i; whether it is not 0; its low 32 bits
abbrev pub nth : List ℕ → ℕ → ℕ
nth n i = get_or n i 0

abbrev pub is_set : List ℕ → ℕ → Bool
is_set n i = not (eqb (nth n i) 0)

abbrev pub low_of : ℕ → ℕ
low_of x = x % 4294967296

unfoldable pub unit_with : List ℕ → Unit
unit_with n =
    record {
      tape = record { position = nth n 0; end = nth n 1 };
      registers =
          record {
            pointer = nth n 2;
            class = nth n 3;
            rmr = is_set n 4;
            nxm = is_set n 5;
            nba = is_set n 6;
            ssr = is_set n 7;
          };
      panel = record { online = is_set n 8; locked = is_set n 9; vck = is_set n 10 };
      attention = record { unit_owns = is_set n 11; pending = is_set n 12; release_ie = is_set n 18 };
      characteristics =
          record {
            address = low_of (nth n 16);
            length = low_of (nth n 17);
            eai = is_set n 13;
            ess = is_set n 14;
            enb = is_set n 15;
          };
      lengths = record { memory = nth n 21; blocks = nth n 22 };
    }

unfoldable pub session_with : List ℕ → Session
session_with n = record { unit = unit_with n; objects = nth n 20; used = nth n 19; journal = nth n 23 }
