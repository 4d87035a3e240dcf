-- The head of an entry is 31 numbers; every field of the state has its place. (01: "Undoing registers but not VCK, owners or pending
-- attention" is what this must rule out: see the law `entry_back`.) The last is the transport's: "The entry names its unit within the 128 bytes" (02, [9]).
use Rattle.std.specs.Prelude.{Bool, not, ◌&&◌, List, [], ◌∷◌, ◌++◌, ℕ, ◌%◌, ◌<◌, eqb, ltb, get_or}
use Rattle.lists.specs.Fours.{number_limit}
use Rattle.lists.specs.Pick.{pick}
use Rattle.state.specs.declared.Lengths.{Lengths}
use Rattle.state.specs.declared.Unit.{Unit}
use Rattle.touched.specs.Touches.{place_below}
use Rattle.touched.specs.declared.Touched.{Touched}
use Rattle.entries.specs.declared.Entry.{Entry}

abbrev pub bit_of : Bool → ℕ
bit_of b = pick b 1 0

-- the state's own, but for the lengths that a mount takes: 19, with which an entry's head and a unit's record begin
unfoldable pub state_numbers : Unit → List ℕ
state_numbers u =
    u.tape.position % number_limit ∷ u.tape.end % number_limit ∷ u.registers.pointer % number_limit ∷ u.registers.class % number_limit
    ∷ bit_of u.registers.rmr
    ∷ bit_of u.registers.nxm
    ∷ bit_of u.registers.nba
    ∷ bit_of u.registers.ssr
    ∷ bit_of u.panel.online
    ∷ bit_of u.panel.locked
    ∷ bit_of u.panel.vck
    ∷ bit_of u.attention.unit_owns
    ∷ bit_of u.attention.pending
    ∷ bit_of u.attention.release_ie
    ∷ u.characteristics.address
    ∷ u.characteristics.length
    ∷ bit_of u.characteristics.eai
    ∷ bit_of u.characteristics.ess
    ∷ bit_of u.characteristics.enb
    ∷ []

unfoldable pub numbers_of : Entry → List ℕ
numbers_of e =
    state_numbers e.unit
    ++ (e.unit.lengths.memory % number_limit ∷ e.unit.lengths.blocks % number_limit
    ∷ e.touched.data_at % number_limit
    ∷ e.touched.data_length % number_limit
    ∷ bit_of e.touched.swb
    ∷ e.touched.message_at % number_limit
    ∷ e.touched.message_length % number_limit
    ∷ e.touched.reel_at % number_limit
    ∷ e.touched.reel_blocks % number_limit
    ∷ e.objects % number_limit
    ∷ e.touched.places
    ∷ e.transport % number_limit
    ∷ [])

-- number i, and whether it is not 0
abbrev pub nth : List ℕ → ℕ → ℕ
nth n i = get_or n i 0

abbrev pub is_set : List ℕ → ℕ → Bool
is_set n i = not (eqb (nth n i) 0)

-- the unit whose numbers come first in n
unfoldable pub unit_in : List ℕ → Lengths → Unit
unit_in n lengths =
    record {
      tape = record { position = nth n 0; end = nth n 1 };
      registers =
          record {
            pointer = nth n 2;
            class = nth n 3;
            rmr = is_set n 4;
            nxm = is_set n 5;
            nba = is_set n 6;
            ssr = is_set n 7;
          };
      panel = record { online = is_set n 8; locked = is_set n 9; vck = is_set n 10 };
      attention = record { unit_owns = is_set n 11; pending = is_set n 12; release_ie = is_set n 13 };
      characteristics =
          record { address = nth n 14; length = nth n 15; eai = is_set n 16; ess = is_set n 17; enb = is_set n 18 };
      lengths = lengths;
    }

-- number i is a flag's; the flags among the state's numbers are 0 or 1
abbrev pub flag : List ℕ → ℕ → Bool
flag n i = ltb (nth n i) 2

unfoldable pub flags_right : List ℕ → Bool
flags_right n =
    flag n 4 && (flag n 5 && (flag n 6 && flag n 7))
    && (flag n 8 && (flag n 9 && flag n 10))
    && (flag n 11 && (flag n 12 && flag n 13))
    && (flag n 16 && (flag n 17 && flag n 18))

-- the places filled end where the used part of the table does after the step: at `top`
unfoldable pub touched_of : List ℕ → ℕ → Touched
touched_of n top =
    record {
      data_at = nth n 21;
      data_length = nth n 22;
      swb = is_set n 23;
      message_at = nth n 24;
      message_length = nth n 25;
      reel_at = nth n 26;
      reel_blocks = nth n 27;
      place_at = place_below top (nth n 29);
      places = nth n 29;
    }

unfoldable pub entry_of : List ℕ → ℕ → Entry
entry_of n top =
    record { unit = unit_in n (record { memory = nth n 19; blocks = nth n 20 }); objects = nth n 28; touched = touched_of n top; transport = nth n 30 }

-- every number of the entry that its type lets be larger has at most four bytes; so has each that the journal writes
pub record Small (e : Entry) : Type 0 where
  pub transport : e.transport < number_limit
  pub position : e.unit.tape.position < number_limit
  pub end : e.unit.tape.end < number_limit
  pub pointer : e.unit.registers.pointer < number_limit
  pub class : e.unit.registers.class < number_limit
  pub memory : e.unit.lengths.memory < number_limit
  pub blocks : e.unit.lengths.blocks < number_limit
  pub data_at_fits : e.touched.data_at < number_limit
  pub data_length_fits : e.touched.data_length < number_limit
  pub message_at_fits : e.touched.message_at < number_limit
  pub message_length_fits : e.touched.message_length < number_limit
  pub reel_at_fits : e.touched.reel_at < number_limit
  pub reel_blocks_fits : e.touched.reel_blocks < number_limit
  pub objects : e.objects < number_limit
