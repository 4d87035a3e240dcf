-- A unit's record in the row: 21 numbers of four bytes, one for each field of a transport. (02, [9]: "A row of up to four unit records")
use Rattle.std.specs.Prelude.{Bool, List, [], ◌∷◌, ◌++◌, ℕ, ◌%◌, ◌<◌}
use Rattle.lists.specs.Fours.{number_limit}
use Rattle.entries.specs.Numbers.{flags_right, nth, state_numbers, unit_in}
use Rattle.worlds.specs.Rows.{unit_over}
use Rattle.worlds.specs.declared.Transport.{Transport}

abbrev pub record_count : ℕ
record_count = 21

-- the state's, then the reel's length in blocks and the used places of the table
unfoldable pub numbers_of : Transport → List ℕ
numbers_of t = state_numbers (unit_over 0 t) ++ (t.blocks % number_limit ∷ t.objects % number_limit ∷ [])

-- the transport that a record is read as, whatever its numbers
unfoldable pub transport_in : List ℕ → Transport
transport_in n =
    let u = unit_in n (record { memory = 0; blocks = nth n 19 }) in
    record {
      tape = u.tape;
      registers = u.registers;
      panel = u.panel;
      attention = u.attention;
      characteristics = u.characteristics;
      blocks = nth n 19;
      objects = nth n 20;
    }

-- the numbers are some transport's record: the laws `record_own` and `record_is` say that this is so exactly when they are the record of what they are read as
unfoldable pub is_record : List ℕ → Bool
is_record n = flags_right n

-- every number of the transport that its type lets be larger has at most four bytes
pub record SmallTransport (t : Transport) : Type 0 where
  pub position : t.tape.position < number_limit
  pub end : t.tape.end < number_limit
  pub pointer : t.registers.pointer < number_limit
  pub class : t.registers.class < number_limit
  pub blocks : t.blocks < number_limit
  pub objects : t.objects < number_limit
