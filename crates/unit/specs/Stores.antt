-- "of exactly 128 bytes plus the memory and reel bytes that step stored, data and message counted separately even if they overlap" (01,
-- "Exact step back"), and "eight bytes for each table place filled, one an object written" (02, [8]): the bytes that a step stores, as lists.
use Rattle.std.specs.Prelude.{false, List, [], ◌≡◌, ℕ, ◌*◌, length}
use Rattle.lists.specs.Pick.{pick}
use Rattle.lists.specs.Places.{placed}
use Rattle.tape.specs.Bytes.{moved_bytes, record_bytes}
use Rattle.tape.specs.Numbers.{block_bytes}
use Rattle.tape.specs.Objects.{Object, images_of}
use Rattle.index.specs.Table.{place_length, table_from}
use Rattle.signals.specs.Message.{words_bytes}
use Rattle.commands.specs.declared.plans.Plan.{Plan}
use Rattle.storing.specs.Stored.{laid_objects, reel_after}
use Rattle.advance.specs.Steps.{advanced}
use Rattle.unit.specs.Asks.{Ask, advance, host_store, operate, write_tsdb, write_tssr}
use Rattle.unit.specs.Cores.{Core}
use Rattle.unit.specs.Steps.{Step, cut_of}

-- the data's bytes, the message's, those of the new blocks and of the places of the table, and the objects written, one for each place
pub record StepBytes : Type 0 where
  pub data_stored : List ℕ
  pub message_stored : List ℕ
  pub reel_stored : List ℕ
  pub table_stored : List ℕ
  pub objects : List Object

abbrev pub no_bytes : StepBytes
no_bytes = record { data_stored = []; message_stored = []; reel_stored = []; table_stored = []; objects = [] }

-- what a plan stores: those bytes of the record that a Read moves, the message's words if it goes out, the blocks of the new objects and their places
unfoldable pub plan_bytes : Core → Plan → StepBytes
plan_bytes c p =
    record {
      data_stored =
          moved_bytes p.moved.reverse p.moved.count
          (record_bytes (reel_after p c.memory c.reel) p.moved.first p.moved.length);
      message_stored = pick p.sends (words_bytes p.message) [];
      reel_stored = images_of (laid_objects c.memory p.laid);
      table_stored = table_from p.laid.at (cut_of c p.laid).marks (laid_objects c.memory p.laid);
      objects = laid_objects c.memory p.laid;
    }

-- what is stored for each ask
unfoldable pub bytes_of : Ask → Core → StepBytes
bytes_of (write_tsdb word) c = no_bytes
bytes_of write_tssr c = no_bytes
bytes_of (operate a) c = no_bytes
bytes_of (host_store place bytes) c = record { data_stored = bytes; message_stored = []; reel_stored = []; table_stored = []; objects = [] }
bytes_of advance c = plan_bytes c (advanced c.unit c.memory c.reel)

-- the step x from the core c stored the bytes b, and nothing else
pub record Stores (c : Core) (x : Step) (b : StepBytes) : Type 0 where
  -- memory, reel and table are what they were with these in their places, the message over the data
  pub memory : x.after.memory ≡ placed false (placed x.touched.swb c.memory x.touched.data_at b.data_stored) x.touched.message_at b.message_stored
  pub reel : x.after.reel ≡ placed false c.reel (block_bytes * x.touched.reel_at) b.reel_stored
  pub table : x.after.table ≡ placed false c.table (place_length * x.touched.place_at) b.table_stored
  -- their lengths are those that the step's entry counts
  pub data_long : length b.data_stored ≡ x.touched.data_length
  pub message_long : length b.message_stored ≡ x.touched.message_length
  pub reel_long : length b.reel_stored ≡ block_bytes * x.touched.reel_blocks
  pub table_long : length b.table_stored ≡ place_length * x.touched.places
  pub places : length b.objects ≡ x.touched.places
