-- The state's block: 32 numbers of four bytes, low byte first: the 31 of a journal entry's head, and a 0. The used journal and the mount's
-- journal length stand where an entry has its data's place and length, and the numbers after them are 0, but for the used places of the table.
use Rattle.std.specs.Prelude.{Bool, true, false, ◌&&◌, List, ◌++◌, ◌≡◌, ℕ, eqb, length}
use Rattle.lists.specs.Words.{Bytes}
use Rattle.entries.specs.Numbers.{entry_of, flags_right, nth, numbers_of}
use Rattle.lists.specs.Fours.{number_at, number_bytes}
use Rattle.entries.specs.Bytes.{numbers_bytes, head_count, head_length, head_numbers}
use Rattle.entries.specs.declared.Entry.{Entry}
use Rattle.std.specs.Prelude.{Ok, Err}
use Rattle.commands.specs.Answers.{Answer}
use Rattle.commands.specs.declared.plans.Done.TheVariants as answer
use Rattle.worlds.specs.declared.Session.{Session}

-- a session as an entry that keeps no bytes, and back
unfoldable pub entry_with : Session → Entry
entry_with s =
    record {
      unit = s.unit;
      objects = s.objects;
      touched =
          record {
            data_at = s.used;
            data_length = s.journal;
            swb = false;
            message_at = 0;
            message_length = 0;
            reel_at = 0;
            reel_blocks = 0;
            place_at = 0;
            places = 0;
          };
      transport = 0;
    }

unfoldable pub session_with : Entry → Session
session_with e = record { unit = e.unit; objects = e.objects; used = e.touched.data_at; journal = e.touched.data_length }

-- the block of a session
unfoldable pub state_block : Session → List ℕ
state_block s = numbers_bytes (numbers_of (entry_with s)) ++ number_bytes 0

-- the session that a block is read as, whatever its bytes
unfoldable pub session_in : List ℕ → Session
session_in b = session_with (entry_of (head_numbers head_count b) 0)

-- number i is 0
abbrev unused : List ℕ → ℕ → Bool
unused n i = eqb (nth n i) 0

unfoldable pub rest_zero : List ℕ → Bool
rest_zero n =
    unused n 23 && (unused n 24 && (unused n 25 && (unused n 26 && (unused n 27 && (unused n 29 && unused n 30)))))

-- the bytes are some session's block: the laws `block_own` and `block_is` say that this is so exactly when they are the block of what they are read as
unfoldable pub is_block : List ℕ → Bool
is_block b = flags_right (head_numbers head_count b) && (rest_zero (head_numbers head_count b) && eqb (number_at b head_length) 0)

-- so many bytes, and some session's block
abbrev pub state_length : ℕ
state_length = 128

pub record Block (b : List ℕ) : Type 0 where
  pub long : length b ≡ state_length
  pub bytes : Bytes b
  pub right : is_block b ≡ true

-- the block after an answer: the new session's, or, idle or refused, the very bytes that it was
unfoldable pub block_after : List ℕ → Answer → Session → List ℕ
block_after b (Ok (answer.Step i)) s = state_block s
block_after b (Ok answer.Idle) s = b
block_after b (Err n) s = b
