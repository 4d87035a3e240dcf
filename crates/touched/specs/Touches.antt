-- "Entry length is 128 + stored memory bytes + stored reel bytes, data and message counted separately even if they overlap." (01, Calls) It "grows by
-- eight bytes for each table place filled" (02, [8]). The places that a step stores at, what is saved of them, and how that is put back.
use Rattle.std.specs.Prelude.{Bool, false, ◌&&◌, List, ◌++◌, ◌≡◌, ℕ, ◌+◌, ◌-◌, ◌*◌, ◌/◌, ◌%◌, ◌≤◌, ◌<◌, eqb, leb, drop, get_or, length, take}
use Rattle.lists.specs.Pick.{pick}
use Rattle.lists.specs.Places.{gathered, place, placed}
use Rattle.tape.specs.Numbers.{block_bytes}
use Rattle.index.specs.Table.{place_length}
use Rattle.touched.specs.declared.Touched.{Touched}

-- n bytes of memory at a place, and no more
abbrev pub run_of : ℕ → ℕ → Touched
run_of at n =
    record {
      data_at = at;
      data_length = n;
      swb = false;
      message_at = 0;
      message_length = 0;
      reel_at = 0;
      reel_blocks = 0;
      place_at = 0;
      places = 0;
    }

abbrev pub none : Touched
none = run_of 0 0

abbrev pub saved_length : Touched → ℕ
saved_length t = t.data_length + t.message_length + block_bytes * t.reel_blocks + place_length * t.places

-- lengths of memory and reel in bytes: even, and so small that what is saved can be counted in four bytes
pub record Sizes (memory reel : ℕ) : Type 0 where
  pub even : memory % 2 ≡ 0
  pub even_reel : reel % 2 ≡ 0
  pub memory_small : memory ≤ 1073741824
  pub reel_small : reel ≤ 1073741824

-- the places lie inside memory and reel
pub record TouchedIn (t : Touched) (memory reel : ℕ) : Type 0 where
  pub in_memory : t.data_at + t.data_length ≤ memory
  pub message_in_memory : t.message_at + t.message_length ≤ memory
  pub in_reel : block_bytes * (t.reel_at + t.reel_blocks) ≤ reel
  pub sizes : Sizes memory reel

-- and so do those that are filled, inside a table of so many bytes
abbrev pub PlacesIn : Touched → ℕ → Type 0
PlacesIn t table = place_length * (t.place_at + t.places) ≤ table

-- the first of f places that end below the place `top`
abbrev pub place_below : ℕ → ℕ → ℕ
place_below top f = pick (eqb f 0) 0 (top - f)

-- the same as a test (lengths in bytes), of memory and reel
unfoldable pub touched_fits : Touched → ℕ → ℕ → Bool
touched_fits t memory reel =
    leb (t.data_at + t.data_length) memory
    && (leb (t.message_at + t.message_length) memory && leb (t.reel_at + t.reel_blocks) (reel / block_bytes))

-- the old bytes of the places, in memory m, reel r and table tb: data, message, blocks, places
unfoldable pub saved_bytes : Touched → List ℕ → List ℕ → List ℕ → List ℕ
saved_bytes t m r tb =
    gathered t.swb m t.data_at t.data_length
    ++ (gathered false m t.message_at t.message_length
    ++ (gathered false r (block_bytes * t.reel_at) (block_bytes * t.reel_blocks)
    ++ gathered false tb (place_length * t.place_at) (place_length * t.places)))

-- each of them in what was saved
abbrev pub saved_data : Touched → List ℕ → List ℕ
saved_data t b = take t.data_length b

abbrev pub saved_message : Touched → List ℕ → List ℕ
saved_message t b = take t.message_length (drop t.data_length b)

abbrev pub saved_blocks : Touched → List ℕ → List ℕ
saved_blocks t b = take (block_bytes * t.reel_blocks) (drop (t.data_length + t.message_length) b)

abbrev pub saved_places : Touched → List ℕ → List ℕ
saved_places t b = drop (t.data_length + t.message_length + block_bytes * t.reel_blocks) b

-- memory m, reel r and table tb after the saved bytes b went back to their places: the message's first, since it went over the data
unfoldable pub memory_back : Touched → List ℕ → List ℕ → List ℕ
memory_back t b m = placed t.swb (placed false m t.message_at (saved_message t b)) t.data_at (saved_data t b)

unfoldable pub reel_back : Touched → List ℕ → List ℕ → List ℕ
reel_back t b r = placed false r (block_bytes * t.reel_at) (saved_blocks t b)

unfoldable pub table_back : Touched → List ℕ → List ℕ → List ℕ
table_back t b tb = placed false tb (place_length * t.place_at) (saved_places t b)

pub record Restored (t : Touched) (b m r tb m' r' tb' : List ℕ) : Type 0 where
  pub memory : m' ≡ memory_back t b m
  pub reel : r' ≡ reel_back t b r
  pub table : tb' ≡ table_back t b tb

-- j is no place of a run of n bytes from a on
abbrev pub OffRun : Bool → ℕ → ℕ → ℕ → Type 0
OffRun swb a n j = (i : ℕ) → i < n → j ≡ place swb (a + i) → ⊥

-- "Memory outside the named bytes stays": m', r' and tb' differ from m, r and tb at the places touched alone
pub record Only (t : Touched) (m r tb m' r' tb' : List ℕ) : Type 0 where
  pub long_memory : length m' ≡ length m
  pub long_reel : length r' ≡ length r
  pub long_table : length tb' ≡ length tb
  pub memory : (j : ℕ) → OffRun t.swb t.data_at t.data_length j → OffRun false t.message_at t.message_length j → get_or m' j 0 ≡ get_or m j 0
  pub reel : (j : ℕ) → OffRun false (block_bytes * t.reel_at) (block_bytes * t.reel_blocks) j → get_or r' j 0 ≡ get_or r j 0
  pub table : (j : ℕ) → OffRun false (place_length * t.place_at) (place_length * t.places) j → get_or tb' j 0 ≡ get_or tb j 0
