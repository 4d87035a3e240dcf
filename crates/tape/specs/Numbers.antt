-- Every limit of the reel, named once. (01, "Numbers" and "The reel"; margin and record_limit by 02, [7])
use Rattle.std.specs.Prelude.{ℕ, ◌+◌, ◌-◌, ◌/◌}

-- "blocks of 512 bytes": three words, 504 data bytes, and the check word
abbrev pub block_bytes : ℕ
block_bytes = 512

abbrev pub head_bytes : ℕ
head_bytes = 6

abbrev pub data_bytes : ℕ
data_bytes = 504

-- the bytes before the check word: where it stands
abbrev pub summed_bytes : ℕ
summed_bytes = 510

-- "the sum of the 255 words before it, modulo 65,535"
abbrev pub summed_words : ℕ
summed_words = 255

abbrev pub check_modulus : ℕ
check_modulus = 65535

-- "records of up to 65,535 bytes" (02, [7]): every length but 0 that a block's word can say
abbrev pub record_limit : ℕ
record_limit = 65535

-- "Reel slice: 1 to 65,536 blocks"
abbrev pub capacity_limit : ℕ
capacity_limit = 65536

-- "move the EOT marker to 160 blocks before the end, since one record now takes up to 131" (02, [7])
abbrev pub margin : ℕ
margin = 160

-- "EOT marker: block (capacity minus [the margin]), or block 0 on a smaller reel." (_-_ stops at 0)
abbrev pub eot_marker_under : ℕ → ℕ → ℕ
eot_marker_under eotMargin capacity = capacity - eotMargin

abbrev pub eot_marker : ℕ → ℕ
eot_marker = eot_marker_under margin

-- "A record of n bytes takes n/504 blocks rounded up"
abbrev pub pieces_of : ℕ → ℕ
pieces_of n = (n + (data_bytes - 1)) / data_bytes
