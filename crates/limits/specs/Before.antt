-- The numbers of document 01 that request [7] raised.
use Rattle.std.specs.Prelude.{ℕ}

-- "Records: 1 to 16,384 bytes."
abbrev pub limit_before : ℕ
limit_before = 16384

-- "EOT marker: block (capacity minus 64)"
abbrev pub margin_before : ℕ
margin_before = 64
