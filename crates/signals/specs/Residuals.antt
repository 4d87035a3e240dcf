-- "The residual counts bytes for Read, records or marks for Position modes 0 to 3 (a rewind has 0): three counters the manuals keep
-- apart, and so do we." (01, the message paragraph)
use Rattle.std.specs.Prelude.{ℕ}
use Rattle.signals.specs.declared.counts.Residual.{Residual}
use Rattle.signals.specs.declared.counts.Residual.TheVariants as residual

abbrev pub residual_word : Residual → ℕ
residual_word (residual.Bytes b) = b.0
residual_word (residual.Records n) = n.0
residual_word (residual.Marks m) = m.0
residual_word residual.Nothing = 0
