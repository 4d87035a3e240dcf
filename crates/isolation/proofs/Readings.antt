-- To be the same where an advance reads goes both ways, and on from one memory to the next.
use mathlib.Core.List.{List}
use mathlib.Core.Path.{sym, ◌∙◌}
use Prim.Native.Nat.{ℕ}
use Rattle.state.specs.declared.Unit.{Unit}
use Rattle.isolation.specs.Reads.{ReadsAt, SameRead, of_characteristics, of_data, of_packet}
use Rattle.isolation.proofs.Packets.{fetched_same, header_same}

-- what is read is the same from both
pub reads_same : {u : Unit} {m m' : List ℕ} → SameRead u m m' → (j : ℕ) → ReadsAt u m' j → ReadsAt u m j
reads_same r j (of_packet w h e) = of_packet w h e
reads_same r j (of_characteristics {i} w c h e) = of_characteristics {i = i} w (rw (header_same r w) c) (rw (fetched_same r w) h) (rw (fetched_same r w) e)
reads_same r j (of_data {i} w c h e) = of_data {i = i} w (rw (header_same r w) c) (rw (fetched_same r w) h) (rw (fetched_same r w, header_same r w) e)

pub same_turned : {u : Unit} {m m' : List ℕ} → SameRead u m m' → SameRead u m' m
same_turned r = record { long = sym r.long; bytes = λ j h. sym (r.bytes j (reads_same r j h)) }

pub same_on : {u : Unit} {m m' m'' : List ℕ} → SameRead u m m' → SameRead u m' m'' → SameRead u m m''
same_on r s = record { long = r.long ∙ s.long; bytes = λ j h. r.bytes j h ∙ s.bytes j (reads_same (same_turned r) j h) }
