-- What a search finds stands on the reel: a record's bytes are those that its blocks hold.
use mathlib.Core.Bool.{Bool, true, false}
use mathlib.Core.List.{List, [], ◌∷◌, ◌++◌, append_assoc}
use mathlib.Core.Path.{◌≡◌, ap}
use Prim.Native.Nat.{ℕ, ◌-◌}
use native.Mathlib.Omega.{arith}
use lib.ListN.{length}
use Rattle.lists.specs.Pick.{pick}
use Rattle.tape.specs.Bytes.{record_bytes}
use Rattle.tape.specs.Numbers.{pieces_of}
use Rattle.tape.specs.Objects.{Allowed, Holds, Object, StandsAt, blocks_in, blocks_of, record_of}
use Rattle.tape.proofs.Images.{blocks_append}
use Rattle.tape.proofs.Passes.{allowed_at}
use Rattle.tape.proofs.Recorded.{record_stands}
use Rattle.tape.proofs.Standing.{stands_in}
use Rattle.moves.specs.Between.{Between, with_gaps}

-- an object with others on both sides: its first block is in reverse where the search stopped, else that many blocks before
pub found_stands : {s : List ℕ} {e : ℕ} {os : List Object} {p q : ℕ} (reverse : Bool) (gaps : List Object) (o : Object) → Holds s e os → Between os reverse p q (with_gaps reverse gaps o) → Allowed o × StandsAt s (pick reverse q (q - blocks_in o)) o
unfolding blocks_of
found_stands true gaps o h b =
    let k = rw b.whole at h in
    (allowed_at b.before o (gaps ++ b.after) k.allowed, rw b.to (stands_in b.before o (gaps ++ b.after) k))
found_stands {os = os} {q = q} false gaps o h b =
    let w : os ≡ (b.before ++ gaps) ++ (o ∷ b.after) = cc (b.whole, append_assoc gaps (o ∷ []) b.after, append_assoc b.before gaps (o ∷ b.after)) in
    let k = rw w at h in
    let at : q - blocks_in o ≡ blocks_of (b.before ++ gaps) = omega (arith, b.to, ap blocks_of (append_assoc b.before gaps (o ∷ [])), blocks_append (b.before ++ gaps) (o ∷ [])) in
    (allowed_at (b.before ++ gaps) o b.after k.allowed, rw at (stands_in (b.before ++ gaps) o b.after k))

pub found_bytes : {s : List ℕ} {e : ℕ} {os : List Object} {p q : ℕ} (reverse : Bool) (gaps : List Object) (d : List ℕ) → Holds s e os → Between os reverse p q (with_gaps reverse gaps (record_of d)) → record_bytes s (pick reverse q (q - pieces_of (length d))) (length d) ≡ d
unfolding blocks_in
found_bytes reverse gaps d h b =
    let f = found_stands reverse gaps (record_of d) h b in
    record_stands _ _ d f.1 f.0.0 f.0.1
