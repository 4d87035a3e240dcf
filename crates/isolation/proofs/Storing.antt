-- A plan that is carried out over two memories leaves them the same wherever they were.
use mathlib.Core.Bool.{Bool, true, false}
use mathlib.Core.List.{List}
use mathlib.Core.Path.{◌≡◌, sym, ◌∙◌}
use Prim.Native.Nat.{ℕ}
use lib.ListN.{get_or, length}
use Rattle.lists.specs.Pick.{pick}
use Rattle.tape.specs.Bytes.{read_into}
use Rattle.signals.specs.Message.{messaged, words_bytes}
use Rattle.motions.specs.declared.parts.Moved.{Moved}
use Rattle.commands.specs.declared.plans.Plan.{Plan}
use Rattle.storing.specs.Outside.{message_to}
use Rattle.storing.specs.Stored.{memory_after, message_on, moved_on, reel_after}
use Rattle.storing.proofs.Lengths.{length_moved}
use Rattle.isolation.proofs.Placing.{placed_alike, sets_alike}

module _ (m m' : List ℕ) (long : length m ≡ length m') (j : ℕ) (h : get_or m j 0 ≡ get_or m' j 0) where
  -- the message, if it goes out
  sent_alike : (b : Bool) (a : ℕ) (ws : List ℕ) → get_or (pick b (messaged m a ws) m) j 0 ≡ get_or (pick b (messaged m' a ws) m') j 0
  unfolding messaged
  sent_alike true a ws = sets_alike m m' a (words_bytes ws) j long h
  sent_alike false a ws = h

  -- the data that a Read moves from the reel s
  moved_alike : (s : List ℕ) (x : Moved) → get_or (moved_on s x m) j 0 ≡ get_or (moved_on s x m') j 0
  unfolding moved_on read_into
  moved_alike s x = placed_alike x.swb m m' _ _ j long (λ o. h)

pub memory_alike : (q : Plan) (m m' s : List ℕ) → length m ≡ length m' → reel_after q m s ≡ reel_after q m' s → (j : ℕ) → get_or m j 0 ≡ get_or m' j 0 → get_or (memory_after q m s) j 0 ≡ get_or (memory_after q m' s) j 0
unfolding memory_after message_on
memory_alike q m m' s long e j h =
    let r : List ℕ = reel_after q m' s in
    rw e
    (sent_alike (moved_on r q.moved m) (moved_on r q.moved m') (length_moved r q.moved m ∙ long ∙ sym (length_moved r q.moved m')) j
    (moved_alike m m' long j h r q.moved) q.sends (message_to q) q.message)
