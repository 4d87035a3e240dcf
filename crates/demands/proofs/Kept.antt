-- What an advance leaves as it was: memory outside the data and the message, and the reel outside the new object's blocks.
use mathlib.Core.Bool.{Bool, true}
use mathlib.Core.List.{List}
use mathlib.Core.Logic.{◌⊎◌, ⊎_elim}
use mathlib.Core.Path.{◌≡◌, refl, ap}
use Prim.Native.Nat.{ℕ, ◌+◌, ◌*◌, ◌≤◌, ◌<◌}
use lib.Dec.{ltb}
use lib.ListN.{get_or, length}
use Rattle.tape.specs.Numbers.{block_bytes}
use Rattle.tape.specs.Objects.{images_of}
use Rattle.state.specs.declared.Tape.{Tape}
use Rattle.state.specs.declared.Unit.{Unit}
use Rattle.state.proofs.Tests.{either}
use Rattle.moves.specs.Seeking.{sought}
use Rattle.moves.specs.declared.seeking.Sought.{Sought}
use Rattle.moves.specs.declared.seeking.Sought.TheVariants as sought-as
use Rattle.moves.specs.declared.spacing.Count.{Count}
use Rattle.moves.specs.declared.spacing.Rule.{Rule}
use Rattle.motions.specs.Parts.{laid_blocks, no_lay}
use Rattle.motions.specs.Reads.{read_one, reread}
use Rattle.motions.specs.Spaces.{positioned}
use Rattle.motions.specs.Writes.{behind_gap, no_room, retried, retried_under, retried_by, retried_by_under, written_at, written_at_under, written_motion_under}
use Rattle.motions.specs.declared.parts.Laid.{Laid}
use Rattle.motions.specs.declared.parts.Ending.{Ending}
use Rattle.motions.specs.declared.reads.Buffer.{Buffer}
use Rattle.motions.proofs.Ends.{Has}
use Rattle.motions.proofs.Fit.{read_fits, space_fits}
use Rattle.storing.specs.Outside.{OffData, OffMessage}
use Rattle.storing.specs.Stored.{Storable, laid_object, laid_objects, laid_on, memory_after, reel_after}
use Rattle.storing.proofs.Staying.{memory_kept, reel_kept_above, reel_kept_below}
use Rattle.advance.specs.Steps.{advanced}
use Rattle.advance.proofs.Planned.{advanced_seven}
use Rattle.demands.specs.Stays.{KeptBelow, StopsAt}
use Rattle.std.specs.Prelude.{Result, Ok, Err}
use Rattle.tape.specs.declared.Damage.{Damage}

module _ (u : Unit) (m s : List ℕ) where
  -- "Data byte i lies at address pointer + i; with SWB at that address with its lowest bit flipped." No other byte changes but the message's.
  pub memory_stays : Storable (advanced u m s) (length m) (length s) → (j : ℕ) → OffData (advanced u m s).moved j → OffMessage (advanced u m s) j → get_or (memory_after (advanced u m s) m s) j 0 ≡ get_or m j 0
  memory_stays fits = memory_kept (advanced u m s) m s fits (advanced_seven u m s)

  -- "Writing stores only the new object's blocks"
  pub reel_stays : (j : ℕ) → (j < block_bytes * (advanced u m s).laid.at) ⊎ (block_bytes * ((advanced u m s).laid.at + laid_blocks (advanced u m s).laid) ≤ j) → get_or (reel_after (advanced u m s) m s) j 0 ≡ get_or s j 0
  unfolding reel_after
  reel_stays j h = ⊎_elim (λ a. reel_kept_below m s (advanced u m s).laid j a) (λ b. reel_kept_above m s (advanced u m s).laid j b) h

module _ (s m : List ℕ) where
  -- where nothing is laid the reel is as it was
  pub none_laid : laid_on s m no_lay ≡ s
  unfolding laid_on laid_objects laid_object images_of
  none_laid = refl

  -- a Read or a space lays nothing
  module _ (t : Tape) (h : t.position ≤ t.end) {x : Ending} where
    pub read_keeps_reel : (r : Buffer) (reverse opp : Bool) → (read_one s t r reverse ≡ Ok x) ⊎ (reread s t r reverse opp ≡ Ok x) → laid_on s m x.laid ≡ s
    read_keeps_reel r reverse opp y = rw (read_fits s t h r reverse opp y).unlaid none_laid

    pub space_keeps_reel : (r : Rule) (count : Count) (enb : Bool) → positioned s t r count enb ≡ Ok x → laid_on s m x.laid ≡ s
    space_keeps_reel r count enb y = rw (space_fits s t h r count enb y).unlaid none_laid

  module _ (t : Tape) (blocks : ℕ) where
    write_has : (l : Laid) (mark : Bool) → Has (KeptBelow s m l.at) (written_at t blocks l mark)
    unfolding written_at_under no_room written_motion_under
    write_has l mark =
        either (Has (KeptBelow s m l.at)) (ltb blocks (l.at + laid_blocks l)) _ _
        (λ j h. ap (λ (r : List ℕ). get_or r j 0) none_laid)
        (λ j h. reel_kept_below m s l j h)

    -- "Writing stores only the new object's blocks": a Write or a Format lays from the position on, and the reel below it stays
    pub write_keeps_below : (l : Laid) (mark : Bool) {x : Ending} → l.at ≡ t.position → written_at t blocks l mark ≡ Ok x → KeptBelow s m t.position x
    write_keeps_below l mark e y = rw (← e) (rw y at (write_has l mark))

    retry_by : (l : Laid) (mark : Bool) (q : ℕ) (f : Result Sought Damage) → StopsAt q f → Has (KeptBelow s m q) (retried_by t blocks l mark f)
    unfolding retried_by_under behind_gap
    retry_by l mark q (Ok (sought-as.Record n q')) e = rw e (write_has (behind_gap l q') mark)
    retry_by l mark q (Ok (sought-as.Mark q')) e = rw e (write_has (behind_gap l q') mark)
    retry_by l mark q (Ok (sought-as.Nothing q')) e = λ j h. ap (λ (r : List ℕ). get_or r j 0) none_laid
    retry_by l mark q (Err d) e = tt

    -- "Retry: space reverse over gaps and one record or mark, then a one-block gap, then the new object. None found: .. nothing written."
    pub retry_keeps_below : (l : Laid) (mark : Bool) (q : ℕ) {x : Ending} → StopsAt q (sought s true t.position t.end) → retried s t blocks l mark ≡ Ok x → KeptBelow s m q x
    unfolding retried_under
    retry_keeps_below l mark q e y = rw y at (retry_by l mark q (sought s true t.position t.end) e)
