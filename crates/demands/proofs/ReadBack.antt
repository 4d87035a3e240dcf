-- A record that was written is read back: its bytes come to memory as they were gathered from it, either way.
use mathlib.Core.Bool.{Bool, true, false}
use mathlib.Core.List.{List, append-nil}
use mathlib.Core.Path.{◌≡◌, refl, sym, ap, ◌∙◌}
use Prim.Native.Nat.{ℕ, ◌+◌, ◌-◌, ◌*◌, ◌≤◌, ◌<◌}
use native.Mathlib.Omega.{arith}
use borrow.Author.Tests.{eq-eqb, le-ltb}
use lib.ListN.{length}
use lib.Seq.{length-sets, sets, take_all}
use Rattle.lists.specs.Places.{placed}
use Rattle.lists.proofs.Cases.{pick_told}
use Rattle.lists.proofs.Placed.{length_gathered}
use Rattle.tape.specs.Bytes.{moved_bytes, moved_to, read_into}
use Rattle.tape.specs.Meeting.{met_as}
use Rattle.tape.specs.Numbers.{block_bytes, pieces_of, record_limit}
use Rattle.tape.specs.Objects.{Allowed, StandsAt, blocks_in, gap, image_of, images_of, record_of}
use Rattle.tape.specs.Pass.{passed}
use Rattle.tape.specs.declared.Met.TheVariants as met
use Rattle.tape.proofs.Passes.{pass_forward, pass_reverse}
use Rattle.tape.proofs.Recorded.{record_stands}
use Rattle.tape.proofs.Written.{laid_stands}
use Rattle.moves.specs.Seeking.{sought, sought_under, sought_on}
use Rattle.moves.specs.declared.seeking.Sought.TheVariants as sought-as
use Rattle.moves.proofs.Seeks.{seek_turn}
use Rattle.motions.specs.Parts.{laid_blocks, object_blocks, standing}
use Rattle.motions.specs.Reads.{first_block, on_record, read_end, read_motion, read_one, read_one_under, stage_by, stage_of_under}
use Rattle.motions.specs.declared.parts.Laid.{Laid}
use Rattle.motions.specs.declared.parts.ObjectKind.{ObjectKind}
use Rattle.motions.specs.declared.parts.ObjectKind.TheVariants as kind
use Rattle.motions.specs.declared.reads.Buffer.{Buffer}
use Rattle.storing.specs.Stored.{laid_object, laid_on, moved_on}
use Rattle.demands.specs.ReadBack.{GivesAll, written, written_at_block, written_end}
use Rattle.storing.proofs.Ways.{blocks_after_gap, blocks_alone, laid_after_gap, laid_alone}
use Rattle.std.specs.Prelude.{Ok}
use native.Mathlib.Nat.{sub-zero}

-- a record met at once is what the search finds
pub found_at_once : (s : List ℕ) (reverse : Bool) (p e n q : ℕ) → 0 < e → passed s reverse p e ≡ Ok (met.Record n q) → sought s reverse p e ≡ Ok (sought-as.Record n q)
unfolding sought_under sought_on
found_at_once s reverse p e n q h k = sym (rw sub-zero at (seek_turn 0 s reverse p e {m = Ok (met.Record n q)} {r = Ok (sought-as.Record n q)} h (sym k) refl))

-- and a Read that finds one moves it
pub read_found : (s : List ℕ) (reverse : Bool) (p e n q : ℕ) (r : Buffer) → sought s reverse p e ≡ Ok (sought-as.Record n q) → read_one s (standing p e) r reverse ≡ read_motion r reverse n q (standing q e) reverse
unfolding read_one_under stage_of_under stage_by on_record
read_found s reverse p e n q r k = rw k

-- the whole record is moved where the count is its length
whole_moved : (reverse swb : Bool) (m d : List ℕ) (pointer : ℕ) → read_into reverse swb m pointer (length d) d ≡ placed swb m pointer d
unfolding read_into moved_to moved_bytes
whole_moved true swb m d pointer =
    let none : length d - length d ≡ 0 = omega arith in
    rw (none) (ap (λ (a : ℕ). placed swb m a d) (omega arith))
whole_moved false swb m d pointer = rw (take_all (length d) d (omega arith))

-- a record that stands at block p
module _ (s d : List ℕ) (p e : ℕ) (r : Buffer) (a : Allowed (record_of d)) (h : StandsAt s p (record_of d)) (room : p + pieces_of (length d) ≤ e) (asks : r.count.0 ≡ length d) where
  gave : (reverse : Bool) (q : ℕ) → first_block reverse (length d) q ≡ p → GivesAll s r d q (read_motion r reverse (length d) q (standing q e) reverse)
  unfolding read_motion read_end moved_on
  gave reverse q first = (
    _,
    refl,
    record {
      class = rw (asks) (simp (eq-eqb (length d) (length d) refl));
      found = rw (asks) (simp (le-ltb (length d) (length d) (omega arith)));
      residual = omega (arith, asks);
      place = refl;
      bytes = λ m. rw (first, record_stands s p d h a.0 a.1, asks) (whole_moved reverse r.swb m d r.pointer);
    },
  )

  pub stands_forward : GivesAll s r d (p + pieces_of (length d)) (read_one s (standing p e) r false)
  unfolding met_as blocks_in first_block
  stands_forward =
      let q : ℕ = p + pieces_of (length d) in
      rw (read_found s false p e (length d) q r (found_at_once s false p e (length d) q (omega (arith, a.0)) (pass_forward s p e (record_of d) a h room))) (gave false q (omega arith))

  pub stands_reverse : GivesAll s r d p (read_one s (standing (p + pieces_of (length d)) e) r true)
  unfolding met_as blocks_in first_block
  stands_reverse =
      let q : ℕ = p + pieces_of (length d) in
      rw (read_found s true q e (length d) p r (found_at_once s true q e (length d) p (omega (arith, a.0)) (pass_reverse s p e (record_of d) a h))) (gave true p refl)

-- "Write 5 / 0, 2 retry": a record as a Write lays it, alone, or behind a gap for a retry
module _ (s m : List ℕ) (l : Laid) (o : l.object ≡ kind.Record) (some : 1 ≤ l.length) (most : l.length ≤ record_limit) (room : block_bytes * (l.at + laid_blocks l) ≤ length s) where
  long : length (written m l) ≡ l.length
  long = length_gathered l.swb m l.pointer l.length

  allowed : Allowed (record_of (written m l))
  allowed = (omega (arith, long), omega (arith, long))

  abbrev Stands : ℕ → Type 0
  Stands p = StandsAt (laid_on s m l) p (record_of (written m l)) × (p + pieces_of (length (written m l)) ≡ written_end l)

  one_image : images_of (laid_object m l l.object) ≡ image_of (record_of (written m l))
  unfolding laid_object images_of
  one_image = ap (λ (k : ObjectKind). images_of (laid_object m l k)) o ∙ append-nil (image_of (record_of (written m l)))

  its_blocks : object_blocks l.object l.length ≡ pieces_of (length (written m l))
  unfolding object_blocks
  its_blocks = ap (λ (k : ObjectKind). object_blocks k l.length) o ∙ ap pieces_of (sym long)

  -- the record over any reel of the same length
  stands_over : (s₀ : List ℕ) (p : ℕ) → length s₀ ≡ length s → sets s₀ (block_bytes * p) (images_of (laid_object m l l.object)) ≡ laid_on s m l → p + pieces_of (length (written m l)) ≡ written_end l → Stands p
  unfolding blocks_in
  stands_over s₀ p k e at =
      let r : sets s₀ (block_bytes * p) (image_of (record_of (written m l))) ≡ laid_on s m l = ap (sets s₀ (block_bytes * p)) (sym one_image) ∙ e in
      (rw r at (laid_stands s₀ p (record_of (written m l)) (omega (arith, k, at, room))), at)

  record_laid : Stands (written_at_block l)
  record_laid =
      pick_told Stands l.gap_first (l.at + 1) l.at
      (λ g.
      stands_over (sets s (block_bytes * l.at) (image_of gap)) (l.at + 1) (length-sets s (block_bytes * l.at) (image_of gap))
      (laid_after_gap l s _ _ m g refl refl)
      (omega (arith, its_blocks, blocks_after_gap l g)))
      (λ g. stands_over s l.at refl (laid_alone l s _ m g refl) (omega (arith, its_blocks, blocks_alone l g)))

  module _ (r : Buffer) (asks : r.count.0 ≡ l.length) where
    -- "Read 1 / 0 next": forward from its first block, with either SWB and to any address
    pub written_forward : GivesAll (laid_on s m l) r (written m l) (written_end l) (read_one (laid_on s m l) (standing (written_at_block l) (written_end l)) r false)
    written_forward =
        let w = record_laid in
        rw w.1 at (stands_forward (laid_on s m l) (written m l) (written_at_block l) (written_end l) r allowed w.0 (omega (arith, w.1)) (asks ∙ sym long))

    -- "1 previous": in reverse from where the Write left the tape ("moves the end to just after them")
    pub written_reverse : GivesAll (laid_on s m l) r (written m l) (written_at_block l) (read_one (laid_on s m l) (standing (written_end l) (written_end l)) r true)
    written_reverse =
        let w = record_laid in
        rw w.1 at (stands_reverse (laid_on s m l) (written m l) (written_at_block l) (written_end l) r allowed w.0 (omega (arith, w.1)) (asks ∙ sym long))
