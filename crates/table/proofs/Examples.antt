-- The table holds: the closed examples by computing them, the others by the law of pieces.
use native.Mathlib.Omega.{arith}
use mathlib.Core.Path.{refl}
use Rattle.lists.specs.Words.{word_sum}
use Rattle.tape.specs.Layout.{block_of, body_of, check_of}
use Rattle.tape.specs.Objects.{blocks_in, image_of, piece_of, pieces_to}
use Rattle.state.specs.Changes.{mounted_as, tsdb_written}
use Rattle.state.specs.Readings.{tssr_of}
use Rattle.motions.specs.Parts.{laid_blocks, moved_length, object_blocks}
use Rattle.motions.specs.Reads.{read_end}
use Rattle.tape.specs.Bytes.{moved_to}
use Rattle.commands.specs.Commands.{released}
use Rattle.commands.specs.Ends.{ended, still, untold}
use Rattle.unit.specs.Steps.{carried}
use Rattle.unit.specs.Touching.{laid_places, moved_place, object_places, touched_by}
use Rattle.entries.specs.Entries.{entry_length}
use Rattle.worlds.specs.Calls.{entry_for}
use Rattle.table.specs.Table.{Table}
use Rattle.table.proofs.Places.{after_first, before_last, first, last}
use Rattle.table.proofs.ShortReads.{high_end, short_residual, short_status, short_stored, short_tssr}

pub table : Table
unfolding blocks_in image_of pieces_to piece_of block_of body_of check_of word_sum tssr_of mounted_as tsdb_written read_end released untold ended still carried touched_by entry_for entry_length moved_place moved_to moved_length laid_blocks object_blocks laid_places object_places
table =
    record {
      p1 = λ e locked lengths. refl;
      p2 = refl;
      p2_written = λ u h. rw h;
      p3 = λ rev. refl;
      p3_message = λ u s h p reverse q w. short_residual u s h p reverse q w;
      p4 = λ u s h p reverse q w c. short_tssr u s h p reverse q w c;
      p5 = λ u s h p q w c. short_status u s h p q w c;
      p6 = λ m d e. high_end m d e;
      p6_stored = λ u m s h p q w below room at swb. short_stored u m s h p q w below room at swb;
      p7 = (refl, refl);
      p7_first = λ m d e room even. first m d e room even;
      p7_last = λ m d e room even. last m d e room even;
      p7_after_first = λ m d e. after_first m d e;
      p7_before_last = λ m d e. before_last m d e;
      p8 = refl;
      p9 = refl;
      p10_one = λ d h. omega arith;
      p10_two = λ d h. omega arith;
      p11 = λ d h. omega arith;
      p11_longest = λ d h. omega arith;
      p12 = λ k u ie. refl;
    }
