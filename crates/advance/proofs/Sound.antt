-- What every plan keeps: a legal state with the mount's lengths, a message buffer inside memory, and what is moved and laid inside memory
-- and reel.
use mathlib.Core.Bool.{Bool, true, true≢false}
use mathlib.Core.Path.{◌≡◌, refl, sym}
use Prim.Native.Nat.{ℕ, ◌+◌, ◌*◌, ◌≤◌}
use native.Mathlib.Omega.{arith}
use Rattle.tape.specs.Numbers.{block_bytes, pieces_of}
use Rattle.signals.specs.declared.message.End.{End}
use Rattle.state.specs.Checks.{last_class}
use Rattle.state.specs.Legal.{BufferFits, Legal}
use Rattle.state.specs.declared.Lengths.{Lengths}
use Rattle.state.specs.declared.Tape.{Tape}
use Rattle.state.specs.declared.Unit.{Unit}
use Rattle.motions.specs.Parts.{laid_blocks, no_lay, no_move, object_blocks, resting}
use Rattle.motions.specs.declared.parts.Ending.{Ending}
use Rattle.motions.specs.declared.parts.Laid.{Laid}
use Rattle.motions.specs.declared.parts.Moved.{Moved}
use Rattle.commands.specs.Ends.{motion_plan, still, told, told_under, untold}
use Rattle.commands.specs.Answers.{Answer}
use Rattle.commands.specs.declared.plans.Plan.{Plan}
use Rattle.commands.proofs.Told.{ends_legal, motion_either, told_ends, told_sends, untold_ends}
use Rattle.std.specs.Prelude.{Result, Ok}
use Rattle.tape.specs.declared.Damage.{Damage}

-- what is moved comes from the reel and goes to memory
pub record MoveFits (n : Lengths) (x : Moved) : Type 0 where
  pub room : block_bytes * (x.first + pieces_of x.length) ≤ block_bytes * n.blocks
  pub target : x.pointer + x.count ≤ n.memory

-- what is laid comes from memory and goes to the reel
pub record LayFits (n : Lengths) (x : Laid) : Type 0 where
  pub room : x.at + laid_blocks x ≤ n.blocks
  pub source : x.pointer + x.length ≤ n.memory

pub no_move_fits : (n : Lengths) → MoveFits n no_move
no_move_fits n = record { room = omega arith; target = omega arith }

pub no_lay_fits : (n : Lengths) → LayFits n no_lay
unfolding laid_blocks object_blocks
no_lay_fits n = record { room = omega arith; source = omega arith }

-- an end of a command, on a mount with lengths n
pub record EndingFits (n : Lengths) (x : Ending) : Type 0 where
  pub place : x.tape.position ≤ x.tape.end
  pub capacity : x.tape.end ≤ n.blocks
  pub class : x.end.class ≤ last_class
  pub moved : MoveFits n x.moved
  pub laid : LayFits n x.laid

pub resting_fits : (n : Lengths) (x : End) (t : Tape) → t.position ≤ t.end → t.end ≤ n.blocks → x.class ≤ last_class → EndingFits n (resting x t)
resting_fits n x t place capacity h =
    record { place = place; capacity = capacity; class = h; moved = no_move_fits n; laid = no_lay_fits n }

-- a plan made on a mount with lengths n
pub record SoundOn (n : Lengths) (p : Plan) : Type 0 where
  pub legal : Legal p.unit
  pub lengths : p.unit.lengths ≡ n
  pub moved : MoveFits n p.moved
  pub laid : LayFits n p.laid
  pub message : p.sends ≡ true → BufferFits p.unit.characteristics n.memory

-- a plan made in the state u, of which the lengths alone count
abbrev pub SoundPlan : Unit → Plan → Type 0
SoundPlan u p = SoundOn u.lengths p

pub same_lengths_lem : {n n' : Lengths} {p : Plan} → n ≡ n' → SoundOn n p → SoundOn n' p
same_lengths_lem e f = rw e at f

module _ (u : Unit) (l : Legal u) where
  pub still_sound : (a : Answer) → SoundPlan u (still u a)
  unfolding still
  still_sound a =
      record {
        legal = l;
        lengths = refl;
        moved = no_move_fits u.lengths;
        laid = no_lay_fits u.lengths;
        message = λ e. absurd (true≢false (sym e));
      }

  pub untold_sound : (class : ℕ) (interrupts : Bool) → class ≤ last_class → SoundPlan u (untold u class interrupts)
  unfolding untold still
  untold_sound class interrupts h =
      let v = untold_ends u class interrupts in
      record {
        legal = ends_legal u l v l.place l.capacity h;
        lengths = v.lengths;
        moved = no_move_fits u.lengths;
        laid = no_lay_fits u.lengths;
        message = λ e. absurd (true≢false (sym e));
      }

  pub told_sound : (ie : Bool) (x : Ending) → EndingFits u.lengths x → SoundPlan u (told u ie x)
  unfolding told_under
  told_sound ie x f =
      let v = told_ends u ie x in
      record {
        legal = ends_legal u l v f.place f.capacity f.class;
        lengths = v.lengths;
        moved = f.moved;
        laid = f.laid;
        message = λ e. rw v.characteristics (l.buffer (told_sends u ie x e));
      }

  pub motion_sound : (ie : Bool) (y : Result Ending Damage) → ((x : Ending) → y ≡ Ok x → EndingFits u.lengths x) → SoundPlan u (motion_plan u ie y)
  motion_sound ie y f = motion_either u ie (SoundPlan u) y (λ x e. told_sound ie x (f x e)) (λ why k e. still_sound _)
