-- What an ask comes to in a core that refusals 1 to 3 let pass: its answer, what it touches, and the core after it. Only a step answered
-- "done" is taken; for any other answer nothing changes.
use Rattle.std.specs.Prelude.{Bool, false, ◌||◌, List, ◌≡◌, ℕ, ◌+◌, ◌≤◌, eqb, ltb, length}
use Rattle.std.proofs.lemmas.List.Edits.{sets}
use Rattle.lists.specs.Pick.{pick}
use Rattle.index.specs.Cutting.{cut_at, extended}
use Rattle.index.specs.Table.{places_in}
use Rattle.index.specs.declared.Cut.{Cut}
use Rattle.state.specs.Changes.{initialized, operated, tsdb_written}
use Rattle.state.specs.Legal.{Legal}
use Rattle.state.specs.declared.Unit.{Unit}
use Rattle.std.specs.Prelude.{Ok, Err}
use Rattle.state.specs.declared.refusal.Refusal.TheVariants as refusal
use Rattle.commands.specs.Ends.{still}
use Rattle.commands.specs.Answers.{Answer}
use Rattle.commands.specs.declared.plans.Done.TheVariants as answer
use Rattle.commands.specs.declared.plans.Plan.{Plan}
use Rattle.motions.specs.declared.parts.Laid.{Laid}
use Rattle.storing.specs.Stored.{laid_objects, memory_after, reel_after}
use Rattle.advance.specs.Steps.{advanced}
use Rattle.touched.specs.Touches.{Only, TouchedIn, none, place_below}
use Rattle.touched.specs.declared.Touched.{Touched}
use Rattle.unit.specs.Asks.{Ask, advance, host_store, operate, write_tsdb, write_tssr}
use Rattle.unit.specs.Cores.{Core}
use Rattle.unit.specs.Touching.{host_touched, laid_places, touched_by}

pub record Step : Type 0 where
  pub answer : Answer
  pub touched : Touched
  pub after : Core

-- "Host store: 0 to 65,535 bytes."
abbrev pub host_limit : ℕ
host_limit = 65535

-- "5 host store too long, or its place plus length past the end of memory"
unfoldable pub store_wrong : ℕ → ℕ → ℕ → Bool
store_wrong memory place n = ltb host_limit n || ltb memory (place + n)

-- "writes cut and extend it" (02, [8]): where what is laid cuts a table tb of n places, beside the reel s, and how many it has then; a step that lays nothing
-- cuts nothing
abbrev pub no_cut : Cut
no_cut = record { place = 0; marks = 0 }

unfoldable pub cut_for : Laid → List ℕ → ℕ → List ℕ → Cut
cut_for l tb n s = pick (eqb (laid_places l) 0) no_cut (cut_at tb n s l.at)

unfoldable pub objects_after : Laid → Cut → ℕ → ℕ
objects_after l c n = pick (eqb (laid_places l) 0) n (c.place + laid_places l)

-- the same of a core, and its table then
abbrev pub cut_of : Core → Laid → Cut
cut_of c l = cut_for l c.table c.objects c.reel

unfoldable pub table_after : Core → Laid → List ℕ
table_after c l = extended c.table (cut_of c l) l.at (laid_objects c.memory l)

-- "11 when the table is too small for the objects": for those that it holds, or for those that it is to hold
unfoldable pub too_small : ℕ → ℕ → ℕ → Bool
too_small table n n' = ltb (places_in table) n || ltb (places_in table) n'

-- a plan carried out
unfoldable pub carried : Core → Plan → Step
carried c p =
    record {
      answer = p.answer;
      touched = touched_by p (cut_of c p.laid).place;
      after =
          record {
            unit = p.unit;
            objects = objects_after p.laid (cut_of c p.laid) c.objects;
            memory = memory_after p c.memory c.reel;
            reel = reel_after p c.memory c.reel;
            table = table_after c p.laid;
          };
    }

-- a change of the state alone
abbrev pub changed : Unit → Plan
changed u = still u (Ok (answer.Step false))

unfoldable pub stored : Core → ℕ → List ℕ → Step
stored c place bytes =
    pick (store_wrong (length c.memory) place (length bytes)) (record { answer = Err refusal.Store; touched = none; after = c })
    (record {
      answer = Ok (answer.Step false);
      touched = host_touched place (length bytes);
      after = record { unit = c.unit; objects = c.objects; memory = sets c.memory place bytes; reel = c.reel; table = c.table };
    })

unfoldable pub step_of : Ask → Core → Step
step_of (write_tsdb word) c = carried c (changed (tsdb_written c.unit word))
step_of write_tssr c = carried c (changed (initialized c.unit))
step_of (operate a) c = carried c (changed (operated c.unit a))
step_of (host_store place bytes) c = stored c place bytes
step_of advance c = carried c (advanced c.unit c.memory c.reel)

-- what every step keeps to: nothing but what it touches changes, that lies inside memory and reel, a state that 1 accepts stays one, and the places that
-- it fills end where the used part of the table does
pub record Sound (c : Core) (x : Step) : Type 0 where
  pub only : Only x.touched c.memory c.reel c.table x.after.memory x.after.reel x.after.table
  pub within : TouchedIn x.touched (length c.memory) (length c.reel)
  pub legal : Legal x.after.unit
  pub lengths : x.after.unit.lengths ≡ c.unit.lengths
  pub filled : x.touched.place_at ≡ place_below x.after.objects x.touched.places
  pub fewer : x.touched.places ≤ x.after.objects
