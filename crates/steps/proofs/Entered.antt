-- The entry that the code makes of a step is the step's, and what it leaves in memory, reel and table is the core after it: for a plan carried out,
-- a change of the state alone and a host store.
use mathlib.Core.Path.{◌≡◌, refl, ap, ◌∙◌}
use mathlib.Core.Bool.{false}
use mathlib.Core.List.{List}
use Prim.Native.Nat.{ℕ, ◌+◌, ◌*◌, ◌≤◌}
use borrow.Author.Tests.{le-ltb}
use lib.ListN.{length}
use lib.Seq.{sets}
use Rattle.lists.specs.Places.{placed}
use Rattle.tape.specs.Bytes.{moved_bytes, moved_to, read_into, record_bytes}
use Rattle.tape.specs.Objects.{images_of}
use Rattle.index.specs.Cutting.{extended}
use Rattle.index.specs.Table.{place_length, places_row, table_from}
use Rattle.index.specs.declared.Cut.{Cut}
use Rattle.state.specs.declared.Unit.{Unit}
use Rattle.motions.specs.Parts.{laid_blocks, moved_length, object_blocks}
use Rattle.std.specs.Prelude.{Ok}
use Rattle.commands.specs.Ends.{still}
use Rattle.commands.specs.declared.plans.Done.TheVariants as answer
use Rattle.commands.specs.declared.plans.Plan.{Plan}
use Rattle.storing.specs.Stored.{StoredPlan, laid_object, laid_objects, laid_on, memory_after, message_on, moved_on, reel_after}
use Rattle.touched.specs.Touches.{none}
use Rattle.touched.specs.declared.Touched.{Touched}
use Rattle.unit.specs.Cores.{Core}
use Rattle.unit.specs.Steps.{carried, changed, cut_for, cut_of, host_limit, no_cut, objects_after, store_wrong, stored, table_after}
use Rattle.unit.specs.Touching.{host_touched, laid_places, moved_place, object_places, touched_by}
use Rattle.unit.proofs.Rows.{filled_table}
use Rattle.entries.specs.Entries.{entry_bare, entry_length}
use Rattle.entries.specs.declared.Entry.{Entry}
use Rattle.worlds.specs.Calls.{entry_for}

abbrev entry_on : ℕ → Core → Touched → Entry
entry_on k c t = record { unit = c.unit; objects = c.objects; touched = t; transport = k }

module _ (c : Core) where
  -- a plan p that cuts the table at x
  module _ (p : Plan) (x : Cut) (dx : x ≡ cut_of c p.laid) where
    pub step_entry : (k : ℕ) (t : Touched) → t ≡ touched_by p x.place → entry_on k c t ≡ entry_for k c (carried c p)
    unfolding entry_for carried
    step_entry k t h = ap (entry_on k c) (h ∙ ap (λ (y : Cut). touched_by p y.place) dx)

    pub step_objects : (top : ℕ) → top ≡ objects_after p.laid x c.objects → top ≡ (carried c p).after.objects
    unfolding carried
    step_objects top h = h ∙ ap (λ (y : Cut). objects_after p.laid y c.objects) dx

    pub step_after : (top : ℕ) (m' r' tb' : List ℕ) → top ≡ objects_after p.laid x c.objects → StoredPlan p c.memory c.reel m' r' → tb' ≡ sets c.table (place_length * x.place) (places_row p.laid.at x.marks (laid_places p.laid)) → (record { unit = p.unit; objects = top; memory = m'; reel = r'; table = tb' }) ≡ (carried c p).after
    unfolding carried
    step_after top m' r' tb' k h l = rw (step_objects top k, h.memory, h.reel, filled_table c p.laid tb' (rw dx at l))

  -- a change of the state alone: it touches nothing, and the objects stay
  module _ (v : Unit) where
    uncut : no_cut ≡ cut_of c (changed v).laid
    unfolding cut_for laid_places object_places still
    uncut = refl

    still_touched : none ≡ touched_by (changed v) 0
    unfolding touched_by moved_place moved_to moved_length still laid_blocks object_blocks laid_places object_places
    still_touched = refl

    pub change_entry : (k : ℕ) (t : Touched) → t ≡ none → entry_on k c t ≡ entry_for k c (carried c (changed v))
    change_entry k t h = step_entry (changed v) no_cut uncut k t (h ∙ still_touched)

    pub change_after : (record { unit = v; objects = c.objects; memory = c.memory; reel = c.reel; table = c.table }) ≡ (carried c (changed v)).after
    unfolding carried still memory_after message_on moved_on reel_after laid_on laid_objects laid_object images_of read_into record_bytes moved_bytes moved_to placed cut_for laid_places object_places objects_after table_after extended table_from
    change_after = refl

  -- a host store that 5 does not refuse
  module _ (place : ℕ) (bytes : List ℕ) (right : store_wrong (length c.memory) place (length bytes) ≡ false) where
    pub store_answer : (stored c place bytes).answer ≡ Ok (answer.Step false)
    unfolding stored
    store_answer = rw right

    pub store_entry : (k : ℕ) (t : Touched) → t ≡ host_touched place (length bytes) → entry_on k c t ≡ entry_for k c (stored c place bytes)
    unfolding entry_for stored
    store_entry k t h = rw right (ap (entry_on k c) h)

    pub store_after : (m' : List ℕ) → m' ≡ sets c.memory place bytes → (record { unit = c.unit; objects = c.objects; memory = m'; reel = c.reel; table = c.table }) ≡ (stored c place bytes).after
    unfolding stored
    store_after m' h = rw (right, h)

pub store_right : (memory place n : ℕ) → n ≤ host_limit → place + n ≤ memory → store_wrong memory place n ≡ false
unfolding store_wrong
store_right memory place n h k = rw (le-ltb host_limit n h, le-ltb memory (place + n) k)

-- the entry of a step that touches nothing saves no bytes
pub bare_length : (k : ℕ) (c : Core) (t : Touched) → t ≡ none → entry_bare ≡ entry_length (entry_on k c t)
unfolding entry_length
bare_length k c t h = rw h
