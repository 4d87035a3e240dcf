-- What a step stored, as lists of bytes: they are as many as its entry counts, and memory and reel are what they were with these in place.
use mathlib.Core.Path.{◌≡◌, refl, sym, ap, ◌∙◌}
use mathlib.Core.Bool.{Bool, true, false}
use mathlib.Core.List.{List, []}
use Prim.Native.Nat.{ℕ, ◌*◌}
use native.Mathlib.Omega.{arith}
use lib.ListN.{length}
use Rattle.lists.specs.Pick.{pick}
use Rattle.lists.specs.Places.{placed}
use Rattle.lists.proofs.Cases.{pick_told}
use Rattle.lists.proofs.Placed.{placed_plain}
use Rattle.tape.specs.Bytes.{moved_bytes, record_bytes}
use Rattle.tape.specs.Numbers.{block_bytes}
use Rattle.tape.specs.Objects.{images_of}
use Rattle.index.specs.Cutting.{extended}
use Rattle.index.specs.Table.{place_length, table_from}
use Rattle.index.proofs.Tables.{length_table}
use Rattle.tape.proofs.Accepted.{clash}
use Rattle.signals.specs.Message.{message_bytes, messaged, words_bytes}
use Rattle.signals.proofs.Messages.{length_words}
use Rattle.state.specs.Changes.{initialized, operated, tsdb_written}
use Rattle.state.specs.declared.Unit.{Unit}
use Rattle.motions.specs.declared.parts.Laid.{Laid}
use Rattle.std.specs.Prelude.{Ok}
use Rattle.commands.specs.Ends.{still}
use Rattle.commands.specs.declared.plans.Done.TheVariants as answer
use Rattle.commands.specs.declared.plans.Plan.{Plan}
use Rattle.storing.specs.Outside.{message_to}
use Rattle.storing.specs.Stored.{MovedFits, Storable, laid_object, laid_objects, laid_on, memory_after, message_on, reel_after}
use Rattle.storing.proofs.DataPlaces.{data_from, length_data, moved_places}
use Rattle.storing.proofs.Lengths.{length_laid, length_reel}
use Rattle.storing.proofs.Staying.{data_after}
use Rattle.advance.specs.Steps.{advanced}
use Rattle.advance.proofs.Planned.{advanced_seven}
use Rattle.unit.specs.Asks.{Ask, advance, host_store, operate, write_tsdb, write_tssr}
use Rattle.unit.specs.Cores.{Admitted, Core}
use Rattle.unit.specs.Steps.{Step, carried, changed, cut_of, step_of, store_wrong, stored, table_after}
use Rattle.unit.specs.Stores.{Stores, bytes_of, no_bytes, plan_bytes}
use Rattle.unit.specs.Touching.{host_touched, moved_place, touched_by}
use Rattle.unit.proofs.Rows.{places_laid}
use Rattle.unit.proofs.Stepping.{advanced_fits, core_sizes, still_seven}
use Rattle.unit.proofs.Touches.{still_storable}

-- a message that may go out: none is a run of no bytes
message_placed : (b : Bool) (l : List ℕ) (a : ℕ) (words : List ℕ) → pick b (messaged l a words) l ≡ placed false l (pick b a 0) (pick b (words_bytes words) [])
unfolding messaged placed
message_placed true l a words = sym (placed_plain l a (words_bytes words))
message_placed false l a words = refl

-- seven words are the message's bytes
message_counted : (b : Bool) (words : List ℕ) → length words ≡ 7 → length (pick b (words_bytes words) []) ≡ pick b message_bytes 0
message_counted true words seven = omega (arith, length_words words)
message_counted false words seven = refl

-- new blocks on the reel
laid_placed : (m s : List ℕ) (l : Laid) → laid_on s m l ≡ placed false s (block_bytes * l.at) (images_of (laid_objects m l))
unfolding laid_on
laid_placed m s l = sym (placed_plain s (block_bytes * l.at) (images_of (laid_objects m l)))

-- any plan that can be stored
module _ (c : Core) (p : Plan) (fits : Storable p (length c.memory) (length c.reel)) where
  abbrev reeled : List ℕ
  reeled = reel_after p c.memory c.reel

  moved_fits : MovedFits p.moved (length c.memory) (length reeled)
  moved_fits = rw (length_reel p c.memory c.reel) fits.moved

  memory_placed : memory_after p c.memory c.reel ≡ placed false (placed p.moved.swb c.memory (moved_place p.moved) (data_from reeled p.moved)) (pick p.sends (message_to p) 0) (pick p.sends (words_bytes p.message) [])
  unfolding memory_after message_on moved_place
  memory_placed =
      message_placed p.sends (data_after p c.memory c.reel) (message_to p) p.message
      ∙ ap (λ (l : List ℕ). placed false l (pick p.sends (message_to p) 0) (pick p.sends (words_bytes p.message) [])) (moved_places reeled p.moved c.memory moved_fits)

  plan_stores : length p.message ≡ 7 → Stores c (carried c p) (plan_bytes c p)
  unfolding carried touched_by reel_after plan_bytes table_after extended
  plan_stores seven =
      record {
        memory = memory_placed;
        reel = laid_placed c.memory c.reel p.laid;
        table = sym (placed_plain c.table (place_length * (cut_of c p.laid).place) (table_from p.laid.at (cut_of c p.laid).marks (laid_objects c.memory p.laid)));
        data_long = length_data reeled p.moved c.memory moved_fits;
        message_long = message_counted p.sends p.message seven;
        reel_long = length_laid c.memory p.laid;
        table_long = length_table p.laid.at (cut_of c p.laid).marks (laid_objects c.memory p.laid) ∙ ap (λ (n : ℕ). place_length * n) (places_laid c.memory p.laid);
        places = places_laid c.memory p.laid;
      }

-- a change of the state alone stores nothing
change_stores : (c : Core) → Admitted c → (u : Unit) → Stores c (carried c (changed u)) no_bytes
unfolding plan_bytes still moved_bytes record_bytes laid_objects laid_object images_of table_from
change_stores c a u =
    plan_stores c (changed u) (still_storable u (Ok (answer.Step false)) (length c.memory) (length c.reel) (core_sizes c a).even) (still_seven c a u)

-- a host store that is answered "done" stores its bytes
store_stores : (c : Core) (place : ℕ) (bytes : List ℕ) (i : Bool) → (stored c place bytes).answer ≡ Ok (answer.Step i) → Stores c (stored c place bytes) (record { data_stored = bytes; message_stored = []; reel_stored = []; table_stored = []; objects = [] })
unfolding stored host_touched placed
store_stores c place bytes i =
    pick_told (λ (x : Step). x.answer ≡ Ok (answer.Step i) → Stores c x (record { data_stored = bytes; message_stored = []; reel_stored = []; table_stored = []; objects = [] })) (store_wrong (length c.memory) place (length bytes)) _ _
    (λ t e. absurd (clash cc))
    (λ t e. record {
      memory = sym (placed_plain c.memory place bytes);
      reel = refl;
      table = refl;
      data_long = refl;
      message_long = refl;
      reel_long = refl;
      table_long = refl;
      places = refl;
    })

-- each step that is answered "done"
pub stores : (a : Ask) (c : Core) (i : Bool) → Admitted c → (step_of a c).answer ≡ Ok (answer.Step i) → Stores c (step_of a c) (bytes_of a c)
unfolding step_of bytes_of
stores (write_tsdb word) c i a e = change_stores c a (tsdb_written c.unit word)
stores write_tssr c i a e = change_stores c a (initialized c.unit)
stores (operate k) c i a e = change_stores c a (operated c.unit k)
stores (host_store place bytes) c i a e = store_stores c place bytes i e
stores advance c i a e =
    plan_stores c (advanced c.unit c.memory c.reel) (advanced_fits c a) (advanced_seven c.unit c.memory c.reel)
