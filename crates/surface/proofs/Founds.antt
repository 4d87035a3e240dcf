-- What a look-up tells a host, from a mount on: where a file begins, and which object holds a block. Its contract permits one outcome.
use mathlib.Core.Bool.{Bool, true, false, true≢false}
use mathlib.Core.List.{List}
use mathlib.Core.Path.{◌≡◌, refl, sym, ap, ◌∙◌}
use Prim.Native.Nat.{ℕ, ◌*◌, ◌≤◌}
use native.Mathlib.Omega.{arith}
use borrow.Author.Tests.{le-ltb}
use lib.ListN.{length, length-take}
use Rattle.std.specs.Prelude.{Ok, Err}
use Rattle.lists.proofs.Cases.{past}
use Rattle.std.specs.Prelude.{Option, Some, None}
use Rattle.std.specs.Option.{is_some, unwrap_or}
use Rattle.tape.specs.Afresh.{objects_in}
use Rattle.tape.specs.Objects.{Holds, Object, blocks_of}
use Rattle.tape.proofs.Afresh.{objects_are}
use Rattle.tape.proofs.Fronts.{objects_few}
use Rattle.index.specs.Finding.{HoldsBlock, block_found, file_found}
use Rattle.index.specs.Finding.{FileBegins}
use Rattle.index.specs.Table.{place_length, places_in, places_limit, used_places}
use Rattle.index.proofs.Cuts.{worked}
use Rattle.index.proofs.Tables.{Worked, length_table}
use Rattle.index.proofs.Founds.{block_found_lem, block_holds, file_begins, file_found_lem}
use Rattle.state.specs.declared.refusal.Refusal.TheVariants as refusal
use Rattle.state.proofs.Behind.{never}
use Rattle.commands.specs.Answers.{number_of}
use Rattle.commands.specs.declared.plans.Done.TheVariants as answer
use Rattle.worlds.specs.Calls.{block_on, file_on, find_refusal}
use Rattle.worlds.specs.Refusals.{checked, session_wrong}
use Rattle.worlds.specs.Calls.{Finding}
use Rattle.worlds.specs.declared.Session.{Session}
use Rattle.worlds.proofs.Passing.{passed}
use Rattle.stateblock.specs.Block.{Block, session_in}
use Rattle.ts11.specs.Given.{Host}
use Rattle.ts11.specs.Finds.{Finds, block_given, file_given}
use Rattle.surface.specs.Hosting.{Begins, GoodHost, Hosted, Line, Locates}
use Rattle.surface.proofs.Always.{host_good}
use Rattle.surface.proofs.Hosts.{host_ran}

pub finds_unique : {x : Finding} {n₁ n₂ i₁ i₂ : ℕ} {f₁ f₂ : Bool} → Finds x n₁ f₁ i₁ → Finds x n₂ f₂ i₂ → (n₁ ≡ n₂) × (f₁ ≡ f₂) × (i₁ ≡ i₂)
finds_unique p q = (p.answer ∙ sym q.answer, p.found ∙ sym q.found, p.place ∙ sym q.place)

-- a look-up that was not refused, and found y
abbrev unrefused : Option ℕ → Finding
unrefused y = record { answer = Ok (answer.Step false); found = y }

told_at : (y : Option ℕ) → is_some y ≡ true → y ≡ Some (unwrap_or y 0)
told_at (Some i) t = refl
told_at None t = absurd (true≢false (sym t))

-- what is told of it, if y is place i exactly where P i
located : (P : ℕ → Type 0) (y : Option ℕ) {x : Finding} {number place : ℕ} {told : Bool} → x ≡ unrefused y → ((i : ℕ) → P i → y ≡ Some i) → ((i : ℕ) → y ≡ Some i → P i)
    → Finds x number told place → Locates P number told place
unfolding number_of
located P y is all right g =
    let f = g.found ∙ ap (λ (z : Finding). is_some z.found) is in
    let p = g.place ∙ ap (λ (z : Finding). unwrap_or z.found 0) is in
    record {
      answered = g.answer ∙ ap (λ (z : Finding). number_of z.answer) is;
      right = λ t. rw p (right (unwrap_or y 0) (told_at y (sym f ∙ t)));
      all = λ i h. (f ∙ ap is_some (all i h), p ∙ ap (λ (z : Option ℕ). unwrap_or z 0) (all i h));
    }

module _ {h : Host} (k : Block h.block) (g : GoodHost h) where
  abbrev s : Session
  s = session_in h.block

  abbrev os : List Object
  os = objects_in h.reel s.unit.tape.end

  held : Holds h.reel s.unit.tape.end os
  held = rw (objects_are g.formed.1) g.formed.1

  afresh : Worked h.table s.objects os
  afresh = worked g.indexed held

  -- the places that are used lie in the table
  room : place_length * s.objects ≤ length h.table
  unfolding used_places
  room = omega (arith, afresh.count, ap length afresh.used, length_table 0 0 os, length-take (place_length * s.objects) h.table)

  -- no more objects than blocks
  few : s.objects ≤ places_limit
  few =
      let l = (passed s (length h.memory) (length h.reel) (length h.journal) g.fit.sound).legal in
      omega (arith, afresh.count, objects_few held.allowed, held.ends, l.capacity, l.blocks_most)

  asks_nothing : find_refusal s (length h.table) ≡ Ok tt
  unfolding find_refusal checked
  asks_nothing = rw ((past (session_wrong s) (Err refusal.State) _ (Ok tt) (never _) g.fit.sound).0, le-ltb (places_in (length h.table)) s.objects (omega (arith, room, few)))

  file_is : (f : ℕ) → file_given h.block h.table f ≡ unrefused (file_found h.table s.objects f)
  unfolding file_given file_on
  file_is f = rw (k.right, asks_nothing)

  block_is : (b : ℕ) → block_given h.block h.table b ≡ unrefused (block_found h.table s.objects s.unit.tape.end b)
  unfolding block_given block_on
  block_is b = rw (k.right, asks_nothing)

  module _ {number place : ℕ} {told : Bool} where
    -- where file f begins
    pub good_file : (f : ℕ) → Finds (file_given h.block h.table f) number told place → Locates (FileBegins (objects_in h.reel (session_in h.block).unit.tape.end) f) number told place
    good_file f = located (FileBegins os f) (file_found h.table s.objects f) (file_is f) (λ i x. file_found_lem afresh room few x) (λ i e. file_begins afresh room few e)

    -- and which object holds block b
    pub good_block : (b : ℕ) → Finds (block_given h.block h.table b) number told place → Locates (HoldsBlock (objects_in h.reel (session_in h.block).unit.tape.end) b) number told place
    good_block b =
        located (HoldsBlock os b) (block_found h.table s.objects (blocks_of os) b)
        (block_is b ∙ ap (λ (e : ℕ). unrefused (block_found h.table s.objects e b)) (sym held.ends))
        (λ i x. block_found_lem afresh room few x)
        (λ i e. block_holds afresh room few e)

-- the same of any host, after every call from a mount on
module _ {h₀ h : Host} {d : List Line} (s : Begins h₀) (r : Hosted h₀ d h) {number place : ℕ} {told : Bool} where
  pub host_file : (f : ℕ) → Finds (file_given h.block h.table f) number told place → Locates (FileBegins (objects_in h.reel (session_in h.block).unit.tape.end) f) number told place
  host_file = good_file (host_ran s r).here.block (host_good s r)

  pub host_block : (b : ℕ) → Finds (block_given h.block h.table b) number told place → Locates (HoldsBlock (objects_in h.reel (session_in h.block).unit.tape.end) b) number told place
  host_block = good_block (host_ran s r).here.block (host_good s r)
