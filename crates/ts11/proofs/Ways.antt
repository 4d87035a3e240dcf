-- The ways out of an exported call: bytes that are no session's block are refused with 1, else the journal's call decides.
use mathlib.Core.Path.{◌≡◌, refl, sym, ap, subst, ◌∙◌}
use mathlib.Core.Bool.{Bool, true, false}
use mathlib.Core.List.{List}
use Prim.Native.Nat.{ℕ}
use lib.ListN.{length}
use Rattle.lists.specs.Pick.{pick}
use Rattle.tape.specs.Objects.{Object}
use Rattle.std.specs.Prelude.{Option, Result, Ok, Err}
use Rattle.state.specs.Refusals.{block_of, fault_of, refusal_number}
use Rattle.state.specs.declared.refusal.Refusal.{Refusal}
use Rattle.state.specs.declared.refusal.Refusal.TheVariants as refusal
use Rattle.commands.specs.declared.plans.Done.TheVariants as answer
use Rattle.commands.specs.Answers.{block_in, fault_in, interrupt_in, is_step, number_of}
use Rattle.commands.specs.Answers.{Answer}
use Rattle.unit.specs.Asks.{Ask}
use Rattle.unit.specs.declared.registers.Register.{Register}
use Rattle.entries.specs.Entries.{used_in}
use Rattle.worlds.specs.Worlds.{Answered, Leaves, Outcome, World, answer_of, answer_told, outcome_of, session_left, session_of, session_told, world_of}
use Rattle.worlds.specs.Calls.{Finding, RegisterRead, back_on, finding_of, read_of, register_on, step_on, table_mounted}
use Rattle.worlds.specs.declared.Session.{Session}
use Rattle.worlds.specs.declared.Stepped.{Stepped}
use Rattle.stateblock.specs.Block.{block_after, is_block, session_in}
use Rattle.ts11.specs.Given.{Gives, Host, Mounts, Reads, Tells, back_given, holding, opened, register_given, register_of, step_given, world_in}
use Rattle.std.specs.Option.{is_some, unwrap_or}
use Rattle.ts11.specs.Finds.{Finds, no_finding}

module _ (h : Host) (right : Bool) (told : right ≡ is_block h.block) where
  -- no session's block
  module _ (t : right ≡ false) where
    stops : (x : Answered) {n : ℕ} → n ≡ refusal_number refusal.State → Gives h (opened h x) n h
    unfolding opened number_of block_after
    stops x e = rw (← told, t) (record { answer = e; state = refl; memory = refl; reel = refl; table = refl; journal = refl; unless_step = λ z. refl })

    pub step_stops : (a : Ask) {n : ℕ} → n ≡ refusal_number refusal.State → Gives h (step_given a h) n h
    unfolding step_given
    step_stops a e = stops (step_on (world_in h) (length h.journal) a) e

    pub back_stops : {n : ℕ} → n ≡ refusal_number refusal.State → Gives h (back_given h) n h
    unfolding back_given
    back_stops e = stops (back_on (world_in h) (length h.journal)) e

    pub stops_told : (a : Ask) → Tells (step_given a h) false false 0 0
    unfolding step_given opened is_step interrupt_in block_in fault_in block_of fault_of
    stops_told a = rw (← told, t) (record { stepped = refl; interrupt = refl; block = refl; fault = refl })

  -- the call f was made with the session that the block is read as, and came to o
  module _ (s : Session) (o : Outcome) (m' r' tb' j' : List ℕ) (t : right ≡ true) (read : s ≡ session_in h.block) where
    module _ (f : World → ℕ → Answered) (left : Leaves (f (world_of 0 s h.memory h.reel h.table h.journal) (length h.journal)) h.journal o m' r' tb' j') where
      abbrev answers : Answered
      answers = f (world_in h) (length h.journal)

      there : Leaves answers h.journal o m' r' tb' j'
      there = subst (λ (x : Session). Leaves (f (world_of 0 x h.memory h.reel h.table h.journal) (length h.journal)) h.journal o m' r' tb' j') read left

      goes : {n : ℕ} {b' : List ℕ} → n ≡ number_of o.answer → b' ≡ block_after h.block o.answer o.session → Gives h (opened h answers) n (holding b' m' r' tb' j')
      unfolding opened
      goes p q =
          rw (← told, t)
          (record {
            answer = p ∙ ap number_of there.answer;
            state = q ∙ ap (λ (a : Answer). block_after h.block a o.session) there.answer ∙ ap (λ (w : World). block_after h.block answers.answer (session_of w)) there.world;
            memory = ap (λ (w : World). w.core.memory) there.world;
            reel = ap (λ (w : World). w.core.reel) there.world;
            table = ap (λ (w : World). w.core.table) there.world;
            journal = ap (λ (w : World). used_in w.ledger.used j') (sym there.world) ∙ ap (λ (w : World). w.ledger.bytes) there.world;
            unless_step = there.unless_step;
          })

      goes_told : {p i : Bool} {k l : ℕ} → p ≡ is_step o.answer → i ≡ interrupt_in o.answer → k ≡ block_in o.answer → l ≡ fault_in o.answer → Tells (opened h answers) p i k l
      unfolding opened
      goes_told x y z v =
          rw (← told, t)
          (record {
            stepped = x ∙ ap is_step there.answer;
            interrupt = y ∙ ap interrupt_in there.answer;
            block = z ∙ ap block_in there.answer;
            fault = v ∙ ap fault_in there.answer;
          })

    module _ (a : Ask) (left : Leaves (step_on (world_of 0 s h.memory h.reel h.table h.journal) (length h.journal) a) h.journal o m' r' tb' j') where
      pub step_goes : {n : ℕ} {b' : List ℕ} → n ≡ number_of o.answer → b' ≡ block_after h.block o.answer o.session → Gives h (step_given a h) n (holding b' m' r' tb' j')
      unfolding step_given
      step_goes p q = goes (λ w n. step_on w n a) left p q

      pub step_told_lem : {p i : Bool} {k l : ℕ} → p ≡ is_step o.answer → i ≡ interrupt_in o.answer → k ≡ block_in o.answer → l ≡ fault_in o.answer → Tells (step_given a h) p i k l
      unfolding step_given
      step_told_lem x y z v = goes_told (λ w n. step_on w n a) left x y z v

    pub back_goes : Leaves (back_on (world_of 0 s h.memory h.reel h.table h.journal) (length h.journal)) h.journal o m' r' tb' j' → {n : ℕ} {b' : List ℕ} → n ≡ number_of o.answer → b' ≡ block_after h.block o.answer o.session → Gives h (back_given h) n (holding b' m' r' tb' j')
    unfolding back_given
    back_goes left p q = goes back_on left p q

-- a call that is done writes its session over the block, one that is refused tells its number
pub zero : {x : Session} {r : Result Session Refusal} → r ≡ Ok x → 0 ≡ number_of (answer_of r)
unfolding number_of
zero e = rw e

pub wrote : (b : List ℕ) (s : Session) {b' : List ℕ} {x : Session} {r : Result Session Refusal} → r ≡ Ok x → b' ≡ block_after b (Ok (answer.Step false)) x → b' ≡ block_after b (answer_of r) (session_left s r)
wrote b s e q = rw e q

pub refused_number : {n : ℕ} {x : Refusal} {r : Result Session Refusal} → r ≡ Err x → n ≡ refusal_number x → n ≡ number_of (answer_of r)
unfolding number_of
refused_number e q = rw e q

pub left : (b : List ℕ) (s : Session) {x : Refusal} {r : Result Session Refusal} → r ≡ Err x → b ≡ block_after b (answer_of r) (session_left s r)
unfolding block_after
left b s e = rw e

-- and of a block at fault
pub untold : {x : Session} {r : Result Session Refusal} → r ≡ Ok x → (0 ≡ block_in (answer_of r)) × (0 ≡ fault_in (answer_of r))
unfolding block_in fault_in
untold e = rw e (refl, refl)

pub told_bad : {x : Refusal} {r : Result Session Refusal} {k f : ℕ} → r ≡ Err x → k ≡ block_of x → f ≡ fault_of x → (k ≡ block_in (answer_of r)) × (f ≡ fault_in (answer_of r))
unfolding block_in fault_in
told_bad e k f = rw e (k, f)

-- what was asked, by the name that the definition gives it
pub asked : (w : World) (n : ℕ) (o : Outcome) (j m r tb j' : List ℕ) (a c : Ask) → a ≡ c → Leaves (step_on w n a) j o m r tb j' → Leaves (step_on w n c) j o m r tb j'
asked w n o j m r tb j' a c e h = subst (λ (x : Ask). Leaves (step_on w n x) j o m r tb j') e h

-- a register, read from no session's block and from one
pub unread : (b : List ℕ) (right tssr : Bool) {n : ℕ} → right ≡ is_block b → right ≡ false → n ≡ refusal_number refusal.State → Reads (register_given b tssr) n 0
unfolding register_given number_of
unread b right tssr told t e = rw (← told, t) (record { answer = e; word = refl })

pub was_read : (b : List ℕ) (right tssr : Bool) (s : Session) (x : Result ℕ Refusal) (g : Register) (n w : ℕ) → right ≡ is_block b → right ≡ true → s ≡ session_in b → g ≡ register_of tssr → read_of x ≡ register_on s g → n ≡ number_of (read_of x).answer → w ≡ (read_of x).word → Reads (register_given b tssr) n w
unfolding register_given
was_read b right tssr s x g n w told t read which is p q =
    let there : read_of x ≡ register_on (session_in b) (register_of tssr) = is ∙ ap (λ (z : Session). register_on z g) read ∙ ap (register_on (session_in b)) which in
    rw (← told, t) (record { answer = p ∙ ap (λ (z : RegisterRead). number_of z.answer) there; word = q ∙ ap (λ (z : RegisterRead). z.word) there })

pub read_word : {w : ℕ} {x : Result ℕ Refusal} → x ≡ Ok w → (0 ≡ number_of (read_of x).answer) × (w ≡ (read_of x).word)
unfolding number_of
read_word e = rw e (refl, refl)

pub read_none : {n : ℕ} {r : Refusal} {x : Result ℕ Refusal} → x ≡ Err r → n ≡ refusal_number r → (n ≡ number_of (read_of x).answer) × (0 ≡ (read_of x).word)
unfolding number_of
read_none e q = rw e (q, refl)

-- a look-up in no session's block and in one: g is what the journal's look-up finds with a session
pub not_looked : (b : List ℕ) (right : Bool) (y : Finding) {n : ℕ} → right ≡ is_block b → right ≡ false → n ≡ refusal_number refusal.State → Finds (pick (is_block b) y no_finding) n false 0
unfolding number_of
not_looked b right y told t e = rw (← told, t) (record { answer = e; found = refl; place = refl })

pub was_looked : (g : Session → Finding) (b : List ℕ) (right : Bool) (s : Session) (x : Result (Option ℕ) Refusal) {n i : ℕ} {f : Bool} → right ≡ is_block b → right ≡ true → s ≡ session_in b → finding_of x ≡ g s → Finds (finding_of x) n f i → Finds (pick (is_block b) (g (session_in b)) no_finding) n f i
was_looked g b right s x {n = n} {i} {f} told t read is p = rw (← told, t) (subst (λ (v : Finding). Finds v n f i) (is ∙ ap g read) p)

-- what was found, told by its number, flag and place
pub finds : {x : Result (Option ℕ) Refusal} {y : Option ℕ} {i : ℕ} {f : Bool} → x ≡ Ok y → f ≡ is_some y → i ≡ unwrap_or y 0 → Finds (finding_of x) 0 f i
unfolding number_of
finds e q z = rw e (record { answer = refl; found = q; place = z })

pub finds_none : {x : Result (Option ℕ) Refusal} {y : Refusal} {n : ℕ} → x ≡ Err y → n ≡ refusal_number y → Finds (finding_of x) n false 0
unfolding number_of
finds_none e q = rw e (record { answer = q; found = refl; place = refl })

-- an advance, told by what it did
pub did : (b : List ℕ) (s : Session) {b' : List ℕ} {x : Stepped} {r : Result Stepped Refusal} {i : Bool} → r ≡ Ok x → x.done ≡ answer.Step i → b' ≡ block_after b (Ok x.done) x.session
    → (0 ≡ number_of (answer_told r)) × (b' ≡ block_after b (answer_told r) (session_told s r)) × (true ≡ is_step (answer_told r)) × (i ≡ interrupt_in (answer_told r)) × (0 ≡ block_in (answer_told r)) × (0 ≡ fault_in (answer_told r))
unfolding number_of block_after is_step interrupt_in block_in fault_in
did b s e d q = rw (e, d) (refl, rw d at q, refl, refl, refl, refl)

pub rested : (b : List ℕ) (s : Session) {x : Stepped} {r : Result Stepped Refusal} → r ≡ Ok x → x.done ≡ answer.Idle
    → (0 ≡ number_of (answer_told r)) × (b ≡ block_after b (answer_told r) (session_told s r)) × (false ≡ is_step (answer_told r)) × (false ≡ interrupt_in (answer_told r)) × (0 ≡ block_in (answer_told r)) × (0 ≡ fault_in (answer_told r))
unfolding number_of block_after is_step interrupt_in block_in fault_in
rested b s e d = rw (e, d) (refl, refl, refl, refl, refl, refl)

pub stopped : (b : List ℕ) (s : Session) {x : Refusal} {r : Result Stepped Refusal} {n k f : ℕ} → r ≡ Err x → n ≡ refusal_number x → k ≡ block_of x → f ≡ fault_of x
    → (n ≡ number_of (answer_told r)) × (b ≡ block_after b (answer_told r) (session_told s r)) × (false ≡ is_step (answer_told r)) × (false ≡ interrupt_in (answer_told r)) × (k ≡ block_in (answer_told r)) × (f ≡ fault_in (answer_told r))
unfolding number_of block_after is_step interrupt_in block_in fault_in
stopped b s e n k f = rw e (n, refl, refl, refl, k, f)

-- a mount over the session that the block is read as, lent the table tb beside a reel with the objects os
pub mounts : (f : Session → Outcome) (os : List Object) (b b' tb tb' : List ℕ) (x : Result Session Refusal) (n k l : ℕ) → ((s : Session) → outcome_of s x ≡ f s) → tb' ≡ table_mounted tb os (answer_of x) → n ≡ number_of (answer_of x) → b' ≡ block_after b (answer_of x) (session_left (session_in b) x) → k ≡ block_in (answer_of x) → l ≡ fault_in (answer_of x) → Mounts b (f (session_in b)) (table_mounted tb os (f (session_in b)).answer) n b' tb' k l
mounts f os b b' tb tb' x n k l is laid p q z v =
    subst (λ (y : Outcome). Mounts b y (table_mounted tb os y.answer) n b' tb' k l) (is (session_in b)) (record { answer = p; state = q; table = laid; block = z; fault = v })
