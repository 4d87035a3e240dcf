-- What is known of a call that took a step, from any world that was handed to it: the checks had passed, the table was large enough, its entry
-- fitted, and the world after it is the step's core with the entry noted. A call that took none left the world as it was.
use mathlib.Core.Path.{◌≡◌, refl, sym, subst}
use mathlib.Core.Bool.{Bool, false}
use Prim.Native.Nat.{ℕ, ◌+◌, ◌-◌, ◌≤◌}
use native.Mathlib.Omega.{arith}
use borrow.Author.Tests.{ltb-false}
use lib.ListN.{length}
use Rattle.std.specs.Prelude.{Ok, Err}
use Rattle.lists.proofs.Cases.{by_test}
use Rattle.state.proofs.Behind.{behind_told, by_check}
use Rattle.state.proofs.Tests.{either}
use Rattle.index.specs.Table.{places_limit}
use Rattle.state.specs.declared.refusal.Refusal.TheVariants as refusal
use Rattle.commands.specs.Answers.{Answer}
use Rattle.commands.specs.declared.plans.Done.TheVariants as answer
use Rattle.unit.specs.Asks.{Ask, Asked}
use Rattle.unit.specs.Cores.{Admitted}
use Rattle.unit.specs.Steps.{Sound, Step, step_of}
use Rattle.unit.proofs.Rows.{enough_after}
use Rattle.unit.proofs.Stepping.{sound}
use Rattle.entries.specs.Entries.{entry_length}
use Rattle.worlds.specs.Worlds.{Answered, World, answered, session_of}
use Rattle.worlds.specs.Refusals.{checked}
use Rattle.worlds.specs.Calls.{back_on, entry_for, guarded, absent_place, refused_as, step_on, taken_as, taken_by, too_full}
use Rattle.worlds.proofs.Passing.{core_accepted, passed}
use Rattle.worlds.specs.Passes.{Fit}
use Rattle.sessions.specs.Session.{looked, refused, stepped}
use Rattle.sessions.specs.Calling.{Call, Left, Took, doing, call_kind, on_call, read_register, read_kind, step, step_kind}
use Rattle.sessions.specs.Good.{CoreFormed, CoreIndexed}
use Rattle.sessions.proofs.Indexing.{indexing}
use Rattle.sessions.proofs.Keeping.{keeping}
use Rattle.worlds.proofs.Undoing.{fit_after, taken_undone}

-- kinds are apart
pub refused_none : {P : Type 0} → refused ≡ stepped → P
refused_none p = absurd (let z : ◌≡◌ {A = ℕ} 0 1 = cc in omega arith)

pub looked_none : {P : Type 0} → looked ≡ stepped → P
looked_none p = absurd (let z : ◌≡◌ {A = ℕ} 0 1 = cc in omega arith)

pub read_none : {P : Type 0} (a : Answer) → read_kind a ≡ stepped → P
unfolding read_kind
read_none (Ok (answer.Step i)) k = looked_none k
read_none (Ok answer.Idle) k = looked_none k
read_none (Err j) k = refused_none k

-- a step is what is answered "done"
pub step_done : (c : Call) (a : Answer) → call_kind c a ≡ stepped → step_kind a ≡ stepped
unfolding call_kind
step_done (step b h) a k = k
step_done (read_register r) a k = read_none a k

-- the checks
module _ (n : ℕ) (w : World) where
  abbrev Checked : Type 0
  Checked = checked (session_of w) (length w.core.memory) (length w.core.reel) n ≡ Ok tt

  pub let_through : Checked → (x : Answered) → guarded w n x ≡ x
  unfolding guarded
  let_through h x = rw h

  pub sound_guarded : (x : Answered) → step_kind (guarded w n x).answer ≡ stepped → Checked
  unfolding guarded step_kind
  sound_guarded x k =
      by_check (checked (session_of w) (length w.core.memory) (length w.core.reel) n) (λ t. t) (λ r t. let z : refused ≡ stepped = rw t at k in refused_none z)

  pub sound_asked : (a : Ask) → step_kind (step_on w n a).answer ≡ stepped → Checked
  unfolding step_on
  sound_asked a k = sound_guarded _ k

  pub sound_step : (c : Call) → call_kind c (on_call n c w).answer ≡ stepped → Checked
  unfolding on_call call_kind
  sound_step (step a h) k = sound_asked a k
  sound_step (read_register r) k = read_none _ k

module _ (w : World) (x : Step) where
  took_as : (a : Answer) → step_kind (taken_as w x a).answer ≡ stepped → Took w (taken_as w x a).world x
  unfolding taken_as step_kind
  took_as a k =
      by_test (absent_place w.core x)
      (λ s. let z : refused ≡ stepped = rw s at k in refused_none z)
      (λ s. by_test (too_full w.ledger (entry_for w.number w.core x))
      (λ t. let z : refused ≡ stepped = rw (s, t) at k in refused_none z)
      (λ t. record { is = rw (s, t); places = s; room = t }))

  pub took_by : (a : Answer) → step_kind (taken_by w x a).answer ≡ stepped → Took w (taken_by w x a).world x
  unfolding taken_by step_kind
  took_by (Ok (answer.Step i)) k = took_as (Ok (answer.Step i)) k
  took_by (Ok answer.Idle) k = looked_none k
  took_by (Err j) k = refused_none k

pub took_asked : (n : ℕ) (a : Ask) (w : World) → step_kind (step_on w n a).answer ≡ stepped → Took w (step_on w n a).world (step_of a w.core)
unfolding step_on
took_asked n a w k =
    let pass = let_through n w (sound_guarded n w _ k) (taken_by w (step_of a w.core) (step_of a w.core).answer) in
    rw pass (took_by w (step_of a w.core) (step_of a w.core).answer (rw pass at k))

pub took : (n : ℕ) (c : Call) (w : World) → call_kind c (on_call n c w).answer ≡ stepped → Took w (on_call n c w).world (doing c w.core)
unfolding on_call call_kind doing
took n (step a h) w k = took_asked n a w k
took n (read_register r) w k = read_none _ k

-- what is known of the step: it changed nothing but what it touched, and kept what every step keeps
module _ (n : ℕ) (w : World) (fit : Fit n w) where
  pub accepts : Admitted w.core
  accepts = core_accepted w n (passed (session_of w) (length w.core.memory) (length w.core.reel) n fit.sound)

  -- of any ask
  pub asked_sound : (a : Ask) → Asked a → Sound w.core (step_of a w.core)
  asked_sound a h = sound w.core accepts a h

  pub asked_keeps : (a : Ask) → CoreFormed w.core → CoreFormed (step_of a w.core).after
  asked_keeps a f = keeping w.core f accepts a

  pub asked_indexed : (a : Ask) → step_kind (step_on w n a).answer ≡ stepped → CoreFormed w.core → CoreIndexed w.core → CoreIndexed (step_of a w.core).after
  asked_indexed a k f x = indexing w.core f x accepts a (took_asked n a w k).places

  -- and of any call
  pub doing_sound : (c : Call) → call_kind c (on_call n c w).answer ≡ stepped → Sound w.core (doing c w.core)
  unfolding doing call_kind on_call
  doing_sound (step a h) k = asked_sound a h
  doing_sound (read_register r) k = read_none _ k

  pub doing_keeps : (c : Call) → call_kind c (on_call n c w).answer ≡ stepped → CoreFormed w.core → CoreFormed (doing c w.core).after
  unfolding doing call_kind on_call
  doing_keeps (step a h) k f = asked_keeps a f
  doing_keeps (read_register r) k f = read_none _ k

  pub doing_indexed : (c : Call) → call_kind c (on_call n c w).answer ≡ stepped → CoreFormed w.core → CoreIndexed w.core → CoreIndexed (doing c w.core).after
  unfolding doing call_kind on_call
  doing_indexed (step a h) k f x = asked_indexed a k f x
  doing_indexed (read_register r) k f x = x

  -- the step x took the world to the next
  module _ (next : World) (x : Step) (t : Took w next x) where
    pub has_room : w.ledger.used + entry_length (entry_for w.number w.core x) ≤ w.ledger.length
    has_room =
        let p = passed (session_of w) (length w.core.memory) (length w.core.reel) n fit.sound in
        let long : ℕ = entry_length (entry_for w.number w.core x) in
        let free : long ≤ w.ledger.length - w.ledger.used = ltb-false (w.ledger.length - w.ledger.used) long t.room in
        omega (arith, p.used)

    -- the places that are used after it can be counted in four bytes
    pub took_few : next.core.objects ≤ places_limit
    took_few = rw t.is (enough_after (length w.core.table) w.core.objects x.after.objects t.places).few

    module _ (s : Sound w.core x) where
      -- the step back after a step gives the world before it
      pub took_undone : back_on next n ≡ answered (Ok (answer.Step false)) w
      took_undone = rw t.is (taken_undone n w x fit s has_room t.places)

      pub took_fit : Fit n next
      took_fit = subst (Fit n) (sym t.is) (fit_after n w x fit s has_room)

  module _ (c : Call) (k : call_kind c (on_call n c w).answer ≡ stepped) where
    -- the step back after a step gives the world before it
    pub step_undone : back_on (on_call n c w).world n ≡ answered (Ok (answer.Step false)) w
    step_undone = took_undone (on_call n c w).world (doing c w.core) (took n c w k) (doing_sound c k)

    -- the places that are used after it can be counted in four bytes
    pub step_few : (on_call n c w).world.core.objects ≤ places_limit
    step_few = took_few (on_call n c w).world (doing c w.core) (took n c w k)

    pub step_fit : Fit n (on_call n c w).world
    step_fit = took_fit (on_call n c w).world (doing c w.core) (took n c w k) (doing_sound c k)

module _ (n : ℕ) (w : World) where
  pub guarded_left : (x : Answered) → Left w x → Left w (guarded w n x)
  unfolding guarded
  guarded_left x f =
      behind_told (Left w) (checked (session_of w) (length w.core.memory) (length w.core.reel) n) (λ r. refused_as r w) x (λ r t g. refl) (λ t. f)

  as_left : (x : Step) (i : Bool) → Left w (taken_as w x (Ok (answer.Step i)))
  unfolding taken_as step_kind
  as_left x i =
      either (Left w) (absent_place w.core x) (refused_as refusal.Table w) _ (λ g. refl)
      (either (Left w) (too_full w.ledger (entry_for w.number w.core x)) (refused_as refusal.Room w) _ (λ g. refl) (λ g. absurd (g refl)))

  pub by_left : (x : Step) (a : Answer) → Left w (taken_by w x a)
  unfolding taken_by
  by_left x (Ok (answer.Step i)) = as_left x i
  by_left x (Ok answer.Idle) = λ g. refl
  by_left x (Err k) = λ g. refl

  pub step_left : (a : Ask) → Left w (step_on w n a)
  unfolding step_on
  step_left a = guarded_left _ (by_left (step_of a w.core) (step_of a w.core).answer)

pub stays : (n : ℕ) (c : Call) (w : World) → (call_kind c (on_call n c w).answer ≡ stepped → ⊥) → (on_call n c w).world ≡ w
unfolding on_call call_kind
stays n (step a h) w g = step_left n w a g
stays n (read_register r) w g = refl
