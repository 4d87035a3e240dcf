-- What each way out of a mount leaves is what the definitions say: its outcome, and its table.
use mathlib.Core.Path.{◌≡◌, refl}
use mathlib.Core.Bool.{Bool}
use mathlib.Core.List.{List}
use Prim.Native.Nat.{ℕ, ◌≤◌, ◌<◌}
use borrow.Author.Tests.{le-ltb, lt-ltb}
use lib.ListN.{length}
use lib.Seq.{sets}
use Rattle.lists.specs.Words.{Bytes}
use Rattle.tape.specs.Afresh.{objects_in}
use Rattle.tape.specs.Numbers.{capacity_limit}
use Rattle.tape.specs.Objects.{Holds, Object}
use Rattle.tape.proofs.Afresh.{objects_held}
use Rattle.index.specs.Table.{places_in, table_of}
use Rattle.state.specs.declared.Unit.{Unit}
use Rattle.std.specs.Prelude.{Result, Ok, Err}
use Rattle.state.specs.declared.refusal.Refusal.{Refusal}
use Rattle.state.specs.declared.refusal.Refusal.TheVariants as refusal
use Rattle.unit.specs.Mounts.{mount_call, mount_refusal}
use Rattle.unit.proofs.Accepted.{end_low, mount_whole}
use Rattle.worlds.specs.Worlds.{Outcome, answer_of, outcome_of}
use Rattle.worlds.specs.Refusals.{journal_limit}
use Rattle.worlds.specs.Calls.{mount_on, mounted_by, session, table_mounted}
use Rattle.worlds.specs.declared.Session.{Session}

-- what a mount hands back, whatever session it replaces, and the table that it leaves
abbrev Mounts : List ℕ → List Object → (Session → Outcome) → Result Session Refusal → List ℕ → Type 0
Mounts tb os f x tb' = ((old : Session) → outcome_of old x ≡ f old) × (tb' ≡ table_mounted tb os (answer_of x))

-- the table of a whole reel's objects os, with places for n of them in k: refusal 11, or filled
module _ (tb : List ℕ) (journal : ℕ) (os : List Object) (u : Unit) where
  abbrev pub Tabled : Result Session Refusal → List ℕ → Type 0
  Tabled x tb' = Mounts tb os (λ old. mounted_by old (length tb) journal os (Ok u)) x tb'

  module _ (n k : ℕ) (dn : n ≡ length os) (dk : k ≡ places_in (length tb)) where
    pub table_lacks : k < n → Tabled (Err refusal.Table) tb
    unfolding mounted_by table_mounted
    table_lacks h = (λ old. rw (← dn, ← dk, lt-ltb k n h), refl)

    pub table_filled : (tb' : List ℕ) → n ≤ k → tb' ≡ sets tb 0 (table_of os) → Tabled (Ok (session u n 0 journal)) tb'
    unfolding mounted_by table_mounted
    table_filled tb' h e = (λ old. rw (← dn, ← dk, le-ltb k n h), e)

module _ (memory : ℕ) (r tb : List ℕ) (journal e : ℕ) (online locked : Bool) where
  abbrev pub MountsAll : Result Session Refusal → List ℕ → Type 0
  MountsAll x tb' = Mounts tb (objects_in r e) (λ old. mount_on old memory r (length tb) journal e online locked) x tb'

  -- 2 or 3
  pub mount_stops : (n : Refusal) → mount_refusal memory (length r) e ≡ Err n → MountsAll (Err n) tb
  unfolding mount_on table_mounted
  mount_stops n h = (λ old. rw h, refl)

  module _ (h : mount_refusal memory (length r) e ≡ Ok tt) where
    pub mount_long : journal_limit < journal → MountsAll (Err refusal.Journal) tb
    unfolding mount_on table_mounted
    mount_long l = (λ old. rw (h, lt-ltb journal_limit journal l), refl)

    -- past them, by what the unit's mount comes to
    module _ (l : journal ≤ journal_limit) where
      pub mount_rests : (n : Refusal) → mount_call memory r e online locked ≡ Err n → MountsAll (Err n) tb
      unfolding mount_on mounted_by table_mounted
      mount_rests n t = (λ old. rw (h, le-ltb journal_limit journal l, t), refl)

      module _ (u : Unit) (t : mount_call memory r e online locked ≡ Ok u) where
        pub mount_tables : (x : Result Session Refusal) (tb' : List ℕ) → Tabled tb journal (objects_in r e) u x tb' → MountsAll x tb'
        unfolding mount_on
        mount_tables x tb' p = (λ old. rw (h, le-ltb journal_limit journal l, t) (p.0 old), p.1)

        -- a mount that is done has found its reel whole
        pub mount_holds : Bytes r → Holds r e (objects_in r e) × (e ≤ capacity_limit)
        mount_holds b = (objects_held b (mount_whole memory r e online locked u h t), end_low memory (length r) e h)
