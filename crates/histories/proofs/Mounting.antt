-- A mount begins a shared history: its own transport is as a single one's mount leaves it, those mounted before stay good, and the journal is empty.
use mathlib.Core.Bool.{false}
use mathlib.Core.List.{List, [], ◌∷◌}
use mathlib.Core.Logic.{◌⊎◌, inl, inr, ⊎_elim}
use mathlib.Core.Path.{◌≡◌, refl, sym, ap, subst, ◌∙◌}
use Prim.Native.Nat.{ℕ, ◌≤◌, ◌<◌}
use native.Mathlib.Omega.{arith}
use borrow.Author.Tests.{eqb-false, eqb-true}
use lib.Dec.{eqb}
use lib.ListN.{length, length-set, set}
use lib.Seq.{get_or-set_other, get_or-set_same, set-set}
use Rattle.std.specs.Prelude.{Ok, Err}
use Rattle.lists.proofs.Cases.{by_test}
use Rattle.tape.specs.Afresh.{objects_in}
use Rattle.tape.proofs.Accepted.{clash}
use Rattle.state.specs.Changes.{mounted_as}
use Rattle.state.specs.declared.refusal.Refusal.TheVariants as refusal
use Rattle.commands.specs.Answers.{Answer}
use Rattle.commands.specs.declared.plans.Done.TheVariants as answer
use Rattle.unit.specs.Cores.{Core}
use Rattle.entries.specs.Entries.{transports}
use Rattle.worlds.specs.Calls.{mount_on, table_mounted}
use Rattle.worlds.specs.Passes.{Fit}
use Rattle.worlds.specs.Rows.{absent_in, coupler_checked, session_over, transport_of}
use Rattle.worlds.specs.Worlds.{session_of}
use Rattle.worlds.specs.Worlds.{Outcome}
use Rattle.worlds.specs.declared.Session.{Session}
use Rattle.worlds.specs.Coupled.{Coupled, Deck, Rig, core_of, coupler_in, deck_at, is_absent, mount_at, mounted_at, no_deck, told, view_of}
use Rattle.worlds.proofs.Coupling.{coupler_passed, coupler_passes}
use Rattle.worlds.proofs.Passing.{passed}
use Rattle.sessions.specs.Calling as single
use Rattle.sessions.specs.Calling.{world_from}
use Rattle.sessions.specs.Good.{CoreFormed, CoreIndexed, mount_moment}
use Rattle.sessions.proofs.Mounting.{mount_session, mounted}
use Rattle.histories.specs.Calling.{Here, coupled_from, journal_of, length_of}
use Rattle.histories.specs.Eras.{Accepted, Era, Mount, again, first, loaded, mounted_from}
use Rattle.histories.specs.Good.{Among, Fresh, Good, GoodDeck, here, there}
use Rattle.histories.proofs.Calls.{always_good}
use Rattle.histories.proofs.Keeping.{Kept, good_other, remembered}
use Rattle.histories.proofs.Taking.{present_is}

-- one of the list with one more is that one, or one of the list
pub among_which : {k u : ℕ} {ks : List ℕ} → Among k (u ∷ ks) → (k ≡ u) ⊎ Among k ks
among_which here = inl refl
among_which (there a) = inr a

among_some : {k : ℕ} {ks : List ℕ} → Among k ks → 1 ≤ length ks
among_some here = omega arith
among_some (there a) = omega arith

module _ (n : ℕ) (m : Mount) (w : Coupled) where
  abbrev g : Rig
  g = w.rig

  abbrev put : Coupled
  put = record { rig = loaded m.unit m.reel m.table g; ledger = w.ledger }

  abbrev reeled : Deck
  reeled = record { transport = (deck_at g m.unit).transport; reel = m.reel; table = m.table }

  abbrev old : Session
  old = session_over (coupler_in put) reeled.transport

  -- what the mount of its transport alone comes to
  abbrev o : Outcome
  o = mount_on old (length g.memory) m.reel (length m.table) n m.end m.online m.locked

  abbrev table : List ℕ
  table = table_mounted m.table (objects_in m.reel m.end) o.answer

  abbrev deck : Deck
  deck = record { transport = transport_of o.session; reel = m.reel; table = table }

  -- the rig that it leaves
  abbrev new : Rig
  new = record { decks = set g.decks m.unit deck; memory = g.memory; mounted = o.session.unit.lengths.memory }

  loaded_long : length (loaded m.unit m.reel m.table g).decks ≡ length g.decks
  unfolding loaded
  loaded_long = length-set g.decks m.unit _

  -- an absent transport's mount is refused
  put_present : Accepted n m w → is_absent put m.unit ≡ false
  unfolding mount_at
  put_present a =
      by_test (is_absent put m.unit)
      (λ t. let z : ◌≡◌ {A = Answer} (Err refusal.Absent) (Ok (answer.Step false)) = rw t at a.done in absurd (clash cc))
      (λ t. t)

  pub mount_present : Accepted n m w → absent_in (length g.decks) m.unit ≡ false
  mount_present a = subst (λ (i : ℕ). absent_in i m.unit ≡ false) loaded_long (put_present a)

  module _ (a : Accepted n m w) where
    inside : (m.unit < length g.decks) × (m.unit < transports)
    inside = present_is (length g.decks) m.unit (mount_present a)

    loaded_deck : deck_at (loaded m.unit m.reel m.table g) m.unit ≡ reeled
    unfolding loaded
    loaded_deck = get_or-set_same g.decks m.unit reeled no_deck inside.0

    loaded_memory : (loaded m.unit m.reel m.table g).memory ≡ g.memory
    unfolding loaded
    loaded_memory = refl

    mount_by : mount_at put n m.unit m.end m.online m.locked ≡ told o.answer (mounted_at put m.unit o table o.answer)
    unfolding mount_at
    mount_by = rw (put_present a, loaded_deck, loaded_memory)

    done : o.answer ≡ Ok (answer.Step false)
    done = sym (ap (λ x. x.answer) mount_by) ∙ a.done

    loaded_set : set (loaded m.unit m.reel m.table g).decks m.unit deck ≡ set g.decks m.unit deck
    unfolding loaded
    loaded_set = set-set g.decks m.unit reeled deck

    done_rig : (x : Answer) → x ≡ Ok (answer.Step false) → (mounted_at put m.unit o table x).rig ≡ new
    unfolding mounted_at
    done_rig x e = rw (e, loaded_deck, loaded_set, loaded_memory)

    pub mounted_is : (mounted_from n m w).rig ≡ new
    unfolding mounted_from
    mounted_is = ap (λ x. x.coupled.rig) mount_by ∙ done_rig o.answer done

    -- memory's length is that of the memory lent
    new_mounted : new.mounted ≡ length g.memory
    unfolding mounted_as
    new_mounted = ap (λ x. x.unit.lengths.memory) (mount_session old g.memory m.reel m.table n m.end m.online m.locked done)

    -- its own transport is that of a single one's mount
    own_core : core_of m.unit new ≡ (mount_moment old g.memory m.reel m.table n m.end m.online m.locked).core
    unfolding core_of
    own_core = rw (get_or-set_same g.decks m.unit deck no_deck inside.0)

    abbrev begun : Here
    begun = record { core = new; entries = [] }

    own_fit : (c : Core) → core_of m.unit new ≡ c → Fit n (world_from n (record { core = c; entries = [] })) → Fit n (view_of m.unit (coupled_from n begun))
    unfolding journal_of length_of single.journal_of single.length_of
    own_fit c e f =
        subst (λ (d : Core). Fit n (record { number = m.unit; core = d; ledger = (coupled_from n begun).ledger })) (sym e)
        (record { sound = f.sound; whole = f.whole; named = omega (arith, inside.1) })

    own_good : GoodDeck n (coupled_from n begun) m.unit
    own_good =
        let f = (mounted old g.memory m.reel m.table n m.end m.online m.locked done a.bytes).good in
        record {
          fit = own_fit _ own_core f.fit;
          formed = subst CoreFormed (sym own_core) f.formed;
          indexed = subst CoreIndexed (sym own_core) f.indexed;
        }

    empty_kept : Kept n (coupled_from n begun).ledger
    unfolding journal_of length_of
    empty_kept = record { long = refl; used = omega arith; whole = refl }

    -- what is shared is right: its own transport passes
    begun_shared : coupler_checked (coupler_in (coupled_from n begun)) (length begun.core.memory) n ≡ Ok tt
    unfolding core_of
    begun_shared =
        let v = view_of m.unit (coupled_from n begun) in
        let p = passed (session_of v) (length v.core.memory) (length v.core.reel) n own_good.fit.sound in
        coupler_passes (coupler_in (coupled_from n begun)) (length begun.core.memory) n
        (record {
          even = p.legal.even;
          memory_least = p.legal.memory_least;
          memory_most = p.legal.memory_most;
          used = p.used;
          limit = p.limit;
          memory_is = p.memory_is;
          journal_is = p.journal_is;
        })

    -- another transport's core stays, memory being as long as at the last mount
    kept_core : (i : ℕ) → (i ≡ m.unit → ⊥) → length g.memory ≡ g.mounted → core_of i new ≡ remembered g.memory (core_of i g)
    unfolding core_of
    kept_core i h e = rw (get_or-set_other g.decks m.unit i deck no_deck h, new_mounted, e)

    pub begun_good : (ks : List ℕ) → ((i : ℕ) → Among i ks → is_absent w i ≡ false → (length g.memory ≡ g.mounted) × GoodDeck n w i) → Good n (m.unit ∷ ks) begun
    begun_good ks f =
        record {
          shared = begun_shared;
          whole = empty_kept.whole;
          decks = λ i q h.
              by_test (eqb i m.unit)
              (λ t. subst (GoodDeck n (coupled_from n begun)) (sym (eqb-true i m.unit t)) own_good)
              (λ t.
              ⊎_elim
              (λ e. absurd (eqb-false i m.unit t e))
              (λ b.
              let d = f i b (rw (length-set g.decks m.unit deck) at h) in
              good_other n i w (coupled_from n begun) g.memory d.1 (kept_core i (eqb-false i m.unit t) d.0) refl empty_kept)
              (among_which q));
        }

-- a first mount from any world, and each mount behind any session since the one before, begins a history
pub era_fresh : (n : ℕ) {ks : List ℕ} {s : Here} → Era n ks s → Fresh n ks s
era_fresh n (first {w = w} m a e) =
    subst (Fresh n (m.unit ∷ [])) (sym (e ∙ ap (λ (x : Rig). record { core = x; entries = [] }) (mounted_is n m w a)))
    (record { good = begun_good n m w a [] (λ i q h. absurd (omega (arith, among_some q))); none = refl })
era_fresh n (again {ks = ks} {s₁ = s₁} m era r a e) =
    let good = always_good n ks (era_fresh n era) r in
    let p = coupler_passed (coupler_in (coupled_from n s₁)) (length s₁.core.memory) n good.shared in
    subst (Fresh n (m.unit ∷ ks)) (sym (e ∙ ap (λ (x : Rig). record { core = x; entries = [] }) (mounted_is n m (coupled_from n s₁) a)))
    (record { good = begun_good n m (coupled_from n s₁) a ks (λ i q h. (p.memory_is, good.decks i q h)); none = refl })
