-- The steps of an advance walked once: what holds of every end before a command, and of every command carried out, holds of all.
use mathlib.Core.Path.{◌≡◌, refl}
use mathlib.Core.Bool.{Bool, true, false, ◌||◌, ◌&&◌, not}
use mathlib.Core.List.{List}
use Prim.Native.Nat.{ℕ, ◌+◌, ◌%◌, ◌≤◌}
use native.Mathlib.Omega.{arith}
use lib.Dec.{eqb, ltb}
use lib.ListN.{length}
use Rattle.lists.specs.Words.{word_at}
use Rattle.lists.proofs.Cases.{pick_told}
use Rattle.signals.specs.Codes.{command_of}
use Rattle.signals.specs.Header.{header_of, packet_of}
use Rattle.signals.specs.Numbers.{packet_bytes}
use Rattle.signals.specs.declared.counts.Residual.{Residual}
use Rattle.signals.specs.declared.message.End.{End}
use Rattle.signals.specs.declared.packet.Header.{Header}
use Rattle.signals.specs.declared.packet.Packet.{Packet}
use Rattle.state.specs.Checks.{last_class}
use Rattle.state.specs.Legal.{Legal}
use Rattle.state.specs.declared.Unit.{Unit}
use Rattle.state.proofs.Legal.{legal_with}
use Rattle.state.proofs.Tests.{either, neither}
use Rattle.motions.specs.Parts.{resting}
use Rattle.std.specs.Prelude.{Ok}
use Rattle.commands.specs.Commands.{carried_out}
use Rattle.commands.specs.Ends.{still, told, untold}
use Rattle.commands.specs.declared.plans.Done.TheVariants as answer
use Rattle.commands.specs.declared.plans.Plan.{Plan}
use Rattle.advance.specs.Rules.{has_extent, is_illegal, is_tape, length_wrong, not_executable, not_executable_under, reverse_first, writes}
use Rattle.advance.specs.Steps.{advanced, advanced_under, attended, attended_under, rejected, rejected_under, step_attention, step_attention_under, step_executable, step_executable_under, step_extent, step_extent_under, step_fetch, step_fetch_under, step_header, step_header_under, step_illegal, step_illegal_under, step_no_buffer, step_no_buffer_under, step_owner, step_owner_under, step_pointer, step_pointer_under, step_volume, step_volume_under}
use Rattle.advance.proofs.Extents.{extent, has_data}

-- v differs from u in switches and attention alone
pub record Akin (u v : Unit) : Type 0 where
  pub tape : v.tape ≡ u.tape
  pub registers : v.registers ≡ u.registers
  pub characteristics : v.characteristics ≡ u.characteristics
  pub lengths : v.lengths ≡ u.lengths

pub same : (u : Unit) → Akin u u
same u = record { tape = refl; registers = refl; characteristics = refl; lengths = refl }

-- and so it is legal if u is
pub alike_legal : (u v : Unit) → Akin u v → Legal u → Legal v
alike_legal u v a l =
    legal_with u v l a.lengths
    (rw a.tape l.place)
    (rw (a.tape, a.lengths) l.capacity)
    (rw a.registers l.pointer)
    (rw a.registers l.class)
    (λ n. rw (a.characteristics, a.lengths) (l.buffer (rw a.registers at n)))

-- the end of a step, told or not
abbrev pub Rejects : Unit → (Plan → Type 0) → Type 0
Rejects u P = (v : Unit) → Akin u v → (ie : Bool) (x : End) → x.class ≤ last_class → P (told v ie (resting x v.tape))

abbrev pub Untold : Unit → (Plan → Type 0) → Type 0
Untold u P = (v : Unit) → Akin u v → (class : ℕ) (interrupts : Bool) → class ≤ last_class → P (untold v class interrupts)

-- a command carried out: its written length is in range (step 9) and its data lie inside memory (step 10)
abbrev pub Carries : Unit → List ℕ → List ℕ → (Plan → Type 0) → Type 0
Carries u m s P =
    (v : Unit) → Akin u v → (h : Header) (p : Packet) → length_wrong h p.count ≡ false → (has_data (command_of h.code h.mode) ≡ true → p.pointer + p.count ≤ length m)
    → P (carried_out v m s h p (command_of h.code h.mode))

module _ (u : Unit) (m s : List ℕ) (P : Plan → Type 0) (rejects : Rejects u P) (untolds : Untold u P) (carries : Carries u m s P) where
  rejected_all : (v : Unit) → Akin u v → (ie : Bool) (class found : ℕ) (left : Residual) → class ≤ last_class → P (rejected v ie class found left)
  unfolding rejected_under
  rejected_all v a ie class found left h = rejects v a ie _ h

  attended_all : (v : Unit) → Akin u v → (ie : Bool) → P (attended v ie)
  unfolding attended_under
  attended_all v a ie =
      rejected_all _ (record { tape = a.tape; registers = a.registers; characteristics = a.characteristics; lengths = a.lengths }) ie 1 0 _ (omega arith)

  module _ (v : Unit) (a : Akin u v) (h : Header) where
    extent_all : (p : Packet) → length_wrong h p.count ≡ false → P (step_extent v m s h p)
    unfolding step_extent_under
    extent_all p f =
        pick_told P (has_extent h && ltb (length m) (p.pointer + p.count)) _ _ (λ t. rejected_all v a h.ie 5 0 _ (omega arith))
        (λ t. carries v a h p f (λ d. extent h p (length m) (has_extent h) refl t d))

    executable_all : (p : Packet) → P (step_executable v m s h p)
    unfolding step_executable_under not_executable_under
    executable_all p =
        either P (is_tape h && (not v.panel.online || v.panel.vck)) _ _ (rejected_all v a h.ie 3 _ _ (omega arith))
        (either P (writes h && v.panel.locked) _ _ (rejected_all v a h.ie 3 _ _ (omega arith))
        (pick_told P (not_executable v h p) _ _ (λ t. rejected_all v a h.ie 3 _ _ (omega arith))
        (λ t. extent_all p (neither (reverse_first h && eqb v.tape.position 0) (length_wrong h p.count) t).1)))

    pointer_all : (p : Packet) → P (step_pointer v m s h p)
    unfolding step_pointer_under
    pointer_all p = either P (p.high || (eqb h.code 4 && eqb (p.pointer % 2) 1)) _ _ (rejected_all v a h.ie 3 _ _ (omega arith)) (executable_all p)

    fetch_all : P (step_fetch v m s h)
    unfolding step_fetch_under
    fetch_all =
        either P (ltb (length m) (v.registers.pointer + packet_bytes)) _ _ (rejected_all v a h.ie 5 _ _ (omega arith))
        (pointer_all (packet_of m v.registers.pointer h.code))

    no_buffer_all : P (step_no_buffer v m s h)
    unfolding step_no_buffer_under
    no_buffer_all = either P (v.registers.nba && not (eqb h.code 4)) _ _ (rejected_all v a h.ie 3 _ _ (omega arith)) fetch_all

    illegal_all : P (step_illegal v m s h)
    unfolding step_illegal_under
    illegal_all =
        either P (not h.plain || is_illegal (command_of h.code h.mode)) _ _ (rejected_all v a h.ie 3 _ _ (omega arith)) no_buffer_all

  module _ (v : Unit) (a : Akin u v) (h : Header) where
    volume_all : P (step_volume v m s h)
    unfolding step_volume_under
    volume_all =
        illegal_all _ (record { tape = a.tape; registers = a.registers; characteristics = a.characteristics; lengths = a.lengths }) h

    attention_all : P (step_attention v m s h)
    unfolding step_attention_under
    attention_all = either P v.attention.pending _ _ (attended_all v a h.ie) volume_all

  owner_all : (h : Header) → P (step_owner u m s h)
  unfolding step_owner_under
  owner_all h =
      either P (u.attention.unit_owns || h.ack) _ _
      (attention_all _ (record { tape = refl; registers = refl; characteristics = refl; lengths = refl }) h)
      (untolds _ (record { tape = refl; registers = refl; characteristics = refl; lengths = refl }) 0 h.ie (omega arith))

  header_all : P (step_header u m s)
  unfolding step_header_under
  header_all =
      either P (ltb (length m) (u.registers.pointer + 2)) _ _ (untolds u (same u) 5 false (omega arith))
      (owner_all (header_of (word_at m u.registers.pointer)))

  pub advanced_all : P (still u (Ok answer.Idle)) → P (advanced u m s)
  unfolding advanced_under
  advanced_all idle =
      either P u.registers.ssr _ _
      (either P (u.attention.pending && u.attention.unit_owns) _ _ (attended_all u (same u) u.attention.release_ie) idle)
      header_all
