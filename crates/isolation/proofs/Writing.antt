-- What an advance lays is the same from two memories that are the same where it reads: only a Write takes bytes, and it takes those of its data.
use mathlib.Core.Bool.{Bool, true, false, ◌||◌}
use mathlib.Core.List.{List}
use mathlib.Core.Logic.{⊎_elim}
use mathlib.Core.Path.{◌≡◌, refl}
use Prim.Native.Nat.{ℕ, ◌≤◌}
use borrow.Author.Tests.{eqb-true}
use lib.Dec.{eqb}
use Rattle.std.specs.Prelude.{Option}
use Rattle.lists.proofs.Cases.{by_test}
use Rattle.lists.specs.Places.{gathered}
use Rattle.signals.specs.Codes.{command_of, format_mode, write_mode}
use Rattle.signals.specs.declared.codes.Command.{Command}
use Rattle.signals.specs.declared.packet.Header.{Header}
use Rattle.signals.specs.declared.packet.Packet.{Packet}
use Rattle.state.specs.declared.Unit.{Unit}
use Rattle.state.proofs.Tests.{either}
use Rattle.motions.specs.declared.parts.ObjectKind.{ObjectKind}
use Rattle.motions.specs.declared.parts.ObjectKind.TheVariants as kind
use Rattle.commands.specs.Commands.{carried_out, carried_out_under, formatted, formatted_under, laid_here, plain_effect, plain_effect_under, written_by, written_by_under}
use Rattle.commands.specs.Ends.{told_under}
use Rattle.storing.specs.Stored.{laid_objects}
use Rattle.advance.specs.Steps.{advanced}
use Rattle.demands.specs.Ways.{carried, started}
use Rattle.demands.proofs.Ways.{advanced_is}
use Rattle.kept.specs.Leaving.{WriteRuns}
use Rattle.kept.proofs.Unwritten.{writes_or_stays}
use Rattle.isolation.specs.Reads.{SameRead, header_at, of_data, packet_at}
use Rattle.isolation.proofs.Taking.{SameTaken, gathered_same, laid_same, none_same, objects_same}

module _ (m m' s : List ℕ) (v : Unit) (h : Header) (p : Packet) where
  abbrev Same : Option Command → Type 0
  Same c = SameTaken m m' (carried_out v m s h p c).laid

  write_same : (again : Bool) → SameTaken m m' (laid_here v.tape kind.Record p.pointer p.count h.swb) → SameTaken m m' (written_by v s h p again).laid
  unfolding written_by_under
  write_same again e = laid_same m m' v h.ie s _ false again e

  format_same : (k : ObjectKind) (mark again : Bool) → SameTaken m m' (formatted v s h k mark again).laid
  unfolding formatted_under gathered
  format_same k mark again = laid_same m m' v h.ie s (laid_here v.tape k 0 0 false) mark again refl

  plain_same : SameTaken m m' (plain_effect v h.ie).laid
  unfolding plain_effect_under told_under
  plain_same = none_same m m'

  -- by code and mode; a mode that is illegal lays nothing
  writes_same : (mode : ℕ) → SameTaken m m' (laid_here v.tape kind.Record p.pointer p.count h.swb) → Same (write_mode mode)
  unfolding write_mode carried_out_under
  writes_same mode e = either Same (eqb mode 0) _ _ (write_same false e) (either Same (eqb mode 2) _ _ (write_same true e) plain_same)

  formats_same : (mode : ℕ) → Same (format_mode mode)
  unfolding format_mode carried_out_under
  formats_same mode =
      either Same (eqb mode 0) _ _ (format_same kind.Mark true false)
      (either Same (eqb mode 1) _ _ (format_same kind.Gap false false)
      (either Same (eqb mode 2) _ _ (format_same kind.Mark true true) plain_same))

  five : (code mode : ℕ) → code ≡ 5 → command_of code mode ≡ write_mode mode
  unfolding command_of
  five code mode c = rw c

  nine : (code mode : ℕ) → code ≡ 9 → command_of code mode ≡ format_mode mode
  unfolding command_of
  nine code mode c = rw c

  coded_same : (code mode : ℕ) → (eqb code 5 || eqb code 9) ≡ true → (code ≡ 5 → SameTaken m m' (laid_here v.tape kind.Record p.pointer p.count h.swb)) → Same (command_of code mode)
  coded_same code mode w e =
      by_test (eqb code 5) (λ t. let c = eqb-true code 5 t in rw (five code mode c) (writes_same mode (e c)))
      (λ f. let c = eqb-true code 9 (rw f at w) in rw (nine code mode c) (formats_same mode))

module _ (u : Unit) (m m' s : List ℕ) (r : SameRead u m m') where
  runs_same : WriteRuns u m s → SameTaken m m' (advanced u m s).laid
  runs_same w =
      let waits = w.runs.fetched.begins.waits.waiting in
      rw (advanced_is u m s (carried w.runs w.inside))
      (coded_same m m' s (started u m s) (header_at u m) (packet_at u m) (header_at u m).code (header_at u m).mode w.write
      (λ c. gathered_same m m' _ _ _ (λ i k. r.bytes _ (of_data {i = i} waits c k refl))))

  pub writes_alike : u.tape.position ≤ u.tape.end → laid_objects m (advanced u m s).laid ≡ laid_objects m' (advanced u m s).laid
  writes_alike below =
      objects_same m m' (advanced u m s).laid (⊎_elim (λ w. runs_same w) (λ n. rw n.0 (none_same m m')) (writes_or_stays u m s below))
