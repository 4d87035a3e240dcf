-- A Write or Format that is carried out lays the one object that its header and packet ask for.
use mathlib.Core.Bool.{Bool, true, false, ◌&&◌, ◌||◌, not, true≢false}
use mathlib.Core.List.{List, [], ◌∷◌}
use mathlib.Core.Path.{◌≡◌, refl, ap, ◌∙◌}
use Prim.Native.Nat.{ℕ, ◌+◌, ◌≤◌}
use native.Mathlib.Omega.{arith}
use borrow.Author.Tests.{eqb-true}
use lib.Dec.{eqb}
use Rattle.std.specs.Prelude.{Option, Some, None}
use Rattle.lists.proofs.Cases.{by_test, pick_told}
use Rattle.tape.specs.Numbers.{record_limit}
use Rattle.tape.specs.Objects.{Object, blocks_in, blocks_of, gap}
use Rattle.tape.proofs.Accepted.{clash}
use Rattle.signals.specs.Codes.{command_of, format_mode, write_mode}
use Rattle.signals.specs.declared.codes.Command.{Command}
use Rattle.signals.specs.declared.codes.Command.TheVariants as command
use Rattle.signals.specs.declared.packet.Header.{Header}
use Rattle.signals.specs.declared.packet.Packet.{Packet}
use Rattle.state.specs.declared.Tape.{Tape}
use Rattle.state.specs.declared.Unit.{Unit}
use Rattle.state.proofs.Tests.{neither}
use Rattle.moves.specs.Seeking.{sought}
use Rattle.moves.specs.declared.seeking.Sought.{Sought}
use Rattle.motions.specs.Parts.{laid_blocks}
use Rattle.motions.specs.Writes.{behind_gap, retried_under, retried_by, retried_by_under, written_at}
use Rattle.motions.specs.declared.parts.Laid.{Laid}
use Rattle.motions.specs.declared.parts.ObjectKind.{ObjectKind}
use Rattle.motions.specs.declared.parts.ObjectKind.TheVariants as kind
use Rattle.commands.specs.Commands.{carried_out, carried_out_under, formatted, formatted_under, laid_here, laying, written_by, written_by_under}
use Rattle.commands.specs.Ends.{motion_plan}
use Rattle.commands.specs.declared.plans.Plan.{Plan}
use Rattle.storing.specs.Stored.{laid_object, laid_objects}
use Rattle.storing.proofs.Lengths.{blocks_laid}
use Rattle.advance.specs.Rules.{is_illegal, length_wrong, not_executable_under, reverse_first, writes}
use Rattle.advance.specs.Steps.{advanced}
use Rattle.demands.specs.Ways.{carried, header, packet, started}
use Rattle.demands.proofs.Ways.{advanced_is}
use Rattle.kept.specs.Leaving.{WriteRuns, is_mark, object_for}
use Rattle.kept.specs.NoRoom.{Found, found_mark, found_record}
use Rattle.kept.proofs.Carrying.{RightCount}
use Rattle.kept.proofs.Lengths.{right_count}
use Rattle.kept.proofs.Writing.{RightLength}
use Rattle.std.specs.Prelude.{Result}
use Rattle.tape.specs.declared.Damage.{Damage}

-- the commands that write, by code and mode
data Writer (code mode : ℕ) : Option Command → Type 0 where
  write : code ≡ 5 → mode ≡ 0 → Writer code mode (Some command.Write)
  write_retry : code ≡ 5 → mode ≡ 2 → Writer code mode (Some command.WriteRetry)
  write_mark : code ≡ 9 → mode ≡ 0 → Writer code mode (Some command.WriteMark)
  erase : code ≡ 9 → mode ≡ 1 → Writer code mode (Some command.Erase)
  mark_retry : code ≡ 9 → mode ≡ 2 → Writer code mode (Some command.MarkRetry)

-- codes 5 and 9 in a mode that is not illegal
module _ (code mode : ℕ) where
  -- a command that is illegal or of the writers
  abbrev Legally : Option Command → Type 0
  Legally c = is_illegal c ≡ false → Writer code mode c

  illegally : Legally None
  unfolding is_illegal
  illegally e = absurd (true≢false e)

  writes_record : code ≡ 5 → Legally (write_mode mode)
  unfolding write_mode
  writes_record c =
      pick_told Legally (eqb mode 0) _ _ (λ z e. write c (eqb-true mode 0 z)) (λ n.
      pick_told Legally (eqb mode 2) _ _ (λ z e. write_retry c (eqb-true mode 2 z)) (λ k. illegally))

  writes_format : code ≡ 9 → Legally (format_mode mode)
  unfolding format_mode
  writes_format c =
      pick_told Legally (eqb mode 0) _ _ (λ z e. write_mark c (eqb-true mode 0 z)) (λ n.
      pick_told Legally (eqb mode 1) _ _ (λ z e. erase c (eqb-true mode 1 z)) (λ k.
      pick_told Legally (eqb mode 2) _ _ (λ z e. mark_retry c (eqb-true mode 2 z)) (λ j. illegally)))

  five : code ≡ 5 → command_of code mode ≡ write_mode mode
  unfolding command_of
  five c = rw c

  nine : code ≡ 9 → command_of code mode ≡ format_mode mode
  unfolding command_of
  nine c = rw c

  five_or_nine : (eqb code 5 || eqb code 9) ≡ true → Legally (command_of code mode)
  five_or_nine w =
      by_test (eqb code 5) (λ t. let c = eqb-true code 5 t in rw (five c) (writes_record c))
      (λ f. let c = eqb-true code 9 (rw f at w) in rw (nine c) (writes_format c))

module _ (v : Unit) (m s : List ℕ) (h : Header) (p : Packet) where
  -- q is the motion that lays one object of this kind, as asked, where the tape stands or, in mode 2, behind a retry's gap
  pub record Lay (q : Plan) : Type 0 where
    pub kind : ObjectKind
    pub pointer : ℕ
    pub count : ℕ
    pub swb : Bool
    pub mark : Bool
    pub object : laid_object m (laid_here v.tape kind pointer count swb) kind ≡ object_for m h p ∷ []
    pub marked : mark ≡ is_mark (object_for m h p)
    pub right : RightLength kind count
    pub short : count ≤ record_limit
    pub plan : q ≡ motion_plan v h.ie (laying s v.tape v.lengths.blocks (laid_here v.tape kind pointer count swb) mark (eqb h.mode 2))

  lays_record : (again : Bool) → h.code ≡ 5 → eqb h.mode 2 ≡ again → (1 ≤ p.count) × (p.count ≤ record_limit) → Lay (written_by v s h p again)
  unfolding written_by_under laid_object
  lays_record again c a r =
      record { kind = kind.Record; pointer = p.pointer; count = p.count; swb = h.swb; mark = false; object = rw c; marked = rw c; right = λ e. r; short = r.1; plan = rw a }

  lays_format : (k : ObjectKind) (mark again : Bool) → h.code ≡ 9 → eqb h.mode 2 ≡ again → laid_object m (laid_here v.tape k 0 0 false) k ≡ object_for m h p ∷ [] → mark ≡ is_mark (object_for m h p) → (k ≡ kind.Record → ⊥) → Lay (formatted v s h k mark again)
  unfolding formatted_under
  lays_format k mark again c a o i f =
      record { kind = k; pointer = 0; count = 0; swb = false; mark = mark; object = o; marked = i; right = λ e. absurd (f e); short = omega arith; plan = rw a }

  lays_by : {c : Option Command} → Writer h.code h.mode c → RightCount c p.count → Lay (carried_out v m s h p c)
  unfolding carried_out_under laid_object
  lays_by (write c z) r = lays_record false c (rw z) r
  lays_by (write_retry c z) r = lays_record true c (rw z) r
  lays_by (write_mark c z) r = lays_format kind.Mark true false c (rw z) (rw (c, z)) (rw (c, z)) (λ e. clash (cc))
  lays_by (erase c z) r = lays_format kind.Gap false false c (rw z) (rw (c, z)) (rw (c, z)) (λ e. clash (cc))
  lays_by (mark_retry c z) r = lays_format kind.Mark true true c (rw z) (rw (c, z)) (rw (c, z)) (λ e. clash (cc))

  pub lays_one : writes h ≡ true → is_illegal (command_of h.code h.mode) ≡ false → RightCount (command_of h.code h.mode) p.count → Lay (carried_out v m s h p (command_of h.code h.mode))
  lays_one w l r = lays_by (five_or_nine h.code h.mode w l) r

-- an advance that carries out a Write or Format lays the object that is asked for
pub advance_lays : (u : Unit) (m s : List ℕ) → WriteRuns u m s → Lay (started u m s) m s (header u m s) (packet u m s) (advanced u m s)
unfolding not_executable_under
advance_lays u m s w =
    let h = header u m s in
    let p = packet u m s in
    let known = (neither (not h.plain) (is_illegal (command_of h.code h.mode)) w.runs.fetched.known).1 in
    let long = (neither (reverse_first h && eqb u.tape.position 0) (length_wrong h p.count) w.runs.executable).1 in
    rw (advanced_is u m s (carried w.runs w.inside)) (lays_one (started u m s) m s h p w.write known (right_count h p.count long))

-- a retry lays the same object, behind a gap
behind : (m : List ℕ) (l : Laid) (q : ℕ) (k : ObjectKind) → laid_object m (behind_gap l q) k ≡ laid_object m l k
unfolding laid_object behind_gap
behind m l q kind.Nothing = refl
behind m l q kind.Mark = refl
behind m l q kind.Gap = refl
behind m l q kind.Record = refl

pub gap_and_object : (m : List ℕ) (l : Laid) (q : ℕ) {o : Object} → laid_object m l l.object ≡ o ∷ [] → laid_objects m (behind_gap l q) ≡ gap ∷ (o ∷ [])
unfolding laid_objects behind_gap
gap_and_object m l q e = ap (λ (os : List Object). gap ∷ os) (behind m l q l.object ∙ e)

-- a retry whose search found something lays it where the search stopped
found_again : (t : Tape) (blocks : ℕ) (l : Laid) (mark : Bool) {at : ℕ} {f : Result Sought Damage} → Found at f → retried_by t blocks l mark f ≡ written_at t blocks (behind_gap l at) mark
unfolding retried_by_under
found_again t blocks l mark found_record = refl
found_again t blocks l mark found_mark = refl

-- a plan that lays the object asked for: what it lays, how many blocks that is, and where
module _ (v : Unit) (m s : List ℕ) (h : Header) (p : Packet) {q : Plan} (y : Lay v m s h p q) where
  abbrev pub Here : Laid
  Here = laid_here v.tape y.kind y.pointer y.count y.swb

  pub here_blocks : laid_blocks Here ≡ blocks_in (object_for m h p)
  unfolding laid_objects blocks_of
  here_blocks = omega (arith, blocks_laid m Here, ap blocks_of y.object)

  pub again_blocks : (at : ℕ) → laid_blocks (behind_gap Here at) ≡ blocks_in (object_for m h p) + 1
  unfolding blocks_of blocks_in
  again_blocks at = omega (arith, blocks_laid m (behind_gap Here at), ap blocks_of (gap_and_object m Here at y.object))

  pub here_plan : eqb h.mode 2 ≡ false → q ≡ motion_plan v h.ie (written_at v.tape v.lengths.blocks Here y.mark)
  here_plan e = rw (y.plan, e)

  pub again_plan : {at : ℕ} → h.mode ≡ 2 → Found at (sought s true v.tape.position v.tape.end) → q ≡ motion_plan v h.ie (written_at v.tape v.lengths.blocks (behind_gap Here at) y.mark)
  unfolding retried_under
  again_plan e found = rw (y.plan, e, found_again v.tape v.lengths.blocks Here y.mark found)
