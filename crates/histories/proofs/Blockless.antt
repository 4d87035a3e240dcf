-- A step back over a row reads no block: none of its refusals names one.
use mathlib.Core.Path.{◌≡◌, refl}
use mathlib.Core.List.{List}
use Prim.Native.Nat.{ℕ}
use Rattle.std.specs.Prelude.{Result, Ok, Err, ⊤, ◌||◌, not, eqb, ltb}
use Rattle.std.specs.List.{list_any}
use Rattle.lists.specs.Pick.{Always, pick}
use Rattle.state.specs.Refusals.{block_of, fault_of}
use Rattle.state.specs.declared.refusal.Refusal.{Refusal}
use Rattle.state.specs.declared.refusal.Refusal.TheVariants as refusal
use Rattle.state.proofs.Tests.{either}
use Rattle.state.proofs.Behind.{behind_told}
use Rattle.entries.specs.Entries.{entry_bare, transports}
use Rattle.worlds.specs.Rows.{back_refusal, coupler_wrong, reel_seat_wrong, row_checked, standing_in, state_seat_wrong}
use Rattle.worlds.specs.declared.Coupler.{Coupler}
use Rattle.worlds.specs.declared.Seat.{Seat}

abbrev pub Blockless : Result ⊤ Refusal → Type 0
Blockless (Ok u) = Always
Blockless (Err r) = (block_of r ≡ 0) × (fault_of r ≡ 0)

module _ (c : Coupler) (row : List Seat) (memory journal : ℕ) where
  row_blockless : Blockless (row_checked c row memory journal)
  unfolding row_checked block_of fault_of
  row_blockless =
      let fourth : Result ⊤ Refusal = pick (not (eqb journal c.journal)) (Err refusal.Journal) (Ok tt) in
      let third : Result ⊤ Refusal = pick (list_any reel_seat_wrong row) (Err refusal.Reel) fourth in
      let second : Result ⊤ Refusal = pick (not (eqb memory c.memory)) (Err refusal.Memory) third in
      either Blockless (coupler_wrong c || list_any (state_seat_wrong c.memory) row) (Err refusal.State) second (refl, refl)
      (either Blockless (not (eqb memory c.memory)) (Err refusal.Memory) third (refl, refl)
      (either Blockless (list_any reel_seat_wrong row) (Err refusal.Reel) fourth (refl, refl)
      (either Blockless (not (eqb journal c.journal)) (Err refusal.Journal) (Ok tt) (refl, refl) tt)))

  pub back_blockless : (k : ℕ) → Blockless (back_refusal c row memory journal k)
  unfolding back_refusal block_of fault_of
  back_blockless k =
      let last : Result ⊤ Refusal = pick (ltb c.used entry_bare || not (eqb k transports || standing_in row k)) (Err refusal.Entry) (Ok tt) in
      let rest : Result ⊤ Refusal = pick (eqb c.used 0) (Err refusal.Empty) last in
      behind_told Blockless (row_checked c row memory journal) (λ r. Err r) rest
      (λ r t. rw t at row_blockless)
      (λ t. either Blockless (eqb c.used 0) (Err refusal.Empty) last (refl, refl) (either Blockless (ltb c.used entry_bare || not (eqb k transports || standing_in row k)) (Err refusal.Entry) (Ok tt) (refl, refl) tt))
