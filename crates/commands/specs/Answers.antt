-- The answers of the calls, and the paper's numbers.
use Rattle.std.specs.Prelude.{Bool, true, false, ℕ, Result, Ok, Err}
use Rattle.state.specs.Refusals.{block_of, fault_of, refusal_number}
use Rattle.tape.specs.declared.BlockFault.{BlockFault}
use Rattle.state.specs.declared.refusal.Refusal.{Refusal}
use Rattle.state.specs.declared.refusal.Refusal.TheVariants as refusal
use Rattle.commands.specs.declared.plans.Done.{Done}
use Rattle.commands.specs.declared.plans.Done.TheVariants as answer

abbrev pub Answer : Type 0
Answer = Result Done Refusal

-- refusal 7, with the fault beside the block
abbrev pub bad_block : BlockFault → ℕ → Answer
bad_block why k = Err (refusal.BadBlock (record { fault = why; block = k }))

-- the paper's number of an answer (Idle is no refusal)
unfoldable pub number_of : Answer → ℕ
number_of (Ok d) = 0
number_of (Err r) = refusal_number r

-- "answered 0 it adds one entry", "Advance .. answers Idle .., and is no step taken"
unfoldable pub is_step : Answer → Bool
is_step (Ok (answer.Step i)) = true
is_step (Ok answer.Idle) = false
is_step (Err r) = false

-- "its answer says whether it interrupts"
unfoldable pub interrupt_in : Answer → Bool
interrupt_in (Ok (answer.Step i)) = i
interrupt_in (Ok answer.Idle) = false
interrupt_in (Err r) = false

-- "7 a block .. is damaged or out of place (its number is given)"
unfoldable pub block_in : Answer → ℕ
block_in (Ok d) = 0
block_in (Err r) = block_of r

-- "7 keeps its place and carries the fault beside the block" (02, [4]): its letter, and 0 with any other answer
unfoldable pub fault_in : Answer → ℕ
fault_in (Ok d) = 0
fault_in (Err r) = fault_of r
