-- A check lets pass or refuses: what stands behind it.
use mathlib.Core.Path.{◌≡◌, refl, ap}
use Rattle.std.specs.Prelude.{Result, Ok, Err, ⊤}
use Prim.Native.Nat.{ℕ, ◌≤◌}
use Rattle.lists.specs.Pick.{Always}
use Rattle.tape.specs.declared.BlockFault.{BlockFault}
use Rattle.tape.specs.declared.Damage.{Damage}
use Rattle.tape.proofs.Accepted.{clash}
use native.Mathlib.Omega.{arith}
use Rattle.state.specs.Refusals.{behind, block_of, by_block, fault_of, refusal_number}
use Rattle.state.specs.declared.refusal.Refusal.{Refusal}
use Rattle.state.specs.declared.refusal.Refusal.TheVariants as refusal

pub never : (r : Refusal) → ◌≡◌ {A = Result ⊤ Refusal} (Err r) (Ok tt) → ⊥
never r e = clash cc

-- a check has one refusal
pub same_err : (k l : Refusal) → ◌≡◌ {A = Result ⊤ Refusal} (Err k) (Err l) → k ≡ l
same_err k l e = ap (λ (x : Result ⊤ Refusal). behind x (λ r. r) k) e

-- two checks, the second behind the first
pub both_pass : (x y : Result ⊤ Refusal) → behind x (λ r. Err r) y ≡ Ok tt → (x ≡ Ok tt) × (y ≡ Ok tt)
both_pass (Ok p) y h = (refl, h)
both_pass (Err r) y h = absurd (never r h)

pub by_check : {P : Type 0} (x : Result ⊤ Refusal) → (x ≡ Ok tt → P) → ((r : Refusal) → x ≡ Err r → P) → P
by_check (Ok p) f g = f refl
by_check (Err r) f g = g r refl

-- what holds of a check's refusals and of what stands behind it holds of both together
pub behind_told : {A : Type 0} (P : A → Type 0) (c : Result ⊤ Refusal) (f : Refusal → A) (x : A) → ((r : Refusal) → c ≡ Err r → P (f r)) → (c ≡ Ok tt → P x) → P (behind c f x)
behind_told P (Ok p) f x g h = h refl
behind_told P (Err r) f x g h = g r refl

-- a fact of refusal 7, and another of every other refusal
abbrev pub InBlock : (BlockFault → ℕ → Type 0) → Type 0 → Refusal → Type 0
InBlock F G refusal.State = G
InBlock F G refusal.Memory = G
InBlock F G refusal.Reel = G
InBlock F G refusal.Journal = G
InBlock F G refusal.Store = G
InBlock F G refusal.Empty = G
InBlock F G (refusal.BadBlock d) = F d.fault d.block
InBlock F G refusal.Entry = G
InBlock F G refusal.Room = G
InBlock F G refusal.Table = G
InBlock F G refusal.Absent = G

pub in_block : {F F' : BlockFault → ℕ → Type 0} (G : Type 0) → ((why : BlockFault) (k : ℕ) → F why k → F' why k) → (r : Refusal) → InBlock F G r → InBlock F' G r
in_block G f refusal.State x = x
in_block G f refusal.Memory x = x
in_block G f refusal.Reel x = x
in_block G f refusal.Journal x = x
in_block G f refusal.Store x = x
in_block G f refusal.Empty x = x
in_block G f (refusal.BadBlock d) x = f d.fault d.block x
in_block G f refusal.Entry x = x
in_block G f refusal.Room x = x
in_block G f refusal.Table x = x
in_block G f refusal.Absent x = x

-- where there is no other
pub in_block_is : (r : Refusal) → InBlock (λ why k. Always) ⊥ r → (why : BlockFault) × (k : ℕ) × (r ≡ refusal.BadBlock (record { fault = why; block = k }))
in_block_is refusal.State x = absurd x
in_block_is refusal.Memory x = absurd x
in_block_is refusal.Reel x = absurd x
in_block_is refusal.Journal x = absurd x
in_block_is refusal.Store x = absurd x
in_block_is refusal.Empty x = absurd x
in_block_is (refusal.BadBlock d) x = (d.fault, d.block, refl)
in_block_is refusal.Entry x = absurd x
in_block_is refusal.Room x = absurd x
in_block_is refusal.Table x = absurd x
in_block_is refusal.Absent x = absurd x

-- a refusal's number is not 0, and one of 1 to 4 names no block
pub refusal_some : (r : Refusal) → refusal_number r ≡ 0 → ⊥
unfolding refusal_number
refusal_some refusal.State e = omega arith
refusal_some refusal.Memory e = omega arith
refusal_some refusal.Reel e = omega arith
refusal_some refusal.Journal e = omega arith
refusal_some refusal.Store e = omega arith
refusal_some refusal.Empty e = omega arith
refusal_some (refusal.BadBlock d) e = omega arith
refusal_some refusal.Entry e = omega arith
refusal_some refusal.Room e = omega arith
refusal_some refusal.Table e = omega arith
refusal_some refusal.Absent e = omega arith

pub few_block : (r : Refusal) → refusal_number r ≤ 4 → block_of r ≡ 0
unfolding refusal_number block_of
few_block refusal.State h = refl
few_block refusal.Memory h = refl
few_block refusal.Reel h = refl
few_block refusal.Journal h = refl
few_block refusal.Store h = refl
few_block refusal.Empty h = refl
few_block (refusal.BadBlock d) h = absurd (omega arith)
few_block refusal.Entry h = refl
few_block refusal.Room h = refl
few_block refusal.Table h = refl
few_block refusal.Absent h = refl

pub few_fault : (r : Refusal) → refusal_number r ≤ 4 → fault_of r ≡ 0
unfolding refusal_number fault_of
few_fault refusal.State h = refl
few_fault refusal.Memory h = refl
few_fault refusal.Reel h = refl
few_fault refusal.Journal h = refl
few_fault refusal.Store h = refl
few_fault refusal.Empty h = refl
few_fault (refusal.BadBlock d) h = absurd (omega arith)
few_fault refusal.Entry h = refl
few_fault refusal.Room h = refl
few_fault refusal.Table h = refl
few_fault refusal.Absent h = refl

-- any other refusal, as a branch knows it
pub by_other : {A : Type 0} (f : BlockFault → ℕ → A) (a : A) (r : Refusal) → ((d : Damage) → r ≡ refusal.BadBlock d → ⊥) → a ≡ by_block f a r
by_other f a refusal.State h = refl
by_other f a refusal.Memory h = refl
by_other f a refusal.Reel h = refl
by_other f a refusal.Journal h = refl
by_other f a refusal.Store h = refl
by_other f a refusal.Empty h = refl
by_other f a (refusal.BadBlock d) h = absurd (h d refl)
by_other f a refusal.Entry h = refl
by_other f a refusal.Room h = refl
by_other f a refusal.Table h = refl
by_other f a refusal.Absent h = refl
