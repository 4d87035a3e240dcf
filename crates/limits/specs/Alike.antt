-- "Every reel stored under the old limit reads the same, only its EOT bit may come earlier" (02, [7]): what is the same of two advances, and what may
-- differ of their messages and of the memory that they leave.
use Rattle.std.specs.Prelude.{List, [], ◌∷◌, ◌≡◌, ℕ, ◌+◌, ◌%◌, get_or, length}
use Rattle.signals.specs.Bits.{EOT}
use Rattle.commands.specs.declared.plans.Plan.{Plan}

-- a number, and the same with EOT, its lowest bit, where that was clear
pub data SoonerEot (w w' : ℕ) : Type 0 where
  as_before : w' ≡ w → SoonerEot w w'
  eot_now : w % 2 ≡ 0 → w' ≡ w + EOT → SoonerEot w w'

-- "Message: header, 10, residual, XST0, XST1 0, XST2 0, XST3": the same words, but for EOT in XST0
pub data SameButEot : List ℕ → List ℕ → Type 0 where
  same_words : {header ten residual xst0 xst0' xst1 xst2 xst3 : ℕ} → SoonerEot xst0 xst0'
      → SameButEot (header ∷ ten ∷ residual ∷ xst0 ∷ xst1 ∷ xst2 ∷ xst3 ∷ []) (header ∷ ten ∷ residual ∷ xst0' ∷ xst1 ∷ xst2 ∷ xst3 ∷ [])

-- memories m and m' that are the same but for EOT in the byte at a
pub record ButEotAt (a : ℕ) (m m' : List ℕ) : Type 0 where
  pub long : length m ≡ length m'
  pub elsewhere : (j : ℕ) → (j ≡ a → ⊥) → get_or m j 0 ≡ get_or m' j 0
  pub there : SoonerEot (get_or m a 0) (get_or m' a 0)

-- two advances: the same answer, state (its class and its position among it), data moved and blocks laid; a message goes out of both or of none
pub record ReadsAlike (q q' : Plan) : Type 0 where
  pub answer : q.answer ≡ q'.answer
  pub state : q.unit ≡ q'.unit
  pub moved : q.moved ≡ q'.moved
  pub laid : q.laid ≡ q'.laid
  pub sends : q.sends ≡ q'.sends
  pub message : SameButEot q.message q'.message
