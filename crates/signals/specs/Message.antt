-- "Message: header, 10, residual, XST0, XST1 0, XST2 0, XST3; 14 bytes." (01)
use Rattle.std.specs.Prelude.{ℕ, ◌+◌, ◌/◌, ◌%◌, Bool, List, [], ◌∷◌, ◌++◌, ◌==◌}
use Rattle.std.proofs.lemmas.List.Edits.{sets}
use Rattle.lists.specs.Pick.{pick}
use Rattle.lists.specs.Words.{word_bytes}
use Rattle.signals.specs.declared.message.End.{End}
use Rattle.signals.specs.declared.message.Status.{Status}
use Rattle.signals.specs.Bits.{BOT, EOT, IE, MOT, NEF, ONL, PED, VCK, WLK, bit}
use Rattle.signals.specs.Residuals.{residual_word}

abbrev pub message_bytes : ℕ
message_bytes = 14

abbrev pub flag_of : Bool → ℕ → ℕ
flag_of b w = pick b w 0

-- "MOT 7, ONL 6, IE 5, VCK 4, PED 3 (always 1), WLK 2, BOT 1, EOT 0"
abbrev pub status_byte : Status → ℕ
status_byte s =
    flag_of s.mot MOT + flag_of s.onl ONL + flag_of s.ie IE + flag_of s.vck VCK + PED + flag_of s.wlk WLK
    + flag_of s.bot BOT
    + flag_of s.eot EOT

-- XST0: what was found and the unit's condition, in one word of 16 bits
abbrev pub xst0_of : ℕ → Status → ℕ
xst0_of found s = (found + status_byte s) % bit 16

abbrev pub has_nef : ℕ → Bool
has_nef found = found / NEF % 2 == 1

-- "Headers: 8010 hex class 0 and 2; 8111 class 3; 8211 class 3 with NEF; 8012 classes 5, 6; 0013 attention."
unfoldable pub header_word : ℕ → Bool → ℕ
header_word class nef =
    pick (class == 0) 0x8010
    (pick (class == 2) 0x8010
    (pick (class == 1) 0x0013
    (pick (class == 3) (pick nef 0x8211 0x8111) 0x8012)))

unfoldable pub message_of : End → Status → List ℕ
message_of e s =
    header_word e.class (has_nef e.found) ∷ 10 ∷ residual_word e.residual ∷ xst0_of e.found s ∷ 0 ∷ 0 ∷ e.xst3 ∷ []

-- words as bytes in memory
unfoldable pub words_bytes : List ℕ → List ℕ
words_bytes [] = []
words_bytes (w ∷ ws) = word_bytes w ++ words_bytes ws

-- memory m after the message's words went to address a
unfoldable pub messaged : List ℕ → ℕ → List ℕ → List ℕ
messaged m a words = sets m a (words_bytes words)
