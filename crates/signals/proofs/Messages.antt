-- Laws of a message's words: XST0, and as bytes how many there are, that each is a byte, and how one word more is stored.
-- (The name `Message` is taken: rattle makes a module `message` of the source.)
use Rattle.std.proofs.Common.{◌≡◌, ℕ, zero, suc, ◌+◌, ◌*◌, ◌<◌, ◌≤◌, Bool, true, false, List, [], ◌∷◌, ◌++◌, length, get_or, take, refl, add-one, arith, length-take-le, take-suc}
use lib.Seq.{sets, length-sets}
use Rattle.lists.specs.Words.{Bytes, word_bytes}
use Rattle.lists.proofs.Stores.{sets_at}
use Rattle.signals.specs.declared.message.End.{End}
use Rattle.signals.specs.declared.message.Status.{Status}
use Rattle.signals.specs.Bits.{BOT, EOT, IE, MOT, ONL, VCK, WLK}
use Rattle.signals.specs.Message.{flag_of, message_of, messaged, status_byte, words_bytes, xst0_of}

flag_most : (b : Bool) (w : ℕ) → flag_of b w ≤ w
flag_most true w = omega arith
flag_most false w = omega arith

status_most : (s : Status) → status_byte s ≤ 0xFF
status_most s =
    omega (arith, flag_most s.mot MOT, flag_most s.onl ONL, flag_most s.ie IE, flag_most s.vck VCK, flag_most s.wlk WLK, flag_most s.bot BOT, flag_most s.eot EOT)

-- where what was found leaves the low byte to the unit's condition, XST0 is the sum of the two
pub xst0_sum : (found : ℕ) (s : Status) → found ≤ 0xFF00 → xst0_of found s ≡ found + status_byte s
xst0_sum found s h = omega (arith, status_most s)

-- how many there are
pub length_words : (ws : List ℕ) → length (words_bytes ws) ≡ 2 * length ws
unfolding words_bytes
length_words [] = refl
length_words (w ∷ ws) = omega (arith, length_words ws)

pub length_message : (e : End) (s : Status) → length (message_of e s) ≡ 7
unfolding message_of
length_message e s = refl

pub length_messaged : (m : List ℕ) (a : ℕ) (ws : List ℕ) → length (messaged m a ws) ≡ length m
unfolding messaged
length_messaged m a ws = length-sets m a (words_bytes ws)

-- words below 65536 give bytes
pub bytes_words : (ws : List ℕ) → ((i : ℕ) → get_or ws i 0 < 65536) → Bytes (words_bytes ws)
unfolding words_bytes
bytes_words [] h i = omega arith
bytes_words (w ∷ ws) h zero = omega arith
bytes_words (w ∷ ws) h (suc zero) = omega (arith, h 0)
bytes_words (w ∷ ws) h (suc (suc i)) = bytes_words ws (λ j. h (suc j)) i

-- two runs of words are one
words_append : (vs ws : List ℕ) → words_bytes (vs ++ ws) ≡ words_bytes vs ++ words_bytes ws
unfolding words_bytes
words_append [] ws = refl
words_append (v ∷ vs) ws = rw (words_append vs ws)

-- one turn of the loop of `put_message`
pub word_more : (l ws : List ℕ) (a i : ℕ) → i < length ws → sets (sets l a (words_bytes (take i ws))) (a + 2 * i) (word_bytes (get_or ws i 0)) ≡ sets l a (words_bytes (take (i + 1) ws))
unfolding words_bytes
word_more l ws a i h =
    let e : length (words_bytes (take i ws)) ≡ 2 * i = rw (length_words, length-take-le i ws (omega arith)) in
    rw (add-one i, take-suc ws i 0, words_append (take i ws) (get_or ws i 0 ∷ [])) (sets_at (words_bytes (take i ws)) (word_bytes (get_or ws i 0)) l a (a + 2 * i) (rw e))
