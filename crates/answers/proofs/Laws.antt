-- Laws of answers: an answer's bytes as one number's, room with them in front, and that an answer comes back from its bytes.
-- Assumes nothing.
use mathlib.Core.Path.{◌≡◌, ap, ap₂, ◌∙◌}
use mathlib.Core.List.{List}
use Prim.Native.Nat.{ℕ, ◌+◌, ◌-◌, ◌*◌, ◌^◌, ◌≤◌, ◌<◌}
use native.Mathlib.Omega.{arith}
use lib.IntN.{ℤ}
use lib.ListN.{length}
use borrow.Author.Tests.{le-ltb}
use Rattle.error.specs.Answer.{answer}
use Rattle.words.specs.HighFirst.{high_first}
use Rattle.words.specs.Signed.{to_signed, from_signed, SignedFits}
use Rattle.words.proofs.HighFirst.{high_first_back, high_first_two}
use Rattle.words.proofs.Signed.{from_signed_lt, to_from_signed}
use Rattle.high_first.specs.Place.{placed}
use Rattle.high_first.proofs.Placed.{in_front}
use Rattle.answers.specs.Answer.{answer_bytes, decode_answer, written}

-- Code and value are the bytes of one number: the greatest answer with the code, without what the value is short.
pub as_one : (code : ℤ) (value greatest : ℕ) → value < 2 ^ 32 → greatest ≡ from_signed 31 code * 2 ^ 32 + 0xffff_ffff
    → high_first 8 (greatest - (0xffff_ffff - value)) ≡ answer_bytes code value
unfolding answer_bytes
as_one code value greatest fits e =
    let both : greatest - (0xffff_ffff - value) ≡ from_signed 31 code * 2 ^ 32 + value = omega (arith, fits, e) in
    ap (high_first 8) both ∙ high_first_two 4 (from_signed 31 code) value fits 4

-- Room that has an answer's bytes in front.
pub over_the_front : (code : ℤ) (value : ℕ) (room : List ℕ) → 8 ≤ length room
    → placed 0 (answer_bytes code value) room ≡ written (answer_bytes code value) room
unfolding written answer_bytes
over_the_front code value room fits = in_front (answer_bytes code value) room fits ∙ rw (le-ltb (length room) 8 fits)

-- An answer's bytes give its code back, whatever its value.
pub code_back : (code : ℤ) (value : ℕ) → SignedFits 31 code → (decode_answer (answer_bytes code value)).code ≡ code
unfolding decode_answer answer_bytes
code_back code value h = ap (to_signed 31) (high_first_back 4 (from_signed 31 code) (from_signed_lt 31 code h)) ∙ to_from_signed 31 code h

-- An answer's bytes give its code and its value back.
pub answer_back : (code : ℤ) (value : ℕ) → SignedFits 31 code → value < 2 ^ 32 → decode_answer (answer_bytes code value) ≡ answer code value
unfolding decode_answer answer_bytes
answer_back code value h k = ap₂ (λ (c : ℤ) (v : ℕ). answer c v) (code_back code value h) (high_first_back 4 value k)
