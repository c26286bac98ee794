-- Upstream's clauses of cpu_mask.rs, each as a lemma about the rules here. The pin test counts ones; upstream's two other forms of it, the
-- list of powers and `m != 0 && m & (m - 1) == 0`, are the same test (`Ones` of words, over the width). Assumes nothing.
use mathlib.Core.Path.{◌≡◌, refl, sym, ap, ◌∙◌}
use mathlib.Core.Logic.{◌⊎◌, inl, inr}
use mathlib.Core.Bool.{Bool, true, false, ◌&&◌, ◌||◌, not, cond}
use mathlib.Core.List.{List, [], ◌∷◌}
use Prim.Native.Nat.{ℕ, ◌-◌, ◌^◌, ◌≤◌, ◌<◌}
use native.Mathlib.Omega.{arith}
use lib.Bits.{bit_and, bit_or}
use lib.Dec.{eqb, leb, ltb}
use borrow.Author.Tests.{le-ltb, lt-leb, le-leb}
use Rattle.error.specs.Codes.{OK, EINVAL}
use Rattle.error.specs.Answer.{Answer, answer}
use Rattle.words.specs.Bit.{bit_not, power_below}
use Rattle.words.proofs.Choice.{bool_ind, below_or}
use Rattle.words.proofs.Ones.{ones_listed, ones_lowest, power_listed}
use Rattle.cpu_mask.specs.Mask.{mask_bits, new_mask, validate_pin_mask, cpu_mask_mod, cpu_pin_compute}
use Rattle.cpu_mask.proofs.Laws.{new_mask_fits, mask_mod_only_then, mask_mod_running, pin_only_then}

-- is_power_of_two: the mask is one of these.
unfoldable pub powers : List ℕ
powers =
    2147483648 ∷ 1073741824 ∷ 536870912 ∷ 268435456 ∷ 134217728 ∷ 67108864 ∷ 33554432 ∷ 16777216
    ∷ 8388608 ∷ 4194304 ∷ 2097152 ∷ 1048576 ∷ 524288 ∷ 262144 ∷ 131072 ∷ 65536
    ∷ 32768 ∷ 16384 ∷ 8192 ∷ 4096 ∷ 2048 ∷ 1024 ∷ 512 ∷ 256
    ∷ 128 ∷ 64 ∷ 32 ∷ 16 ∷ 8 ∷ 4 ∷ 2 ∷ 1 ∷ []

unfoldable pub is_one_of : List ℕ → ℕ → Bool
is_one_of [] m = false
is_one_of (p ∷ ps) m = eqb m p || is_one_of ps m

pub pin_test_is_listed : (m : ℕ) → m < 2 ^ mask_bits → validate_pin_mask m ≡ is_one_of powers m
unfolding powers is_one_of power_below
pin_test_is_listed m h = ones_listed mask_bits m h

-- validate_pin_mask.
pub pin_test_is_lowest : (m : ℕ) → m < 2 ^ mask_bits → validate_pin_mask m ≡ not (eqb m 0) && eqb (bit_and m (m - 1)) 0
pin_test_is_lowest m h = sym (ones_lowest mask_bits m h)

-- compute_mask, and cpu_mask_mod's third property CM3: on success the mask is the formula.
pub mask_mod_is_formula : (current enable disable : ℕ) (running pinOnly : Bool) (m : ℕ) → cpu_mask_mod current enable disable running pinOnly ≡ answer OK m
    → m ≡ bit_and (bit_or current enable) (bit_not 32 disable)
mask_mod_is_formula current enable disable running pinOnly m e = (mask_mod_only_then current enable disable running pinOnly m e).2

-- CM1: a running thread gets EINVAL.
pub mask_mod_refuses_running : (current enable disable : ℕ) (pinOnly : Bool) → (cpu_mask_mod current enable disable true pinOnly).code ≡ EINVAL
mask_mod_refuses_running current enable disable pinOnly = ap (λ (a : Answer ℕ). a.code) (mask_mod_running current enable disable pinOnly)

-- CM2: on success with pin-only exactly one bit is set.
pub mask_mod_pins : (current enable disable m : ℕ) → current < 2 ^ mask_bits → enable < 2 ^ mask_bits
    → cpu_mask_mod current enable disable false true ≡ answer OK m → not (eqb m 0) && eqb (bit_and m (m - 1)) 0 ≡ true
mask_mod_pins current enable disable m hc he e =
    let only = mask_mod_only_then current enable disable false true m e in
    ap (λ (x : ℕ). not (eqb x 0) && eqb (bit_and x (x - 1)) 0) only.2
    ∙ sym (pin_test_is_lowest (new_mask current enable disable) (new_mask_fits current enable disable hc he))
    ∙ only.1 refl

-- The code is OK or EINVAL.
pub mask_mod_codes : (current enable disable : ℕ) (running pinOnly : Bool)
    → ((cpu_mask_mod current enable disable running pinOnly).code ≡ OK) ⊎ ((cpu_mask_mod current enable disable running pinOnly).code ≡ EINVAL)
unfolding cpu_mask_mod
mask_mod_codes current enable disable true pinOnly = inr refl
mask_mod_codes current enable disable false pinOnly =
    bool_ind
    (λ b.
    let a = cond b (answer EINVAL current) (answer OK (new_mask current enable disable)) in
    (a.code ≡ OK) ⊎ (a.code ≡ EINVAL))
    (pinOnly && not (validate_pin_mask (new_mask current enable disable))) (λ _. inr refl) (λ _. inl refl)

-- cpu_pin_compute: out of bounds is an error, and the error is EINVAL.
pub pin_out_of_bounds : (cpu max : ℕ) → (max ≤ cpu) ⊎ (32 < max) → cpu_pin_compute cpu max ≡ answer EINVAL 0
unfolding cpu_pin_compute
pin_out_of_bounds cpu max (inr h) = rw (lt-leb max mask_bits h)
pin_out_of_bounds cpu max (inl h) = by (below_or mask_bits max)
  where
    by : (mask_bits < max) ⊎ (max ≤ mask_bits) → cond (leb max mask_bits && ltb cpu max) (answer OK (2 ^ cpu)) (answer EINVAL 0) ≡ answer EINVAL 0
    by (inl large) = rw (lt-leb max mask_bits large)
    by (inr small) = simp (le-leb max mask_bits small, le-ltb cpu max h)

-- Success: the CPU is below 32, and the mask is one of the powers of two.
pub pin_is_power : (cpu max m : ℕ) → cpu_pin_compute cpu max ≡ answer OK m → (cpu < 32) × (is_one_of powers m ≡ true)
unfolding powers is_one_of power_below
pin_is_power cpu max m e =
    let only = pin_only_then cpu max m e in
    let below : cpu < 32 = omega (arith, only.0, only.1) in
    (below, ap (power_below mask_bits) only.2 ∙ power_listed mask_bits cpu below)
