-- Bytes, high byte first, and back: over the number of bytes. Assumes nothing.
use mathlib.Core.Path.{◌≡◌, refl, sym, ap, ap₂, ◌∙◌, subst⁻¹}
use mathlib.Core.List.{List, [], ◌∷◌, ◌++◌}
use Prim.Native.Nat.{ℕ, zero, suc, ◌+◌, ◌*◌, ◌/◌, ◌%◌, ◌^◌, ◌<◌}
use native.Mathlib.Nat.{mod-one, mod-lt, mod-eq_of_lt, div-div-eq-div-mul, zero-mul, zero-add, suc-add, add-zero, mul-one, add-mul, mul_assoc}
use native.Mathlib.Omega.{arith}
use lib.Arith.{digits_mod, digits_lt}
use lib.Dec.{lit<}
use lib.ListN.{length, get_or}
use lib.Pow.{pow-add, mod-pow-add, high}
use Rattle.words.specs.HighFirst.{high_first, joined, from_high_first}

pub length_high_first : (k n : ℕ) → length (high_first k n) ≡ k
length_high_first zero n = refl
length_high_first (suc k) n = ap suc (length_high_first k n)

-- One byte more is a factor of 256 more.
more : (k : ℕ) → 2 ^ (8 * suc k) ≡ 256 * 2 ^ (8 * k)
more k = ap (λ (n : ℕ). 2 ^ n) (omega arith) ∙ pow-add 2 8 (8 * k)

-- (b * 256 + h) * p + r, opened.
opened : (b h p r : ℕ) → (b * 256 + h) * p + r ≡ b * (256 * p) + (h * p + r)
opened b h p r =
    let e : (b * 256 + h) * p ≡ b * (256 * p) + h * p = add-mul (b * 256) h p ∙ ap (λ (n : ℕ). n + h * p) (mul_assoc b 256 p) in
    omega arith

joined_high_first : (k before n : ℕ) → joined before (high_first k n) ≡ before * 2 ^ (8 * k) + n % 2 ^ (8 * k)
joined_high_first zero before n = sym (ap₂ (λ (x y : ℕ). x + y) (mul-one before) (mod-one n) ∙ add-zero before)
joined_high_first (suc k) before n =
    let p = 2 ^ (8 * k) in
    joined_high_first k (before * 256 + n / p % 256) n
    ∙ opened before (n / p % 256) p (n % p)
    ∙ sym (ap₂ (λ (x y : ℕ). before * x + y) (more k) (ap (λ (x : ℕ). n % 2 ^ x) (omega arith) ∙ mod-pow-add n 8 (8 * k)))

-- What was written is read back.
pub high_first_back : (k n : ℕ) → n < 2 ^ (8 * k) → from_high_first (high_first k n) ≡ n
high_first_back k n h = joined_high_first k 0 n ∙ ap₂ (λ (x y : ℕ). x + y) (zero-mul (2 ^ (8 * k))) (mod-eq_of_lt h) ∙ zero-add n

-- Bytes are below 256.
abbrev pub AreBytes : List ℕ → Type 0
AreBytes bs = (i : ℕ) → get_or bs i 0 < 256

-- What is read is below 256 for each byte, and what stood before it is carried along.
joined_parts : (before : ℕ) (bs : List ℕ) → AreBytes bs
    → (joined before bs ≡ before * 2 ^ (8 * length bs) + from_high_first bs) × (from_high_first bs < 2 ^ (8 * length bs))
joined_parts before [] small = (sym (add-zero (before * 1) ∙ mul-one before), omega arith)
joined_parts before (b ∷ bs) small =
    let p = 2 ^ (8 * length bs) in
    let rest = joined_parts (before * 256 + b) bs (λ i. small (suc i)) in
    let lead = joined_parts (0 * 256 + b) bs (λ i. small (suc i)) in
    let last : joined (0 * 256 + b) bs ≡ b * p + from_high_first bs = lead.0 ∙ ap (λ (x : ℕ). x * p + from_high_first bs) (zero-add b) in (
      rest.0 ∙ opened before b p (from_high_first bs) ∙ ap₂ (λ (x y : ℕ). before * x + y) (sym (more (length bs))) (sym last),
      subst⁻¹ (λ (x : ℕ). x < 2 ^ (8 * suc (length bs))) last
          (subst⁻¹ (λ (x : ℕ). b * p + from_high_first bs < x) (more (length bs)) (digits_lt (small 0) rest.1)),
    )

pub from_high_first_lt : (bs : List ℕ) → AreBytes bs → from_high_first bs < 2 ^ (8 * length bs)
from_high_first_lt bs small = (joined_parts 0 bs small).1

again : (before : ℕ) (bs : List ℕ) → AreBytes bs → high_first (length bs) (joined before bs) ≡ bs
again before [] small = refl
again before (b ∷ bs) small =
    let k = 8 * length bs in
    let rest = joined_parts (before * 256 + b) bs (λ i. small (suc i)) in
    ap₂ (λ (x : ℕ) (xs : List ℕ). x ∷ xs)
    (ap (λ (n : ℕ). n / 2 ^ k % 256) rest.0 ∙ ap (λ (n : ℕ). n % 256) (high (before * 256 + b) k rest.1) ∙ digits_mod before (small 0))
    (again (before * 256 + b) bs (λ i. small (suc i)))

-- What was read is written back.
pub from_high_first_back : (bs : List ℕ) → AreBytes bs → high_first (length bs) (from_high_first bs) ≡ bs
from_high_first_back bs small = again 0 bs small

high_first_bytes : (k n : ℕ) → AreBytes (high_first k n)
high_first_bytes zero n i = lit< tt
high_first_bytes (suc k) n zero = mod-lt (n / 2 ^ (8 * k)) (lit< tt)
high_first_bytes (suc k) n (suc i) = high_first_bytes k n i

-- Two numbers written after one another are one number's bytes: the first counts for what the second's bytes can hold.
module _ (k a b : ℕ) (h : b < 2 ^ (8 * k)) where
  pub high_first_two : (j : ℕ) → high_first (j + k) (a * 2 ^ (8 * k) + b) ≡ high_first j a ++ high_first k b
  high_first_two zero =
      let whole : joined a (high_first k b) ≡ a * 2 ^ (8 * k) + b =
      joined_high_first k a b ∙ ap (λ (n : ℕ). a * 2 ^ (8 * k) + n) (mod-eq_of_lt h) in
      ap₂ high_first (zero-add k ∙ sym (length_high_first k b)) (sym whole) ∙ again a (high_first k b) (high_first_bytes k b)
  high_first_two (suc j) =
      let n = a * 2 ^ (8 * k) + b in
      let place : 2 ^ (8 * (j + k)) ≡ 2 ^ (8 * k) * 2 ^ (8 * j) = ap (λ (x : ℕ). 2 ^ x) (omega arith) ∙ pow-add 2 (8 * k) (8 * j) in
      let first : n / 2 ^ (8 * (j + k)) ≡ a / 2 ^ (8 * j) =
      ap (λ (x : ℕ). n / x) place ∙ sym (div-div-eq-div-mul n (2 ^ (8 * k)) (2 ^ (8 * j))) ∙ ap (λ (x : ℕ). x / 2 ^ (8 * j)) (high a (8 * k) h) in
      rw suc-add (ap₂ (λ (x : ℕ) (xs : List ℕ). x % 256 ∷ xs) first (high_first_two j))
