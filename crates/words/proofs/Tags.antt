-- Laws of tags, over the tag's width k: the word gives back the CPU and the thread that made it, distinct pairs make distinct words, a word
-- is never 0, at least 2 ^ k and no wider than its thread's, and whatever is at least 2 ^ k was made by its own CPU and thread. The multiples
-- 2 ^ k * (t + 1) are words of threads, one each. Assumes nothing.
use mathlib.Core.Path.{◌≡◌, sym, ap, ◌∙◌}
use mathlib.Core.Logic.{◌⊎◌, inl, inr}
use mathlib.Core.Bool.{true, not}
use Prim.Native.Nat.{ℕ, suc, ◌+◌, ◌-◌, ◌*◌, ◌/◌, ◌%◌, ◌^◌, ◌≤◌, ◌<◌}
use native.Mathlib.Nat.{
  div-add-mod',
  mod-eq_of_lt,
  mod-eq-sub-mod,
  mod-lt,
  mod-le,
  mul-mod_left,
  mul-mod_right,
  mul-div_cancel_left,
  mul-le-mul_right,
  suc-mul,
  pos_of_ne-zero,
  lt_of_not-le,
  le_of_suc-le-suc,
}
use native.Mathlib.Omega.{arith}
use lib.Bits.{bit_and, bit_or, or_shifted, and_mask, and_high}
use lib.Dec.{eqb, ltb}
use lib.Pow.{pow_pos, pow-add, low, shr_lt, shr_mod}
use borrow.Author.Tests.{ltb-true, eqb-true, eqb-false, not-true, lt-ltb, eq-eqb, ne_eqb}
use Rattle.words.specs.Bit.{bit_not}
use Rattle.words.specs.Tag.{taggable, word_of, cpu_of, thread_of}
use Rattle.words.proofs.Choice.{below_or, same_or, and_left, and_right}

-- What `taggable` tests.
pub record Taggable (k cpu thread : ℕ) : Type 0 where
  pub below : cpu < 2 ^ k
  pub some : 0 < thread
  pub aligned : thread % 2 ^ k ≡ 0

pub taggable_says : (k cpu thread : ℕ) → taggable k cpu thread ≡ true → Taggable k cpu thread
taggable_says k cpu thread e =
    let rest = and_right (ltb cpu (2 ^ k)) _ e in
    record {
      below = ltb-true cpu (2 ^ k) (and_left (ltb cpu (2 ^ k)) _ e);
      some = pos_of_ne-zero (eqb-false thread 0 (not-true (eqb thread 0) (and_left (not (eqb thread 0)) _ rest)));
      aligned = eqb-true (thread % 2 ^ k) 0 (and_right (not (eqb thread 0)) _ rest);
    }

pub says_taggable : (k cpu thread : ℕ) → Taggable k cpu thread → taggable k cpu thread ≡ true
says_taggable k cpu thread t =
    rw (lt-ltb cpu (2 ^ k) t.below, ne_eqb thread 0 (λ e. omega (arith, t.some)), eq-eqb (thread % 2 ^ k) 0 t.aligned)

module _ (k cpu thread : ℕ) (t : Taggable k cpu thread) where
  whole : thread / 2 ^ k * 2 ^ k ≡ thread
  whole = omega (arith, t.aligned, div-add-mod' thread (2 ^ k))

  pub cpu_back : cpu_of k (word_of cpu thread) ≡ cpu
  cpu_back = ap (λ (n : ℕ). (n + cpu) % 2 ^ k) (sym whole) ∙ low (thread / 2 ^ k) k t.below

  pub thread_back : thread_of k (word_of cpu thread) ≡ thread
  thread_back = ap (λ (n : ℕ). thread + cpu - n) cpu_back ∙ omega arith

  pub word_some : word_of cpu thread ≡ 0 → ⊥
  word_some e = omega (arith, t.some)

  pub word_least : 2 ^ k ≤ word_of cpu thread
  word_least =
      let least : 2 ^ k ≤ thread = le_of_suc-le-suc (lt_of_not-le (λ (h : thread < 2 ^ k). omega (arith, mod-eq_of_lt h, t.aligned, t.some))) in
      omega arith

  -- It needs no more bits than the thread's word.
  pub word_fits : (j : ℕ) → thread < 2 ^ (j + k) → word_of cpu thread < 2 ^ (j + k)
  word_fits j h =
      let next : suc (thread / 2 ^ k) * 2 ^ k ≤ 2 ^ j * 2 ^ k = mul-le-mul_right (2 ^ k) (shr_lt j k h) in
      omega (arith, next, suc-mul (thread / 2 ^ k) (2 ^ k), pow-add 2 j k, whole, t.below)

  -- The sum is the `|` of the two: they have no bit in common.
  pub word_or : bit_or thread cpu ≡ word_of cpu thread
  word_or = ap (λ (n : ℕ). bit_or n cpu) (sym whole) ∙ or_shifted (thread / 2 ^ k) k cpu t.below ∙ ap (λ (n : ℕ). n + cpu) whole

-- A tag comes back from a sum exactly if what was added to it, below 2 ^ k as well, is 0.
pub tag_of_sum : (k part cpu : ℕ) → part < 2 ^ k → cpu < 2 ^ k → eqb ((part + cpu) % 2 ^ k) cpu ≡ eqb part 0
tag_of_sum k part cpu small below = by (same_or part 0)
  where
    moved : (part ≡ 0 → ⊥) → (part + cpu < 2 ^ k) ⊎ (2 ^ k ≤ part + cpu) → (part + cpu) % 2 ^ k ≡ cpu → ⊥
    moved some (inl fits) e = some (omega (arith, mod-eq_of_lt fits))
    moved some (inr past) e =
        let rest : part + cpu - 2 ^ k < 2 ^ k = omega arith in
        omega (arith, mod-eq-sub-mod past, mod-eq_of_lt rest)

    by : (part ≡ 0) ⊎ (part ≡ 0 → ⊥) → eqb ((part + cpu) % 2 ^ k) cpu ≡ eqb part 0
    by (inl none) =
        let same : part + cpu ≡ cpu = omega arith in
        eq-eqb ((part + cpu) % 2 ^ k) cpu (ap (λ (n : ℕ). n % 2 ^ k) same ∙ mod-eq_of_lt below) ∙ sym (eq-eqb part 0 none)
    by (inr some) = ne_eqb ((part + cpu) % 2 ^ k) cpu (moved some (below_or (part + cpu) (2 ^ k))) ∙ sym (ne_eqb part 0 some)

-- Distinct pairs make distinct words.
pub word_injective : (k c c' t t' : ℕ) → Taggable k c t → Taggable k c' t' → word_of c t ≡ word_of c' t' → (c ≡ c') × (t ≡ t')
word_injective k c c' t t' g g' e = (
  sym (cpu_back k c t g) ∙ ap (cpu_of k) e ∙ cpu_back k c' t' g',
  sym (thread_back k c t g) ∙ ap (thread_of k) e ∙ thread_back k c' t' g',
)

module _ (k word : ℕ) where
  parts : word / 2 ^ k * 2 ^ k ≡ thread_of k word
  parts = omega (arith, div-add-mod' word (2 ^ k))

  -- A word is what its own two parts make.
  pub word_again : word_of (cpu_of k word) (thread_of k word) ≡ word
  word_again = omega (arith, mod-le word (2 ^ k))

  -- From 2 ^ k on, those parts are a CPU and a thread that can make a word.
  pub parts_taggable : 2 ^ k ≤ word → Taggable k (cpu_of k word) (thread_of k word)
  parts_taggable h =
      let small : word % 2 ^ k < 2 ^ k = mod-lt word (pow_pos k) in
      record {
        below = small;
        some = omega arith;
        aligned = ap (λ (n : ℕ). n % 2 ^ k) (sym parts) ∙ mul-mod_left (word / 2 ^ k) (2 ^ k);
      }

  -- Upstream's `word & (2 ^ k - 1)`.
  pub cpu_mask : bit_and word (2 ^ k - 1) ≡ cpu_of k word
  cpu_mask = and_mask word k

-- Upstream's `word & !(2 ^ k - 1)`, at a width of j + k bits.
pub thread_by_mask : (j k word : ℕ) → word < 2 ^ (j + k) → bit_and word (bit_not (j + k) (2 ^ k - 1)) ≡ thread_of k word
thread_by_mask j k word h =
    let mask : bit_not (j + k) (2 ^ k - 1) ≡ 2 ^ (j + k) - 2 ^ k = omega (arith, pow_pos k) in
    ap (bit_and word) mask ∙ and_high word j k ∙ ap (λ (n : ℕ). n * 2 ^ k) (shr_mod j k h) ∙ parts k word

-- ---- thread t with the word 2 ^ k * (t + 1), which every CPU below 2 ^ k can tag

-- A CPU that the tag can hold and a thread's word make an owner word.
pub word_taggable : (k c t : ℕ) → c < 2 ^ k → Taggable k c (2 ^ k * (t + 1))
word_taggable k c t h = record { below = h; some = omega (arith, pow_pos k); aligned = mul-mod_right (2 ^ k) (t + 1) }

-- The CPU in it.
pub word_has_cpu : (k c t : ℕ) → c < 2 ^ k → cpu_of k (word_of c (2 ^ k * (t + 1))) ≡ c
word_has_cpu k c t h = cpu_back k c (2 ^ k * (t + 1)) (word_taggable k c t h)

-- The thread's word in it.
pub word_thread : (k c t : ℕ) → c < 2 ^ k → thread_of k (word_of c (2 ^ k * (t + 1))) ≡ 2 ^ k * (t + 1)
word_thread k c t h = thread_back k c (2 ^ k * (t + 1)) (word_taggable k c t h)

-- A thread's word is not 0.
pub thread_nonzero : (k t : ℕ) → 2 ^ k * (t + 1) ≡ 0 → ⊥
thread_nonzero k t e = omega (arith, pow_pos k)

-- Nor is an owner word made from it, whatever the CPU.
pub word_nonzero : (k c t : ℕ) → word_of c (2 ^ k * (t + 1)) ≡ 0 → ⊥
word_nonzero k c t e = thread_nonzero k t (omega arith)

-- No two threads have the same word.
pub thread_alone : (k t u : ℕ) → 2 ^ k * (t + 1) ≡ 2 ^ k * (u + 1) → t ≡ u
thread_alone k t u e =
    let same : t + 1 ≡ u + 1 =
    sym (mul-div_cancel_left (t + 1) (pow_pos k)) ∙ ap (λ (n : ℕ). n / 2 ^ k) e ∙ mul-div_cancel_left (u + 1) (pow_pos k) in
    omega arith
