-- What it takes for a rule on run cells and threads to accept, and what it then hands back. Assumes nothing.
use Rattle.std.specs.Prelude.{Option, None, Some}
use Rattle.machine.specs.declared.ThreadId.{ThreadId}
use Rattle.machine.specs.declared.CpuId.{CpuId}
use mathlib.Core.Path.{◌≡◌, refl, sym, ap, ◌∙◌}
use mathlib.Core.Bool.{Bool, true, false, ◌&&◌, ◌||◌, not, cond, false≢true}
use Prim.Native.Nat.{ℕ, ◌^◌, ◌<◌}
use native.Mathlib.Nat.{le_refl}
use lib.Dec.{eqb}
use lib.Count.{ones}
use lib.IntN.{ℤ}
use lib.Pow.{pow-lt}
use borrow.Author.Tests.{eqb-true, ltb-true, not-false}
use Rattle.error.specs.Codes.{OK, EINVAL, is_ok}
use Rattle.error.specs.Answer.{Answer, answer}
use Rattle.words.specs.Bit.{bit, bit_not}
use Rattle.words.proofs.Choice.{bool_ind}
use Rattle.cpu_mask.specs.Mask.{mask_bits, new_mask, validate_pin_mask, bits_below, cpu_mask_mod}
use Rattle.cpu_mask.proofs.Laws.{pin_succeeds, pin_leaves}
use Rattle.order.specs.Outcome.{Outcome, refuse, accept}
use Rattle.machine.specs.State.{is_current, idle_run}
use Rattle.machine.specs.declared.Setup.{Setup}
use Rattle.machine.specs.declared.Run.{Run}
use Rattle.machine.specs.declared.Thread.{Thread}
use Rattle.machine.proofs.CurrentThread.{current_names}
use Rattle.rules.specs.Rules.{
  occupied,
  placed,
  up,
  down,
  seated,
  put,
  unseated,
  take,
  refused,
  done,
  masked,
  within_cpus,
  remasked,
  mask,
  cpu_bit,
  pin,
  priority,
}
use Rattle.wellformed.proofs.Facts.{Pinned}

-- An outcome that is accepted hands back a value with Q.
abbrev pub Accepting : {A W : Type 0} → (W → Type 0) → Outcome A W → Type 0
Accepting Q (refuse a) = Unit {0}
Accepting Q (accept a v) = Q v

not_occupied : (current : Option ThreadId) → occupied current ≡ false → current ≡ None
not_occupied None e = refl
not_occupied (Some t) e = absurd (false≢true (sym e))

not_placed : (place : Option CpuId) → placed place ≡ false → place ≡ None
not_placed None e = refl
not_placed (Some c) e = absurd (false≢true (sym e))

neither_left : (a b : Bool) → a || b ≡ false → a ≡ false
neither_left true b e = e
neither_left false b e = refl

neither_right : (a b : Bool) → a || b ≡ false → b ≡ false
neither_right true b e = absurd (false≢true (sym e))
neither_right false b e = e

not_both : (a b : Bool) → a && b ≡ false → a ≡ true → b ≡ false
not_both true b e h = e
not_both false b e h = absurd (false≢true h)

-- Past a test that refuses, the test failed.
past : {A W : Type 0} (Q : W → Type 0) (t : Bool) (a : A) (o : Outcome A W) → (t ≡ false → Accepting Q o) → Accepting Q (cond t (refuse a) o)
past Q true a o f = tt
past Q false a o f = f refl

-- Up: the CPU was down, and is then active and idle.
pub record Ups (r v : Run) : Type 0 where
  pub down : r.active ≡ false
  pub is : v ≡ idle_run true

pub up_accepted : (r : Run) → Accepting (Ups r) (up r)
unfolding up
up_accepted r = past (Ups r) r.active _ _ (λ down. record { down = down; is = refl })

-- Down: the CPU had no thread, and is then down.
pub record Downs (r v : Run) : Type 0 where
  pub idle : r.current ≡ None
  pub is : v ≡ idle_run false

pub down_accepted : (r : Run) → Accepting (Downs r) (down r)
unfolding down
down_accepted r =
    past (Downs r) (not r.active) _ _ (λ _.
    past (Downs r) (occupied r.current) _ _ (λ empty. record { idle = not_occupied r.current empty; is = refl }))

-- Put: the CPU was active and had no thread, the thread had no place, and its mask allows the CPU.
pub record Puts (c t : ℕ) (r : Run) (k : Thread) (v : Run × Thread) : Type 0 where
  pub active : r.active ≡ true
  pub idle : r.current ≡ None
  pub nowhere : k.place ≡ None
  pub allowed : bit c k.mask ≡ true
  pub is : v ≡ seated c t r k

pub put_accepted : (c t : ℕ) (r : Run) (k : Thread) → Accepting (Puts c t r k) (put c t r k)
unfolding put
put_accepted c t r k =
    past (Puts c t r k) (not r.active) _ _ (λ active.
    past (Puts c t r k) (occupied r.current || placed k.place) _ _ (λ neither.
    past (Puts c t r k) (not (bit c k.mask)) _ _ (λ allowed.
    record {
      active = not-false r.active active;
      idle = not_occupied r.current (neither_left (occupied r.current) (placed k.place) neither);
      nowhere = not_placed k.place (neither_right (occupied r.current) (placed k.place) neither);
      allowed = not-false (bit c k.mask) allowed;
      is = refl;
    })))

-- Take: the thread was the CPU's, which held no lock.
pub record Takes (t h : ℕ) (r : Run) (k : Thread) (v : Run × Thread) : Type 0 where
  pub runs : r.current ≡ Some (record { 0 = t })
  pub none : h ≡ 0
  pub is : v ≡ unseated k

pub take_accepted : (t h : ℕ) (r : Run) (k : Thread) → Accepting (Takes t h r k) (take t h r k)
unfolding take
take_accepted t h r k =
    past (Takes t h r k) (not (is_current r.current t)) _ _ (λ runs.
    past (Takes t h r k) (not (eqb h 0)) _ _ (λ none.
    record {
      runs = current_names r.current t (not-false (is_current r.current t) runs);
      none = eqb-true h 0 (not-false (eqb h 0) none);
      is = refl;
    }))

-- Mask and pin: the thread had no place; with pin-only the new mask has one bit, below n. Priority: it had no place.
pub record Masks (s : Setup) (k v : Thread) : Type 0 where
  pub nowhere : k.place ≡ None
  pub mask : Pinned s v.mask
  pub priority : v.priority ≡ k.priority
  pub place : v.place ≡ k.place

-- What an answer that is settled on a thread has to show, where its code is OK.
record Settles (s : Setup) (k : Thread) (bits : ℕ) : Type 0 where
  pub nowhere : k.place ≡ None
  pub mask : Pinned s bits

remasked_accepted : (s : Setup) (k : Thread) (a : Answer ℕ) → (is_ok a.code ≡ true → Settles s k a.value) → Accepting (Masks s k) (remasked k a)
remasked_accepted s k a settles =
    let new : Thread = record { mask = a.value; priority = k.priority; place = k.place } in
    bool_ind
    (λ b. (b ≡ true → Settles s k a.value) → Accepting (Masks s k) (cond b (done a.value new) (refused a.code a.value)))
    (is_ok a.code) (λ _ f. let shown = f refl in record { nowhere = shown.nowhere; mask = shown.mask; priority = refl; place = refl })
    (λ _ _. tt) settles

-- The mask rule, where its code is OK: the thread had no place, and its value is the new mask, with one bit if pin-only.
record Ruled (pinOnly : Bool) (k : Thread) (new value : ℕ) : Type 0 where
  pub nowhere : k.place ≡ None
  pub is : value ≡ new
  pub one : pinOnly ≡ true → ones value ≡ 1

mask_ruled : (enable disable : ℕ) (pinOnly : Bool) (k : Thread) (running : Bool) → placed k.place ≡ running
    → is_ok (cpu_mask_mod k.mask enable disable running pinOnly).code ≡ true
    → Ruled pinOnly k (new_mask k.mask enable disable) (cpu_mask_mod k.mask enable disable running pinOnly).value
unfolding cpu_mask_mod
mask_ruled enable disable pinOnly k true e ok = absurd (false≢true ok)
mask_ruled enable disable false k false e ok = record { nowhere = not_placed k.place e; is = refl; one = λ p. absurd (false≢true p) }
mask_ruled enable disable true k false e ok =
    let new = new_mask k.mask enable disable in
    let answered : Bool → Answer ℕ = λ b. cond (not b) (answer EINVAL k.mask) (answer OK new) in
    bool_ind (λ b. is_ok (answered b).code ≡ true → Ruled true k new (answered b).value) (validate_pin_mask new)
    (λ good _. record { nowhere = not_placed k.place e; is = refl; one = λ _. eqb-true (ones new) 1 good })
    (λ _ refusal. absurd (false≢true refusal)) ok

mask_is_ruled : (s : Setup) (enable disable : ℕ) (k : Thread) → is_ok (masked s enable disable k).code ≡ true
    → Ruled s.pin_only k (new_mask k.mask enable disable) (masked s enable disable k).value
mask_is_ruled s enable disable k = mask_ruled enable disable s.pin_only k (placed k.place) refl

-- The test after it passes only a bit below n.
pub mask_accepted : (s : Setup) (enable disable : ℕ) (k : Thread) → Accepting (Masks s k) (mask s enable disable k)
unfolding mask
mask_accepted s enable disable k = remasked_accepted s k (within_cpus s k.mask a) (tested test refl)
  where
    a : Answer ℕ
    a = masked s enable disable k

    test : Bool
    test = s.pin_only && not (bits_below a.value s.n)

    below : test ≡ false → s.pin_only ≡ true → a.value < 2 ^ s.n
    below passed pinned = ltb-true a.value (2 ^ s.n) (not-false (bits_below a.value s.n) (not_both _ _ passed pinned))

    tested : (t : Bool) → test ≡ t → is_ok (cond t (answer EINVAL k.mask) a).code ≡ true → Settles s k (cond t (answer EINVAL k.mask) a).value
    tested true e ok = absurd (false≢true ok)
    tested false e ok =
        let ruled = mask_is_ruled s enable disable k ok in
        record { nowhere = ruled.nowhere; mask = record { one = ruled.one; below = below e } }

-- A pin leaves its CPU's bit alone, and the CPU is below n.
pub pin_accepted : (s : Setup) (c : ℕ) → c < s.n → c < mask_bits → (k : Thread) → Accepting (Masks s k) (pin s c k)
unfolding pin
pin_accepted s c own fits k =
    remasked_accepted s k (masked s (cpu_bit c) (bit_not mask_bits (cpu_bit c)) k)
    (λ ok.
    let ruled = mask_is_ruled s (cpu_bit c) (bit_not mask_bits (cpu_bit c)) k ok in
    let bit_is : cpu_bit c ≡ 2 ^ c = ap (λ (x : Answer ℕ). x.value) (pin_succeeds c mask_bits (le_refl mask_bits) fits) in
    let left : (masked s (cpu_bit c) (bit_not mask_bits (cpu_bit c)) k).value ≡ 2 ^ c =
    ruled.is ∙ ap (λ (b : ℕ). new_mask k.mask b (bit_not mask_bits b)) bit_is ∙ pin_leaves c k.mask fits in
    record { nowhere = ruled.nowhere; mask = record { one = ruled.one; below = λ _. rw left (pow-lt own) } })

pub record Priorities (a : ℤ) (k v : Thread) : Type 0 where
  pub nowhere : k.place ≡ None
  pub is : v ≡ record { mask = k.mask; priority = a; place = k.place }

pub priority_accepted : (a : ℤ) (k : Thread) → Accepting (Priorities a k) (priority a k)
unfolding priority
priority_accepted a k =
    past (Priorities a k) (placed k.place) _ _ (λ free. record { nowhere = not_placed k.place free; is = refl })
