-- A request's numbers are in range, whatever bytes it comes from: its CPU is below n, its thread below 32, its lock below 128, and a priority
-- within -128..127. The form test says so of the fields that its row uses, and the others are zero. Assumes nothing.
use mathlib.Core.Path.{◌≡◌, refl, sym, subst}
use mathlib.Core.Bool.{Bool, true, false, ◌&&◌, cond}
use mathlib.Core.List.{List}
use Prim.Native.Nat.{ℕ, ◌<◌}
use native.Mathlib.Nat.{lt_of_lt_of_le}
use native.Mathlib.Omega.{arith}
use lib.Dec.{eqb}
use lib.ListN.{length}
use borrow.Author.Tests.{ltb-true}
use Rattle.words.proofs.Choice.{bool_ind, and_left, and_right}
use Rattle.machine.specs.State.{thread_count, lock_count, setup_ok, is_priority}
use Rattle.machine.specs.declared.Setup.{Setup}
use Rattle.machine.proofs.Size.{size_says}
use Rattle.record.specs.Record.{
  Row,
  no_row,
  row_of,
  field_ok,
  operand_ok,
  fits,
  malformed,
  InArrays,
  carried,
  of_fields,
  request_of,
  fields_of,
}
use Rattle.record.specs.declared.Fields.{Fields}
use Rattle.record.specs.declared.ThreadOperation.{ThreadOperation}
use Rattle.record.specs.declared.Operation.{Operation}
use Rattle.record.specs.declared.Request.{Request}
use Rattle.record.proofs.Table.{every_row}

-- What the form test says, field by field.
pub record Fit (n : ℕ) (r : Row) (f : Fields) : Type 0 where
  pub cpu : field_ok r.cpu n f.cpu ≡ true
  pub thread : field_ok r.thread thread_count f.thread ≡ true
  pub lock : field_ok r.lock lock_count f.lock ≡ true
  pub a : operand_ok r.a f.a ≡ true
  pub b : operand_ok r.b f.b ≡ true

pub fit_says : (n : ℕ) (r : Row) (f : Fields) → fits n r f ≡ true → Fit n r f
unfolding fits
fit_says n r f e =
    let c = field_ok r.cpu n f.cpu in
    let t = field_ok r.thread thread_count f.thread in
    let l = field_ok r.lock lock_count f.lock in
    let a = operand_ok r.a f.a in
    let b = operand_ok r.b f.b in
    let four = and_left (c && t && l && a) b e in
    let three = and_left (c && t && l) a four in
    let two = and_left (c && t) l three in
    record {
      cpu = and_left c t two;
      thread = and_right c t two;
      lock = and_right (c && t) l three;
      a = and_right (c && t && l) a four;
      b = and_right (c && t && l && a) b e;
    }

-- The numbers of a request, on a machine of setup k.
pub record Ranged (k : Setup) (r : Request) : Type 0 where
  pub cpu : r.cpu.0 < k.n
  pub thread : r.thread.0 < thread_count
  pub lock : r.lock.0 < lock_count

below : (used : Bool) (most x : ℕ) → 0 < most → field_ok used most x ≡ true → x < most
below true most x some e = ltb-true x most e
below false most x some e = omega (arith, ltb-true x 1 e)

-- Where no operation stands every field has to be zero, and what that gives is malformed too.
unused : (most x : ℕ) → field_ok false most x ≡ true → x ≡ 0
unused most x e = omega (arith, ltb-true x 1 e)

pub no_row_past : (n : ℕ) (f : Fields) → row_of f.operation ≡ no_row
    → malformed ≡ cond (fits n (row_of f.operation) f) (carried (row_of f.operation) f) malformed
no_row_past n f none =
    subst (λ (r : Row). malformed ≡ cond (fits n r f) (carried r f) malformed) (sym none)
    (bool_ind (λ t. malformed ≡ cond t (carried no_row f) malformed) (fits n no_row f)
    (λ e.
    let fit = fit_says n no_row f e in
    rw (unused n f.cpu fit.cpu, unused thread_count f.thread fit.thread, unused lock_count f.lock fit.lock)) (λ _. refl))

-- What holds of a malformed request, and of each that its row carries, holds of the request in every record.
pub by_form : (P : Request → Type 0) (k : Setup) (bs : List ℕ) → P malformed
    → (setup_ok k ≡ true → fits k.n (row_of (fields_of bs).operation) (fields_of bs) ≡ true → P (carried (row_of (fields_of bs).operation) (fields_of bs)))
    → P (request_of k bs)
unfolding request_of
by_form P k bs bad good =
    let f = fields_of bs in
    let r = row_of f.operation in
    bool_ind (λ b. P (cond b (of_fields k.n f) malformed)) (setup_ok k && eqb (length bs) 12)
    (λ sized. bool_ind (λ b. P (cond b (carried r f) malformed)) (eqb f.zero 0 && fits k.n r f)
    (λ e. good (and_left (setup_ok k) _ sized) (and_right (eqb f.zero 0) _ e)) (λ _. bad)) (λ _. bad)

pub request_ranged : (k : Setup) → setup_ok k ≡ true → (bs : List ℕ) → Ranged k (request_of k bs)
request_ranged k ok bs =
    by_form (Ranged k) k bs (record { cpu = some; thread = omega arith; lock = omega arith }) (λ _ e.
    let f = fields_of bs in
    let r = row_of f.operation in
    let fit = fit_says k.n r f e in
    record {
      cpu = below r.cpu k.n f.cpu some fit.cpu;
      thread = below r.thread thread_count f.thread (omega arith) fit.thread;
      lock = below r.lock lock_count f.lock (omega arith) fit.lock;
    })
  where
    some : 0 < k.n
    some = (size_says k ok).some

-- So they are places in a machine's arrays, on whatever setup.
pub request_in_arrays : (k : Setup) (bs : List ℕ) → InArrays (request_of k bs)
request_in_arrays k bs =
    by_form InArrays k bs (record { cpu = omega arith; thread = omega arith; lock = omega arith }) (λ ok e.
    let f = fields_of bs in
    let r = row_of f.operation in
    let fit = fit_says k.n r f e in
    let size = size_says k ok in
    record {
      cpu = lt_of_lt_of_le (below r.cpu k.n f.cpu size.some fit.cpu) size.few;
      thread = below r.thread thread_count f.thread (omega arith) fit.thread;
      lock = below r.lock lock_count f.lock (omega arith) fit.lock;
    })

-- The equation of a request says its places too.
pub in_arrays_by : {r : Request} (k : Setup) (bs : List ℕ) → r ≡ request_of k bs → (r ≡ request_of k bs) × InArrays r
in_arrays_by k bs e = (e, subst InArrays (sym e) (request_in_arrays k bs))

-- The priority that an operation sets, if it sets one, is within -128..127.
abbrev pub priority_ok : Operation → Bool
priority_ok Operation.Malformed = true
priority_ok (Operation.OnCpu o) = true
priority_ok (Operation.OnLock o) = true
priority_ok (Operation.OnThread (ThreadOperation.Mask enable disable)) = true
priority_ok (Operation.OnThread ThreadOperation.Pin) = true
priority_ok (Operation.OnThread (ThreadOperation.Priority p)) = is_priority p
priority_ok Operation.Ipi = true
priority_ok Operation.Owner = true
priority_ok Operation.Unwind = true

-- So it is for each row whose A passes the form test.
pub row_priority : (a b op : ℕ) → operand_ok (row_of op).a a ≡ true → priority_ok ((row_of op).asks a b) ≡ true
row_priority a b =
    every_row (λ i r. operand_ok r.a a ≡ true → priority_ok (r.asks a b) ≡ true) (λ i e. refl) (
      sets_none,
      (
        sets_none,
        (
          sets_none,
          (
            sets_none,
            (
              sets_none,
              (
                sets_none,
                (
                  sets_none,
                  (
                    sets_none,
                    (
                      sets_none,
                      ((λ e. e), (sets_none, (sets_none, (sets_none, tt)))),
                    ),
                  ),
                ),
              ),
            ),
          ),
        ),
      ),
    )
  where
    sets_none : {A : Type 0} → A → true ≡ true
    sets_none e = refl

pub request_priority : (k : Setup) (bs : List ℕ) → priority_ok (request_of k bs).operation ≡ true
request_priority k bs =
    by_form (λ r. priority_ok r.operation ≡ true) k bs refl (λ _ e.
    let f = fields_of bs in
    row_priority f.a f.b f.operation (fit_says k.n (row_of f.operation) f e).a)
