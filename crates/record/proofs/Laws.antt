-- Laws of records: a request in range comes back from its encoding, and a record that is accepted is the one encoding of its request, whose
-- numbers are in range.
-- A record is taken apart into its fields, and its operation's row says what the fields that it does not use are.
-- Assumes nothing.
use mathlib.Core.Path.{◌≡◌, refl, sym, ap, ap₂, ◌∙◌, subst}
use mathlib.Core.Bool.{true, false, ◌&&◌, cond}
use mathlib.Core.List.{List, [], ◌∷◌, ◌++◌}
use Prim.Native.Nat.{ℕ, zero, suc, ◌+◌, ◌*◌, ◌/◌, ◌%◌, ◌^◌, ◌<◌}
use native.Mathlib.Nat.{suc-ne-zero, suc_inj}
use native.Mathlib.Omega.{arith}
use lib.Dec.{eqb, ltb, leb, lit<}
use lib.IntN.{ℤ, pos, negsuc}
use lib.ListN.{length, get_or, drop}
use borrow.Author.Tests.{eqb-true, eqb-false, ltb-true, leb-true}
use Rattle.words.specs.HighFirst.{high_first, from_high_first}
use Rattle.words.specs.Signed.{to_signed, from_signed, SignedFits}
use Rattle.words.proofs.Choice.{bool_ind, and_left, and_right}
use Rattle.words.proofs.HighFirst.{AreBytes, high_first_back, from_high_first_back, from_high_first_lt}
use Rattle.words.proofs.Signed.{to_from_signed, from_to_signed}
use Rattle.spinlock.specs.declared.Operation.{Operation as LockOperation}
use Rattle.machine.specs.State.{setup_ok, is_priority}
use Rattle.machine.specs.declared.Setup.{Setup}
use Rattle.record.specs.Record.{
  Row,
  row_of,
  fields_of,
  operand_ok,
  fits,
  carried,
  malformed,
  of_fields,
  request_of,
  packed,
  wire,
  encode,
}
use Rattle.record.specs.declared.Fields.{Fields}
use Rattle.record.specs.declared.CpuOperation.{CpuOperation}
use Rattle.record.specs.declared.ThreadOperation.{ThreadOperation}
use Rattle.record.specs.declared.Operation.{Operation}
use Rattle.record.specs.declared.Request.{Request}
use Rattle.record.proofs.Table.{every_row}
use Rattle.record.proofs.Range.{fit_says, priority_ok, row_priority}

-- A priority fits 32 bits.
priority_fits : (p : ℤ) → is_priority p ≡ true → SignedFits 31 p
unfolding is_priority
priority_fits (pos m) h = omega (arith, leb-true m 127 h)
priority_fits (negsuc m) h = omega (arith, leb-true m 127 (and_left (leb m 127) true h))

-- The fields of a record whose fourth byte is zero, and those of a request.
abbrev fields : ℕ → ℕ → ℕ → ℕ → ℕ → ℕ → Fields
fields op cpu thread lock a b = record { operation = op; cpu = cpu; thread = thread; lock = lock; zero = 0; a = a; b = b }

abbrev pub fields_for : Request → Fields
fields_for r =
    fields (wire r.operation).0 r.cpu.0 r.thread.0 r.lock.0 (wire r.operation).1 (wire r.operation).2

-- A request that a record can carry on a machine of n CPUs: its fields pass the form test, and A and B fit 32 bits.
pub record InRange (n : ℕ) (r : Request) : Type 0 where
  pub fit : fits n (row_of (wire r.operation).0) (fields_for r) ≡ true
  pub cpu : r.cpu.0 < 16
  pub priority : priority_ok r.operation ≡ true
  pub a : (wire r.operation).1 < 2 ^ 32
  pub b : (wire r.operation).2 < 2 ^ 32

-- Packed fields are read back.
module _ (op cpu thread lock a b : ℕ) (small : cpu < 16) (fitsA : a < 2 ^ 32) (fitsB : b < 2 ^ 32) where
  fields_back : fields_of (packed op cpu thread lock a b) ≡ fields op cpu thread lock a b
  unfolding fields_of
  fields_back =
      ap₂ (λ (x y : ℕ). fields x y thread lock (from_high_first (high_first 4 a)) (from_high_first (high_first 4 b))) (omega arith) (omega arith)
      ∙ ap₂ (λ (x y : ℕ). fields op cpu thread lock x y) (high_first_back 4 a fitsA) (high_first_back 4 b fitsB)

  packed_back : (k : Setup) → setup_ok k ≡ true → request_of k (packed op cpu thread lock a b) ≡ of_fields k.n (fields op cpu thread lock a b)
  unfolding request_of
  packed_back k ok = rw ok (ap (of_fields k.n) fields_back)

-- An operation's own number, A and B ask for it.
asks_back : (o : Operation) → priority_ok o ≡ true → (row_of (wire o).0).asks (wire o).1 (wire o).2 ≡ o
unfolding row_of
asks_back Operation.Malformed e = refl
asks_back (Operation.OnCpu CpuOperation.Up) e = refl
asks_back (Operation.OnCpu CpuOperation.Down) e = refl
asks_back (Operation.OnCpu CpuOperation.Put) e = refl
asks_back (Operation.OnCpu CpuOperation.Take) e = refl
asks_back (Operation.OnLock (LockOperation.Acquire false)) e = refl
asks_back (Operation.OnLock (LockOperation.Acquire true)) e = refl
asks_back (Operation.OnLock LockOperation.Release) e = refl
asks_back (Operation.OnThread (ThreadOperation.Mask enable disable)) e = refl
asks_back (Operation.OnThread ThreadOperation.Pin) e = refl
asks_back (Operation.OnThread (ThreadOperation.Priority p)) e =
    ap (λ (q : ℤ). Operation.OnThread (ThreadOperation.Priority q)) (to_from_signed 31 p (priority_fits p e))
asks_back Operation.Ipi e = refl
asks_back Operation.Owner e = refl
asks_back Operation.Unwind e = refl

-- A request in range comes back from its encoding.
pub decode_encode : (k : Setup) (r : Request) → setup_ok k ≡ true → InRange k.n r → request_of k (encode r) ≡ r
unfolding encode
decode_encode k r ok h =
    packed_back (wire r.operation).0 r.cpu.0 r.thread.0 r.lock.0 (wire r.operation).1 (wire r.operation).2 h.cpu h.a h.b k ok
    ∙ rw (h.fit, asks_back r.operation h.priority)

-- A flag is told by whether it is 1.
flag_is : (a : ℕ) → a < 2 → cond (eqb a 1) 1 0 ≡ a
flag_is a small =
    bool_ind (λ t. cond t 1 0 ≡ a) (eqb a 1) (λ e. sym (eqb-true a 1 e)) (λ e. let other = eqb-false a 1 e in omega arith)

-- A row's operation has the row's number, and the A and B that passed its form test.
abbrev Wires : ℕ → ℕ → ℕ → Row → Type 0
Wires a b op r = operand_ok r.a a ≡ true → operand_ok r.b b ≡ true → (r.asks a b ≡ Operation.Malformed → ⊥) → wire (r.asks a b) ≡ (op, a, b)

module _ (a b : ℕ) (fitsA : a < 2 ^ 32) where
  no_operands : (op : ℕ) {X : Type 0} → eqb a 0 ≡ true → eqb b 0 ≡ true → X → ◌≡◌ {A = ℕ × ℕ × ℕ} (op, 0, 0) (op, a, b)
  no_operands op e f x = rw (eqb-true a 0 e, eqb-true b 0 f)

  one_flag : {X : Type 0} → ltb a 2 ≡ true → eqb b 0 ≡ true → X → ◌≡◌ {A = ℕ × ℕ × ℕ} (4, cond (eqb a 1) 1 0, 0) (4, a, b)
  one_flag e f x = rw (flag_is a (ltb-true a 2 e), eqb-true b 0 f)

  one_priority : {X : Type 0} → is_priority (to_signed 31 a) ≡ true → eqb b 0 ≡ true → X
      → ◌≡◌ {A = ℕ × ℕ × ℕ} (9, from_signed 31 (to_signed 31 a), 0) (9, a, b)
  one_priority e f x = rw ((from_to_signed 31 a fitsA).0, eqb-true b 0 f)

  row_wires : (op : ℕ) → Wires a b op (row_of op)
  row_wires =
      every_row (Wires a b) (λ i e f some. absurd (some refl)) (
        no_operands 0,
        (
          no_operands 1,
          (
            no_operands 2,
            (
              no_operands 3,
              (
                one_flag,
                (
                  (λ e f some. absurd (some refl)),
                  (
                    no_operands 6,
                    ((λ e f x. refl), (no_operands 8, (one_priority, (no_operands 10, (no_operands 11, (no_operands 12, tt)))))),
                  ),
                ),
              ),
            ),
          ),
        ),
      )

-- The first k elements, one after the other: all of a list of that length.
abbrev pub firsts : ℕ → List ℕ → List ℕ
firsts zero s = []
firsts (suc k) s = get_or s 0 0 ∷ firsts k (drop 1 s)

pub firsts_all : (k : ℕ) (s : List ℕ) → length s ≡ k → s ≡ firsts k s
firsts_all zero [] e = refl
firsts_all zero (x ∷ s) e = absurd (suc-ne-zero (length s) e)
firsts_all (suc k) [] e = absurd (suc-ne-zero k (sym e))
firsts_all (suc k) (x ∷ s) e = ap (λ (l : List ℕ). x ∷ l) (firsts_all k s (suc_inj e))

four_bytes : (a b c d : ℕ) → a < 256 → b < 256 → c < 256 → d < 256 → AreBytes (a ∷ b ∷ c ∷ d ∷ [])
four_bytes a b c d ha hb hc hd zero = ha
four_bytes a b c d ha hb hc hd (suc zero) = hb
four_bytes a b c d ha hb hc hd (suc (suc zero)) = hc
four_bytes a b c d ha hb hc hd (suc (suc (suc zero))) = hd
four_bytes a b c d ha hb hc hd (suc (suc (suc (suc i)))) = lit< tt

-- Bytes are packed from the fields that are read from them, and A and B fit 32 bits.
abbrev FromFields : List ℕ → Type 0
FromFields bs = AreBytes bs → (fields_of bs).zero ≡ 0
    → (bs ≡ packed (fields_of bs).operation (fields_of bs).cpu (fields_of bs).thread (fields_of bs).lock (fields_of bs).a (fields_of bs).b)
    × ((fields_of bs).a < 2 ^ 32) × ((fields_of bs).b < 2 ^ 32)

from_fields : (o t l z a₀ a₁ a₂ a₃ b₀ b₁ b₂ b₃ : ℕ) → FromFields (o ∷ t ∷ l ∷ z ∷ a₀ ∷ a₁ ∷ a₂ ∷ a₃ ∷ b₀ ∷ b₁ ∷ b₂ ∷ b₃ ∷ [])
unfolding fields_of
from_fields o t l z a₀ a₁ a₂ a₃ b₀ b₁ b₂ b₃ small e =
    let wordA = a₀ ∷ a₁ ∷ a₂ ∷ a₃ ∷ [] in
    let wordB = b₀ ∷ b₁ ∷ b₂ ∷ b₃ ∷ [] in
    let smallA : AreBytes wordA = four_bytes a₀ a₁ a₂ a₃ (small 4) (small 5) (small 6) (small 7) in
    let smallB : AreBytes wordB = four_bytes b₀ b₁ b₂ b₃ (small 8) (small 9) (small 10) (small 11) in
    let first : o ≡ o / 16 * 16 + o % 16 = omega arith in (
      ap₂ (λ (x y : ℕ). x ∷ t ∷ l ∷ y ∷ (wordA ++ wordB)) first e
          ∙ ap₂ (λ (x y : List ℕ). (o / 16 * 16 + o % 16) ∷ t ∷ l ∷ 0 ∷ (x ++ y)) (sym (from_high_first_back wordA smallA))
          (sym (from_high_first_back wordB smallB)),
      from_high_first_lt wordA smallA,
      from_high_first_lt wordB smallB,
    )

twelve_from_fields : (bs : List ℕ) → length bs ≡ 12 → FromFields bs
twelve_from_fields bs e = subst FromFields (sym (firsts_all 12 bs e)) (from_fields _ _ _ _ _ _ _ _ _ _ _ _)

-- A CPU's number has four bits.
cpu_small : (bs : List ℕ) → (fields_of bs).cpu < 16
unfolding fields_of
cpu_small bs = omega arith

-- What fields that pass their row's form test show of the request: a record can carry it, and its encoding has those fields.
carries : (n : ℕ) (f : Fields) → f.cpu < 16 → f.a < 2 ^ 32 → f.b < 2 ^ 32 → fits n (row_of f.operation) f ≡ true
    → ((row_of f.operation).asks f.a f.b ≡ Operation.Malformed → ⊥) → priority_ok ((row_of f.operation).asks f.a f.b) ≡ true
    → InRange n (carried (row_of f.operation) f)
    × (packed f.operation f.cpu f.thread f.lock f.a f.b ≡ encode (carried (row_of f.operation) f))
unfolding encode fits
carries n f small fitsA fitsB good some sets =
    let fit = fit_says n (row_of f.operation) f good in
    let same = sym (row_wires f.a f.b fitsA f.operation fit.a fit.b some) in (
      record {
        fit = subst (λ (x : ℕ × ℕ × ℕ). fits n (row_of x.0) (fields x.0 f.cpu f.thread f.lock x.1 x.2) ≡ true) same good;
        cpu = small;
        priority = sets;
        a = subst (λ (x : ℕ × ℕ × ℕ). x.1 < 2 ^ 32) same fitsA;
        b = subst (λ (x : ℕ × ℕ × ℕ). x.2 < 2 ^ 32) same fitsB;
      },
      ap (λ (x : ℕ × ℕ × ℕ). packed x.0 f.cpu f.thread f.lock x.1 x.2) same,
    )

-- A record that is not malformed is the encoding of its request, whose numbers are in range.
abbrev Encodes : ℕ → List ℕ → Request → Type 0
Encodes n bs r = (r.operation ≡ Operation.Malformed → ⊥) → InRange n r × (bs ≡ encode r)

record_encodes : (k : Setup) (bs : List ℕ) → AreBytes bs → Encodes k.n bs (request_of k bs)
unfolding request_of
record_encodes k bs small =
    let f = fields_of bs in
    let r = row_of f.operation in
    bool_ind (λ t. Encodes k.n bs (cond t (of_fields k.n f) malformed)) (setup_ok k && eqb (length bs) 12)
    (λ sized. bool_ind (λ t. Encodes k.n bs (cond t (carried r f) malformed)) (eqb f.zero 0 && fits k.n r f) (λ good some.
    let twelve = eqb-true (length bs) 12 (and_right (setup_ok k) _ sized) in
    let from = twelve_from_fields bs twelve small (eqb-true _ _ (and_left (eqb f.zero 0) _ good)) in
    let fit = and_right (eqb f.zero 0) _ good in
    let sets = row_priority f.a f.b f.operation (fit_says k.n r f fit).a in
    let c = carries k.n f (cpu_small bs) from.1 from.2 fit some sets in
    (c.0, from.0 ∙ c.1)) (λ _ some. absurd (some refl))) (λ _ some. absurd (some refl))

-- An accepted record has one encoding: that of its request.
pub one_encoding : (k : Setup) (bs : List ℕ) (r : Request) → AreBytes bs → request_of k bs ≡ r → (r.operation ≡ Operation.Malformed → ⊥)
    → bs ≡ encode r
one_encoding k bs r small e some = (record_encodes k bs small (λ m. some (ap (λ x. x.operation) (sym e) ∙ m))).1 ∙ ap encode e

-- The numbers of an accepted record's request are in range.
pub decoded_in_range : (k : Setup) (bs : List ℕ) (r : Request) → AreBytes bs → request_of k bs ≡ r → (r.operation ≡ Operation.Malformed → ⊥)
    → InRange k.n r
decoded_in_range k bs r small e some =
    subst (InRange k.n) e (record_encodes k bs small (λ m. some (ap (λ x. x.operation) (sym e) ∙ m))).0
