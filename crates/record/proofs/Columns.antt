-- The table by columns, a bit for each number below sixteen: the bits say what the rows say, and with the tests of zero, of a flag and of a
-- priority they say what A and B may be. Assumes nothing.
use mathlib.Core.Path.{◌≡◌, refl, sym, ap, ◌∙◌}
use mathlib.Core.Bool.{Bool, true, false, ◌&&◌, ◌||◌, not, cond, false≢true}
use Prim.Native.Nat.{ℕ, ◌<◌}
use lib.Dec.{eqb, ltb}
use borrow.Author.Tests.{not-true, eqb-true}
use Rattle.words.specs.Bit.{bit}
use Rattle.words.specs.Below.{all_below}
use Rattle.words.specs.Signed.{to_signed}
use Rattle.words.proofs.Below.{all_at}
use Rattle.words.proofs.Choice.{bool_ind}
use Rattle.machine.specs.State.{is_priority}
use Rattle.record.specs.Record.{
  Operand,
  none,
  flag,
  mask,
  priority,
  Row,
  row_of,
  operand_ok,
  fits,
  request,
  malformed,
  carried,
}
use Rattle.record.specs.Rows.{operand_of, form_of}
use Rattle.record.specs.declared.Fields.{Fields}
use Rattle.record.specs.declared.Operation.{Operation}
use Rattle.record.specs.declared.Row.{Row as CodeRow}

-- A field takes a flag, a mask, or a priority.
abbrev takes_flag : Operand → Bool
takes_flag none = false
takes_flag flag = true
takes_flag mask = false
takes_flag priority = false

abbrev takes_mask : Operand → Bool
takes_mask none = false
takes_mask flag = false
takes_mask mask = true
takes_mask priority = false

abbrev takes_priority : Operand → Bool
takes_priority none = false
takes_priority flag = false
takes_priority mask = false
takes_priority priority = true

abbrev same : Bool → Bool → Bool
same true b = b
same false b = not b

same_is : (a b : Bool) → same a b ≡ true → a ≡ b
same_is true b e = sym e
same_is false true e = absurd (false≢true e)
same_is false false e = refl

-- A column of bits says of each operation below sixteen what f says of its row.
abbrev Column : ℕ → (Row → Bool) → Type 0
Column bits f = all_below (λ op. same (bit op bits) (f (row_of op))) 16 ≡ true

column_at : (bits : ℕ) (f : Row → Bool) → Column bits f → (op : ℕ) → op < 16 → bit op bits ≡ f (row_of op)
column_at bits f all op h = same_is (bit op bits) (f (row_of op)) (all_at (λ op. same (bit op bits) (f (row_of op))) 16 all op h)

-- The seven columns.
pub record Columns (op : ℕ) : Type 0 where
  pub cpu : bit op 0x155f ≡ (row_of op).cpu
  pub thread : bit op 0x178c ≡ (row_of op).thread
  pub lock : bit op 0x850 ≡ (row_of op).lock
  pub a_flag : bit op 0x010 ≡ takes_flag (row_of op).a
  pub a_mask : bit op 0x080 ≡ takes_mask (row_of op).a
  pub a_priority : bit op 0x200 ≡ takes_priority (row_of op).a
  pub b_mask : bit op 0x080 ≡ takes_mask (row_of op).b
  pub b_flag : takes_flag (row_of op).b ≡ false
  pub b_priority : takes_priority (row_of op).b ≡ false

pub columns : (op : ℕ) → op < 16 → Columns op
unfolding bit row_of all_below
columns op h =
    record {
      cpu = column_at 0x155f (λ r. r.cpu) refl op h;
      thread = column_at 0x178c (λ r. r.thread) refl op h;
      lock = column_at 0x850 (λ r. r.lock) refl op h;
      a_flag = column_at 0x010 (λ r. takes_flag r.a) refl op h;
      a_mask = column_at 0x080 (λ r. takes_mask r.a) refl op h;
      a_priority = column_at 0x200 (λ r. takes_priority r.a) refl op h;
      b_mask = column_at 0x080 (λ r. takes_mask r.b) refl op h;
      b_flag = not-true _ (all_at (λ op. not (takes_flag (row_of op).b)) 16 refl op h);
      b_priority = not-true _ (all_at (λ op. not (takes_priority (row_of op).b)) 16 refl op h);
    }

-- Zero is a priority.
zero_fits : (x : ℕ) → x ≡ 0 → true ≡ is_priority (to_signed 31 x)
unfolding is_priority to_signed
zero_fits x e = rw e

-- Zero is a flag.
zero_is_flag : (x : ℕ) → x ≡ 0 → true ≡ ltb x 2
zero_is_flag x e = rw e

-- What a row says of A or B: zero, or what the columns let in.
pub operand_says : (o : Operand) (x : ℕ)
    → ((eqb x 0 || (takes_flag o && ltb x 2)) || takes_mask o) || (takes_priority o && is_priority (to_signed 31 x)) ≡ operand_ok o x
operand_says none x = bool_ind (λ t. ((t || false) || false) || false ≡ t) (eqb x 0) (λ _. refl) (λ _. refl)
operand_says flag x =
    bool_ind (λ t. ((t || ltb x 2) || false) || false ≡ ltb x 2) (eqb x 0) (λ e. zero_is_flag x (eqb-true x 0 e)) (λ _. or_falses (ltb x 2))
  where
    or_falses : (t : Bool) → (t || false) || false ≡ t
    or_falses true = refl
    or_falses false = refl
operand_says mask x = bool_ind (λ t. ((t || false) || true) || false ≡ true) (eqb x 0) (λ _. refl) (λ _. refl)
operand_says priority x =
    bool_ind (λ t. ((t || false) || false) || is_priority (to_signed 31 x) ≡ is_priority (to_signed 31 x)) (eqb x 0)
    (λ e. zero_fits x (eqb-true x 0 e)) (λ _. refl)

-- Where the row takes no flag and no priority, zero or a mask is all that is asked.
pub mask_fact : (o : Operand) (x : ℕ) → takes_flag o ≡ false → takes_priority o ≡ false → eqb x 0 || takes_mask o ≡ operand_ok o x
mask_fact none x e f = bool_ind (λ t. t || false ≡ t) (eqb x 0) (λ _. refl) (λ _. refl)
mask_fact flag x e f = absurd (false≢true (sym e))
mask_fact mask x e f = bool_ind (λ t. t || true ≡ true) (eqb x 0) (λ _. refl) (λ _. refl)
mask_fact priority x e f = absurd (false≢true (sym f))

-- What is asked of the fields, a bit for each: as the columns have it at a number, and as a row of the code has it.
pub record Asked : Type 0 where
  pub cpu : Bool
  pub thread : Bool
  pub lock : Bool
  pub a_flag : Bool
  pub a_mask : Bool
  pub a_priority : Bool
  pub b_flag : Bool
  pub b_mask : Bool
  pub b_priority : Bool

abbrev pub by_columns : ℕ → Asked
by_columns op =
    record {
      cpu = bit op 0x155f;
      thread = bit op 0x178c;
      lock = bit op 0x850;
      a_flag = bit op 0x010;
      a_mask = bit op 0x080;
      a_priority = bit op 0x200;
      b_flag = false;
      b_mask = bit op 0x080;
      b_priority = false;
    }

abbrev pub by_row : CodeRow → Asked
by_row r =
    record {
      cpu = r.cpu;
      thread = r.thread;
      lock = r.lock;
      a_flag = takes_flag (operand_of r.a);
      a_mask = takes_mask (operand_of r.a);
      a_priority = takes_priority (operand_of r.a);
      b_flag = takes_flag (operand_of r.b);
      b_mask = takes_mask (operand_of r.b);
      b_priority = takes_priority (operand_of r.b);
    }

-- Two that let in the same flag, mask and priority ask for the same.
same_operand : (o p : Operand) (x : ℕ) → takes_flag o ≡ takes_flag p → takes_mask o ≡ takes_mask p → takes_priority o ≡ takes_priority p
    → operand_ok o x ≡ operand_ok p x
same_operand o p x flags masks priorities = sym (operand_says o x) ∙ rw (flags, masks, priorities) (operand_says p x)

-- A row of the code that has the columns' bits at an operation's number asks for what the table's row does.
pub row_fits : (n : ℕ) (f : Fields) (op : ℕ) (r : CodeRow) → op < 16 → by_columns op ≡ by_row r → fits n (form_of r) f ≡ fits n (row_of op) f
unfolding fits
row_fits n f op r h e =
    let t = columns op h in
    let a =
    same_operand (operand_of r.a) (row_of op).a f.a
    (sym (ap (λ (k : Asked). k.a_flag) e) ∙ t.a_flag)
    (sym (ap (λ (k : Asked). k.a_mask) e) ∙ t.a_mask)
    (sym (ap (λ (k : Asked). k.a_priority) e) ∙ t.a_priority)
    in
    let b =
    sym (mask_fact (operand_of r.b) f.b (sym (ap (λ (k : Asked). k.b_flag) e)) (sym (ap (λ (k : Asked). k.b_priority) e)))
    ∙ ap (λ (m : Bool). eqb f.b 0 || m) (sym (ap (λ (k : Asked). k.b_mask) e) ∙ t.b_mask)
    ∙ mask_fact (row_of op).b f.b t.b_flag t.b_priority
    in
    rw (
      sym (ap (λ (k : Asked). k.cpu) e) ∙ t.cpu,
      sym (ap (λ (k : Asked). k.thread) e) ∙ t.thread,
      sym (ap (λ (k : Asked). k.lock) e) ∙ t.lock,
      a,
      b,
    ) refl

-- What the code makes of a record by a row that has the columns' bits is what the table's row of that number makes of it.
pub arm_says : (n : ℕ) (f : Fields) (op : ℕ) (r : CodeRow) (asked : Operation)
    → f.operation ≡ op
    → op < 16
    → by_columns op ≡ by_row r
    → asked ≡ (row_of op).asks f.a f.b
    → cond (fits n (form_of r) f) (request asked f.cpu f.thread f.lock) malformed
    ≡ cond (fits n (row_of f.operation) f) (carried (row_of f.operation) f) malformed
arm_says n f op r asked is h e asks =
    ap (λ (t : Bool). cond t (request asked f.cpu f.thread f.lock) malformed) (row_fits n f op r h e)
    ∙ ap (λ (o : Operation). cond (fits n (row_of op) f) (request o f.cpu f.thread f.lock) malformed) asks
    ∙ ap (λ (k : ℕ). cond (fits n (row_of k) f) (carried (row_of k) f) malformed) (sym is)
