-- Each arm's row has the columns' bits at its number (`arm_says`), and past 12 no row is left. Assumes nothing.
use mathlib.Core.Path.{refl, ap, ◌∙◌}
use mathlib.Core.Bool.{Bool, true, false}
use native.Mathlib.Omega.{arith}
use lib.IntN.{ℤ}
use mir.Syntax.{w32}
use mir.ValLaws.{to_z-of_z}
use Rattle.words.specs.Bit.{bit}
use Rattle.record.specs.Record.{row_of, fits}
use Rattle.record.specs.declared.Operand.{Operand}
use Rattle.record.specs.declared.Operation.{Operation}
use Rattle.record.specs.declared.ThreadOperation.{ThreadOperation}
use Rattle.record.specs.declared.Row.{Row}
use Rattle.record.proofs.Columns.{arm_says}
use borrow.Author.Rules.{rules}
use Rattle.record.proofs.carried.Goals as goal

-- The rows of the code.
abbrev code_row : Bool → Bool → Bool → Operand → Operand → Row
code_row cpu thread lock a b = record { cpu = cpu; thread = thread; lock = lock; a = a; b = b }

abbrev nothing : Row
nothing = code_row false false false Operand.Zero Operand.Zero

abbrev cpu : Row
cpu = code_row true false false Operand.Zero Operand.Zero

abbrev seat : Row
seat = code_row true true false Operand.Zero Operand.Zero

abbrev hold : Row
hold = code_row true false true Operand.Zero Operand.Zero

abbrev acquire : Row
acquire = code_row true false true Operand.Flag Operand.Zero

abbrev masks : Row
masks = code_row false true false Operand.Mask Operand.Mask

abbrev priorities : Row
priorities = code_row false true false Operand.Priority Operand.Zero

abbrev lock : Row
lock = code_row false false true Operand.Zero Operand.Zero

pub returns-in-0 : goal.returns-in-0
unfolding bit row_of
returns-in-0 c = c.formed.ensures ∙ arm_says _ _ 0 cpu _ c.in-0.is (omega arith) refl refl

pub returns-in-1 : goal.returns-in-1
unfolding bit row_of
returns-in-1 c = c.formed-in-1.ensures ∙ arm_says _ _ 1 cpu _ c.in-1.is (omega arith) refl refl

pub returns-in-2 : goal.returns-in-2
unfolding bit row_of
returns-in-2 c = c.formed-in-2.ensures ∙ arm_says _ _ 2 seat _ c.in-2.is (omega arith) refl refl

pub returns-in-3 : goal.returns-in-3
unfolding bit row_of
returns-in-3 c = c.formed-in-3.ensures ∙ arm_says _ _ 3 seat _ c.in-3.is (omega arith) refl refl

pub returns-in-4 : goal.returns-in-4
unfolding bit row_of
returns-in-4 c = c.formed-in-4.ensures ∙ arm_says _ _ 4 acquire _ c.in-4.is (omega arith) refl refl

pub returns-in-5 : goal.returns-in-5
unfolding bit row_of
returns-in-5 c = c.formed-in-5.ensures ∙ arm_says _ _ 5 nothing _ c.in-5.is (omega arith) refl refl

pub returns-in-6 : goal.returns-in-6
unfolding bit row_of
returns-in-6 c = c.formed-in-6.ensures ∙ arm_says _ _ 6 hold _ c.in-6.is (omega arith) refl refl

pub returns-in-7 : goal.returns-in-7
unfolding bit row_of
returns-in-7 c = c.formed-in-7.ensures ∙ arm_says _ _ 7 masks _ c.in-7.is (omega arith) refl refl

pub returns-in-8 : goal.returns-in-8
unfolding bit row_of
returns-in-8 c = c.formed-in-8.ensures ∙ arm_says _ _ 8 seat _ c.in-8.is (omega arith) refl refl

pub returns-in-9 : goal.returns-in-9
unfolding bit row_of
returns-in-9 c =
    let number = c.signed in
    let same = to_z-of_z w32 number.result (record { sfits = number.type_inv }) ∙ number.ensures in
    c.formed-in-9.ensures
    ∙ arm_says _ _ 9 priorities _ c.in-9.is (omega arith) refl (ap (λ (p : ℤ). Operation.OnThread (ThreadOperation.Priority p)) same)

pub returns-in-10 : goal.returns-in-10
unfolding bit row_of
returns-in-10 c = c.formed-in-10.ensures ∙ arm_says _ _ 10 seat _ c.in-10.is (omega arith) refl refl

pub returns-in-11 : goal.returns-in-11
unfolding bit row_of
returns-in-11 c = c.formed-in-11.ensures ∙ arm_says _ _ 11 lock _ c.in-11.is (omega arith) refl refl

pub returns-in-12 : goal.returns-in-12
unfolding bit row_of
returns-in-12 c = c.formed-in-12.ensures ∙ arm_says _ _ 12 seat _ c.in-12.is (omega arith) refl refl

pub returns-in_default : goal.returns-in_default
unfolding row_of fits
returns-in_default c = search rules
