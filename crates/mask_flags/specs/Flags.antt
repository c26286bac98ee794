-- 01, "What must change shape": the mask rule for the C kernel, its two flags as numbers.
use Rattle.std.specs.Prelude.{ℕ, ◌&&◌, cond, eqb, leb}
use Rattle.error.specs.Codes.{EINVAL}
use Rattle.error.specs.Answer.{Answer, answer}
use Rattle.cpu_mask.specs.Mask.{cpu_mask_mod}

-- The mask rule with its flags as numbers: 0 is no, 1 is yes, any other EINVAL.
unfoldable pub mask_of_flags : ℕ → ℕ → ℕ → ℕ → ℕ → Answer ℕ
mask_of_flags current enable disable running pinOnly =
    cond (leb running 1 && leb pinOnly 1) (cpu_mask_mod current enable disable (eqb running 1) (eqb pinOnly 1))
    (answer EINVAL current)
