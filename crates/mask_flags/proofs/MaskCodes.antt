-- The mask rule refuses with EINVAL and no other code. Assumes nothing.
use mathlib.Core.Path.{◌≡◌, refl, sym, ap, ◌∙◌}
use mathlib.Core.Logic.{◌⊎◌, inl, inr}
use mathlib.Core.Bool.{Bool, true, false, ◌&&◌, not, cond}
use Prim.Native.Nat.{ℕ}
use lib.Dec.{eqb, leb}
use Rattle.error.specs.Codes.{OK, EINVAL, refusal_number}
use Rattle.error.specs.Answer.{Answer, answer}
use Rattle.error.specs.declared.Refusal.{Refusal}
use Rattle.error.proofs.OneResult.{refusal_is_not_ok}
use Rattle.cpu_mask.specs.Mask.{new_mask, validate_pin_mask, cpu_mask_mod}
use Rattle.mask_flags.specs.Flags.{mask_of_flags}

abbrev OkOrInvalid : Answer ℕ → Type 0
OkOrInvalid a = (a.code ≡ OK) ⊎ (a.code ≡ EINVAL)

either : (t : Bool) (a b : Answer ℕ) → OkOrInvalid a → OkOrInvalid b → OkOrInvalid (cond t a b)
either true a b p q = p
either false a b p q = q

module _ (current enable disable running pinOnly : ℕ) where
  codes : OkOrInvalid (mask_of_flags current enable disable running pinOnly)
  unfolding mask_of_flags cpu_mask_mod
  codes =
      either (leb running 1 && leb pinOnly 1) _ _
      (either (eqb running 1) _ _ (inr refl)
      (either (eqb pinOnly 1 && not (validate_pin_mask (new_mask current enable disable))) _ _ (inr refl) (inl refl))) (inr refl)

  -- So a refusal with a mask, which is the rule's, is EINVAL with that mask.
  pub refused_is : (why : Refusal) (mask : ℕ) → answer (refusal_number why) mask ≡ mask_of_flags current enable disable running pinOnly
      → answer EINVAL mask ≡ mask_of_flags current enable disable running pinOnly
  refused_is why mask is = go codes
    where
      told : (mask_of_flags current enable disable running pinOnly).code ≡ refusal_number why
      told = ap (λ (a : Answer ℕ). a.code) (sym is)

      go : OkOrInvalid (mask_of_flags current enable disable running pinOnly) → answer EINVAL mask ≡ mask_of_flags current enable disable running pinOnly
      go (inl e) = absurd (refusal_is_not_ok why (sym e ∙ told))
      go (inr e) = ap (λ c. answer c mask) (sym e ∙ told) ∙ is
