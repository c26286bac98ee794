-- The cases of a current thread, a place and an owner: they are apart, and carry one number. Assumes nothing.
use Rattle.std.specs.Prelude.{None, Some}
use mathlib.Core.Path.{◌≡◌}
use Prim.Native.Nat.{ℕ}
use native.Mathlib.Omega.{arith}
use Rattle.machine.specs.declared.CpuId.{CpuId}
use Rattle.machine.specs.declared.ThreadId.{ThreadId}

pub none_or_thread : {t : ThreadId} → None ≡ Some t → ⊥
none_or_thread e = let o : ◌≡◌ {A = ℕ} 0 1 = cc in omega arith

pub nowhere_or_on : {c : CpuId} → None ≡ Some c → ⊥
nowhere_or_on e = let o : ◌≡◌ {A = ℕ} 0 1 = cc in omega arith

pub none_or_owner : {t : ℕ} → None ≡ Some t → ⊥
none_or_owner e = let o : ◌≡◌ {A = ℕ} 0 1 = cc in omega arith

pub same_thread : {t u : ThreadId} → Some t ≡ Some u → u.0 ≡ t.0
same_thread e = cc

pub same_cpu : {c d : CpuId} → Some c ≡ Some d → d.0 ≡ c.0
same_cpu e = cc

pub same_owner : {t u : ℕ} → Some t ≡ Some u → t ≡ u
same_owner e = cc
