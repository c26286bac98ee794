-- Tests and sums over an index, as the code goes through them: one turn of a loop after the other, or one call of `all`. Assumes nothing.
use mathlib.Core.Path.{◌≡◌, refl, sym, ap, ap₂, ◌∙◌}
use mathlib.Core.Bool.{Bool, true, false, ◌&&◌, and_assoc, false≢true}
use Prim.Native.Nat.{ℕ, zero, suc, ◌+◌, ◌<◌}
use native.Mathlib.Nat.{le_refl}
use native.Mathlib.Numerals.{add-one}
use native.Mathlib.Omega.{arith}
use mathlib.Core.List.{List}
use lib.ListN.{length, get_or}
use Rattle.std.specs.Bool.{MatchBool}
use Rattle.std.specs.List.{enumerate_from, AllWithin, HoldsAt}
use Rattle.std.proofs.lemmas.List.FromFn.{length-enumerate_from, get_or-enumerate_from}
use Rattle.words.specs.Below.{all_below}
use Rattle.words.proofs.Below.{all_at, all_from}
use Rattle.words.proofs.Choice.{bool_ind}
use Rattle.wellformed.specs.WellFormed.{sum_below}

all_more : (p : ℕ → Bool) (k : ℕ) → all_below p (k + 1) ≡ (all_below p k && p k)
unfolding all_below
all_more p k = rw add-one

sum_more : (f : ℕ → ℕ) (k : ℕ) → sum_below f (k + 1) ≡ sum_below f k + f k
unfolding sum_below
sum_more f k = rw add-one

-- One turn of a loop that asks one test, and of one that adds one term.
pub turn_one : (f : ℕ → Bool) (k : ℕ) {ok a : Bool} → all_below f k ≡ ok → a ≡ f k → all_below f (k + 1) ≡ (ok && a)
turn_one f k below x = all_more f k ∙ ap₂ (λ (p q : Bool). p && q) below (sym x)

pub turn_sum : (f : ℕ → ℕ) (k : ℕ) {sum a : ℕ} → sum ≡ sum_below f k → a ≡ f k → sum + a ≡ sum_below f (k + 1)
turn_sum f k below x = ap₂ (λ (p q : ℕ). p + q) below x ∙ sym (sum_more f k)

-- One turn of a loop that asks four tests, one after the other.
pub turn_four :
    (f : ℕ → Bool) (k : ℕ) {ok a b c d p q r s : Bool}
    → all_below f k ≡ ok → a ≡ p → b ≡ q → c ≡ r → d ≡ s → (p && (q && (r && s))) ≡ f k
    → all_below f (k + 1) ≡ ((((ok && a) && b) && c) && d)
turn_four f k below w x y z tests = simp and_assoc (cc (all_more f k))

-- A loop over two tests at once is a loop over each.
all_both : (p q : ℕ → Bool) (k : ℕ) → all_below (λ i. p i && q i) k ≡ (all_below p k && all_below q k)
unfolding all_below
all_both p q zero = refl
all_both p q (suc k) = ap (λ t. t && (p k && q k)) (all_both p q k) ∙ swap (all_below p k) (all_below q k) (p k)
  where
    swap : (a b c : Bool) → ((a && b) && (c && q k)) ≡ ((a && c) && (b && q k))
    swap false b c = refl
    swap true false false = refl
    swap true false true = refl
    swap true true c = refl

pub all_three : (p q r : ℕ → Bool) (k : ℕ) → all_below (λ i. p i && (q i && r i)) k ≡ (all_below p k && (all_below q k && all_below r k))
all_three p q r k = all_both p (λ i. q i && r i) k ∙ ap (λ t. all_below p k && t) (all_both q r k)

pub all_four : (p q r s : ℕ → Bool) (k : ℕ)
    → all_below (λ i. p i && (q i && (r i && s i))) k ≡ (all_below p k && (all_below q k && (all_below r k && all_below s k)))
all_four p q r s k = all_both p (λ i. q i && (r i && s i)) k ∙ ap (λ t. all_below p k && t) (all_three q r s k)

-- Two tests that agree below k agree as loops.
pub all_same : (p q : ℕ → Bool) (k : ℕ) → ((i : ℕ) → i < k → p i ≡ q i) → all_below p k ≡ all_below q k
unfolding all_below
all_same p q zero same = refl
all_same p q (suc k) same = ap₂ (λ (a b : Bool). a && b) (all_same p q k (λ i h. same i (omega arith))) (same k (le_refl (suc k)))

-- The loops' results, CPUs first and threads last, in the order of 01's clauses.
pub in_order :
    (size slots currents idles locks holds places rest : Bool)
    → (((size && (slots && (currents && idles))) && (locks && holds)) && (places && rest))
    ≡ (size && (slots && (locks && (holds && (currents && (places && (idles && rest)))))))
in_order false slots currents idles locks holds places rest = refl
in_order true false currents idles locks holds places rest = refl
in_order true true true true false holds places rest = refl
in_order true true true true true holds places rest = refl
in_order true true true false false holds places rest = refl
in_order true true true false true false places rest = refl
in_order true true true false true true false rest = refl
in_order true true true false true true true rest = refl
in_order true true false idles false holds places rest = refl
in_order true true false idles true false places rest = refl
in_order true true false idles true true places rest = refl

-- An answer that is true where the test holds at each index, and false where it fails at some, is the test of all.
pub all_tested :
    (p : ℕ → Bool) (k : ℕ) (r : Bool)
    → MatchBool r ((i : ℕ) → i < k → p i ≡ true) ((i : ℕ) × (i < k) × (p i ≡ false)) → r ≡ all_below p k
all_tested p k true each = sym (all_from p k each)
all_tested p k false (i, h, fails) =
    bool_ind (λ b. false ≡ b) (all_below p k) (λ all. absurd (false≢true (sym fails ∙ all_at p k all i h))) (λ _. refl)

-- What `all` says of a test of the elements of a list with their indices.
abbrev pub Numbered : {A : Type 0} → (ℕ → A → Bool) → List A → Bool → Type 0
Numbered {A} f xs r =
    MatchBool r
    (AllWithin (λ (p : ℕ × A). f p.0 p.1 ≡ true) (enumerate_from 0 xs) 0 (length (enumerate_from 0 xs)))
    ((i : ℕ) × (i < length (enumerate_from 0 xs)) × HoldsAt (λ (p : ℕ × A). f p.0 p.1 ≡ false) (enumerate_from 0 xs) i)

pub all_numbered :
    {A : Type 0} (f : ℕ → A → Bool) (d : A) (xs : List A) (k : ℕ) (r : Bool)
    → length xs ≡ k → Numbered f xs r → r ≡ all_below (λ i. f i (get_or xs i d)) k
all_numbered {A = A} f d xs k r long tested = all_tested _ k r (go r tested)
  where
    at : (b : Bool) (i : ℕ) → i < length xs → HoldsAt (λ (p : ℕ × A). f p.0 p.1 ≡ b) (enumerate_from 0 xs) i → f i (get_or xs i d) ≡ b
    at b i h holds =
        let here : i ≡ 0 + i = omega arith in
        let found = get_or-enumerate_from 0 xs i (0, d) h in
        ap (λ j. f j (get_or xs i d)) here ∙ ap (λ (p : ℕ × A). f p.0 p.1) (sym found) ∙ holds (0, d)

    go : (t : Bool) → Numbered f xs t
        → MatchBool t ((i : ℕ) → i < k → f i (get_or xs i d) ≡ true) ((i : ℕ) × (i < k) × (f i (get_or xs i d) ≡ false))
    go true each = λ i h. at true i (omega (arith, long)) (λ e. each i e (omega arith) (omega (arith, long, length-enumerate_from 0 xs)))
    go false (i, h, fails) =
        let below : i < length xs = omega (arith, h, length-enumerate_from 0 xs) in
        (i, omega (arith, below, long), at false i below fails)
