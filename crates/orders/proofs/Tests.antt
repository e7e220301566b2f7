-- Yes-or-no tests: each is true or false, never both, and what `not`, `&&`, `||` and equality say of them.
use mathlib.Core.Path.{◌≡◌, refl, sym, ◌∙◌}
use mathlib.Core.Logic.{◌⊎◌, inl, inr}
use mathlib.Core.Bool.{Bool, true, false, not, ◌&&◌, ◌||◌, beq, true≢false}

-- something proved from either outcome of a test
pub by_test : {A : Type 0} (b : Bool) → (b ≡ true → A) → (b ≡ false → A) → A
by_test true f g = f refl
by_test false f g = g refl

-- a test is not true and false at once
pub clash : {A : Type 0} {b : Bool} → b ≡ true → b ≡ false → A
clash p q = absurd (true≢false (sym p ∙ q))

pub clash_not : {A : Type 0} (p : Bool) {q : Bool} → q ≡ p → q ≡ not p → A
clash_not true e f = clash e f
clash_not false e f = clash f e

pub is_false : (b : Bool) → (b ≡ true → ⊥) → b ≡ false
is_false b f = by_test b (λ e. absurd (f e)) (λ e. e)

pub is_true : (b : Bool) → (b ≡ false → ⊥) → b ≡ true
is_true b f = by_test b (λ e. e) (λ e. absurd (f e))

-- ---- not

pub not_true : (a : Bool) → not a ≡ true → a ≡ false
not_true true e = clash e refl
not_true false e = refl

pub not_false : (a : Bool) → not a ≡ false → a ≡ true
not_false true e = refl
not_false false e = clash refl e

pub not_of_false : (a : Bool) → a ≡ false → not a ≡ true
not_of_false a e = rw e

-- ---- or

pub or_true : (a b : Bool) → a || b ≡ true → (a ≡ true) ⊎ (b ≡ true)
or_true true b e = inl refl
or_true false b e = inr e

pub or_left : (a b : Bool) → a ≡ true → a || b ≡ true
or_left a b e = rw e

pub or_right : (a b : Bool) → b ≡ true → a || b ≡ true
or_right true b e = refl
or_right false b e = e

pub or_false : (a b : Bool) → a || b ≡ false → (a ≡ false) × (b ≡ false)
or_false true b e = clash refl e
or_false false b e = (refl, e)

pub or_neither : (a b : Bool) → a ≡ false → b ≡ false → a || b ≡ false
or_neither a b p q = rw (p, q)

pub or_same : (a : Bool) → a || a ≡ true → a ≡ true
or_same true e = refl
or_same false e = e

-- ---- and

pub and_true : (a b : Bool) → a && b ≡ true → (a ≡ true) × (b ≡ true)
and_true true b e = (refl, e)
and_true false b e = clash e refl

pub and_left : (a b : Bool) → a && b ≡ true → a ≡ true
and_left a b e = (and_true a b e).0

pub and_right : (a b : Bool) → a && b ≡ true → b ≡ true
and_right a b e = (and_true a b e).1

pub and_both : (a b : Bool) → a ≡ true → b ≡ true → a && b ≡ true
and_both a b p q = rw (p, q)

pub and_yes : (b : Bool) → b && true ≡ b
and_yes true = refl
and_yes false = refl

-- ---- equal

-- two tests of which each follows from the other
pub same_test : (a b : Bool) → (a ≡ true → b ≡ true) → (b ≡ true → a ≡ true) → a ≡ b
same_test true b f g = sym (f refl)
same_test false true f g = g refl
same_test false false f g = refl

pub beq_true : (a b : Bool) → beq a b ≡ true → a ≡ b
beq_true true true e = refl
beq_true true false e = clash e refl
beq_true false true e = clash e refl
beq_true false false e = refl

pub beq_false : (a b : Bool) → beq a b ≡ false → a ≡ not b
beq_false true true e = clash refl e
beq_false true false e = refl
beq_false false true e = refl
beq_false false false e = clash refl e

pub beq_refl : (a : Bool) → beq a a ≡ true
beq_refl true = refl
beq_refl false = refl
