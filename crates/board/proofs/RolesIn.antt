-- Which roles `roles_in` lists: just those of the set below the limit, and none of the empty set. Elsewhere
-- `roles_in` stays shut: this is all that is used of it.
use mathlib.Core.Path.{◌≡◌, refl}
use mathlib.Core.Logic.{◌↔◌, ⊎_elim}
use mathlib.Core.Bool.{true}
use mathlib.Core.List.Memᴰ
use mathlib.Core.List.{
  [],
  ◌∷◌,
}
use Prim.Native.Nat.{ℕ, zero, suc, ◌<◌}
use native.Mathlib.Nat.{not-suc-le-zero}
use native.Mathlib.Omega.{arith}
use lib.Dec.{eqb}
use borrow.Author.Tests.{eqb-true, eqb-false}
use Rattle.orders.specs.Lists.{Mem, here}
use Rattle.orders.proofs.Tests.{by_test}
use Rattle.orders.proofs.Lists.{keep_mem, keep_in}
use Rattle.roles.specs.Roles.{in_set}
use Rattle.board.specs.Limits.{max_roles}
use Rattle.board.specs.Permitted.{below, roles_in}

pub below_mem : (n q : ℕ) → q < n → Mem q (below n)
below_mem zero q h = absurd (not-suc-le-zero h)
below_mem (suc n) q h =
    by_test
    (eqb q n)
    (λ e. Memᴰ.append_right (below n) (here (eqb-true q n e)))
    (λ f. let k = eqb-false q n f in Memᴰ.append_left (n ∷ []) (below_mem n q (omega arith)))

pub mem_below : (n q : ℕ) → Mem q (below n) → q < n
mem_below zero q m = elim m [ ]
mem_below (suc n) q m =
    ⊎_elim
    (λ l. let h = mem_below n q l in omega arith)
    (λ l. let e = Memᴰ.eq_of_singleton l in omega arith)
    (Memᴰ.append_cases (below n) m)

pub roles_mem : (set q : ℕ) → Mem q (roles_in set) ↔ ((q < max_roles) × (in_set set q ≡ true))
unfolding roles_in
roles_mem set q = (
  λ m. let r = keep_mem (in_set set) (below max_roles) m in (mem_below max_roles q r.0, r.1),
  λ t. keep_in (in_set set) (below_mem max_roles q t.0) t.1,
)

pub no_roles : roles_in 0 ≡ []
unfolding roles_in
no_roles = refl
