-- Whether d gets stuck by x depends on which duties are open, and not on where they stand: the tests ask
-- whether any open duty sets a holding right.
use mathlib.Core.Path.{◌≡◌}
use mathlib.Core.Logic.{◌↔◌}
use mathlib.Core.Bool.{Bool, ◌&&◌}
use mathlib.Core.List.{List}
use Rattle.orders.specs.Lists.{Mem, any}
use Rattle.orders.specs.Needs.{Duties, Holdings, sets}
use Rattle.orders.specs.Trails.{StuckBy, unruled, stays, made}
use Rattle.orders.proofs.Lists.{any_true, any_mem}
use Rattle.orders.proofs.Tests.{same_test}

any_same :
    {A : Type 0} (k l : List A) → ((y : A) → Mem y k ↔ Mem y l) → (p : A → Bool) → any p k ≡ any p l
any_same k l same p =
    same_test (any p k) (any p l)
    (λ e. let (y, m, t) = any_true p k e in any_mem p ((same y).0 m) t)
    (λ e. let (y, m, t) = any_true p l e in any_mem p ((same y).1 m) t)

module _ (D : Duties) (s : Holdings D) where
  open D use {Duty, wholly_before}

  pub stuck_same :
      (k l : List Duty) → ((y : Duty) → Mem y k ↔ Mem y l) → (d x : Duty) → StuckBy D s k d x
      → StuckBy D s l d x
  stuck_same k l same d x (unruled is e) = unruled is e
  stuck_same k l same d x (stays h p m is e) =
      stays h p m is (rw (any_same k l same (λ g. wholly_before g d && sets D g h p)) at e)
  stuck_same k l same d x (made h p m open_x e) =
      let mending = any_same k l same (λ g. (wholly_before x g && wholly_before g d) && sets D g h p) in
      made h p m ((same x).0 open_x) (rw mending at e)
