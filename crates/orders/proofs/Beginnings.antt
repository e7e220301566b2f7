-- A beginning goes on with a list b of open duties if b is spaced, may follow what there is, and leaves out
-- nothing wholly before one of its own. Whether one duty may follow another is often told by a third: what it
-- is wholly before, or what is wholly before it.
use mathlib.Core.Path.{◌≡◌, sym, ap, ◌∙◌}
use mathlib.Core.Logic.{◌≢◌, ⊎_elim}
use mathlib.Core.Bool.{Bool, true, false}
use mathlib.Core.List.Memᴰ
use mathlib.Core.List.{
  List,
  [],
  ◌∷◌,
  ◌++◌,
}
use Rattle.orders.specs.Lists.{Mem, Pairwise}
use Rattle.orders.specs.Orders.{World, MayFollow, Pool}
use Rattle.orders.specs.Beginnings.{Beginning}
use Rattle.orders.proofs.Tests.{clash, is_false}
use Rattle.orders.proofs.Lists.{pairwise_append}
use Rattle.orders.proofs.Build.{one}

module _ (W : World) (pool : List W.Duty) where
  open W use {Duty, serial, wholly_before}

  -- ---- a beginning goes on

  pub begin_append :
      (a b : List Duty) → Beginning W pool a → ((y : Duty) → Mem y b → Mem y pool)
      → Pairwise (MayFollow W) b → ((y z : Duty) → Mem y a → Mem z b → MayFollow W y z)
      → ((y z : Duty) → Mem y b → Mem z pool → wholly_before z y ≡ true → Mem z (a ++ b))
      → Beginning W pool (a ++ b)
  begin_append a b r only spaced across closed =
      record {
        only = λ y m. ⊎_elim (r.only y) (only y) (Memᴰ.append_cases a m);
        spaced = pairwise_append _ a b r.spaced spaced across;
        closed = λ y z m n e.
            ⊎_elim
            (λ k. Memᴰ.append_left b (r.closed y z k n e))
            (λ k. closed y z k n e)
            (Memᴰ.append_cases a m);
      }

  pub begin_then :
      (a : List Duty) (x : Duty) → Beginning W pool a → Mem x pool
      → ((y : Duty) → Mem y a → MayFollow W y x)
      → ((z : Duty) → Mem z pool → wholly_before z x ≡ true → Mem z a) → Beginning W pool (a ++ (x ∷ []))
  begin_then a x r open_x last below =
      begin_append
      a
      (x ∷ [])
      r
      (λ y m. Memᴰ.cast (Memᴰ.eq_of_singleton m) open_x)
      (λ y m. elim m [ ], tt)
      (λ y z m n. rw (Memᴰ.eq_of_singleton n) (last y m))
      (λ y z m n e. Memᴰ.append_left (x ∷ []) (below z n (rw (Memᴰ.eq_of_singleton m) at e)))

  -- ---- duties that a third tells apart

  module _ (P : Pool W pool) where
    -- two duties that a test tells apart are two
    pub differ :
        (f : Duty → Bool) {x y : Duty} → Mem x pool → Mem y pool → f x ≡ true → f y ≡ false
        → serial x ≢ serial y
    differ f m n p q e = clash p (ap f (one W pool P m n e) ∙ q)

    -- x is wholly before z and not wholly before y
    pub not_above_lem :
        {x y z : Duty} → Mem x pool → Mem y pool → Mem z pool → wholly_before x y ≡ false
        → wholly_before x z ≡ true → MayFollow W y z
    not_above_lem {x} {y} {z} l m n p q = (
      λ e. differ (wholly_before x) n m q p (sym e),
      is_false _ (λ t. clash (P.transitive x z y l n m q t) p),
    )

    -- y is wholly before z, and d is not
    pub not_below :
        {d y z : Duty} → Mem d pool → Mem y pool → Mem z pool → wholly_before y z ≡ true
        → wholly_before d z ≡ false → MayFollow W y d
    not_below {d} {y} {z} l m n p q = (
      differ (λ v. wholly_before v z) m l p q,
      is_false _ (λ t. clash (P.transitive d y z l m n t p) q),
    )
