-- A test that each record passes, gathered from the first to the last.
use mathlib.Core.Path.{◌≡◌, refl}
use mathlib.Core.Bool.{Bool, true, false, ◌&&◌}
use mathlib.Core.List.{List, [], ◌∷◌}
use Rattle.std.specs.List.{list_all, fold}

failed : {A : Type 0} (f : A → Bool) (l : List A) → fold (λ a x. a && f x) false l ≡ false
failed f [] = refl
failed f (x ∷ l) = failed f l

pub gathered : {A : Type 0} (f : A → Bool) (l : List A) → fold (λ a x. a && f x) true l ≡ list_all f l
gathered f [] = refl
gathered f (x ∷ l) = next (f x) (gathered f l)
  where
    next : (b : Bool) → fold (λ a x. a && f x) true l ≡ list_all f l
        → fold (λ a x. a && f x) b l ≡ b && list_all f l
    next true e = e
    next false e = failed f l
