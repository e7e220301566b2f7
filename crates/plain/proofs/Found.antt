-- The walk of a good board value, over the sets of roles as they stand in it, finds what `first_failing_of`
-- says: what a duty changes in the table of sets is what it changes of who holds what, since its target and
-- its role are in range; and beyond the users the table says nothing.
use mathlib.Core.Path.{◌≡◌, refl, ap, ◌∙◌}
use mathlib.Core.Bool.{Bool, true, cond}
use Rattle.std.specs.Prelude.{Option, Some}
use mathlib.Core.List.{List, [], ◌∷◌}
use Prim.Native.Nat.{ℕ, zero, suc, ◌≤◌}
use lib.ListN.{length}
use Rattle.orders.specs.Lists.{Mem, here, there, keep}
use Rattle.orders.specs.Needs.{world}
use Rattle.orders.specs.Orders.{World}
use Rattle.orders.specs.Plain.{first_found, in_front, may_come_next, first_failing}
use Rattle.orders.specs.Walks.{without}
use Rattle.orders.proofs.Lists.{keep_mem}
use Rattle.orders.proofs.Tests.{and_true}
use Rattle.board.specs.declared.Board.{Board}
use Rattle.board.specs.declared.Duty.{Duty}
use Rattle.board.specs.declared.Permission.{Permission}
use Rattle.board.specs.declared.Rule.{Rule}
use Rattle.board.specs.Filler.{Sized}
use Rattle.board.specs.Good.{good, what_fits}
use Rattle.board.specs.Green.{duties_under, world_of}
use Rattle.board.specs.Limits.{max_roles}
use Rattle.board.specs.Permitted.{Holding, held_in, changed}
use Rattle.board.specs.View.{View, view}
use Rattle.board.proofs.GoodLaws.{good→counts, good→records, good→filler, records→range}
use Rattle.permitted.proofs.Laws.{changed_holdings, changed_length, holdings_view}
use Rattle.plain.specs.Walks.{first_failing_of}
use Rattle.plain.specs.Walking.{sets_world, walked}

pub same_found :
    {A B : Type 0} {f g : A → Option B} (l : List A) → ((x : A) → Mem x l → f x ≡ g x)
    → first_found f l ≡ first_found g l
same_found [] e = refl
same_found (x ∷ l) e = rw (e x (here refl), same_found l (λ y m. e y (there m)))

module _ (permissions : List Permission) (rules : List Rule) (users roles : ℕ) (limit : roles ≤ max_roles)
  where
    abbrev sets_world_lem : World
    sets_world_lem = sets_world permissions rules

    abbrev holdings_world : World
    holdings_world = world (duties_under permissions rules)

    same_failing :
        (n : ℕ) (sets : List ℕ) (pool : List Duty) → users ≤ length sets
        → ((d : Duty) → Mem d pool → what_fits users roles d.what ≡ true)
        → first_failing sets_world_lem n sets pool ≡ first_failing holdings_world n (held_in sets) pool
    same_failing zero sets pool table fits = refl
    same_failing (suc n) sets pool table fits =
        same_found (keep (may_come_next sets_world_lem pool) pool) (λ d m.
        let open_d = (keep_mem (may_come_next sets_world_lem pool) pool m).0 in
        let left = without sets_world_lem d pool in
        let rest : first_failing sets_world_lem n (changed sets d.what) left
        ≡ first_failing holdings_world n (holdings_world.after (held_in sets) d) left =
        same_failing n (changed sets d.what) left (rw (changed_length sets d.what) table)
        (λ y k. fits y (keep_mem _ pool k).0)
        ∙ ap (λ (s : Holding → Bool). first_failing holdings_world n s left)
        (changed_holdings permissions rules sets users roles table limit d.what (fits d open_d)) in
        ap
        (λ (o : Option (List Duty)).
        cond (sets_world_lem.permitted sets d) (in_front d o) (Some (d ∷ [])))
        rest)

module _ (b : Board) (size : Sized b) (is_good : good b ≡ true) where
  abbrev v : View
  v = view b

  pub first_found_lem : (n : ℕ) → n ≡ length v.duties → walked n b ≡ first_failing_of v
  first_found_lem n e =
      let counts = good→counts b is_good in
      let range = records→range v (good→records b is_good) in
      let table : b.counts.users ≤ length b.holdings = rw size.holdings counts.users in
      rw e
      (same_failing v.permissions v.rules b.counts.users b.counts.roles counts.roles
      (length v.duties) b.holdings v.duties table (λ d m. (range.duties.each d m).what)
      ∙ ap (λ (s : Holding → Bool). first_failing (world_of v) (length v.duties) s v.duties)
      (holdings_view b (and_true _ _ (good→filler b is_good)).0))
