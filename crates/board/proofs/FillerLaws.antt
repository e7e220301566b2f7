-- Beyond each count stands the filler alone exactly if every place there passes the test for it: the filler
-- passes, and nothing else does.
use mathlib.Core.Path.{◌≡◌, refl, ◌∙◌}
use mathlib.Core.Bool.{Bool, true}
use mathlib.Core.List.{List, [], ◌∷◌}
use Prim.Native.Nat.{ℕ, zero, suc, ◌-◌}
use lib.Dec.{eqb}
use lib.ListN.{length, drop, replicate, length-drop}
use borrow.Author.Tests.{eqb-true}
use Rattle.orders.specs.Lists.{all}
use Rattle.orders.proofs.Tests.{and_left, and_right, and_both, clash}
use Rattle.board.specs.declared.Board.{Board}
use Rattle.board.specs.declared.Counts.{Counts}
use Rattle.board.specs.declared.Duty.{Duty}
use Rattle.board.specs.declared.Permission.{Permission}
use Rattle.board.specs.declared.Rule.{Rule}
use Rattle.board.specs.declared.What.{What}
use Rattle.board.specs.declared.What.TheVariants.{Grant, Revoke, Use}
use Rattle.board.specs.Filler.{no_permission, no_rule, no_duty, Sized}
use Rattle.board.specs.Limits.{max_users, max_permissions, max_rules, max_duties}
use Rattle.board.specs.Good.{is_no_permission, is_no_rule, is_no_what, is_no_duty, filler_beyond}

-- ---- only the filler passes

no_permission_lem : (p : Permission) → is_no_permission p ≡ true → p ≡ no_permission
no_permission_lem p e =
    let r : (p.role ≡ 0) × (p.action ≡ 0) × (p.object ≡ 0) = search (and_left, and_right, eqb-true) in
    λ i. record { role = r.0 i; action = r.1 i; object = r.2 i }

no_rule_lem : (r : Rule) → is_no_rule r ≡ true → r ≡ no_rule
no_rule_lem r e = λ i. record { kind = q.0 i; actor = q.1 i; role = q.2 i; wanted = q.3 i; barred = q.4 i }
  where
    q : (r.kind ≡ 0) × (r.actor ≡ 0) × (r.role ≡ 0) × (r.wanted ≡ 0) × (r.barred ≡ 0)
    q = search (and_left, and_right, eqb-true)

no_what : (w : What) → is_no_what w ≡ true → w ≡ Grant 0 0
no_what (Grant target role) e = search (and_left, and_right, eqb-true)
no_what (Revoke target role) e = clash e refl
no_what (Use action object) e = clash e refl

no_duty_lem : (d : Duty) → is_no_duty d ≡ true → d ≡ no_duty
no_duty_lem d e =
    λ i. record { serial = record { 0 = q.0 i }; doer = q.1 i; what = q.2 i; start = q.3 i; end = q.4 i }
  where
    q : (d.serial.0 ≡ 0) × (d.doer ≡ 0) × (d.what ≡ Grant 0 0) × (d.start ≡ 0) × (d.end ≡ 0)
    q = search (and_left, and_right, eqb-true, no_what)

-- ---- beyond each count

-- beyond the count of a list of this size stands the filler alone
abbrev pub Beyond : {A : Type 0} → ℕ → ℕ → A → List A → Type 0
Beyond count size filler l = drop count l ≡ replicate (size - count) filler

pub record FillerBeyond (b : Board) : Type 0 where
  pub holdings : Beyond b.counts.users max_users 0 b.holdings
  pub permissions : Beyond b.counts.permissions max_permissions no_permission b.permissions
  pub rules : Beyond b.counts.rules max_rules no_rule b.rules
  pub duties : Beyond b.counts.duties max_duties no_duty b.duties

module _ {A : Type 0} (is_filler : A → Bool) (filler : A) where
  alike :
      ((x : A) → is_filler x ≡ true → x ≡ filler) → (l : List A) → all is_filler l ≡ true
      → l ≡ replicate (length l) filler
  alike f [] e = refl
  alike f (x ∷ l) e =
      rw (
        f x (and_left (is_filler x) (all is_filler l) e),
        ← alike f l (and_right (is_filler x) (all is_filler l) e),
      )

  fit→beyond :
      ((x : A) → is_filler x ≡ true → x ≡ filler) → (count size : ℕ) (l : List A) → length l ≡ size
      → all is_filler (drop count l) ≡ true → Beyond count size filler l
  fit→beyond f count size l s e = alike f (drop count l) e ∙ rw (length-drop, s)

  all_replicate : is_filler filler ≡ true → (n : ℕ) → all is_filler (replicate n filler) ≡ true
  all_replicate e zero = refl
  all_replicate e (suc n) = rw (e, all_replicate e n)

  beyond→fit :
      is_filler filler ≡ true → (count size : ℕ) (l : List A) → Beyond count size filler l
      → all is_filler (drop count l) ≡ true
  beyond→fit e count size l h = rw h (all_replicate e (size - count))

pub filler→beyond : (b : Board) → Sized b → filler_beyond b ≡ true → FillerBeyond b
filler→beyond b s e =
    record {
      holdings =
          fit→beyond (λ set. eqb set 0) 0 (λ set. eqb-true set 0) b.counts.users max_users b.holdings
          s.holdings (search and_left);
      permissions =
          fit→beyond is_no_permission no_permission no_permission_lem b.counts.permissions max_permissions
          b.permissions s.permissions (search (and_left, and_right));
      rules =
          fit→beyond is_no_rule no_rule no_rule_lem b.counts.rules max_rules b.rules
          s.rules (search (and_left, and_right));
      duties =
          fit→beyond is_no_duty no_duty no_duty_lem b.counts.duties max_duties b.duties
          s.duties (search (and_left, and_right));
    }

pub beyond→filler : (b : Board) → FillerBeyond b → filler_beyond b ≡ true
beyond→filler b f = search (and_both, hs, ps, rs, ds)
  where
    n : Counts
    n = b.counts

    hs : all (λ set. eqb set 0) (drop n.users b.holdings) ≡ true
    hs = beyond→fit (λ set. eqb set 0) 0 refl n.users max_users b.holdings f.holdings

    ps : all is_no_permission (drop n.permissions b.permissions) ≡ true
    ps =
        beyond→fit is_no_permission no_permission refl n.permissions max_permissions b.permissions
        f.permissions

    rs : all is_no_rule (drop n.rules b.rules) ≡ true
    rs = beyond→fit is_no_rule no_rule refl n.rules max_rules b.rules f.rules

    ds : all is_no_duty (drop n.duties b.duties) ≡ true
    ds = beyond→fit is_no_duty no_duty refl n.duties max_duties b.duties f.duties
