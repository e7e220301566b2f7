-- A list of needs is met just if each holding in it is as it should be, and the needs of a rule just if doer
-- and target hold what document 01's sentence says.
use mathlib.Core.Path.{◌≡◌, refl, subst}
use mathlib.Core.Logic.{◌↔◌, ⊎_elim}
use mathlib.Core.Bool.{Bool, true, false, beq}
use Rattle.std.specs.Prelude.{Some}
use mathlib.Core.List.Memᴰ
use mathlib.Core.List.{
  List,
  ◌∷◌,
  ◌++◌,
}
use Prim.Native.Nat.{ℕ, ◌<◌}
use Rattle.orders.specs.Lists.{Mem, here, there}
use Rattle.orders.specs.Needs.{met}
use Rattle.orders.proofs.Tests.{clash, beq_true, beq_refl}
use Rattle.orders.proofs.Lists.{all_mem, all_in}
use Rattle.roles.specs.Roles.{in_set}
use Rattle.board.specs.declared.Rule.{Rule}
use Rattle.board.specs.declared.Asked.TheVariants.{Meets}
use Rattle.board.specs.Limits.{max_roles}
use Rattle.board.specs.Permitted.{Holding, roles_in, each, needs}
use Rattle.board.specs.Sentences.{MeetsRule}
use Rattle.board.proofs.RolesIn.{roles_mem}

module _ (s : Holding → Bool) where
  -- every need of the list is met
  pub all_met :
      (l : List (Holding × Bool))
      → met s (Some l) ≡ true ↔ ((n : Holding × Bool) → Mem n l → s n.0 ≡ n.1)
  all_met l = (
    λ e n m. beq_true (s n.0) n.1 (all_mem (λ n. beq (s n.0) n.1) e m),
    λ f. all_in (λ n. beq (s n.0) n.1) l (λ n m. rw (f n m) (beq_refl n.1)),
  )

  -- the user holds every role of the set (or none of them)
  each_met :
      (held : Bool) (user set : ℕ)
      → ((n : Holding × Bool) → Mem n (each held user (roles_in set)) → s n.0 ≡ n.1)
      ↔ ((q : ℕ) → q < max_roles → in_set set q ≡ true → s (user, q) ≡ held)
  each_met held user set = (
    λ f q h i. f ((user, q), held) (Memᴰ.map (λ q. ((user, q), held)) ((roles_mem set q).1 (h, i))),
    back,
  )
    where
      back :
          ((q : ℕ) → q < max_roles → in_set set q ≡ true → s (user, q) ≡ held)
          → (n : Holding × Bool) → Mem n (each held user (roles_in set)) → s n.0 ≡ n.1
      back g n m =
          let (q, i, e) = Memᴰ.of_map (λ q. ((user, q), held)) (roles_in set) m in
          let r = (roles_mem set q).0 i in
          subst (λ (n : Holding × Bool). s n.0 ≡ n.1) e (g q r.0 r.1)

  pub meets_is :
      (doer target : ℕ) (rule : Rule)
      → met s (needs doer (Meets target rule)) ≡ true ↔ MeetsRule s doer target rule
  meets_is doer target rule = (forth, λ m. (all_met list).1 (back m))
    where
      wants : List (Holding × Bool)
      wants = each true target (roles_in rule.wanted)

      bars : List (Holding × Bool)
      bars = each false target (roles_in rule.barred)

      list : List (Holding × Bool)
      list = ((doer, rule.actor), true) ∷ (wants ++ bars)

      forth : met s (Some list) ≡ true → MeetsRule s doer target rule
      forth e =
          let f = (all_met list).0 e in
          record {
            actor = f ((doer, rule.actor), true) (here refl);
            wanted = (each_met true target rule.wanted).0 (λ n m. f n (there (Memᴰ.append_left bars m)));
            barred = (each_met false target rule.barred).0 (λ n m. f n (there (Memᴰ.append_right wants m)));
          }

      back : MeetsRule s doer target rule → (n : Holding × Bool) → Mem n list → s n.0 ≡ n.1
      back r n (here e) = rw e r.actor
      back r n (there m) =
          ⊎_elim
          ((each_met true target rule.wanted).1 r.wanted n)
          ((each_met false target rule.barred).1 r.barred n)
          (Memᴰ.append_cases wants m)

-- a rule that wants and bars the same role: nobody meets it
pub nobody_meets :
    (s : Holding → Bool) (doer target : ℕ) (rule : Rule) (q : ℕ) → q < max_roles
    → in_set rule.wanted q ≡ true → in_set rule.barred q ≡ true → MeetsRule s doer target rule → ⊥
nobody_meets s doer target rule q h w b m = clash (m.wanted q h w) (m.barred q h b)
