-- What is permitted is what document 01's sentences say (specs/Sentences.antt): `permitted_now` looks up the
-- first permission or rule and tests a list of needs. At most one is there (AtMostOne.antt), and the needs
-- are met just if doer and target hold what the sentence says (NeedsLaws.antt).
use mathlib.Core.Path.{◌≡◌, refl}
use mathlib.Core.Logic.{◌↔◌}
use mathlib.Core.Bool.{Bool, true}
use Rattle.std.specs.Prelude.{Option}
use mathlib.Core.List.{List, [], ◌∷◌}
use Prim.Native.Nat.{ℕ}
use Rattle.orders.specs.Lists.{here, find}
use Rattle.orders.specs.Needs.{met}
use Rattle.board.specs.declared.Duty.{Duty}
use Rattle.board.specs.declared.Permission.{Permission}
use Rattle.board.specs.declared.Rule.{Rule}
use Rattle.board.specs.declared.What.{What}
use Rattle.board.specs.declared.What.TheVariants.{Grant, Revoke, Use}
use Rattle.board.specs.View.{View}
use Rattle.board.specs.Good.{records_fit}
use Rattle.board.specs.Permitted.{Holding, held_in, governs, by_permission, by_rule, asked_for, needs}
use Rattle.board.specs.Green.{permitted_now, world_of}
use Rattle.board.specs.Sentences.{UsePermitted, ChangePermitted, Sentence}
use Rattle.board.proofs.AtMostOne.{one_permission, one_rule, Said, find_says}
use Rattle.board.proofs.NeedsLaws.{all_met, meets_is}

-- permitted where s says who holds what: `permitted_now` and the world of the board are instances of it
abbrev pub permitted_in : View → (Holding → Bool) → ℕ → What → Bool
permitted_in v s doer what = met s (needs doer (asked_for v.permissions v.rules what))

module _ (v : View) (fit : records_fit v ≡ true) (s : Holding → Bool) (doer : ℕ) where
  pub use_is :
      (action object : ℕ)
      → permitted_in v s doer (Use action object) ≡ true ↔ UsePermitted v s doer action object
  use_is action object = (
    λ e.
        let (p, m, a, o, t) = found.0 e in
        let held = (all_met s (need p)).0 t ((doer, p.role), true) (here refl) in
        record { permission = p; exists = m; for_action = a; for_object = o; held = held },
    λ w. found.1 (w.permission, w.exists, w.for_action, w.for_object, rw w.held),
  )
    where
      need : Permission → List (Holding × Bool)
      need p = ((doer, p.role), true) ∷ []

      says : Option Permission → Bool
      says o = met s (needs doer (by_permission o))

      found :
          permitted_in v s doer (Use action object) ≡ true
          ↔ Said (λ p. p.action) (λ p. p.object) action object v.permissions says
      found =
          find_says
          (λ p. p.action)
          (λ p. p.object)
          action
          object
          v.permissions
          says
          (one_permission v fit)
          refl

  -- grant and revoke, by the rule's kind
  change_is :
      (kind target role : ℕ)
      → met s (needs doer (by_rule target (find (governs kind role) v.rules))) ≡ true
      ↔ ChangePermitted v s kind doer target role
  change_is kind target role = (
    λ e.
        let (r, m, k, q, t) = found.0 e in
        record { rule = r; exists = m; of_kind = k; for_role = q; meets = (meets_is s doer target r).0 t },
    λ w.
        found.1
        (w.rule, w.exists, w.of_kind, w.for_role, (meets_is s doer target w.rule).1 w.meets),
  )
    where
      says : Option Rule → Bool
      says o = met s (needs doer (by_rule target o))

      found :
          says (find (governs kind role) v.rules) ≡ true
          ↔ Said (λ r. r.kind) (λ r. r.role) kind role v.rules says
      found = find_says (λ r. r.kind) (λ r. r.role) kind role v.rules says (one_rule v fit) refl

  pub grant_is :
      (target role : ℕ)
      → permitted_in v s doer (Grant target role) ≡ true ↔ ChangePermitted v s 0 doer target role
  grant_is = change_is 0

  pub revoke_is :
      (target role : ℕ)
      → permitted_in v s doer (Revoke target role) ≡ true ↔ ChangePermitted v s 1 doer target role
  revoke_is = change_is 1

  pub sentence_is : (what : What) → permitted_in v s doer what ≡ true ↔ Sentence v s doer what
  sentence_is (Grant target role) = grant_is target role
  sentence_is (Revoke target role) = revoke_is target role
  sentence_is (Use action object) = use_is action object

-- permitted now, and permitted in the world of the board
pub permitted_now_is :
    (v : View) → records_fit v ≡ true → (doer : ℕ) (what : What)
    → permitted_now v doer what ≡ true ↔ Sentence v (held_in v.holdings) doer what
permitted_now_is v fit doer what = sentence_is v fit (held_in v.holdings) doer what

pub permitted_is :
    (v : View) → records_fit v ≡ true → (s : Holding → Bool) (d : Duty)
    → (world_of v).permitted s d ≡ true ↔ Sentence v s d.doer d.what
permitted_is v fit s d = sentence_is v fit s d.doer d.what
