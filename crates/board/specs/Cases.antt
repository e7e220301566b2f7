-- The marked small boards of document 01, section Small boards, each with its verdict, as one table.
-- That every row of it is true is proved in proofs/CasesHold.antt.
use Rattle.std.specs.Prelude.{List, [], ◌∷◌, ℕ, ◌+◌, ◌^◌, length}
use Rattle.board.specs.declared.Duty.{Duty}
use Rattle.board.specs.declared.Permission.{Permission}
use Rattle.board.specs.declared.Rule.{Rule}
use Rattle.board.specs.declared.What.{What}
use Rattle.board.specs.declared.What.TheVariants.{Grant, Revoke, Use}
use Rattle.board.specs.View.{View}
use Rattle.board.specs.Green.{Green, FailingOrder}

-- green, or red with a failing order, told by its serials
pub data Verdict : Type 0 where
  green : Verdict
  red : List ℕ → Verdict

-- the verdict is true of the board
abbrev pub Says : View → Verdict → Type 0
Says v green = Green v
Says v (red serials) = FailingOrder v serials

-- a small board and its verdict
pub record Row : Type 0 where
  pub board : View
  pub verdict : Verdict

-- ---- what is usual

-- sets of roles: no role, and just this one
abbrev pub nothing : ℕ
nothing = 0

abbrev pub only : ℕ → ℕ
only role = 2 ^ role

-- use of action 2 on object 0 needs role 1
abbrev pub usual_permissions : List Permission
usual_permissions = record { role = 1; action = 2; object = 0 } ∷ []

-- role 0 assigns role 1 without condition
abbrev pub assigns : Rule
assigns = record { kind = 0; actor = 0; role = 1; wanted = nothing; barred = nothing }

-- role 0 revokes role 1 without condition
abbrev pub revokes : Rule
revokes = record { kind = 1; actor = 0; role = 1; wanted = nothing; barred = nothing }

-- role 0 assigns role 2, barred role 1
abbrev pub assigns2 : Rule
assigns2 = record { kind = 0; actor = 0; role = 2; wanted = nothing; barred = only 1 }

-- ---- duties: who, what, serial, start, end

abbrev pub duty : ℕ → What → ℕ → ℕ → ℕ → Duty
duty doer what serial start end =
    record { serial = record { 0 = serial }; doer = doer; what = what; start = start; end = end }

-- user 0 grants role 1 for user 1
abbrev pub G : ℕ → ℕ → ℕ → Duty
G = duty 0 (Grant 1 1)

-- user 0 revokes role 1 for user 1
abbrev pub R : ℕ → ℕ → ℕ → Duty
R = duty 0 (Revoke 1 1)

-- user 1 uses action 2 on object 0
abbrev pub U : ℕ → ℕ → ℕ → Duty
U = duty 1 (Use 2 0)

-- user 1 uses action 3 on object 0, for which there is no permission
abbrev pub U3 : ℕ → ℕ → ℕ → Duty
U3 = duty 1 (Use 3 0)

-- user 0 grants role 2 to user 1
abbrev pub G2 : ℕ → ℕ → ℕ → Duty
G2 = duty 0 (Grant 1 2)

-- ---- boards: what user 1 holds, and the duties

-- Two users, of whom user 0 holds role 0; clock 0; the next serial is one more than the number of duties.
abbrev pub board : ℕ → List Rule → ℕ → List Duty → View
board roles rules user1 duties =
    record {
      users = 2;
      roles = roles;
      clock = 0;
      next = length duties + 1;
      holdings = only 0 ∷ user1 ∷ [];
      permissions = usual_permissions;
      rules = rules;
      duties = duties;
    }

abbrev pub usual : ℕ → List Duty → View
usual = board 2 (assigns ∷ revokes ∷ [])

-- with a third role, role 2
abbrev pub with_role2 : ℕ → List Duty → View
with_role2 = board 3 (assigns ∷ assigns2 ∷ revokes ∷ [])

-- ---- the table

infix 68 ◌is◌
abbrev pub ◌is◌ : View → Verdict → Row
v is verdict = record { board = v; verdict = verdict }

-- The number of the case stands above each row; cases 6 and 9 have two.
abbrev pub cases : List Row
cases =
    -- 1
    usual nothing [] is green
    -- 2
    ∷ usual nothing (G 1 7 9 ∷ U 2 12 20 ∷ []) is green
    -- 3
    ∷ usual nothing (G 1 7 12 ∷ U 2 12 20 ∷ []) is red (2 ∷ [])
    -- 4
    ∷ usual nothing (G 1 7 11 ∷ U 2 12 20 ∷ []) is green
    -- 5
    ∷ usual (only 1) (R 1 5 15 ∷ U 2 12 20 ∷ []) is red (1 ∷ 2 ∷ [])
    -- 6
    ∷ usual (only 1) (U 1 12 20 ∷ R 2 20 30 ∷ []) is red (2 ∷ 1 ∷ [])
    ∷ usual (only 1) (U 1 12 20 ∷ R 2 21 30 ∷ []) is green
    -- 7
    ∷ usual (only 1) (R 1 1 3 ∷ G 2 5 6 ∷ U 3 8 9 ∷ []) is green
    -- 8
    ∷ usual (only 1) (R 1 1 5 ∷ G 2 5 6 ∷ U 3 8 9 ∷ []) is red (2 ∷ 1 ∷ 3 ∷ [])
    -- 9
    ∷ usual nothing (G 1 7 7 ∷ U 2 8 8 ∷ []) is green
    ∷ usual nothing (G 1 7 7 ∷ U 2 7 7 ∷ []) is red (2 ∷ [])
    -- 10 (document 01 gives no window)
    ∷ usual nothing (U3 1 12 20 ∷ []) is red (1 ∷ [])
    -- 11
    ∷ with_role2 nothing (G 1 1 5 ∷ G2 2 3 8 ∷ []) is red (1 ∷ 2 ∷ [])
    ∷ []
