-- The calls that the records of a session ask for: docs/REPLAY.md, section What is read.
use Rattle.std.specs.Prelude.{◌≡◌, cond, List, [], ◌∷◌, ℕ, ◌≤◌, min, eqb, length}
use Rattle.orders.specs.Lists.{Mem}
use Rattle.promises.specs.Calls.{Call, admit, act, do_duty, withdraw, check, save, walk, Made}
use Rattle.session.specs.declared.Record.{Record}
use Rattle.session.specs.Input.{lent_by}
use Rattle.session.specs.Sessions.{request_admit, request_act, request_do, request_withdraw}

-- the record asks for a call: it is no poke, and of no other kind
abbrev pub IsCall : Record → Type 0
IsCall r = r.kind ≤ 6

-- each of these records does
abbrev pub EachIsCall : List Record → Type 0
EachIsCall records = (r : Record) → Mem r records → IsCall r

-- the call that it asks for, lent this list; to a save, this buffer
abbrev pub call_of : Record → List ℕ → Call
call_of r before =
    cond (eqb r.kind 0) (admit before (request_admit r))
    (cond (eqb r.kind 1) (act before (request_act r))
    (cond (eqb r.kind 2) (do_duty (request_do r))
    (cond (eqb r.kind 3) (withdraw before (request_withdraw r))
    (cond (eqb r.kind 4) (check before)
    (cond (eqb r.kind 5) (save before)
    (walk before))))))

-- how long a list or buffer it says is lent
abbrev pub lent_to : Record → ℕ
lent_to r = cond (eqb r.kind 5) (min r.extra 8192) (lent_by r.lent)

-- The record r asks for this call.
pub record Asks (r : Record) (call : Call) : Type 0 where
  pub before : List ℕ
  pub lent : length before ≡ lent_to r
  pub is : call ≡ call_of r before

-- These records ask for these calls: one for each, in turn.
abbrev pub AskFor : List Record → List Made → Type 0
AskFor [] [] = Unit {0}
AskFor [] (m ∷ made) = ⊥
AskFor (r ∷ records) [] = ⊥
AskFor (r ∷ records) (m ∷ made) = Asks r m.call × AskFor records made
