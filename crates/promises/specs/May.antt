-- When a call on the live board is accepted, up to the verdict (8): the answer numbers of document 01, each
-- denied, in plain numbers and in the sentences of section Permitted. No list of checks is named here, so a
-- slip in one of them does not come along: proofs/May.antt has to show that the two say the same.
use Rattle.std.specs.Prelude.{◌≡◌, ◌⊎◌, true, ℕ, ◌≤◌, ◌<◌, length}
use Rattle.orders.specs.Lists.{Mem}
use Rattle.board.specs.declared.Answer.{Answer}
use Rattle.board.specs.declared.Board.{Board}
use Rattle.board.specs.declared.Duty.{Duty}
use Rattle.board.specs.declared.What.{What}
use Rattle.board.specs.declared.What.TheVariants.{Grant, Revoke, Use}
use Rattle.board.specs.Good.{good}
use Rattle.board.specs.Limits.{max_duties, max_next, actions, objects}
use Rattle.board.specs.Numbers as answer
use Rattle.board.specs.Permitted.{held_in}
use Rattle.board.specs.Sentences.{Sentence}
use Rattle.board.specs.View.{View, view}
use Rattle.requests.specs.declared.RequestAct.{RequestAct}
use Rattle.requests.specs.declared.RequestAdmit.{RequestAdmit}
use Rattle.requests.specs.declared.RequestDo.{RequestDo}
use Rattle.requests.specs.declared.RequestWithdraw.{RequestWithdraw}

-- ---- what a request asks for

-- For grant and revoke, first is the target user and second the role. Both are in their range.
pub record AsksChange (v : View) (first second target role : ℕ) : Type 0 where
  pub target_is : first ≡ target
  pub role_is : second ≡ role
  pub target_known : target < v.users
  pub role_known : role < v.roles

-- For a use, first is the object and second is 0. Its action is from 2 to 63, its object at most 255.
pub record AsksUse (asked first second action object : ℕ) : Type 0 where
  pub action_is : asked ≡ action
  pub object_is : first ≡ object
  pub second_is : second ≡ 0
  pub from_two : 2 ≤ action
  pub action_known : action < actions
  pub object_known : object < objects

-- Action 0 asks for a grant, 1 for a revoke, 2 to 63 for a use.
abbrev pub Asks : View → ℕ → ℕ → ℕ → What → Type 0
Asks v action first second (Grant target role) = (action ≡ 0) × AsksChange v first second target role
Asks v action first second (Revoke target role) = (action ≡ 1) × AsksChange v first second target role
Asks v action first second (Use other object) = AsksUse action first second other object

-- ---- the answer

-- the call is accepted, or denied by the verdict alone
abbrev pub DoneOrRed : Answer → Type 0
DoneOrRed r = (r.number ≡ answer.done) ⊎ (r.number ≡ answer.red)

-- ---- the calls, with a lent list of so many places

-- A duty with this to do may be admitted.
pub record MayAdmit (b : Board) (room : ℕ) (q : RequestAdmit) (what : What) : Type 0 where
  -- not 19: the board value given breaks no file rule
  pub is_good : good b ≡ true
  -- not 9: the lent list has at least 128 places
  pub list : max_duties ≤ room
  -- not 10: the clock is not below the board's clock
  pub clock : b.clock ≤ q.clock
  -- not 11: each field of the request is in its range, and a use's second is 0
  pub doer : q.doer < (view b).users
  pub asks : Asks (view b) q.action q.first q.second what
  -- not 7: the start is not after the end
  pub window : q.start ≤ q.end
  -- not 21: the window is not over, its end is not below the call's clock
  pub not_over : q.clock ≤ q.end
  -- not 16: fewer than 128 duties are open
  pub place : length (view b).duties < max_duties
  -- not 17: the next serial is not 4,294,967,295
  pub serial : (view b).next < max_next

-- This may be done now.
pub record MayAct (b : Board) (room : ℕ) (q : RequestAct) (what : What) : Type 0 where
  -- not 19, 9, 10
  pub is_good : good b ≡ true
  pub list : max_duties ≤ room
  pub clock : b.clock ≤ q.clock
  -- not 11
  pub doer : q.doer < (view b).users
  pub asks : Asks (view b) q.action q.first q.second what
  -- not 15: it is permitted now
  pub permitted : Sentence (view b) (held_in (view b).holdings) q.doer what

-- This duty may be done.
pub record MayDo (b : Board) (q : RequestDo) (duty : Duty) : Type 0 where
  -- not 19, 10
  pub is_good : good b ≡ true
  pub clock : b.clock ≤ q.clock
  -- not 12: it is open and has this serial
  pub open_duty : Mem duty (view b).duties
  pub has_serial : duty.serial.0 ≡ q.serial.0
  -- not 13: the clock is not outside its window; windows include both ends
  pub from_start : duty.start ≤ q.clock
  pub to_end : q.clock ≤ duty.end
  -- not 14: no open duty is wholly before this one, its end less than the start of this one
  pub none_before : (other : Duty) → Mem other (view b).duties → other.end < duty.start → ⊥
  -- not 15: it is permitted now
  pub permitted : Sentence (view b) (held_in (view b).holdings) duty.doer duty.what

-- This duty may be withdrawn.
pub record MayWithdraw (b : Board) (room : ℕ) (q : RequestWithdraw) (duty : Duty) : Type 0 where
  -- not 19, 9, 10
  pub is_good : good b ≡ true
  pub list : max_duties ≤ room
  pub clock : b.clock ≤ q.clock
  -- not 12
  pub open_duty : Mem duty (view b).duties
  pub has_serial : duty.serial.0 ≡ q.serial.0
