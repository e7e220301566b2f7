-- What a call leaves, in the sentences of document 01, section Answer numbers: what changes and what is left
-- alone. The definitions of the board after a call, of which its promise is made, are not named here:
-- proofs/Accepted.antt has to show that they say this.
use Rattle.std.specs.Prelude.{◌≡◌, ◌↔◌, ◌≢◌, List, [], ◌∷◌, ◌++◌, ℕ, ◌+◌, length}
use Rattle.orders.specs.Lists.{Mem}
use Rattle.board.specs.declared.Answer.{Answer}
use Rattle.board.specs.declared.Board.{Board}
use Rattle.board.specs.declared.Duty.{Duty}
use Rattle.board.specs.declared.What.{What}
use Rattle.board.specs.Green.{Green}
use Rattle.board.specs.Numbers as answer
use Rattle.board.specs.Permitted.{held_in}
use Rattle.board.specs.Sentences.{Change}
use Rattle.board.specs.Told.{OrderTold}
use Rattle.board.specs.View.{View, view}
use Rattle.requests.specs.declared.RequestAct.{RequestAct}
use Rattle.requests.specs.declared.RequestAdmit.{RequestAdmit}
use Rattle.requests.specs.declared.RequestDo.{RequestDo}
use Rattle.requests.specs.declared.RequestWithdraw.{RequestWithdraw}
use Rattle.promises.specs.Calls.{Call, lent, refused_board}
use Rattle.promises.specs.May.{MayAdmit, MayAct, MayDo, MayWithdraw}

-- ---- refused

pub record Refused (b : Board) (call : Call) (r : Answer) (left : Board) (after : List ℕ) : Type 0 where
  -- refused, the board is untouched, clock included; a refused open gives the smallest board
  pub board : left ≡ refused_board b call
  -- any answer but an accepted admit carries serial 0
  pub serial : r.serial.0 ≡ 0
  -- every answer but 8 leaves the whole list untouched and carries length 0
  pub list : r.number ≢ answer.red → (after ≡ lent call) × (r.length ≡ 0)

-- ---- the change: v is what the board says before the call, w what it says after

-- The clock becomes the call's clock. No call changes the users, the roles, the permissions and the rules.
pub record LeftAlone (v : View) (clock : ℕ) (w : View) : Type 0 where
  pub clock_is : w.clock ≡ clock
  pub users : w.users ≡ v.users
  pub roles : w.roles ≡ v.roles
  pub permissions : w.permissions ≡ v.permissions
  pub rules : w.rules ≡ v.rules

-- the duty with this serial is removed: a duty is open after it exactly if it was and has another serial
abbrev pub Removed : ℕ → View → View → Type 0
Removed serial v w =
    (d : Duty) → Mem d w.duties ↔ (Mem d v.duties × (d.serial.0 ≢ serial))

-- Admit adds the duty with the next serial, which rises by one.
pub record Adds (v : View) (q : RequestAdmit) (added : Duty) (w : View) : Type 0 where
  pub alone : LeftAlone v q.clock w
  -- behind the open ones
  pub duties : w.duties ≡ v.duties ++ (added ∷ [])
  pub serial : added.serial.0 ≡ v.next
  pub next : w.next ≡ v.next + 1
  -- it is the duty that was asked for
  pub doer : added.doer ≡ q.doer
  pub start : added.start ≡ q.start
  pub end : added.end ≡ q.end
  pub holdings : w.holdings ≡ v.holdings

-- Act makes its change and fulfils no duty.
pub record Changes (v : View) (clock : ℕ) (what : What) (w : View) : Type 0 where
  pub alone : LeftAlone v clock w
  pub change : Change (held_in v.holdings) what (held_in w.holdings)
  pub duties : w.duties ≡ v.duties
  pub next : w.next ≡ v.next

-- Do makes the change and removes the duty.
pub record Fulfils (v : View) (clock : ℕ) (duty : Duty) (w : View) : Type 0 where
  pub alone : LeftAlone v clock w
  pub change : Change (held_in v.holdings) duty.what (held_in w.holdings)
  pub removed : Removed duty.serial.0 v w
  pub next : w.next ≡ v.next

-- Withdraw only removes it.
pub record Removes (v : View) (clock : ℕ) (duty : Duty) (w : View) : Type 0 where
  pub alone : LeftAlone v clock w
  pub removed : Removed duty.serial.0 v w
  pub holdings : w.holdings ≡ v.holdings
  pub next : w.next ≡ v.next

-- ---- accepted: the change is made, and the board after the call is green; the whole list is untouched

pub record AdmitAccepted
    (b : Board) (before : List ℕ) (q : RequestAdmit) (r : Answer) (left : Board) (after : List ℕ)
    : Type 0
  where
    pub added : Duty
    pub may : MayAdmit b (length before) q added.what
    pub adds : Adds (view b) q added (view left)
    pub green : Green (view left)
    -- admit answers the serial of the duty
    pub serial : r.serial.0 ≡ added.serial.0
    pub list : (after ≡ before) × (r.length ≡ 0)

pub record ActAccepted
    (b : Board) (before : List ℕ) (q : RequestAct) (r : Answer) (left : Board) (after : List ℕ)
    : Type 0
  where
    pub what : What
    pub may : MayAct b (length before) q what
    pub changes : Changes (view b) q.clock what (view left)
    pub green : Green (view left)
    pub serial : r.serial.0 ≡ 0
    pub list : (after ≡ before) × (r.length ≡ 0)

-- no list is lent to do, and it has no 8: that a green board stays green is proved (`stays_green`)
pub record DoAccepted (b : Board) (q : RequestDo) (r : Answer) (left : Board) : Type 0 where
  pub duty : Duty
  pub may : MayDo b q duty
  pub fulfils : Fulfils (view b) q.clock duty (view left)
  pub serial : r.serial.0 ≡ 0
  pub no_order : r.length ≡ 0

pub record WithdrawAccepted
    (b : Board) (before : List ℕ) (q : RequestWithdraw) (r : Answer) (left : Board) (after : List ℕ)
    : Type 0
  where
    pub duty : Duty
    pub may : MayWithdraw b (length before) q duty
    pub removes : Removes (view b) q.clock duty (view left)
    pub green : Green (view left)
    pub serial : r.serial.0 ≡ 0
    pub list : (after ≡ before) × (r.length ≡ 0)

-- ---- denied (8)

-- The board after the call, which would say this, is red: the answer carries the length of a failing order of
-- it, whose serials stand at the start of the lent list. So a duty being admitted appears under the serial it
-- would have had.
pub record Denied (Says : View → Type 0) (before after : List ℕ) (r : Answer) : Type 0 where
  pub would : View
  pub says : Says would
  pub order : OrderTold would before after r.length
