-- What a record does on the live board: its call keeps its promise.
use Rattle.std.specs.Prelude.{◌≡◌, List, ℕ, Result, Ok}
use Rattle.board.specs.declared.Board.{Board}
use Rattle.board.specs.declared.Refusal.{Refusal}
use Rattle.verdict.specs.Checked.{Checked}
use Rattle.requests.specs.declared.RequestAct.{RequestAct}
use Rattle.requests.specs.declared.RequestAdmit.{RequestAdmit}
use Rattle.requests.specs.declared.RequestDo.{RequestDo}
use Rattle.requests.specs.declared.RequestWithdraw.{RequestWithdraw}
use Rattle.outcomes.specs.declared.Accepted.{Accepted}
use Rattle.outcomes.specs.Outcomes.{answer_of, board_left}
use Rattle.plain.specs.Walks.{Walks}
use Rattle.admit.specs.Admits.{Admits}
use Rattle.act.specs.ActsNow.{ActsNow}
use Rattle.do_duty.specs.Does.{Does}
use Rattle.withdraw.specs.Withdraws.{Withdraws}
use Rattle.session.specs.declared.kind.Kind.{Kind}
use Rattle.session.specs.declared.kind.Kind.TheVariants.{Admit, Act, Do, Withdraw, Check, Save, Walk, Poke}
use Rattle.session.specs.declared.Record.{Record}
use Rattle.session.specs.Kinds.{number_of}

-- ---- what a record asks of each call

abbrev pub request_admit : Record → RequestAdmit
request_admit r =
    record {
      doer = r.doer;
      action = r.action;
      first = r.first;
      second = r.second;
      start = r.start;
      end = r.end;
      clock = r.clock;
    }

abbrev pub request_act : Record → RequestAct
request_act r =
    record {
      doer = r.doer;
      action = r.action;
      first = r.first;
      second = r.second;
      clock = r.clock;
    }

abbrev pub request_do : Record → RequestDo
request_do r = record { serial = record { 0 = r.serial }; clock = r.clock }

abbrev pub request_withdraw : Record → RequestWithdraw
request_withdraw r = record { serial = record { 0 = r.serial }; clock = r.clock }

-- ---- what it leaves

-- what is accepted where the board stays as it is: no serial is given
abbrev pub unchanged : Board → Accepted
unchanged b = record { board = b; serial = record { 0 = 0 } }

-- the board and the list stay, with answer 0
abbrev pub Untouched : Board → List ℕ → Result Accepted Refusal → List ℕ → Type 0
Untouched b before result after = (result ≡ Ok (unchanged b)) × (after ≡ before)

-- What a record of this kind gives back on the board value b, and the lent list before and after.
abbrev pub MakesAs : Kind → Board → Record → List ℕ → Result Accepted Refusal → List ℕ → Type 0
MakesAs Admit b r before result after =
    Admits b before (request_admit r) (answer_of result) (board_left b result) after
MakesAs Act b r before result after =
    ActsNow b before (request_act r) (answer_of result) (board_left b result) after
MakesAs Do b r before result after =
    Does b (request_do r) (answer_of result) (board_left b result) × (after ≡ before)
MakesAs Withdraw b r before result after =
    Withdraws b before (request_withdraw r) (answer_of result) (board_left b result) after
MakesAs Check b r before result after =
    Checked b before after (answer_of result) × (board_left b result ≡ b)
MakesAs Save b r before result after = Untouched b before result after
MakesAs Walk b r before result after =
    Walks b before after (answer_of result) × (board_left b result ≡ b)
MakesAs Poke b r before result after = Untouched b before result after

-- The record r does what its kind asks for. Where its number is that of no kind, board and list stay.
pub record Makes
    (b : Board) (r : Record) (before : List ℕ) (result : Result Accepted Refusal) (after : List ℕ)
    : Type 0
  where
    pub known : (kind : Kind) → r.kind ≡ number_of kind → MakesAs kind b r before result after
    pub unknown :
        ((kind : Kind) → r.kind ≡ number_of kind → ⊥) → Untouched b before result after
