-- The open duty that a call names by its serial.
use Rattle.std.specs.Prelude.{◌≡◌, ℕ}
use Rattle.orders.specs.Lists.{Mem}
use Rattle.board.specs.declared.Duty.{Duty}
use Rattle.board.specs.View.{View}

-- no open duty with this serial
abbrev pub NotOpen : View → ℕ → Type 0
NotOpen v serial = (d : Duty) → Mem d v.duties → d.serial.0 ≡ serial → ⊥

-- this holds of an open duty with this serial
pub record OpenWith (v : View) (serial : ℕ) (Holds : Duty → Type 0) : Type 0 where
  pub duty : Duty
  pub open_duty : Mem duty v.duties
  pub has_serial : duty.serial.0 ≡ serial
  pub holds : Holds duty
