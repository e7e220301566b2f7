-- Why a call is refused: the number of each refusal, and what a call answers by it.
use Rattle.std.specs.Prelude.{ℕ, Result, Ok, Err}
use Rattle.board.specs.declared.Answer.{Answer}
use Rattle.board.specs.declared.Refusal.{Refusal}
use Rattle.board.specs.declared.Refusal.TheVariants.{Short, Version, Count, Layout, Field, NotAbove, Window}
use Rattle.board.specs.declared.Refusal.TheVariants.{Red}
use Rattle.board.specs.declared.Refusal.TheVariants.{List, Clock, Request, NotOpen, Outside, HeldBack}
use Rattle.board.specs.declared.Refusal.TheVariants.{NotPermitted, Full, Spent, Long, Broken, Room, Over}
use Rattle.board.specs.declared.Refusal.TheVariants.{Many}
use Rattle.board.specs.Answers.{plain_answer}
use Rattle.board.specs.Numbers as answer

abbrev pub number_of : Refusal → ℕ
number_of Short = answer.short
number_of Version = answer.version
number_of Count = answer.count
number_of Layout = answer.layout
number_of Field = answer.field
number_of NotAbove = answer.not_above
number_of Window = answer.window
number_of (Red length) = answer.red
number_of List = answer.list
number_of Clock = answer.clock
number_of Request = answer.request
number_of NotOpen = answer.not_open
number_of Outside = answer.outside
number_of HeldBack = answer.held_back
number_of NotPermitted = answer.not_permitted
number_of Full = answer.full
number_of Spent = answer.spent
number_of Long = answer.long
number_of Broken = answer.broken
number_of Room = answer.room
number_of Over = answer.over
number_of Many = answer.many

-- the length of the failing order that a red board comes with; 0 with any other refusal
abbrev pub length_of : Refusal → ℕ
length_of (Red length) = length
length_of e = 0

-- what a call that is refused answers: no serial
abbrev pub refused_answer : Refusal → Answer
refused_answer e = record { number = number_of e; serial = record { 0 = 0 }; length = length_of e }

-- The number of the answer: 0 where the call is accepted.
abbrev pub number_answered : {A : Type 0} → Result A Refusal → ℕ
number_answered (Ok a) = answer.done
number_answered (Err e) = number_of e

-- What a call answers, where `done` says it of an accepted one.
abbrev pub answered : {A : Type 0} → (A → Answer) → Result A Refusal → Answer
answered done (Ok a) = done a
answered done (Err e) = refused_answer e

-- what a call that is accepted and answers no serial and no length says
abbrev pub plainly_done : {A : Type 0} → A → Answer
plainly_done a = plain_answer answer.done
