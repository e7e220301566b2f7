-- From a green board, any calls with any clocks leave it green by that definition. The idea: a refused call
-- leaves the board untouched or, an open, the smallest one, which has no duty; an accepted one leaves the
-- board value that says what the promise names, and that is good and green.
use mathlib.Core.Path.{refl, sym, subst}
use mathlib.Core.List.{List, [], ◌∷◌}
use Prim.Native.Nat.{ℕ}
use Rattle.board.specs.declared.Answer.{Answer}
use Rattle.board.specs.declared.Board.{Board}
use Rattle.board.specs.Filler.{smallest_board}
use Rattle.board.specs.Green.{Green}
use Rattle.board.specs.Saying.{board_saying}
use Rattle.board.specs.View.{View, view}
use Rattle.board.proofs.GreenLaws.{empty_green}
use Rattle.board.proofs.SayingLaws.{ViewFits, saying_sized, saying_good, view_saying}
use Rattle.board.proofs.ViewLaws.{smallest_good}
use Rattle.open.specs.Opens.{Opened, Opens}
use Rattle.promises.specs.Calls.{Call, open_file, Keeps, Made, Calls}
use Rattle.promises.specs.GoodAndGreen.{Whole, GoodAndGreen}
use Rattle.promises.proofs.Kept.{after_call, of_refused, kept}
use Rattle.promises.proofs.AfterCalls.{after_fits, after_green}

-- the smallest board is good and, since it has no duty, green
smallest_right : GoodAndGreen smallest_board
smallest_right =
    record {
      whole =
          record {
            sized = record { holdings = refl; permissions = refl; rules = refl; duties = refl };
            is_good = smallest_good;
          };
      green = empty_green (view smallest_board) refl;
    }

saying_whole : (v : View) → ViewFits v → Whole (board_saying v)
saying_whole v fits = record { sized = saying_sized v fits; is_good = saying_good v fits }

module _
    (b : Board) (call : Call) (r : Answer) (left : Board) (after : List ℕ) (k : Keeps b call r left after)
  where
    -- a good board value stays good
    pub step_whole : Whole b → Whole left
    step_whole w =
        kept b call r left after k Whole
        (λ none. saying_whole (after_call b call) (after_fits b w call none))
        (of_refused Whole b call smallest_right.whole w)

    -- and a green one stays green
    pub step_green : GoodAndGreen b → GoodAndGreen left
    step_green g =
        kept b call r left after k GoodAndGreen
        (λ none.
        let fits = after_fits b g.whole call none in
        record {
          whole = saying_whole (after_call b call) fits;
          green = subst Green (sym (view_saying (after_call b call) fits)) (after_green b g call none);
        })
        (of_refused GoodAndGreen b call smallest_right g)

-- From a good and green board value, any calls leave a good and green one.
pub stays_green : (made : List Made) (b left : Board) → GoodAndGreen b → Calls b made left → GoodAndGreen left
stays_green [] b left g is = subst GoodAndGreen (sym is) g
stays_green (m ∷ made) b left g (between, k, rest) =
    stays_green made between left (step_green b m.call m.answer between m.list k g) rest

module _ (s before after : List ℕ) (o : Opened) (p : Opens s before after o) where
  -- Every open, accepted or refused, gives a good and green board value,
  pub opened_green : GoodAndGreen o.board
  opened_green =
      step_green smallest_board (open_file before s) o.answer o.board after p smallest_right

  -- so every board value that any calls then leave is one.
  pub opened_stays_green : (made : List Made) (left : Board) → Calls o.board made left → GoodAndGreen left
  opened_stays_green made left = stays_green made o.board left opened_green
