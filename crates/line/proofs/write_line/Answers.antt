-- One line for each of the three kinds of answer: done, red and refused.
use borrow.Author.Rules.{rules}
use Rattle.line.proofs.Words.{done_line, red_line, refused_line}
use Rattle.line.proofs.write_line.Goals as goal

pub returns-in-0 : goal.returns-in-0
returns-in-0 c = rw (done_line c.args.answer _ _ c.in-0.is) (rw c.from.ensures at c.put_line.ensures)

pub returns-in-8 : goal.returns-in-8
returns-in-8 c =
    rw (red_line c.args.answer _ _ c.in-8.is) (rw c.shown.ensures at c.put_line-in-8.ensures)

pub returns-in_default : goal.returns-in_default
returns-in_default c =
    rw (refused_line c.args.answer _ _ (search rules) (search rules))
    (rw c.from-in_default.ensures at c.put_line-in_default.ensures)
