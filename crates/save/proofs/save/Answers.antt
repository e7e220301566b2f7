-- `save::save` meets its contract: the file is as long as the counts say, so that its length is known before
-- anything is written.
use mathlib.Core.Bool.{true}
use mathlib.Core.Path.{◌≡◌, sym, ◌∙◌}
use native.Mathlib.Omega.{arith}
use borrow.Author.Rules.{rules}
use lib.ListN.{length}
use Rattle.board.specs.Good.{good}
use Rattle.board.proofs.Sized.{sized}
use Rattle.layout.specs.Layout.{total_of}
use Rattle.save.specs.Saves.{saved}
use Rattle.save.proofs.FileLaws.{counts_said_lem, saved_length}
use Rattle.save.proofs.Saving.{no_room, written}
use Rattle.save.proofs.save.Goals.{Else-not-is_good}
use Rattle.save.proofs.save.Goals as goal

-- past the first test the board is good, and the file as long as the counts say
whole : (p : Else-not-is_good) → good p.args.b ≡ true
whole p = sym p.is_good.ensures ∙ p.if-not-is_good.false

long : (p : Else-not-is_good) → length (saved p.args.b) ≡ total_of p.args.b.counts
long p = saved_length p.args.b (sized p.args.b _ p.well_formed.0) (whole p)

pub returns-then-buffer-total_of : goal.returns-then-buffer-total_of
returns-then-buffer-total_of c =
    let p = (goal.at.returns-then-buffer-total_of c).Else-not-is_good in
    no_room c.args.b c.args.buffer.now (whole p)
    (omega (arith, long p, c.total_of.ensures, c.if-buffer-total_of.true))

-- past the second there is room
pub put_file-requires : goal.put_file-requires
put_file-requires c =
    let p = (goal.at.put_file-requires c).Else-not-is_good in
    record {
      counts = counts_said_lem c.args.b (sized c.args.b _ c.well_formed.0) (whole p);
      room = omega (arith, long p, c.total_of.ensures, c.if-buffer-total_of.false);
    }

pub returns : goal.returns
returns c =
    let p = (goal.at.returns c).Else-not-is_good in
    written c.args.b c.args.buffer.now (whole p) _ _
    (omega (arith, long p, c.total_of.ensures, c.if-buffer-total_of.false))
    (search rules)
