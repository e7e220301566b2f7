-- What open promises of the bytes that are judged, and what write_line promises of the answer, are the line.
use Rattle.open.specs.Opens.{opened_by}
use Rattle.printed.proofs.line_for.Goals as goal

pub returns : goal.returns
returns c =
    record {
      opened = opened_by c.open-opened.result;
      list = _;
      opens = rw c.judged.ensures at c.open-opened.ensures;
      line = rw (c.told-duties.ensures.answer, c.told-duties.ensures.duties) at c.write_line.ensures;
    }
