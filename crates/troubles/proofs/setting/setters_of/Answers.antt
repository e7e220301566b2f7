-- `setters_of` is right: a duty that sets a holding is put behind those before it.
use Rattle.std.proofs.Common.{refl, sym, ◌∙◌, arith}
use lib.ListN.{get_or}
use lib.Seq.{take_all}
use Rattle.board.specs.Filler.{no_duty}
use Rattle.troubles.specs.Setting.{sets_one, setter_of}
use Rattle.troubles.proofs.Gathered.{starts, gathered, passed_over, there_is, there_is_none}
use Rattle.troubles.proofs.setting.setters_of.Goals as goal
use Rattle.troubles.proofs.setting.setters_of.Goals.{in-Some, in_default}

pub loop-d-init : goal.loop-d-init
loop-d-init c = starts refl

pub loop-d-preserved : goal.loop-d-preserved
loop-d-preserved c =
    let known = c.loop-d.invariant in
    let h = c.loop-d-test.true in
    let few = c.requires in
    let d = get_or c.args.duties.now c.loop-d.d-index no_duty in
    elim c.match-setter_of.branch [
      | in-Some w ↦
          let found = there_is (sets_one d) (setter_of d) (sym w.in-Some.is ∙ c.setter_of.ensures) in
          rw (w.all-is, w.count-is) (gathered known no_duty h (omega arith) found.1 found.0)
      | in_default w ↦
          rw (w.all-is, w.count-is)
          (passed_over known no_duty h
          (there_is_none (sets_one d) (setter_of d) (sym w.in_default.is ∙ c.setter_of.ensures)))
    ]

pub returns : goal.returns
returns c =
    let known = c.loop-d.invariant in
    let end = c.loop-d-test.false in
    let few = c.requires in
    let all = take_all c.loop-d.d-index c.args.duties.now end in
    (rw all at known.are, omega (arith, c.loop-d.auto.d-index-end), known.long)
