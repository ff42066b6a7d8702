use Rattle.std.proofs.Common.{◌∙◌, ap, map}
use Rattle.std.proofs.lemmas.List.{take_all}
use Rattle.type_reading.specs.Copying.{change_by, paths_of}
use Rattle.sig_template.proofs.Putting.{moved_more}
use Rattle.sig_template.proofs.changing.Changing.made.Goals as goal

pub loop-origin-preserved : goal.loop-origin-preserved
loop-origin-preserved c = λ V.
    moved_more (change_by c.args.self.changes.now V).path c.args.old.now c.loop-origin.new.items c.push.new.list.items c.loop-origin.origin-index c.origin-item.result c.in_ok-moved.field-0
    c.loop-origin-test.true c.origin-item.is c.in_ok-push.ensures.pushed (c.in_ok-moved.ensures V) (c.loop-origin.invariant V)

pub returns : goal.returns
returns c = λ V. c.loop-origin.invariant V ∙ ap (λ os. map (change_by c.args.self.changes.now V).path (paths_of os)) (take_all c.loop-origin.origin-index c.args.old.now c.loop-origin-test.false)
