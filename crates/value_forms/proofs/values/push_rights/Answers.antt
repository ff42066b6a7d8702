use Rattle.std.proofs.Common.{◌<◌, ◌≤◌, length, refl, arith}
use Rattle.typing_rows.specs.Valued.{rights_of}
use Rattle.value_forms.proofs.ValueLaws.{right_added, added_all}
use Rattle.value_forms.proofs.values.push_rights.Goals as goal

pub loop-binding-init : goal.loop-binding-init
loop-binding-init c = refl

pub loop-binding-preserved : goal.loop-binding-preserved
loop-binding-preserved c =
    let all = c.args.bindings.now in
    let k = c.loop-binding.binding-index in
    let lt : k < length all = let n = c.loop-binding-test.true in omega arith in
    right_added all k c.binding-item.result c.args.parts.now.items c.loop-binding.parts.items c.push_right.new.parts.items lt c.binding-item.is c.loop-binding.invariant c.in_ok-push_right.ensures

pub returns : goal.returns
returns c =
    let le : length c.args.bindings.now ≤ c.loop-binding.binding-index = let n = c.loop-binding-test.false in omega arith in
    added_all rights_of refl c.args.bindings.now c.loop-binding.binding-index c.args.parts.now.items c.loop-binding.parts.items le c.loop-binding.invariant
