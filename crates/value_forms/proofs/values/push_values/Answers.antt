use Rattle.std.proofs.Common.{◌<◌, ◌≤◌, length, refl, arith}
use Rattle.record_rows.specs.NonExpansive.{field_values}
use Rattle.value_forms.proofs.ValueLaws.{value_added, added_all}
use Rattle.value_forms.proofs.values.push_values.Goals as goal

pub loop-field-init : goal.loop-field-init
loop-field-init c = refl

pub loop-field-preserved : goal.loop-field-preserved
loop-field-preserved c =
    let all = c.args.fields.now in
    let k = c.loop-field.field-index in
    let lt : k < length all = let n = c.loop-field-test.true in omega arith in
    value_added all k c.field-item.result c.args.values.now.items c.loop-field.values.items c.push_value.new.values.items lt c.field-item.is c.loop-field.invariant c.in_ok-push_value.ensures

pub returns : goal.returns
returns c =
    let le : length c.args.fields.now ≤ c.loop-field.field-index = let n = c.loop-field-test.false in omega arith in
    added_all field_values refl c.args.fields.now c.loop-field.field-index c.args.values.now.items c.loop-field.values.items le c.loop-field.invariant
