use Rattle.std.proofs.Common.{◌≡◌, Option, Some, None, IfSome, sym, subst}
use Rattle.recovery_model.specs.Numbers.{find_way}
use Rattle.recovery_model.specs.Steps.{most_parts}
use Rattle.syntax_rows.specs.Numbers.{key_number}
use Rattle.syntax_rows.specs.View.{last_of, table_of}
use Rattle.frame_steps.proofs.find.way_beside.Goals as goal

-- what holds of a value that is there
of_some : {A : Type 0} → (P : A → Type 0) (o : Option A) (a : A) → o ≡ Some a → IfSome o P → P a
of_some P o a e h = subst (λ o. IfSome o P) e h

pub returns-then-is_at : goal.returns-then-is_at
returns-then-is_at c =
    sym (of_some (λ p. find_way most_parts (table_of c.args.table) p.number p.spot (last_of p.last) (key_number c.args.key) ≡ None) c.args.one c.args.at (c.is_at.ensures c.if-is_at.true) c.requires.one)

pub returns-then-is_at-2 : goal.returns-then-is_at-2
returns-then-is_at-2 c =
    sym (of_some (λ p. find_way most_parts (table_of c.args.table) p.number p.spot (last_of p.last) (key_number c.args.key) ≡ None) c.args.other c.args.at (c.is_at-2.ensures c.if-is_at-2.true) c.requires.other)
