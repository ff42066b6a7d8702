-- A type variable that is written in an item.
use Rattle.std.proofs.Common.{◌≡◌, ◌∙◌, min, Some, None, option_map, sym, ap, subst}
use Rattle.std.specs.HashMap.{get_by_text}
use Rattle.std.specs.Map.{update}
use Rattle.std.specs.Str.{bytes_eq}
use Rattle.token_model.specs.Kinds.{Tok}
use Rattle.type_terms.specs.declared.types.NodeRef.{NodeRef}
use Rattle.type_nodes.specs.Nodes.{Var}
use Rattle.type_nodes.specs.Changes.{Makes}
use Rattle.typing_state.specs.declared.parts.Parts.{Parts}
use Rattle.typing_state.specs.Goes.{OnlyStore}
use Rattle.typing_state.specs.Types.{any_scope, level_for}
use Rattle.typing_steps.specs.Writing.{PutsVariable}
use Rattle.typing_rows.specs.Operands.{ReadsVariable}
use Rattle.typing_rows.proofs.Composed.{variable_again, variable_first}

-- one that was written before
pub again_reads : (a : Parts) (t : Tok) (m : NodeRef) → get_by_text a.written.variables t.name ≡ Some m → ReadsVariable a a (Some t) m.0
again_reads a t m there env n at = variable_again a env n t m.0 (ap (option_map (λ (k : NodeRef). k.0)) there)

-- one that is written for the first time: its type is made, and then kept
pub first_reads : (a b d : Parts) (t : Tok) (m : NodeRef) → get_by_text a.written.variables t.name ≡ None → Makes a.store b.store m.0 (Var (level_for (min a.level 1)) any_scope) → OnlyStore a b →
    (get_by_text b.written.variables t.name ≡ None → PutsVariable b d t.name m) → d.store ≡ b.store → ReadsVariable a d (Some t) m.0
first_reads a b d t m none made rest puts kept env n at =
    let w = puts (ap (λ w. get_by_text w.variables t.name) rest.written ∙ none) in
    variable_first a d env n t m (subst (λ s. Makes a.store s m.0 (Var (level_for (min a.level 1)) any_scope)) (sym kept) made) (record {
      none = none;
      now = λ y. w.now y ∙ ap (λ v. update bytes_eq (λ z. get_by_text v.variables z) t.name (Some m) y) rest.written;
      index = w.index ∙ rest.index;
      faults = w.faults ∙ rest.faults;
      item = w.item ∙ rest.item;
      level = w.level ∙ rest.level;
      telling = w.telling ∙ rest.telling;
      constants = w.constants ∙ rest.constants;
    })
