-- The names before the first item: the built-in types alone.
use Rattle.std.proofs.Common.{◌≡◌, List, [], ◌∷◌, refl, sym, subst}
use Rattle.signature_model.specs.Entries.{Environment}
use Rattle.typing_model.specs.BuiltIns.{built_in_names}
use Rattle.typing_model.specs.Contexts.{Choice}
use Rattle.type_nodes.specs.Nodes.{IsSound}
use Rattle.env_table.specs.declared.entries.Entry.{Entry}
use Rattle.typing_state.specs.declared.built_ins.BuiltIn.{BuiltIn}
use Rattle.typing_state.specs.declared.built_ins.BuiltIn.TheVariants as built
use Rattle.typing_state.specs.declared.parts.Parts.{Parts}
use Rattle.typing_conditions.specs.Sights.{Letters}
use Rattle.typing_steps.specs.States.{sight}
use Rattle.typing_steps.specs.Typing.{as_declared}
use Rattle.typing_steps.proofs.Starting.{declared_steady}
use Rattle.binding_rows.specs.Outside.{Outside}
use Rattle.binding_rows.proofs.ItemOrders.{outside_none, none_older}
use Rattle.first_laws.specs.Declaring.{StartsAmong}
use Rattle.first_laws.specs.Built.{EntersAll, entry_of, with_built_ins}
use Rattle.first_laws.proofs.Built.{outside_built_in}

-- After built-in types are declared in turn the names are those of before and theirs.
pub outside_all : (ws : List BuiltIn) (a b : Parts) {G : Letters} {before env : List Entry} {E : Choice → Environment} (at : Outside as_declared (sight a) G before E) → EntersAll ws a before b env → StartsAmong (sight b) G env (λ ch. with_built_ins ws (E ch)) at.older
outside_all [] a b {G} {before} {env} {E} at (same, is) =
    subst (λ x. StartsAmong (sight x) G env E at.older) (sym same) (subst (λ (es : List Entry). StartsAmong (sight a) G es E at.older) (sym is) (record { outside = at; older = refl }))
outside_all (w ∷ ws) a b {G} {before} {env} {E} at (c, e, one, rest) =
    let first = outside_built_in at one in
    subst (StartsAmong (sight b) G env (λ ch. with_built_ins ws (entry_of w ∷ E ch))) first.older (outside_all ws c b first.outside rest)

-- all built-in types, in the order of their numbers
abbrev pub all_built_ins : List BuiltIn
all_built_ins = built.Int ∷ built.Char ∷ built.Str ∷ built.Float ∷ built.Unit ∷ built.Bool ∷ built.Exn ∷ built.List ∷ []

-- Where they are declared from a state of the lowest level on, the first item starts among their names alone, none of which is an unknown type.
pub outside_first : (a b : Parts) {G : Letters} {env : List Entry} → IsSound a.store.nodes → a.level ≡ 0 → EntersAll all_built_ins a [] b env → StartsAmong (sight b) G env (λ ch. built_in_names) []
outside_first a b {G} {env} sound level all =
    subst (StartsAmong (sight b) G env (λ ch. built_in_names)) (none_older as_declared (sight a) G (λ ch. []) declared_steady (λ ch. refl) sound level) (outside_all all_built_ins a b (outside_none declared_steady (λ ch. refl) sound level) all)
