-- A module that is specified by values alone is an item that carries what it asks, and the next item starts among the names of before and its own.
use Rattle.std.proofs.Common.{◌≡◌, ℕ, List, [], ◌∷◌, ◌++◌, Some, refl, sym, subst}
use Rattle.std.specs.declared.rc.Rc.{Rc}
use Rattle.std.specs.declared.alloc.Global.{Global}
use Rattle.text_terms.specs.Bytes.{str_bytes}
use Rattle.token_model.specs.Kinds.{Tok}
use Rattle.signature_model.specs.Declarations.{in_text}
use Rattle.signature_model.specs.Entries.{Environment, entry, a_module}
use Rattle.signature_model.specs.Entries.{Entry as Named}
use Rattle.signature_model.specs.Signatures.{Structure}
use Rattle.typing_model.specs.Contexts.{Choice, Context, tell}
use Rattle.typing_model.specs.Items.{items_ask, newest_alone}
use Rattle.typing_model.specs.Meanings.{recorded_module_type}
use Rattle.typing_model.specs.Modules.{ask_new, module_specification, signature_text}
use Rattle.typing_model.specs.Parts.{Item, Seen, no_names, place_of}
use Rattle.level_unify.specs.Solutions.{Loose}
use Rattle.env_table.specs.declared.entries.Entry.{Entry}
use Rattle.env_table.specs.declared.entries.Kind.TheVariants as kind
use Rattle.env_table.specs.declared.entries.Sig.{Sig}
use Rattle.env_table.specs.declared.entries.What.TheVariants as what
use Rattle.env_table.specs.Views.{kind_of}
use Rattle.typing_state.specs.declared.parts.Parts.{Parts}
use Rattle.typing_conditions.specs.Declared.{DeclaredAs, ExceptionAs}
use Rattle.typing_conditions.specs.Environments.{defined_at, SigAs}
use Rattle.typing_conditions.specs.Sights.{Letters}
use Rattle.typing_steps.specs.Constants.{HasConstants}
use Rattle.typing_steps.specs.States.{sight}
use Rattle.typing_steps.specs.Typing.{as_declared}
use Rattle.typing_rows.specs.Noted.{AreNoted}
use Rattle.binding_rows.specs.ItemRows.{AreDeclared, AreOwned, none_owned, leaves_none, leaves_types}
use Rattle.binding_rows.specs.Outside.{AreMet, Left, Outside, OnlyBetween, ItemsCarried}
use Rattle.binding_rows.proofs.ItemOrders.{agrees_earlier, stays_between, outside_between, items_treated, items_inside}
use Rattle.first_laws.specs.Declaring.{SpecifiedAs}
use Rattle.type_expressions.specs.Untyped.{Untyped}
use Rattle.type_expressions.proofs.Untyped.{untyped_then}
use Rattle.declared_items.specs.Adding.{ItemAdded}
use Rattle.signature_typing.specs.ValueSignatures.{ValuesAdded}
use Rattle.signature_typing.proofs.Newest.{values_by}
use Rattle.signature_typing.proofs.ValueSteps.{module_starts, module_signature}

-- a module that is specified by the items of a signature, as it is recorded: its node n, and that of the signature, y
abbrev pub recorded_module : (n y : ℕ) → Tok → List Item → Item
recorded_module n y x ms = let m = module_specification n (Some x) [] (recorded_module_type y (signature_text y ms)) in record m { asks = λ c seen. tell n c ++ m.asks c seen }

-- all that is left is owned by one item that declares something
owned_all : {m : Item} (ls : List Left) → ((c : Context) → AreDeclared (m.components c)) → AreOwned (m ∷ []) ls
owned_all [] declared = leaves_none none_owned
owned_all (l ∷ ls) declared = leaves_types declared (owned_all ls declared)

-- The item is done: that its name is new was judged first, then the node of its signature was recorded, values were added, and the item's own node was recorded.
pub module_done : (a first begun b d : Parts) {G : Letters} {env after shown_here : List Entry} {E : Choice → Environment} (at : Outside as_declared (sight a) G env E) (n y : ℕ) (x : Tok) (seen : Seen) (ms : List Item) → ItemsCarried E (λ c. ask_new n seen.modules (Some x)) (sight a) G (sight first) G → Untyped a first → OnlyBetween (sight first) (sight begun) →
    (at' : Outside as_declared (sight begun) G env E) (p : ValuesAdded begun at' ms b after shown_here) → OnlyBetween (sight b) (sight d) → HasConstants d → AreNoted p.done.outside.older d → (e : Entry) (s : Rc Sig Global) → e.what ≡ what.Module s → str_bytes e.name ≡ x.name → e.kind ≡ kind.Module → defined_at e.place ≡ in_text (place_of x) →
    SigAs (SpecifiedAs b.store.nodes p.done.outside.roots p.done.outside.names) (DeclaredAs b.store.nodes p.done.outside.roots p.done.outside.names) (ExceptionAs b.store.nodes p.done.outside.roots p.done.outside.names) s.value (Structure (newest_alone (values_by p.named))) →
    ItemAdded E (recorded_module n y x ms) seen (record no_names { modules = x.name ∷ [] }) a d G (e ∷ env)
unfolding items_treated outside_between
module_done a first begun b d {E = E} at n y x seen ms asked untyped only at' p last constants noted e s is name kinds placed sig =
    let S = Structure (newest_alone (values_by p.named)) in
    let f : Named = entry x.name (in_text (place_of x)) (a_module S) in
    let starts = module_starts p e f s S is (sym name) (sym (λ i. kind_of (kinds i))) placed refl sig in
    let inside = items_inside at.sound asked only (items_treated y p.done.carried) last in
    record {
      done = record {
        letters = p.done.letters;
        env = λ ch. f ∷ E ch;
        carried = items_treated n inside.carried;
        owners = owned_all (items_treated n inside.carried).left (λ c. tt);
        clear = λ k placed. absurd k;
        sees = λ k. absurd k;
        stops = λ k. absurd k;
        knows = λ k. absurd k;
        outside = outside_between last starts.outside;
        noted = subst (λ U. AreNoted U d) (sym starts.older) noted;
        adds = λ V c same loose agrees met.
            let within = inside.met c (record { kept = met.kept; holds = met.holds.1 }) in
            let here : AreMet c (items_ask c no_names ms) p.done.carried.judged = record { kept = within.kept; holds = within.holds.1 } in
            let one = module_signature p n V c same (subst (λ ns. Loose ns V) last.nodes loose) (agrees_earlier (stays_between last) agrees) here in
            (λ i. entry x.name (in_text (place_of x)) (a_module (one i)) ∷ same i);
        named = λ V c same loose agrees met. refl;
        constants = constants;
      };
      alike = record { added = f ∷ []; names = λ ch. refl; letters = p.alike.letters };
      untyped = untyped_then {a = a} {b = first} untyped (untyped_then {a = first} {b = begun} (record { types = only.types }) (untyped_then {a = begun} {b = b} (record { types = p.grows.on.types }) (record { types = last.types })));
    }
