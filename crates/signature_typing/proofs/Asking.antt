-- That the name of a module is new is asked before what it is: that is carried, and the next part starts among the same names.
use Rattle.std.proofs.Common.{◌≡◌, ◌∙◌, ◌||◌, ℕ, Bool, true, false, not, List, [], ◌∷◌, ◌++◌, Some, None, refl, sym, ap, subst, if◌then◌else◌, append-nil}
use Rattle.std.specs.Str.{bytes_eq}
use Rattle.text_terms.specs.declared.Span.{Span}
use Rattle.token_model.specs.Kinds.{Tok}
use Rattle.syntax_tree.specs.View as view
use Rattle.signature_model.specs.Declarations.{Name}
use Rattle.signature_model.specs.Entries.{Environment}
use Rattle.typing_laws.proofs.Bools.{no_yes}
use Rattle.typing_model.specs.Demands.{twice, site}
use Rattle.typing_model.specs.Contexts.{Choice, Context}
use Rattle.typing_model.specs.Modules.{ask_new}
use Rattle.typing_model.specs.Parts.{Seen, no_names, seen_too, place_of}
use Rattle.typing_model.specs.Records.{is_among}
use Rattle.type_nodes.specs.Nodes.{IsNode, IsSound}
use Rattle.type_nodes.specs.Readings.{Types, Fits, IsReading}
use Rattle.env_table.specs.declared.entries.Entry.{Entry}
use Rattle.env_table.specs.declared.entries.Kind.TheVariants as kind
use Rattle.env_table.specs.declared.faults.FaultKind.TheVariants as fault
use Rattle.env_table.specs.declared.seen.Seen.{Seen as Record}
use Rattle.typing_state.specs.declared.parts.Parts.{Parts}
use Rattle.typing_state.specs.Goes.{faults_of, OnlyIndex, Told}
use Rattle.typing_state.specs.Messages.{twice_text}
use Rattle.typing_state.specs.Notes.{Noted}
use Rattle.typing_conditions.specs.Locals.{Refines}
use Rattle.typing_conditions.specs.Environments.{no_names as no_entries}
use Rattle.typing_conditions.specs.Sights.{Sight, Letters, AreNodes}
use Rattle.typing_conditions.specs.Steps.{OnlyReports, IsTold}
use Rattle.typing_conditions.proofs.Own.{own_of}
use Rattle.typing_conditions.proofs.Steps.{refines_none}
use Rattle.typing_steps.specs.States.{reports_of, is_aloud, sight}
use Rattle.typing_steps.specs.Typing.{as_declared}
use Rattle.typing_steps.proofs.Seeing.{tells_one}
use Rattle.typing_steps.proofs.Still.{untyped_noted}
use Rattle.typing_rows.specs.Settled.{among}
use Rattle.typing_rows.proofs.Judging.{Judges, test_judges}
use Rattle.typing_rows.proofs.Surrounding.{known_by}
use Rattle.binding_rows.specs.Outside.{Outside, OnlyBetween, EntersItems, ItemsCarried}
use Rattle.first_laws.specs.Declaring.{OnlyTypes, Declares, StartsAmong}
use Rattle.first_laws.proofs.Declared.{outside_declared, declared_older}
use Rattle.first_laws.proofs.SettledItems.{items_settled}
use Rattle.type_expressions.proofs.Settling.{names_turned}
use Rattle.module_steps.specs.declared.scenes.Scene.{Scene}
use Rattle.module_steps.specs.Scenes.{NamesOne, ToldTwice, told_again}
use Rattle.signature_typing.specs.Specifications.{HasSeen}

-- where reports alone change, nodes are as they were
types_told : {a b : Sight} → IsSound a.nodes → OnlyReports a b → OnlyTypes a b
types_told {b = b} sound only = record {
  sound = subst IsSound (sym only.nodes) sound;
  level = only.level;
  types = only.types;
  noted = only.noted;
  scopes = only.scopes;
  refines = λ K own. subst (λ ns. Refines ns b.nodes K) only.nodes (refines_none b.nodes K own);
  reads = λ V h. subst (λ ns. IsReading ns V) only.nodes h;
}

-- so the names stand for the same
pub starts_told : {a b : Sight} {G : Letters} {env : List Entry} {E : Choice → Environment} (at : Outside as_declared a G env E) → OnlyReports a b → StartsAmong b G env E at.older
starts_told {a} {b} at only =
    let on = types_told at.sound only in
    let none : Declares a b at.roots at.names [] [] = record {
      new_roots = [];
      new_names = at.names;
      same = λ v lt. refl;
      apart = at.apart;
      older = at.older;
      unknown = at.unknown;
      are_bound = record { inside = λ k r e. absurd (cc); bound = λ K own v h. absurd (no_yes h) };
      entries = no_entries;
      plain = true;
      keeps = λ e. record { plain = λ none. none; entries = no_entries };
    } in
    record { outside = outside_declared at on none; older = declared_older at on none }

-- and a choice enters with the same types
pub enters_same : {a b : Sight} {G : Letters} {E : Choice → Environment} {V : Types} {c : Context} → b.nodes ≡ a.nodes → ((i p : ℕ) → b.types i p ≡ a.types i p) → EntersItems E a G V c → EntersItems E b G V c
enters_same {G = G} {V = V} nodes types e = record {
  env = e.env;
  inside = record { recorded = λ i p m f. subst (λ ns. IsNode ns m) (sym nodes) (e.inside.recorded i p m (sym (types i p) ∙ f)); given = subst (AreNodes G) (sym nodes) e.inside.given };
  fits = subst (λ ns. Fits ns V) (sym nodes) e.fits;
  agrees = record { recorded = λ i p m f. e.agrees.recorded i p m (sym (types i p) ∙ f); known = λ i p m f. e.agrees.known i p m (sym (types i p) ∙ f); given = e.agrees.given };
}

-- What is asked is carried, where it is reported if the name stands already.
pub name_asked : {a b : Sight} {G : Letters} {env : List Entry} {E : Choice → Environment} (at : Outside as_declared a G env E) (n : ℕ) (seen : List Name) (x : Tok) → OnlyReports a b → IsTold a b (place_of x) fault.Unique (twice_text x.name) (not (is_among x.name seen)) → ItemsCarried E (λ c. ask_new n seen (Some x)) a G b G
name_asked {a} {b} {env = env} at n seen x only told =
    let (I, own) = own_of a.nodes at.sound in
    let j : Judges (among env (known_by at.names I) []) (λ c. ask_new n seen (Some x)) a b (site n 1) (not (is_among x.name seen)) = test_judges (twice x.name) (site n 1) (not (is_among x.name seen)) told in
    items_settled at (types_told at.sound only) I own [] j.settled (λ c. ask_new n seen (Some x)) (λ c. refl) j.reports only.aloud only.fixed (λ V fits. (V, subst (λ ns. Fits ns V) (sym only.nodes) fits, λ m lt. refl)) n

-- a name that stands already is reported once, where faults are reported
pub told_new : (a b : Parts) (at : Span) (name : Name) (again : Bool) → is_aloud a.telling ≡ true → ToldTwice a.telling (faults_of a) (faults_of b) at (told_again again name) → IsTold (sight a) (sight b) (view.place_of at) fault.Unique (twice_text name) (not again)
told_new a b at name true aloud (mid, told, same) = tells_one a b at fault.Unique (twice_text name) refl aloud (subst (λ fs. Told a.telling (faults_of a) fs at fault.Unique (twice_text name)) (sym same) told)
told_new a b at name false aloud same = ap reports_of same

-- a node is recorded with names and without a type, and the next part begins
pub names_between : (a b : Parts) (number : ℕ) (seen : Record) → Noted a.telling a b number seen → seen.ty ≡ None → OnlyIndex a b → OnlyBetween (sight a) (sight b)
names_between a b number seen noted none rest =
    let only = untyped_noted a b number seen none noted rest in
    record { nodes = only.nodes; types = only.types; noted = only.noted; scopes = only.scopes; reports = ap (λ f. (sight (record a { faults = f })).reports) rest.faults; aloud = only.aloud; level = only.level; fixed = only.fixed }

either_first : (a b c : Bool) → (if a then true else (b || c)) ≡ (b || (if a then true else c))
either_first true true c = refl
either_first true false c = refl
either_first false b c = refl

-- whether a name is among some and one more
among_last : (x n : Name) (ns : List Name) → (if bytes_eq x n then true else is_among n ns) ≡ is_among n (ns ++ x ∷ [])
among_last x n [] = ap (λ b. if b then true else false) (names_turned x n) ∙ last (bytes_eq n x)
  where
    last : (b : Bool) → (if b then true else false) ≡ (b || false)
    last true = refl
    last false = refl
among_last x n (m ∷ ns) = either_first (bytes_eq x n) (bytes_eq n m) (is_among n ns) ∙ ap (λ b. bytes_eq n m || b) (among_last x n ns)

-- the names that stand after a module was named
pub names_after : {s s' : Scene} {seen : Seen} (x : Name) → NamesOne s s' kind.Module x → HasSeen s seen → HasSeen s' (seen_too seen (record no_names { modules = x ∷ [] }))
names_after {seen = seen} x one h = record {
  types = λ n. one kind.TypeName n ∙ h.types n ∙ ap (is_among n) (sym (append-nil seen.types));
  modules = λ n. one kind.Module n ∙ ap (λ b. if bytes_eq x n then true else b) (h.modules n) ∙ among_last x n seen.modules;
  module_types = λ n. one kind.ModuleType n ∙ h.module_types n ∙ ap (is_among n) (sym (append-nil seen.module_types));
}
